-- The invariants and measures of `test_files` of src/session.rt.
use Rattle.std.proofs.Common.{◌≡◌, take}
use Rattle.histar_test.proofs.FileLemmas.{AreRun}
use Rattle.histar_test.proofs.session.test_files.Given as goal

abbrev pub invariant-files : goal.invariant-files
invariant-files g l = record {
  run : AreRun l.strict (take l.file-index l.files) l.tally (g.W.Sink.written l.fn.writer) (g.W.Sink.written l.writer);
  count : g.W.Sink.failures l.writer ≡ g.W.Sink.failures l.fn.writer;
}
