-- The invariants and measures of `write_entries` of src/ending.rt.
use Rattle.std.proofs.Common.{◌≡◌, take}
use Rattle.std.specs.Io.KnownBytes.{Appends}
use Rattle.histar_rawtext.specs.RawText.{trace_text}
use Rattle.histar_shell.proofs.ending.write_entries.Given as goal

abbrev pub invariant-lines : goal.invariant-lines
invariant-lines g l = record {
  written : Appends (g.W.Sink.written l.fn.writer) (g.W.Sink.written l.writer) (trace_text (take l.at l.trace.entries));
  count : g.W.Sink.failures l.writer ≡ g.W.Sink.failures l.fn.writer;
}
