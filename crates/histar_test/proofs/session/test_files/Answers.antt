-- Proves the goals of `test_files` of src/session.rt that the search leaves open.
use Rattle.std.proofs.Common.{◌<◌, List, length, refl, rules, subst, sym}
use Rattle.std.proofs.lemmas.Result.{err_from_is_err_and}
use Rattle.histar_test.specs.declared.session.TestFile.{TestFile}
use Rattle.histar_test.specs.Session.{IsTest}
use Rattle.histar_test.proofs.FileLemmas.{AreRun, begun_run, file_at, front_more, more_run, none_run}
use Rattle.histar_test.proofs.session.test_files.Goals as goal

pub files-init : goal.files-init
files-init g c = record { run = none_run c.args.strict (g.W.Sink.written c.args.writer.now); count = refl }

pub test_file-requires : goal.test_file-requires
test_file-requires g c =
    let lt : c.files.file-index < length c.args.files.now = search rules in
    subst IsTest (sym c.file-item.is) (c.requires c.files.file-index c.file-item.result lt)

pub files-preserved : goal.files-preserved
files-preserved g c =
    let at : c.files.file-index < length c.args.files.now = search rules in record {
      run = subst
          (λ (l : List TestFile).
          AreRun c.args.strict l c.in_ok-tally.tally (g.W.Sink.written c.args.writer.now) (g.W.Sink.written c.test_file.new.writer))
          (sym (front_more c.args.files.now c.files.file-index c.file-item.result at c.file-item.is))
          (more_run c.file-item.result _ _ c.files.invariant.run c.in_ok-tally.ensures.ok c.in_ok-tally.ensures.tally);
      count = search rules;
    }

pub returns-in_err-tally-clause-err : goal.returns-in_err-tally-clause-err
returns-in_err-tally-clause-err g c =
    let p = err_from_is_err_and c.from_residual.result c.from_residual.ensures.1 in
    let here : c.files.file-index < length c.args.files.now = search rules in
    rw p.1 (begun_run c.args.files.now _ c.file-item.result _
    (file_at c.args.files.now c.files.file-index c.file-item.result here c.file-item.is) c.files.invariant.run c.in_err-tally.ensures.err)
