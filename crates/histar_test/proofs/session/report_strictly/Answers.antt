-- Proves the goals of `report_strictly` of src/session.rt that the search leaves open.
use Rattle.std.proofs.Common.{ap, true, subst}
use Rattle.std.specs.Prelude.{map}
use Rattle.std.proofs.lemmas.Result.{err_from_is_err_and}
use Rattle.histar_io.specs.Writing.{AppendsFront}
use Rattle.histar_test.specs.Session.{checked_of, files_text, plan_text}
use Rattle.histar_test.proofs.FileLemmas.{front_first, front_second}
use Rattle.histar_test.proofs.session.report_strictly.Goals as goal

pub returns-in_err-tally-clause-err : goal.returns-in_err-tally-clause-err
returns-in_err-tally-clause-err g c =
    let p = err_from_is_err_and c.from_residual.result c.from_residual.ensures.1 in
    rw p.1 (front_first _ _ (files_text 1 (map (checked_of true) c.args.files.now)) _ c.in_err-tally.ensures.err)

pub returns-in_err-write_plan-clause-err : goal.returns-in_err-write_plan-clause-err
returns-in_err-write_plan-clause-err g c =
    let p = err_from_is_err_and c.from_residual-in_err-write_plan.result c.from_residual-in_err-write_plan.ensures.1 in
    let plan = ap plan_text c.in_ok-tally.ensures.tally.count in
    rw p.1 (front_second _ _ _ (files_text 1 (map (checked_of true) c.args.files.now)) _ c.in_ok-tally.ensures.ok
    (subst (AppendsFront (g.W.Sink.written c.test_files.new.writer) (g.W.Sink.written c.write_plan.new.writer)) plan c.in_err-write_plan.ensures.err))
