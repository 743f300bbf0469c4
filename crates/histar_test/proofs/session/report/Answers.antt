-- Proves the goals of `report` of src/session.rt that the search leaves open.
use Rattle.std.proofs.Common.{ap, false, subst}
use Rattle.std.specs.Prelude.{map}
use Rattle.std.specs.Io.KnownBytes.{Appends}
use Rattle.std.proofs.KnownBytes.{Appends-trans}
use Rattle.std.proofs.lemmas.Result.{err_from_is_err_and}
use Rattle.histar_io.specs.Writing.{AppendsFront}
use Rattle.histar_test.specs.Session.{checked_of, files_text, plan_text}
use Rattle.histar_test.proofs.FileLemmas.{front_first, front_second}
use Rattle.histar_test.proofs.session.report.Goals as goal

pub returns-in_err-write_plan-clause-err : goal.returns-in_err-write_plan-clause-err
returns-in_err-write_plan-clause-err g c =
    let p = err_from_is_err_and c.from_residual.result c.from_residual.ensures.1 in
    rw p.1 (front_first _ _ _ (files_text 1 (map (checked_of false) c.args.files.now))
    (subst (AppendsFront (g.W.Sink.written c.args.writer.now) (g.W.Sink.written c.write_plan.new.writer)) (ap plan_text c.requires.count)
    c.in_err-write_plan.ensures.err))

pub returns-in_err-tally-clause-err : goal.returns-in_err-tally-clause-err
returns-in_err-tally-clause-err g c =
    let p = err_from_is_err_and c.from_residual-in_err-tally.result c.from_residual-in_err-tally.ensures.1 in
    rw p.1 (front_second _ _ _ _ (files_text 1 (map (checked_of false) c.args.files.now))
    (subst (Appends (g.W.Sink.written c.args.writer.now) (g.W.Sink.written c.write_plan.new.writer)) (ap plan_text c.requires.count)
    c.in_ok-write_plan.ensures.ok)
    c.in_err-tally.ensures.err)

pub returns-clause-ok : goal.returns-clause-ok
returns-clause-ok g c =
    Appends-trans _ _ _ _ (files_text 1 (map (checked_of false) c.args.files.now))
    (subst (Appends (g.W.Sink.written c.args.writer.now) (g.W.Sink.written c.write_plan.new.writer)) (ap plan_text c.requires.count)
    c.in_ok-write_plan.ensures.ok)
    c.in_ok-tally.ensures.ok
