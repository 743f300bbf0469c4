-- Proves the goals of `write_plan` of src/session.rt that the search leaves open.
use Rattle.std.proofs.lemmas.Result.{err_from_is_err_and}
use Rattle.histar_io.proofs.WritingLemmas.{sent_none}
use Rattle.histar_test.proofs.session.write_plan.Goals as goal

pub returns-in_err-plan-clause-err : goal.returns-in_err-plan-clause-err
returns-in_err-plan-clause-err g c =
    let p = err_from_is_err_and c.from_residual.result c.from_residual.ensures.1 in
    rw p.1 (_, sent_none (g.W.Sink.written c.args.writer.now) _)
