-- Proves the goals of `Run::run_test` of src/running.rt that the search leaves open.
use Rattle.std.proofs.lemmas.Result.{err_from_is_err_and}
use Rattle.histar_test.proofs.RunLemmas.{after_err, both_ok}
use Rattle.histar_test.proofs.TestLemmas.{claims_begun, steps_begun, test_run}
use Rattle.histar_test.proofs.running.Run.run_test.Goals as goal

pub returns-in_err-take_steps-clause-err : goal.returns-in_err-take_steps-clause-err
returns-in_err-take_steps-clause-err g c =
    let p = err_from_is_err_and c.from_residual.result c.from_residual.ensures.1 in
    rw p.1 (steps_begun c.args.file.now c.args.self.now c.args.steps.items _ _ c.in_err-take_steps.ensures.err)

pub returns-clause-ok : goal.returns-clause-ok
returns-clause-ok g c =
    both_ok c.check_claims.result (test_run c.in_ok-take_steps.ensures.ok c.check_claims.new.self _) c.check_claims.ensures.ok
    c.check_claims.ensures.written

pub returns-clause-err : goal.returns-clause-err
returns-clause-err g c =
    after_err c.check_claims.result (claims_begun c.in_ok-take_steps.ensures.ok _) c.check_claims.ensures.err
