-- Proves the goals of `answer_all` of src/session.rt that the search leaves open.
use Rattle.std.proofs.Common.{inl}
use Rattle.std.proofs.lemmas.Result.{err_from_is_err_and, on_ok_weaker, on_err_weaker}
use Rattle.histar_shell.proofs.RunLemmas.{begins_ending}
use Rattle.histar_shell.proofs.session.answer_all.Goals as goal

pub returns-in_err-answer_calls-clause-err : goal.returns-in_err-answer_calls-clause-err
returns-in_err-answer_calls-clause-err g c =
    let p = err_from_is_err_and c.from_residual.result c.from_residual.ensures.1 in
    rw p.1 (inl c.in_err-answer_calls.ensures.err)

pub write_ending-requires : goal.write_ending-requires
write_ending-requires g c = c.requires c.answer_calls.new.machine _ _ c.in_ok-answer_calls.ensures.ok

pub returns-clause-ok : goal.returns-clause-ok
returns-clause-ok g c =
    on_ok_weaker c.write_ending.result
    (λ ended. record { replied = _; answered = c.in_ok-answer_calls.ensures.ok; ended = ended }) c.write_ending.ensures.ok

pub returns-clause-err : goal.returns-clause-err
returns-clause-err g c =
    on_err_weaker c.write_ending.result
    (begins_ending c.args.options _ _ _ c.args.machine.now c.answer_calls.new.machine c.args.calls.items c.in_ok-answer_calls.ensures.ok)
    c.write_ending.ensures.err
