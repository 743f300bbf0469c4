-- Proves the goals of `explain_calls` of src/session.rt that the search leaves open.
use Rattle.histar_raw_explain.proofs.Errors.{on_err}
use Rattle.histar_raw_explain.proofs.SessionExplained.{all_written, front_written}
use Rattle.histar_raw_explain.proofs.session.explain_calls.Goals as goal

pub returns-clause-ok : goal.returns-clause-ok
returns-clause-ok g c =
    all_written _ _ _ _ _ c.args.calls.items _ c.in_ok-explanations.ensures.answered
    c.in_ok-explanations.ensures.explained (rw c.as_slice.ensures.value at c.in_ok-write_bytes.ensures.ok)

pub returns-in_err-write_bytes-clause-err : goal.returns-in_err-write_bytes-clause-err
returns-in_err-write_bytes-clause-err g c =
    on_err _ _ (front_written _ _ _ _ _ c.args.calls.items _ c.in_ok-explanations.ensures.answered
    c.in_ok-explanations.ensures.explained (rw c.as_slice.ensures.value at c.in_err-write_bytes.ensures.err))
