-- Proves the goals of `explain_calls` of src/session.rt that the search leaves open.
use Rattle.histar_raw_explain.proofs.Errors.{on_err}
use Rattle.histar_run_explain.specs.Session.{HasExplained}
use Rattle.histar_run_explain.proofs.WholeRuns.{counted_after, fault_after, none_begun, output_fault, text_after}
use Rattle.histar_run_explain.proofs.Turns.{has_explained}
use Rattle.histar_run_explain.proofs.session.explain_calls.Goals as goal

pub returns-in_err-second_kernel-clause-err : goal.returns-in_err-second_kernel-clause-err
returns-in_err-second_kernel-clause-err g c = on_err _ _ (none_begun c.args.machine.now _ c.args.calls.items)

pub returns-clause-ok : goal.returns-clause-ok
returns-clause-ok g c =
    text_after c.answer_calls-outcome.result _ c.with_text.result c.with_text.ensures
    (HasExplained c.args.machine.now c.answer_calls-outcome.new.machine _ _ c.args.calls.items)
    (has_explained c.answer_calls-outcome.result _ _ _ _ _ _ _ c.answer_calls-outcome.ensures.ok)

pub returns-clause-err : goal.returns-clause-err
returns-clause-err g c = fault_after c.answer_calls-outcome.result _ c.with_text.result c.with_text.ensures _ c.answer_calls-outcome.ensures.err

pub returns-clause-faults : goal.returns-clause-faults
returns-clause-faults g c = output_fault c.answer_calls-outcome.result _ c.with_text.result c.with_text.ensures c.answer_calls-outcome.ensures.faults

pub returns-clause-count : goal.returns-clause-count
returns-clause-count g c = counted_after c.answer_calls-outcome.result _ c.with_text.result c.with_text.ensures _ _
    c.answer_calls-outcome.ensures.count
