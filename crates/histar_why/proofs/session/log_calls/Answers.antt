-- Proves the goals of `log_calls` of src/session.rt that the search leaves open.
use Rattle.histar_why.specs.Session.{HasLogged}
use Rattle.histar_why.proofs.WholeRuns.{counted_after, fault_after, has_logged, output_fault, text_after}
use Rattle.histar_why.proofs.session.log_calls.Goals as goal

pub returns-clause-ok : goal.returns-clause-ok
returns-clause-ok g c =
    text_after c.answer_calls-outcome.result _ c.with_text.result c.with_text.ensures
    (HasLogged c.args.machine.now c.answer_calls-outcome.new.machine _ _ c.args.calls.items)
    (has_logged c.answer_calls-outcome.result _ _ _ _ _ _ _ c.answer_calls-outcome.ensures.ok)

pub returns-clause-err : goal.returns-clause-err
returns-clause-err g c = fault_after c.answer_calls-outcome.result _ c.with_text.result c.with_text.ensures _ c.answer_calls-outcome.ensures.err

pub returns-clause-faults : goal.returns-clause-faults
returns-clause-faults g c = output_fault c.answer_calls-outcome.result _ c.with_text.result c.with_text.ensures c.answer_calls-outcome.ensures.faults

pub returns-clause-count : goal.returns-clause-count
returns-clause-count g c = counted_after c.answer_calls-outcome.result _ c.with_text.result c.with_text.ensures _ _
    c.answer_calls-outcome.ensures.count
