-- Proves the goals of `run_text` of src/session.rt that the search leaves open.
use Rattle.histar_io.proofs.Residuals.{passed_on}
use Rattle.histar_script.proofs.Sinks.{sink_left}
use Rattle.histar_shell.proofs.CallRefinements.{calls_refine}
use Rattle.histar_shell.proofs.SessionMeanings.{tree_at_last}
use Rattle.histar_shell.proofs.RunLemmas.{answered_text, answers_script, begins_script, begun_text, faulty_text, no_read_failed, sink_called}
use Rattle.histar_shell.proofs.RunLemmas.{starts_with, unbooted_text}
use Rattle.histar_shell.proofs.session.run_text.Goals as goal

pub returns-in_err-script-clause-nothing : goal.returns-in_err-script-clause-nothing
returns-in_err-script-clause-nothing g c =
    rw (passed_on _ _ c.from_residual.ensures.1) (sink_left c.args.writer.now c.in_err-script.field-0.0)

pub returns-in_err-script-clause-runs : goal.returns-in_err-script-clause-runs
returns-in_err-script-clause-runs g c =
    rw (passed_on _ _ c.from_residual.ensures.1) (faulty_text c.args.options calls_refine c.args.text.items _ c.in_err-script.field-0.0
    c.in_err-script.ensures.exact)

pub returns-in_default-clause-runs : goal.returns-in_default-clause-runs
returns-in_default-clause-runs g c = unbooted_text c.args.options calls_refine c.args.text.items _

pub answer_all-requires : goal.answer_all-requires
answer_all-requires g c =
    let starts = starts_with c.args.options c.in-Ok.machine c.in_ok-script.script _ c.into_parts-accounts.ensures.accounts c.in-Ok.ensures.starts in
    λ end. tree_at_last calls_refine c.args.text.items c.in_ok-script.script c.in_ok-script.ensures.exact c.in-Ok.machine end starts _
    c.into_parts-accounts.ensures.calls

pub returns-in-Err-clause-nothing : goal.returns-in-Err-clause-nothing
returns-in-Err-clause-nothing g c =
    sink_called c.args.writer.now c.answer_all.new.writer c.in-Err.fault c.in-Err.ensures.faults

pub returns-in-Err-clause-reads : goal.returns-in-Err-clause-reads
returns-in-Err-clause-reads g c = no_read_failed c.in-Err.fault c.in-Err.ensures.faults

pub returns-in-Err-clause-runs : goal.returns-in-Err-clause-runs
returns-in-Err-clause-runs g c =
    let starts = starts_with c.args.options c.in-Ok.machine c.in_ok-script.script _ c.into_parts-accounts.ensures.accounts c.in-Ok.ensures.starts in
    let begun =
    begins_script c.args.options _ _ c.in_ok-script.script c.in-Ok.machine _ starts
    c.into_parts-accounts.ensures.calls c.in-Err.ensures.err _ c.in_ok-script.ensures.exact in
    begun_text c.args.options calls_refine c.args.text.items _ _ c.in-Err.fault
    c.in_ok-script.script c.in_ok-script.ensures.exact c.in-Err.ensures.faults begun

pub returns-in-Ok-answer_all-clause-runs : goal.returns-in-Ok-answer_all-clause-runs
returns-in-Ok-answer_all-clause-runs g c =
    let starts = starts_with c.args.options c.in-Ok.machine c.in_ok-script.script _ c.into_parts-accounts.ensures.accounts c.in-Ok.ensures.starts in
    let answers =
    answers_script c.args.options _ _ c.in_ok-script.script c.in-Ok.machine c.answer_all.new.machine _ _ starts
    c.into_parts-accounts.ensures.calls c.in-Ok-answer_all.ensures.ok c.leak_into_trace.ensures.trace _ c.in_ok-script.ensures.exact in
    answered_text c.args.options calls_refine c.args.text.items _ _ _ c.in_ok-script.script c.in_ok-script.ensures.exact answers

pub returns-in-Err-clause-memory : goal.returns-in-Err-clause-memory
returns-in-Err-clause-memory g c =
    c.in-Err.ensures.memory c.into_parts-accounts.result.0 _ c.in-Ok.ensures.shows c.in-Ok.ensures.starts.runs
