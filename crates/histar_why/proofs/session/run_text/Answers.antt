-- Proves the goals of `run_text` of src/session.rt that the search leaves open.
use Rattle.histar_why.proofs.TextRuns.{ends_with_tree, no_read_fails, run_ends, sink_after}
use Rattle.histar_why.proofs.session.run_text.Goals as goal

pub run_calls-outcome-requires : goal.run_calls-outcome-requires
run_calls-outcome-requires g c =
    ends_with_tree c.args.options c.args.text.now c.in_ok-script.script c.in_ok-script.ensures.exact _
    c.into_parts-accounts.ensures.accounts _ c.into_parts-accounts.ensures.calls c.in-Ok.machine
    c.in-Ok.ensures.starts

pub returns-clause-nothing : goal.returns-clause-nothing
returns-clause-nothing g c = sink_after c.args.writer.now c.run_calls-outcome.new.writer c.run_calls-outcome.result c.run_calls-outcome.ensures.faults

pub returns-clause-reads : goal.returns-clause-reads
returns-clause-reads g c = no_read_fails c.run_calls-outcome.result c.run_calls-outcome.ensures.faults

pub returns-clause-runs : goal.returns-clause-runs
returns-clause-runs g c =
    run_ends c.args.options c.args.text.now c.in_ok-script.script c.in_ok-script.ensures.exact _
    c.into_parts-accounts.ensures.accounts _ c.into_parts-accounts.ensures.calls c.in-Ok.machine
    c.in-Ok.ensures.starts _ _ c.run_calls-outcome.result c.run_calls-outcome.ensures.ok c.run_calls-outcome.ensures.err
    c.run_calls-outcome.ensures.faults
