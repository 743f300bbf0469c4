-- Proves the goals of `explain_text` of src/session.rt that the search leaves open.
use Rattle.histar_raw_session.proofs.SessionRuns.{no_read, sink_called}
use Rattle.histar_raw_explain.proofs.SessionExplained.{explained_text}
use Rattle.histar_raw_explain.proofs.session.explain_text.Goals as goal

pub returns-clause-nothing : goal.returns-clause-nothing
returns-clause-nothing g c =
    sink_called c.args.writer.now c.explain_calls-outcome.new.writer c.explain_calls-outcome.result
    c.explain_calls-outcome.ensures.faults

pub returns-clause-reads : goal.returns-clause-reads
returns-clause-reads g c = no_read c.explain_calls-outcome.result c.explain_calls-outcome.ensures.faults

pub returns-clause-runs : goal.returns-clause-runs
returns-clause-runs g c =
    explained_text c.args.text.now _ _ c.in_ok-calls.calls.items _ _ c.explain_calls-outcome.result c.in_ok-calls.ensures.ok
    c.in_ok-kernel.ensures.ok c.explain_calls-outcome.ensures.ok c.explain_calls-outcome.ensures.err
    c.explain_calls-outcome.ensures.faults
