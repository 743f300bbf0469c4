-- Proves the goals of `on_text` of `RawSession` of src/session.rt that the search leaves open.
use Rattle.histar_raw_session.proofs.SessionRuns.{answered_text, no_read, sink_called}
use Rattle.histar_raw_session.proofs.session.RawSessionCommand.on_text.Goals as goal

pub returns-clause-nothing : goal.returns-clause-nothing
returns-clause-nothing g c = sink_called c.args.writer.now c.answer_calls.new.writer c.answer_calls.result c.answer_calls.ensures.faults

pub returns-clause-reads : goal.returns-clause-reads
returns-clause-reads g c = no_read c.answer_calls.result c.answer_calls.ensures.faults

pub returns-clause-runs : goal.returns-clause-runs
returns-clause-runs g c =
    rw (← c.as_slice.ensures.value) (answered_text c.as_slice.result.now _ _ c.in_ok-calls.calls.items _ _ c.answer_calls.result
    c.in_ok-calls.ensures.ok c.in_ok-kernel.ensures.ok c.answer_calls.ensures.ok c.answer_calls.ensures.err c.answer_calls.ensures.faults)
