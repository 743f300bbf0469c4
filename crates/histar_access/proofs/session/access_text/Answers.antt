-- Proves the goals of `access_text` of src/session.rt that the search leaves open.
use Rattle.histar_access.proofs.Runs.{is_shown, no_read_fails, sink_after, text_run}
use Rattle.histar_access.proofs.session.access_text.Goals as goal

pub write_table-outcome-requires : goal.write_table-outcome-requires
write_table-outcome-requires g c = is_shown c.args.at c.args.text.now c.in_ok-machine.machine c.in_ok-machine.ensures

pub returns-clause-nothing : goal.returns-clause-nothing
returns-clause-nothing g c =
    sink_after c.args.writer.now c.write_table-outcome.new.writer c.write_table-outcome.result c.write_table-outcome.ensures.faults

pub returns-clause-reads : goal.returns-clause-reads
returns-clause-reads g c = no_read_fails c.write_table-outcome.result c.write_table-outcome.ensures.faults

pub returns-clause-runs : goal.returns-clause-runs
returns-clause-runs g c =
    text_run c.args.at c.args.text.now c.in_ok-machine.machine c.in_ok-machine.ensures c.write_table-outcome.result
    c.write_table-outcome.ensures.ok c.write_table-outcome.ensures.err c.write_table-outcome.ensures.faults
