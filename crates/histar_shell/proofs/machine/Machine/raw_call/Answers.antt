-- Proves the goals of `Machine::raw_call` of src/machine.rt that the search leaves open.
use Rattle.histar_shell.proofs.TraceRuns.{traced_raw}
use Rattle.histar_shell.proofs.machine.Machine.raw_call.Goals as goal

-- the trace stays a run from the empty kernel
pub invariant_of-self : goal.invariant_of-self
invariant_of-self g c =
    traced_raw c.self.inside.kernel c.make_raw-result.new.kernel c.args.line c.args.thread c.args.call c.make_raw-result.result c.self.invariant
    c.make_raw-result.ensures.makes
