-- Proves the goals of `one_trace` of src/trace_laws.rt that the search leaves open.
use Rattle.histar_shell.proofs.SameTraces.{one_trace}
use Rattle.histar_shell.proofs.trace_laws.one_trace.Goals as goal

pub returns : goal.returns
returns c = one_trace
