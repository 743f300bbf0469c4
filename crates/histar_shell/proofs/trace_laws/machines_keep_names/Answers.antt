-- Proves the goals of `machines_keep_names` of src/trace_laws.rt that the search leaves open.
use Rattle.histar_shell.proofs.MachinesKeepNames.{machines_keep_names}
use Rattle.histar_shell.proofs.trace_laws.machines_keep_names.Goals as goal

pub returns : goal.returns
returns c = machines_keep_names
