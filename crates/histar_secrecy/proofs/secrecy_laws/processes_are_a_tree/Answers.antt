-- Proves the goals of `processes_are_a_tree` of src/secrecy_laws.rt that the search leaves open.
use Rattle.histar_secrecy.proofs.Family.{processes_are_a_tree}
use Rattle.histar_secrecy.proofs.secrecy_laws.processes_are_a_tree.Goals as goal

pub returns : goal.returns
returns c = processes_are_a_tree
