-- Proves the goals of `what_is_shown_is_so` of src/secrecy_laws.rt that the search leaves open.
use Rattle.histar_secrecy.proofs.ShownProcesses.{shown_is_so}
use Rattle.histar_secrecy.proofs.secrecy_laws.what_is_shown_is_so.Goals as goal

pub returns : goal.returns
returns c = shown_is_so
