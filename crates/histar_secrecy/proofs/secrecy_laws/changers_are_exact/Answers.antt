-- Proves the goals of `changers_are_exact` of src/secrecy_laws.rt that the search leaves open.
use Rattle.histar_secrecy.proofs.Exact.{changers_are_exact}
use Rattle.histar_secrecy.proofs.secrecy_laws.changers_are_exact.Goals as goal

pub returns : goal.returns
returns c = changers_are_exact
