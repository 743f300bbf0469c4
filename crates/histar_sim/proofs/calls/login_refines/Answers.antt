-- Proves the goals of `login_refines` of src/calls.rt that the search leaves open.
use Rattle.histar_sim.proofs.Login.{login_refines}
use Rattle.histar_sim.proofs.calls.login_refines.Goals as goal

pub returns : goal.returns
returns g c = login_refines
