-- Proves the goals of `with_role` of src/role.rt that the search leaves open.
use Rattle.histar_secrecy.specs.ShownRoles.{has_shown_role}
use Rattle.histar_secrecy.proofs.role.with_role.Goals as goal

pub returns : goal.returns
unfolding has_shown_role
returns c = c.those_with.ensures
