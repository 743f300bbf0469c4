-- Proves the goals of `has_role` of src/role.rt that the search leaves open.
use Rattle.std.proofs.Common.{ap, ◌∙◌}
use Rattle.histar_secrecy.specs.ShownRoles.{has_shown_role, is_same_role}
use Rattle.histar_secrecy.proofs.role.has_role.Goals as goal

pub returns : goal.returns
unfolding has_shown_role
returns c = c.is_same.ensures ∙ ap (is_same_role c.args.role) c.role_of.ensures
