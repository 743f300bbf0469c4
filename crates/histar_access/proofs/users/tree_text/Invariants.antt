-- The invariants and measures of `tree_text` of src/users.rt.
use Rattle.std.proofs.Common.{drop}
use Rattle.std.specs.Prelude.{map}
use Rattle.histar_rights.specs.Users.{users_line_text}
use Rattle.histar_access.proofs.ByUsers.{AreUsersLines}
use Rattle.histar_access.proofs.RowLemmas.{cells_of}
use Rattle.histar_access.proofs.users.tree_text.Given as goal

abbrev pub invariant-nodes : goal.invariant-nodes
invariant-nodes l = AreUsersLines users_line_text l.users l.start l.tree (map cells_of l.way.items) (drop l.node-index l.tree) l.text.items
