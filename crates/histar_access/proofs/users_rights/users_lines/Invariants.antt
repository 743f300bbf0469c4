-- The invariants and measures of `users_lines` of src/users_rights.rt.
use Rattle.std.proofs.Common.{drop}
use Rattle.std.specs.Prelude.{map}
use Rattle.histar_diff.specs.Tables.{by_path}
use Rattle.histar_access.proofs.ByUsers.{AreUsersLines, one_line}
use Rattle.histar_access.proofs.RowLemmas.{cells_of}
use Rattle.histar_access.proofs.users_rights.users_lines.Given as goal

abbrev pub invariant-nodes : goal.invariant-nodes
invariant-nodes l = AreUsersLines one_line l.users l.start l.tree (map cells_of l.way.items) (drop l.node-index l.tree) (by_path l.lines.items)
