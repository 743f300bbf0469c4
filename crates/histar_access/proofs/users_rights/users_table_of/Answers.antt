-- Proves the goals of `users_table_of` of src/users_rights.rt that the search leaves open.
use Rattle.std.proofs.Common.{[], ap, ◌∙◌}
use Rattle.std.specs.Prelude.{map}
use Rattle.histar_diff.specs.UserChanges.{users_rights}
use Rattle.histar_access.specs.Users.{name_of, starting, users_from}
use Rattle.histar_access.proofs.ByUsers.{users_table_shown}
use Rattle.histar_access.proofs.TableLemmas.{shown_tree}
use Rattle.histar_access.proofs.users_rights.users_table_of.Goals as goal

pub tree-requires : goal.tree-requires
tree-requires g c = shown_tree c.args.machine.now c.requires

pub returns : goal.returns
returns g c =
    let m = c.args.machine.now in
    let start = c.in_ok-start.ensures ∙ (λ i. starting (c.users.ensures i)) in
    users_table_shown m c.in_ok-tree.tree.items c.in_ok-tree.ensures.ok _
    (c.in_ok-users.ensures ∙ ap (map name_of) (c.as_slice-3.ensures.value ∙ start))
    (c.in_ok-lines.ensures
    ∙ (λ i. map users_rights (users_from (c.users-2.ensures i) ((c.as_slice.ensures.value ∙ start) i) [] (c.as_slice-2.ensures.value i))))
