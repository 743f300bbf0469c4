-- Proves the goals of `users_table` of src/users.rt that the search leaves open.
use Rattle.std.proofs.Common.{[], sym, ◌∙◌, subst}
use Rattle.std.proofs.lemmas.Result.{IfOk-weaker}
use Rattle.histar_rights.specs.Users.{users_text}
use Rattle.histar_access.specs.Users.{IsUsersText, starting, users_from}
use Rattle.histar_access.proofs.ByUsers.{users_shown}
use Rattle.histar_access.proofs.TableLemmas.{shown_tree}
use Rattle.histar_access.proofs.users.users_table.Goals as goal

pub tree-requires : goal.tree-requires
tree-requires g c = shown_tree c.args.machine.now c.requires

pub returns : goal.returns
returns g c =
    let m = c.args.machine.now in
    IfOk-weaker c.tree_text.result _ _
    (λ text is. subst (IsUsersText m) (sym (is
    ∙ (λ i. users_text (users_from (c.users-2.ensures i)
    ((c.as_slice.ensures.value ∙ c.in_ok-start.ensures ∙ (λ j. starting (c.users.ensures j))) i) [] (c.as_slice-2.ensures.value i)))))
    (users_shown m c.in_ok-tree.tree.items c.in_ok-tree.ensures.ok))
    c.tree_text.ensures
