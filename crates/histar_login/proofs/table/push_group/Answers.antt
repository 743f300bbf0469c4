-- Proves the goals of `push_group` of src/table.rt that the search leaves open.
use Rattle.std.proofs.Common.{◌≡◌, ◌≤◌, ◌++◌, [], ◌∷◌, List, length, ap, sym, ◌∙◌}
use Rattle.histar_flat.specs.declared.calls.User.{User}
use Rattle.std.specs.Int.{w64, to_be_bytes}
use Rattle.std.proofs.lemmas.Result.{on_ok_weaker}
use Rattle.histar_programs.specs.Start.{numbers_among}
use Rattle.histar_layout.specs.Categories.{read_category, write_category, group_owner}
use Rattle.histar_login.proofs.GroupLemmas.{group_grows}
use Rattle.histar_flat.proofs.WordLemmas.{short_name}
use Rattle.histar_login.proofs.TableLengths.{group_few}
use Rattle.histar_login.proofs.table.push_group.Goals as goal

pub returns-clause-adds : goal.returns-clause-adds
returns-clause-adds g c =
    let t0 = c.args.table.now.items in
    let t1 = c.push.new.list.items in
    let t2 = c.extend.new.list.items in
    let t3 = c.extend-2.new.list.items in
    let t4 = c.extend-3.new.list.items in
    let t5 = c.push-2.new.list.items in
    let owner = group_owner (length _) c.args.number in
    let owner_is : c.group_owner-owner.result ≡ owner =
    c.group_owner-owner.ensures
    ∙ ap (λ (users : List User). group_owner (length users) c.args.number) c.users-users.ensures.users in
    let name : c.as_bytes.result.now ≡ c.args.group.now.name = c.as_bytes.ensures.value ∙ c.name-name.ensures in
    let name-2 : c.as_bytes-2.result.now ≡ c.args.group.now.name = c.as_bytes-2.ensures.value ∙ c.name-name.ensures in
    let read : c.number.result ≡ read_category owner = c.number.ensures ∙ c.read_category.ensures ∙ ap read_category owner_is in
    let write : c.number-2.result ≡ write_category owner = c.number-2.ensures ∙ c.write_category.ensures ∙ ap write_category owner_is in
    on_ok_weaker _ (group_grows t0 t1 t2 t3 t4 t5 _ _ _ _ (c.in_ok-push.ensures.items ∙ ap (λ n. t0 ++ length n ∷ []) name)
    (c.in_ok-extend.ensures.items ∙ ap (λ n. t1 ++ n) name-2)
    (c.in_ok-extend-2.ensures.items ∙ ap (λ n. t2 ++ n) (c.to_be_bytes.ensures ∙ ap (to_be_bytes w64) read))
    (c.in_ok-extend-3.ensures.items ∙ ap (λ n. t3 ++ n) (c.to_be_bytes-2.ensures ∙ ap (to_be_bytes w64) write))
    (c.in_ok-push-2.ensures.items ∙ ap (λ n. t4 ++ length n ∷ []) c.members.ensures.members)) (on_ok_weaker c.push_members.result
    (λ e. e ∙ ap (λ users. t5 ++ numbers_among 1 users c.args.group.now.members) c.users-users.ensures.users) c.push_members.ensures.adds)

pub returns-clause-few : goal.returns-clause-few
returns-clause-few g c =
    let short : length c.args.group.now.name ≤ 32 =
    rw (sym (c.as_bytes.ensures.value ∙ c.name-name.ensures)) (short_name _ (rw c.as_bytes.ensures.value c.as_bytes.ensures.right)) in
    on_ok_weaker c.push_members.result
    (λ adds. group_few c.args.table.now.items c.push_members.new.table.items c.args.accounts.now.users c.args.number
    c.args.group.now adds short c.users-users.ensures.few.users) (returns-clause-adds g c)
