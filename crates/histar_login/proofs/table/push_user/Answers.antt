-- Proves the goals of `push_user` of src/table.rt that the search leaves open.
use Rattle.std.proofs.Common.{◌≡◌, ◌++◌, ap, ◌∙◌}
use Rattle.std.specs.Int.{w64, to_be_bytes}
use Rattle.histar_layout.specs.Categories.{read_category, write_category}
use Rattle.histar_login.proofs.StartLemmas.{entry_grows}
use Rattle.histar_login.proofs.table.push_user.Goals as goal

pub returns-clause-adds : goal.returns-clause-adds
returns-clause-adds g c =
    let t0 = c.args.table.now.items in
    let t1 = c.push.new.list.items in
    let t2 = c.extend.new.list.items in
    let t3 = c.extend-2.new.list.items in
    let t4 = c.extend-3.new.list.items in
    let t5 = c.extend-4.new.list.items in
    let t6 = c.extend-5.new.list.items in
    let read : c.number.result ≡ read_category c.args.number = c.number.ensures ∙ c.read_category.ensures in
    let write : c.number-2.result ≡ write_category c.args.number = c.number-2.ensures ∙ c.write_category.ensures in
    entry_grows t0 t1 t2 t3 t4 t5 t6 _ _ _ _ c.in_ok-push.ensures.items c.in_ok-extend.ensures.items
    (c.in_ok-extend-2.ensures.items ∙ ap (λ n. t2 ++ n) (c.to_be_bytes.ensures ∙ ap (to_be_bytes w64) read))
    (c.in_ok-extend-3.ensures.items ∙ ap (λ n. t3 ++ n) (c.to_be_bytes-2.ensures ∙ ap (to_be_bytes w64) write))
    (c.in_ok-extend-4.ensures.items ∙ ap (λ n. t4 ++ n) c.to_be_bytes-3.ensures)
    (c.in_ok-extend-5.ensures.items ∙ ap (λ n. t5 ++ n) c.to_be_bytes-4.ensures)
