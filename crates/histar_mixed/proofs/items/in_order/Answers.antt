-- Proves the goals of `in_order` of src/items.rt that the search leaves open.
use Rattle.std.proofs.Common.{◌≡◌, [], None, sym, ap, ◌∙◌, rules}
use Rattle.std.proofs.lemmas.List.{append-nil, map-id}
use Rattle.std.proofs.lemmas.Iterator.Adapters.{YieldsList-from_vec}
use Rattle.std.proofs.lemmas.Iterator.Consumers.{YieldsList-end}
use Rattle.histar_mixed.specs.Mixed.{in_order}
use Rattle.histar_mixed.proofs.items.in_order.Goals as goal

pub returns : goal.returns
returns c =
    let none : c.next.result ≡ None = search rules in
    let yields = YieldsList-from_vec c.args.marks.items c.into_iter-mark-iterator.ensures.into_iter_gives.0 (search rules) in
    let end = YieldsList-end yields c.marks.yielded c.marks.mark-iterator c.marks.yielded_by c.next.result c.next.new.self none
    c.next.ensures.steps in
    let all = sym (map-id c.marks.yielded) ∙ end.0 in
    sym (append-nil c.marks.items.items) ∙ sym (c.marks.invariant [])
    ∙ ap (in_order c.args.calls.items) (append-nil c.marks.yielded ∙ all)
