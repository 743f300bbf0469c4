-- Proves the goals of `parted` of src/session.rt that the search leaves open.
use Rattle.std.proofs.Common.{◌≡◌, None, sym, ap, ◌∙◌, rules}
use Rattle.std.proofs.lemmas.List.{map-id}
use Rattle.std.proofs.lemmas.Iterator.Adapters.{YieldsList-from_vec}
use Rattle.std.proofs.lemmas.Iterator.Consumers.{YieldsList-end}
use Rattle.histar_attack.specs.Attack.{first_unix, from_raw}
use Rattle.histar_attack.proofs.Parting.{parted_all}
use Rattle.histar_attack.proofs.session.parted.Goals as goal

pub returns-clause-before : goal.returns-clause-before
returns-clause-before c =
    let none : c.next.result ≡ None = search rules in
    let yields = YieldsList-from_vec c.args.items.items c.into_iter-item-iterator.ensures.into_iter_gives.0 (search rules) in
    let end = YieldsList-end yields c.items.yielded c.items.item-iterator c.items.yielded_by c.next.result c.next.new.self none
    c.next.ensures.steps in
    (parted_all c.items.before.items c.items.later.items c.items.yielded c.items.invariant).0
    ∙ ap first_unix (sym (map-id c.items.yielded) ∙ end.0)

pub returns-clause-later : goal.returns-clause-later
returns-clause-later c =
    let none : c.next.result ≡ None = search rules in
    let yields = YieldsList-from_vec c.args.items.items c.into_iter-item-iterator.ensures.into_iter_gives.0 (search rules) in
    let end = YieldsList-end yields c.items.yielded c.items.item-iterator c.items.yielded_by c.next.result c.next.new.self none
    c.next.ensures.steps in
    (parted_all c.items.before.items c.items.later.items c.items.yielded c.items.invariant).1
    ∙ ap from_raw (sym (map-id c.items.yielded) ∙ end.0)
