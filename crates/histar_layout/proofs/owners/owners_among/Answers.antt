-- Proves the goals of `owners_among` of src/owners.rt that the search leaves open.
use Rattle.std.proofs.Common.{◌≡◌, ◌++◌, List, [], ◌∷◌, true, false, ap, sym, ◌∙◌}
use Rattle.histar_flat.specs.Accounts.{Group, has}
use Rattle.std.proofs.lemmas.List.{take_all}
use Rattle.histar_layout.specs.Categories.{owners_among}
use Rattle.histar_layout.proofs.OwnersOf.{owners_more, owners_same}
use Rattle.histar_layout.proofs.owners.owners_among.Goals.{then-has+in_ok-push, else-has}
use Rattle.histar_layout.proofs.owners.owners_among.Goals as goal

pub loop-k-preserved : goal.loop-k-preserved
loop-k-preserved g c =
    let group = c.index-groups-k.result in
    elim c.if-has.branch [
      | then-has+in_ok-push w ↦
          let member : has group.members c.args.name ≡ true = sym c.has.ensures ∙ w.if-has.true in
          ap (λ o. o.items) w.owners-is ∙ w.in_ok-push.ensures.items ∙ (λ j. c.loop-k.invariant j ++ w.group_owner.ensures j ∷ [])
          ∙ sym (owners_more c.args.users c.args.groups.now c.loop-k.k c.args.number group c.args.name c.loop-k-test.true
          c.index-groups-k.is member)
      | else-has w ↦
          let stranger : has group.members c.args.name ≡ false = sym c.has.ensures ∙ w.if-has.false in
          ap (λ o. o.items) w.owners-is ∙ c.loop-k.invariant
          ∙ sym (owners_same c.args.users c.args.groups.now c.loop-k.k c.args.number group c.args.name c.loop-k-test.true
          c.index-groups-k.is stranger)
    ]

pub returns-clause-ok : goal.returns-clause-ok
returns-clause-ok g c =
    c.loop-k.invariant
    ∙ ap (λ (groups : List Group). owners_among c.args.users groups c.args.number c.args.name)
    (take_all c.loop-k.k c.args.groups.now c.loop-k-test.false)
