-- Proves the goals of `InternStoreLabelStore::put` of src/intern_store.rt that the search leaves open.
use Rattle.std.proofs.Common.{◌≡◌, true, Some, Ok, refl, sym, ap, ◌∙◌}
use mathlib.Core.Bool.{false≢true}
use Rattle.std.specs.List.{slice_get}
use Rattle.std.proofs.lemmas.Option.{IfSome_then}
use Rattle.std.proofs.lemmas.List.Elements.{All-weaker}
use Rattle.histar_level.specs.Levels.{Levels}
use Rattle.histar_level.specs.Same.{is_same}
use Rattle.histar_level.proofs.Equality.{same_label, own_label}
use Rattle.histar_label.proofs.Interned.{Keeps-insert_key, IsRight-insert_key, HasOneId-distinct, found_by_id}
use Rattle.histar_label.proofs.intern_store.InternStoreLabelStore.put.Goals as goal

-- a label passes the test with itself
own : (L : Levels) → is_same L L ≡ true
own L = own_label L L refl

pub returns-in_err-place-clause-known : goal.returns-in_err-place-clause-known
returns-in_err-place-clause-known g c id is =
    absurd (false≢true (sym c.in_err-place.ensures.absent ∙ found_by_id is_same own c.self.inside.labels.keys c.args.label id (rw c.self.view_is is)))

pub invariant_of-self-2 : goal.invariant_of-self-2
invariant_of-self-2 g c = record {
  one_id = HasOneId-distinct is_same own c.insert_full.new.set.keys c.in_ok-place.ensures.unique;
  right =
      λ e there. rw c.in_ok-place.ensures.keys
      (IsRight-insert_key is_same c.self.inside.labels.keys c.args.label e.0 e.1 (c.self.invariant.right e there));
  right_at_hand =
      rw c.in_ok-place.ensures.keys (All-weaker _ _ (λ o was.
      IfSome_then o was (λ e. IsRight-insert_key is_same c.self.inside.labels.keys c.args.label e.0 e.1))
      c.self.inside.at_hand.items c.self.invariant.right_at_hand);
}

pub returns-clause-stands : goal.returns-clause-stands
returns-clause-stands g c =
    rw (same_label _ _ c.in_ok-place.ensures.stored.2) c.in_ok-place.ensures.stored.1

pub returns-clause-keeps : goal.returns-clause-keeps
returns-clause-keeps g c id L is =
    rw c.in_ok-place.ensures.keys
    (Keeps-insert_key is_same c.self.inside.labels.keys c.args.label id L (rw c.self.view_is is))

pub returns-clause-one_id : goal.returns-clause-one_id
returns-clause-one_id g c = HasOneId-distinct is_same own c.insert_full.new.set.keys c.in_ok-place.ensures.unique

pub returns-clause-known : goal.returns-clause-known
returns-clause-known g c id is =
    let here : slice_get c.insert_full.new.set.keys c.in_ok-place.place ≡ Some c.args.label = rw (same_label _ _ c.in_ok-place.ensures.stored.2)
    c.in_ok-place.ensures.stored.1 in
    ap Ok (HasOneId-distinct is_same own c.insert_full.new.set.keys c.in_ok-place.ensures.unique c.in_ok-place.place id
    c.args.label here (returns-clause-keeps g c id c.args.label is))
