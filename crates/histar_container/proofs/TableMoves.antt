-- The three moves in a table: an object is put or changed, a new one is linked, a tree is cut off.
use Rattle.std.proofs.Common.{◌≡◌, ◌≢◌, ℕ, ◌+◌, Bool, true, false, ◌∷◌, Option, None, Some, inl, inr, refl, ap, ◌∙◌, subst, if◌then◌else◌}
use Rattle.std.specs.Prelude.{option_map}
use Rattle.std.specs.FinSet as set
use Rattle.std.proofs.lemmas.Bool.{eq-eqb}
use Rattle.std.proofs.lemmas.Bool.Decides.{eqb_tells}
use Rattle.histar_object.specs.declared.objects.Object.{Object}
use Rattle.histar_object.specs.Objects.{Objects, put, changed_at, with_new, linking, unlinking, links_in, kind_links, is_container}
use Rattle.histar_object.proofs.Changes.{none_changed}
use Rattle.histar_container.specs.Tree.{Address, Naming, wanted, with_number, without_below, set_at, cut, MatchesNaming, IsCut}
use Rattle.histar_container.proofs.Links.{linked_links}
use Rattle.histar_container.proofs.Addresses.{TestsEquality}
use Rattle.histar_container.proofs.Moves.{matched_set, matched_added, next_unused}
use Rattle.histar_container.proofs.Cutting.{matched_cut}

module _ {L : Type 0} (objects : Objects L) (n : ℕ) where
  -- an object that is put is there
  pub put_here : (o : Object L) → put objects n o n ≡ Some o
  put_here o = ap (λ b. if b then Some o else objects n) (eq-eqb n n refl)

  -- and no other has changed
  pub put_other : (o : Object L) (q : ℕ) → q ≢ n → put objects n o q ≡ objects q
  put_other o q other = elim (eqb_tells q n) [ inl e ↦ absurd (other e.1) | inr e ↦ ap (λ b. if b then Some o else objects q) e.0 ]

  pub changed_here : (f : Object L → Object L) → changed_at objects n f n ≡ option_map f (objects n)
  changed_here f = ap (λ b. if b then option_map f (objects n) else objects n) (eq-eqb n n refl)

  pub changed_other : (f : Object L → Object L) (q : ℕ) → q ≢ n → changed_at objects n f q ≡ objects q
  changed_other f q other =
      elim (eqb_tells q n)
      [ inl e ↦ absurd (other e.1) | inr e ↦ ap (λ b. if b then option_map f (objects q) else objects q) e.0 ]

module _ {L : Type 0} (objects : Objects L) (n d : ℕ) (o : Object L) where
  -- a new object is there
  pub new_there : with_new objects d n o n ≡ Some o
  new_there = put_here (changed_at objects d (linking n)) n o

  -- its container links it too
  pub new_holder : d ≢ n → with_new objects d n o d ≡ option_map (linking n) (objects d)
  new_holder other = put_other (changed_at objects d (linking n)) n o d other ∙ changed_here objects d (linking n)

  -- and no other has changed
  pub new_other : (q : ℕ) → q ≢ n → q ≢ d → with_new objects d n o q ≡ objects q
  new_other q not_new not_d = put_other (changed_at objects d (linking n)) n o q not_new ∙ changed_other objects d (linking n) q not_d

  -- where no object was, none is except the new one
  pub new_none : (q : ℕ) → objects q ≡ None → q ≢ n → with_new objects d n o q ≡ None
  new_none q nothing not_new = put_other (changed_at objects d (linking n)) n o q not_new ∙ none_changed objects d (linking n) q nothing

module _ {X : Type 0} (same_step : X → X → Bool) (decides : TestsEquality same_step) {L : Type 0} (objects : Objects L)
    (next : ℕ) (expected : Address X → Option (Object L)) (naming : Naming X)
    (matched : MatchesNaming same_step objects next expected naming) where
  -- the object at a number is the one that is expected at its address
  pub expected_there : (q : ℕ) (a : Address X) → naming.address q ≡ Some a → objects q ≡ expected a
  expected_there q a e = matched.as_expected q ∙ ap (wanted expected) e

  -- an object with the same links is put in the place of the one at n
  pub matched_put : (n : ℕ) (a : Address X) (o : Object L) → naming.address n ≡ Some a
      → ((c : ℕ) → set.contains (kind_links o.kind) c ≡ set.contains (links_in (objects n)) c)
      → MatchesNaming same_step (put objects n o) next (set_at same_step expected a (Some o)) naming
  matched_put n a o at_n same_links =
      subst (λ (y : Option (Object L)). MatchesNaming same_step (put objects n o) next (set_at same_step expected a y) naming) (put_here objects n o)
      (matched_set same_step decides objects next expected naming matched (put objects n o) n a at_n
      (put_other objects n o) (λ c. ap (λ y. set.contains (links_in y) c) (put_here objects n o) ∙ same_links c))

  -- the object at n is changed, and its links stay
  pub matched_changed : (n : ℕ) (a : Address X) (f : Object L → Object L) → naming.address n ≡ Some a
      → ((o : Object L) → kind_links (f o).kind ≡ kind_links o.kind)
      → MatchesNaming same_step (changed_at objects n f) next (set_at same_step expected a (option_map f (expected a))) naming
  matched_changed n a f at_n same_links =
      subst (λ (y : Option (Object L)).
      MatchesNaming same_step (changed_at objects n f) next (set_at same_step expected a y) naming)
      (changed_here objects n f ∙ ap (option_map f) (expected_there n a at_n))
      (matched_set same_step decides objects next expected naming matched (changed_at objects n f) n a at_n
      (changed_other objects n f)
      (λ c. ap (λ y. set.contains (links_in y) c) (changed_here objects n f) ∙ by (objects n) c))
    where
      by : (o : Option (Object L)) (c : ℕ) → set.contains (links_in (option_map f o)) c ≡ set.contains (links_in o) c
      by None c = refl
      by (Some o) c = ap (λ l. set.contains l c) (same_links o)

  -- a new object that links nothing is linked by the container d, one step below it
  pub matched_new : (d : ℕ) (a : Address X) (x : X) (o : Object L) → naming.address d ≡ Some a
      → naming.number (x ∷ a) ≡ None → is_container (objects d) ≡ true
      → ((c : ℕ) → set.contains (kind_links o.kind) c ≡ false)
      → MatchesNaming same_step (with_new objects d next o) (next + 1)
      (set_at same_step (set_at same_step expected (x ∷ a) (Some o)) a (option_map (linking next) (expected a)))
      (with_number same_step naming next (x ∷ a))
  matched_new d a x o at_d free container leaf =
      let apart = next_unused same_step objects next expected naming matched d a at_d in
      let holder = new_holder objects next d o apart in
      let found = new_there objects next d o in
      subst (λ (y : Option (Object L)). MatchesNaming same_step (with_new objects d next o) (next + 1)
      (set_at same_step (set_at same_step expected (x ∷ a) (Some o)) a y)
      (with_number same_step naming next (x ∷ a)))
      (holder ∙ ap (option_map (linking next)) (expected_there d a at_d))
      (subst (λ (y : Option (Object L)). MatchesNaming same_step (with_new objects d next o) (next + 1)
      (set_at same_step (set_at same_step expected (x ∷ a) y) a (with_new objects d next o d))
      (with_number same_step naming next (x ∷ a))) found
      (matched_added same_step decides objects next expected naming matched (with_new objects d next o) d x a at_d free (new_other objects next d o)
      (λ c. ap (λ y. set.contains (links_in y) c) found ∙ leaf c)
      (λ c. ap (λ y. set.contains (links_in y) c) holder ∙ linked_links (objects d) next c container)))

  -- an object that the container d links one step below it is cut off
  pub matched_without : (new : Objects L) (d o : ℕ) (a : Address X) (x : X) → IsCut objects d o new
      → naming.address o ≡ Some (x ∷ a) → naming.address d ≡ Some a
      → MatchesNaming same_step new next
      (cut same_step (set_at same_step expected a (option_map (unlinking o) (expected a))) (x ∷ a))
      (without_below same_step naming (x ∷ a))
  matched_without new d o a x is_cut at_o at_d =
      subst (λ (y : Option (Object L)).
      MatchesNaming same_step new next (cut same_step (set_at same_step expected a y) (x ∷ a))
      (without_below same_step naming (x ∷ a)))
      (is_cut.unlinked ∙ ap (option_map (unlinking o)) (expected_there d a at_d))
      (matched_cut same_step decides objects next expected naming matched new d o is_cut x a at_o at_d)
