-- The three moves over objects that match a naming: an object is set, one is added, a tree is cut off.
use Rattle.std.proofs.Common.{◌≡◌, ◌≢◌, ℕ, ◌+◌, ◌||◌, nat_eq, Bool, true, false, [], ◌∷◌, Option, None, Some, inl, inr, arith, refl, sym, ap, ◌∙◌}
use Rattle.std.proofs.Common.{if◌then◌else◌}
use Rattle.std.specs.Prelude.{is_some}
use Rattle.std.specs.FinSet as set
use mathlib.Core.Bool.{true≢false}
use Rattle.std.proofs.lemmas.Bool.{eq-eqb}
use Rattle.std.proofs.lemmas.Bool.Decides.{eqb_tells}
use Rattle.histar_object.specs.declared.objects.Object.{Object}
use Rattle.histar_object.specs.Objects.{Objects, links_in}
use Rattle.histar_container.specs.Tree.{Address, Naming, wanted, same_steps, is_one_below, with_number, set_at, MatchesNaming}
use Rattle.histar_container.proofs.Addresses.{TestsEquality, inner, same_tests_equality, same_itself, same_other, longer}
use Rattle.histar_container.proofs.Reaching.{same_number}

-- a number that has an address is not the next one
pub next_unused : {X : Type 0} (same_step : X → X → Bool) {L : Type 0} (objects : Objects L) (next : ℕ)
    (expected : Address X → Option (Object L)) (naming : Naming X)
    → MatchesNaming same_step objects next expected naming → (d : ℕ) (a : Address X) → naming.address d ≡ Some a
    → d ≢ next
next_unused same_step objects next expected naming matched d a at_d e =
    let k : Some a ≡ None = sym at_d ∙ ap naming.address e ∙ matched.unused next (omega arith) in cc

module _ {X : Type 0} (same_step : X → X → Bool) (decides : TestsEquality same_step) {L : Type 0} (objects : Objects L)
    (next : ℕ) (expected : Address X → Option (Object L)) (naming : Naming X)
    (matched : MatchesNaming same_step objects next expected naming) where
  -- the object at n is set, and its links stay
  module _ (new : Objects L) (n : ℕ) (a : Address X) (at_n : naming.address n ≡ Some a) (others : (q : ℕ) → q ≢ n → new q ≡ objects q)
      (same_links : (c : ℕ) → set.contains (links_in (new n)) c ≡ set.contains (links_in (objects n)) c) where
    set_elsewhere : (q : ℕ) → q ≢ n → (y : Option (Address X)) → naming.address q ≡ y
        → wanted (set_at same_step expected a (new n)) y ≡ wanted expected y
    set_elsewhere q other None i = refl
    set_elsewhere q other (Some b) i =
        ap (λ t. if t then new n else expected b) (same_other same_step decides a b (λ k.
        other (same_number same_step decides objects next expected naming matched q n a (i ∙ ap Some (sym k))
        at_n)))

    set_expected : (q : ℕ) → new q ≡ wanted (set_at same_step expected a (new n)) (naming.address q)
    set_expected q = elim (eqb_tells q n) [
      | inl e ↦
          ap new e.1
          ∙ sym (ap (wanted (set_at same_step expected a (new n))) (ap naming.address e.1 ∙ at_n)
          ∙ ap (λ t. if t then new n else expected a) (same_itself same_step decides a))
      | inr e ↦ others q e.1 ∙ matched.as_expected q ∙ sym (set_elsewhere q e.1 (naming.address q) refl)
    ]

    set_links : (q c : ℕ) (b : Address X) → naming.address q ≡ Some b
        → set.contains (links_in (new q)) c ≡ is_one_below same_step b (naming.address c)
    set_links q c b i = elim (eqb_tells q n) [
      | inl e ↦
          ap (λ p. set.contains (links_in (new p)) c) e.1 ∙ same_links c
          ∙ ap (λ p. set.contains (links_in (objects p)) c) (sym e.1) ∙ matched.links q c b i
      | inr e ↦ ap (λ o. set.contains (links_in o) c) (others q e.1) ∙ matched.links q c b i
    ]

    pub matched_set : MatchesNaming same_step new next (set_at same_step expected a (new n)) naming
    matched_set = record {
      as_expected = set_expected;
      numbered = matched.numbered;
      addressed = matched.addressed;
      held = matched.held;
      links = set_links;
      unused = matched.unused;
    }

  -- an object that links nothing is added one step below d's address, under the next number, and d links it
  module _ (new : Objects L) (d : ℕ) (x : X) (a : Address X) (at_d : naming.address d ≡ Some a) (free : naming.number (x ∷ a) ≡ None)
      (others : (q : ℕ) → q ≢ next → q ≢ d → new q ≡ objects q) (leaf : (c : ℕ) → set.contains (links_in (new next)) c ≡ false)
      (linked : (c : ℕ) → set.contains (links_in (new d)) c ≡ (nat_eq c next || set.contains (links_in (objects d)) c)) where
    grown : Naming X
    grown = with_number same_step naming next (x ∷ a)

    grown_expected : Address X → Option (Object L)
    grown_expected = set_at same_step (set_at same_step expected (x ∷ a) (new next)) a (new d)

    next_empty : naming.address next ≡ None
    next_empty = matched.unused next (omega arith)

    d_old : d ≢ next
    d_old = next_unused same_step objects next expected naming matched d a at_d

    new_here : grown.address next ≡ Some (x ∷ a)
    unfolding grown
    new_here = ap (λ t. if t then Some (x ∷ a) else naming.address next) (eq-eqb next next refl)

    old_here : (q : ℕ) → q ≢ next → grown.address q ≡ naming.address q
    unfolding grown
    old_here q other = elim (eqb_tells q next) [ inl e ↦ absurd (other e.1) | inr e ↦ ap (λ t. if t then Some (x ∷ a) else naming.address q) e.0 ]

    -- no object was at the new address
    not_free : (q : ℕ) → naming.address q ≡ Some (x ∷ a) → ⊥
    not_free q e = let k : None ≡ Some q = sym free ∙ matched.numbered q (x ∷ a) e in cc

    added_elsewhere : (q : ℕ) → q ≢ d → (y : Option (Address X)) → naming.address q ≡ y → wanted grown_expected y ≡ wanted expected y
    unfolding grown_expected
    added_elsewhere q other None i = refl
    added_elsewhere q other (Some b) i =
        ap (λ t. if t then new d else set_at same_step expected (x ∷ a) (new next) b)
        (same_other same_step decides a b (λ k. other (same_number same_step decides objects next expected naming matched q d a
        (i ∙ ap Some (sym k)) at_d)))
        ∙ ap (λ t. if t then new next else expected b) (same_other same_step decides (x ∷ a) b (λ k. not_free q (i ∙ ap Some (sym k))))

    at_holder : wanted grown_expected (Some a) ≡ new d
    unfolding grown_expected
    at_holder = ap (λ t. if t then new d else set_at same_step expected (x ∷ a) (new next) a) (same_itself same_step decides a)

    at_leaf : wanted grown_expected (Some (x ∷ a)) ≡ new next
    unfolding grown_expected
    at_leaf =
        ap (λ t. if t then new d else set_at same_step expected (x ∷ a) (new next) (x ∷ a))
        (same_other same_step decides a (x ∷ a) (λ k. longer same_step decides x a (sym k)))
        ∙ ap (λ t. if t then new next else expected (x ∷ a)) (same_itself same_step decides (x ∷ a))

    added_expected : (q : ℕ) → new q ≡ wanted grown_expected (grown.address q)
    added_expected q = elim (eqb_tells q d) [
      | inl e ↦ ap new e.1 ∙ sym (ap (wanted grown_expected) (ap grown.address e.1 ∙ old_here d d_old ∙ at_d) ∙ at_holder)
      | inr e ↦ elim (eqb_tells q next) [
        | inl i ↦ ap new i.1 ∙ sym (ap (wanted grown_expected) (ap grown.address i.1 ∙ new_here) ∙ at_leaf)
        | inr i ↦
            others q i.1 e.1 ∙ matched.as_expected q
            ∙ sym (ap (wanted grown_expected) (old_here q i.1) ∙ added_elsewhere q e.1 (naming.address q) refl)
      ]
    ]

    added_numbered : (q : ℕ) (b : Address X) → grown.address q ≡ Some b → grown.number b ≡ Some q
    unfolding grown
    added_numbered q b i = elim (eqb_tells q next) [
      | inl e ↦ let k : x ∷ a ≡ b = inner (x ∷ a) b (sym new_here ∙ ap grown.address (sym e.1) ∙ i) in
          ap (λ (y : Address X). if same_steps same_step (x ∷ a) y then Some next else naming.number y) (sym k)
          ∙ ap (λ t. if t then Some next else naming.number (x ∷ a)) (same_itself same_step decides (x ∷ a))
          ∙ ap Some (sym e.1)
      | inr e ↦ let j : naming.address q ≡ Some b = sym (old_here q e.1) ∙ i in
          ap (λ t. if t then Some next else naming.number b)
          (same_other same_step decides (x ∷ a) b (λ k. not_free q (j ∙ ap Some (sym k)))) ∙ matched.numbered q b j
    ]

    added_addressed : (b : Address X) (q : ℕ) → grown.number b ≡ Some q → grown.address q ≡ Some b
    unfolding grown
    added_addressed b q i = elim (same_tests_equality same_step decides (x ∷ a) b) [
      | inl e ↦ let k : next ≡ q = inner next q (sym (ap (λ t. if t then Some next else naming.number b) e.0) ∙ i) in
          ap grown.address (sym k) ∙ new_here ∙ ap Some e.1
      | inr e ↦ let j = matched.addressed b q (sym (ap (λ t. if t then Some next else naming.number b) e.0) ∙ i) in
          old_here q (λ k. let z : None ≡ Some b = sym next_empty ∙ ap naming.address (sym k) ∙ j in cc) ∙ j
    ]

    number_stays : (b : Address X) (t : Bool) → is_some (naming.number b) ≡ true → is_some (if t then Some next else naming.number b) ≡ true
    number_stays b true k = refl
    number_stays b false k = k

    added_held : (y : X) (b : Address X) → is_some (grown.number (y ∷ b)) ≡ true → is_some (grown.number b) ≡ true
    unfolding grown
    added_held y b i = elim (same_tests_equality same_step decides (x ∷ a) (y ∷ b)) [
      | inl e ↦
          let k : a
          ≡ b = cc in number_stays b (same_steps same_step (x ∷ a) b)
          (ap (λ (z : Address X). is_some (naming.number z)) (sym k) ∙ ap is_some (matched.numbered d a at_d))
      | inr e ↦
          number_stays b (same_steps same_step (x ∷ a) b)
          (matched.held y b (sym (ap (λ t. is_some (if t then Some next else naming.number (y ∷ b))) e.0) ∙ i))
    ]

    -- an address other than d's keeps its children
    added_child : (c : ℕ) (b : Address X) → a ≢ b → is_one_below same_step b (grown.address c) ≡ is_one_below same_step b (naming.address c)
    added_child c b other = elim (eqb_tells c next) [
      | inl e ↦
          ap (is_one_below same_step b) (ap grown.address e.1 ∙ new_here)
          ∙ same_other same_step decides b a (λ k. other (sym k))
          ∙ sym (ap (is_one_below same_step b) (ap naming.address e.1 ∙ next_empty))
      | inr e ↦ ap (is_one_below same_step b) (old_here c e.1)
    ]

    -- no address is below the new one
    no_child : (c : ℕ) → is_one_below same_step (x ∷ a) (naming.address c) ≡ false
    no_child c = by (naming.address c) refl
      where
        by : (y : Option (Address X)) → naming.address c ≡ y → is_one_below same_step (x ∷ a) y ≡ false
        by None i = refl
        by (Some []) i = refl
        by (Some (z ∷ b)) i = elim (same_tests_equality same_step decides (x ∷ a) b) [
          | inl e ↦ let k : is_some (naming.number b) ≡ true = matched.held z b (ap is_some (matched.numbered c (z ∷ b) i)) in
              absurd (true≢false (sym k ∙ ap (λ (y : Address X). is_some (naming.number y)) (sym e.1) ∙ ap is_some free))
          | inr e ↦ e.0
        ]

    -- the links of d afterwards
    holder_links : (c : ℕ) → set.contains (links_in (new d)) c ≡ is_one_below same_step a (grown.address c)
    holder_links c = linked c ∙ ap (λ t. nat_eq c next || t) (matched.links d c a at_d) ∙ elim (eqb_tells c next) [
      | inl e ↦
          ap (λ t. t || is_one_below same_step a (naming.address c)) e.0
          ∙ sym (ap (is_one_below same_step a) (ap grown.address e.1 ∙ new_here) ∙ same_itself same_step decides a)
      | inr e ↦ ap (λ t. t || is_one_below same_step a (naming.address c)) e.0 ∙ sym (ap (is_one_below same_step a) (old_here c e.1))
    ]

    added_links : (q c : ℕ) (b : Address X) → grown.address q ≡ Some b
        → set.contains (links_in (new q)) c ≡ is_one_below same_step b (grown.address c)
    added_links q c b i = elim (eqb_tells q d) [
      | inl e ↦
          let is : a ≡ b = inner a b (sym at_d ∙ sym (old_here d d_old) ∙ ap grown.address (sym e.1) ∙ i) in
          ap (λ p. set.contains (links_in (new p)) c) e.1 ∙ holder_links c ∙ ap (λ (y : Address X). is_one_below same_step y (grown.address c)) is
      | inr e ↦ elim (eqb_tells q next) [
        | inl j ↦
            let is : x ∷ a ≡ b = inner (x ∷ a) b (sym new_here ∙ ap grown.address (sym j.1) ∙ i) in
            ap (λ p. set.contains (links_in (new p)) c) j.1 ∙ leaf c
            ∙ sym (ap (λ (y : Address X). is_one_below same_step y (grown.address c)) (sym is)
            ∙ added_child c (x ∷ a) (λ k. longer same_step decides x a (sym k)) ∙ no_child c)
        | inr j ↦
            let k : naming.address q ≡ Some b = sym (old_here q j.1) ∙ i in
            ap (λ o. set.contains (links_in o) c) (others q j.1 e.1) ∙ matched.links q c b k
            ∙ sym (added_child c b (λ l. e.1 (same_number same_step decides objects next expected naming matched q d b k
            (at_d ∙ ap Some l))))
      ]
    ]

    pub matched_added : MatchesNaming same_step new (next + 1)
        (set_at same_step (set_at same_step expected (x ∷ a) (new next)) a (new d))
        (with_number same_step naming next (x ∷ a))
    unfolding grown grown_expected
    matched_added = record {
      as_expected = added_expected;
      numbered = added_numbered;
      addressed = added_addressed;
      held = added_held;
      links = added_links;
      unused = λ q l. old_here q (λ e. omega arith) ∙ matched.unused q (omega arith);
    }
