-- The changes of a kernel over objects at addresses: one is added, one is changed, a tree is cut off.
use Rattle.std.proofs.Common.{◌≡◌, ◌≢◌, ℕ, ◌+◌, ◌<◌, Bool, true, false, List, ◌∷◌, Option, None, Some, inl, inr, arith, refl, sym, ap, ◌∙◌, subst}
use Rattle.std.proofs.Common.{if◌then◌else◌}
use Rattle.std.specs.Prelude.{is_some, option_map, option_and_then}
use Rattle.std.specs.FinSet as set
use Rattle.std.proofs.lemmas.Bool.{cases_lt}
use Rattle.std.proofs.lemmas.Bool.Decides.{eqb_tells}
use Rattle.std.proofs.lemmas.Option.{none-some, same_Some}
use mathlib.Core.Bool.{true≢false}
use Rattle.histar_level.specs.Levels.{Levels}
use Rattle.histar_object.specs.declared.objects.Kind.{Kind}
use Rattle.histar_object.specs.declared.objects.Kind.TheVariants.{Segment, Container, Thread, Gate}
use Rattle.histar_object.specs.declared.objects.Object.{Object}
use Rattle.histar_object.specs.Objects.{Objects, changed_at, linking, kind_linking, unlinking, kind_unlinking, holding, kind_holding, kind_links}
use Rattle.histar_object.specs.Objects.{is_present, is_container, kind_is_container}
use Rattle.histar_object.specs.State.{State, Found, with_object}
use Rattle.histar_container.specs.ObjectsModel.{CutsOff}
use Rattle.histar_container.specs.Tree.{Address, Naming, with_number, without_below, under, is_under, set_at, cut, same_steps, MatchesNaming}
use Rattle.histar_container.specs.Tree.{objects_at}
use Rattle.histar_container.proofs.Addresses.{TestsEquality, same_tests_equality, same_itself, same_other}
use Rattle.histar_container.proofs.Reaching.{not_reached}
use Rattle.histar_container.proofs.TableMoves.{changed_here, changed_other, new_there, new_holder, new_other, matched_new, matched_changed}
use Rattle.histar_container.proofs.TableMoves.{matched_without}
use Rattle.histar_container.proofs.Trees.{matched_itself}
use Rattle.histar_refinement.specs.Agrees.{kind_bare, bare}
use Rattle.histar_refinement.proofs.AgreesAt.{AgreesAt}

-- a container that links one number more or less is the same, but for its links
pub bare_linked : (n : ℕ) (o : Found) → bare (option_map (linking n) o) ≡ bare o
bare_linked n None = refl
bare_linked n (Some o) = ap (λ (k : Kind Levels). Some (record { label = o.label; kind = k })) (by o.kind)
  where
    by : (k : Kind Levels) → kind_bare (kind_linking n k) ≡ kind_bare k
    by (Segment old) = refl
    by (Container links) = refl
    by (Thread clearance) = refl
    by (Gate clearance entry) = refl

pub bare_unlinked : (n : ℕ) (o : Found) → bare (option_map (unlinking n) o) ≡ bare o
bare_unlinked n None = refl
bare_unlinked n (Some o) = ap (λ (k : Kind Levels). Some (record { label = o.label; kind = k })) (by o.kind)
  where
    by : (k : Kind Levels) → kind_bare (kind_unlinking n k) ≡ kind_bare k
    by (Segment old) = refl
    by (Container links) = refl
    by (Thread clearance) = refl
    by (Gate clearance entry) = refl

-- an object with other bytes, but for its links
pub bare_held : (bytes : List ℕ) (o : Found) → bare (option_map (holding bytes) o) ≡ option_map (holding bytes) (bare o)
bare_held bytes None = refl
bare_held bytes (Some o) = ap (λ (k : Kind Levels). Some (record { label = o.label; kind = k })) (by o.kind)
  where
    by : (k : Kind Levels) → kind_bare (kind_holding bytes k) ≡ kind_holding bytes (kind_bare k)
    by (Segment old) = refl
    by (Container links) = refl
    by (Thread clearance) = refl
    by (Gate clearance entry) = refl

-- a container is one without its links too
pub bare_container_there : (o : Found) → is_container (bare o) ≡ is_container o
bare_container_there None = refl
bare_container_there (Some o) = by o.kind
  where
    by : (k : Kind Levels) → kind_is_container (kind_bare k) ≡ kind_is_container k
    by (Segment old) = refl
    by (Container links) = refl
    by (Thread clearance) = refl
    by (Gate clearance entry) = refl

-- an object that is no container is the same without its links
bare_kind : (label : Levels) (k : Kind Levels) (o : Object Levels) → kind_is_container o.kind ≡ false
    → Some (record { label = label; kind = kind_bare k }) ≡ Some o → Some (record { label = label; kind = k }) ≡ Some o
bare_kind label (Segment bytes) o other e = e
bare_kind label (Container links) o other e =
    let is : true ≡ false =
    ap (λ (x : Object Levels). kind_is_container x.kind)
    (same_Some (record { label = label; kind = Container set.empty }) o e) ∙ other in
    absurd (true≢false is)
bare_kind label (Thread clearance) o other e = e
bare_kind label (Gate clearance entry) o other e = e

pub bare_is : (found : Found) (o : Object Levels) → kind_is_container o.kind ≡ false → bare found ≡ Some o → found ≡ Some o
bare_is None o other e = absurd (none-some o e)
bare_is (Some x) o other e = bare_kind x.label x.kind o other e

there_mapped : (f : Object Levels → Object Levels) (o : Found) → is_present (option_map f o) ≡ is_present o
there_mapped f None = refl
there_mapped f (Some o) = refl

-- a number that is not there is None
pub not_some : (x : Option ℕ) → is_some x ≡ false → x ≡ None
not_some None e = refl
not_some (Some x) e = absurd (true≢false e)

module _ {X : Type 0} (same_step : X → X → Bool) (decides : TestsEquality same_step) (s : State) (naming : Naming X)
    (asked : Address X → Found) (agrees : AgreesAt same_step s naming asked) where
  -- a number that an address has is below the next one
  pub number_below : (a : Address X) (q : ℕ) → naming.number a ≡ Some q → q < s.next_object
  number_below a q is = elim (cases_lt q s.next_object) [
    | inl h ↦ h
    | inr h ↦ absurd (none-some a (sym (agrees.tree.unused q h) ∙ agrees.tree.addressed a q is))
  ]

  -- two addresses with one number are one
  pub one_address : (a b : Address X) (q : ℕ) → naming.number a ≡ Some q → naming.number b ≡ Some q → a ≡ b
  one_address a b q at_a at_b = same_Some a b (sym (agrees.tree.addressed a q at_a) ∙ agrees.tree.addressed b q at_b)

  -- the object at the number of an address is the one that is asked for there
  pub at_number : (a : Address X) (q : ℕ) → naming.number a ≡ Some q → bare (s.objects q) ≡ asked a
  at_number a q e = ap (λ (o : Option ℕ). bare (option_and_then s.objects o)) (sym e) ∙ agrees.objects a

  -- where nothing is asked for there is no number
  pub no_number : (a : Address X) → is_present (asked a) ≡ false → naming.number a ≡ None
  no_number a e = not_some (naming.number a) (agrees.named a ∙ e)

  -- the object at an address is as before, where the object of its number is
  same_found : (new : Objects Levels) (b : Address X)
      → ((k : ℕ) → naming.number b ≡ Some k → bare (new k) ≡ bare (s.objects k))
      → bare (option_and_then new (naming.number b)) ≡ asked b
  same_found new b same_at = by (naming.number b) refl ∙ agrees.objects b
    where
      by : (k : Option ℕ) → naming.number b ≡ k → bare (option_and_then new k) ≡ bare (option_and_then s.objects k)
      by None is = refl
      by (Some k) is = same_at k is

  -- A new object that links nothing is made in the container d, one step below it.
  module _ (d : ℕ) (a : Address X) (x : X) (o : Object Levels) (at_d : naming.number a ≡ Some d) (holder : is_container (asked a) ≡ true)
      (free : is_present (asked (x ∷ a)) ≡ false) (leaf : (c : ℕ) → set.contains (kind_links o.kind) c ≡ false) where
    abbrev pub grown_naming : Naming X
    grown_naming = with_number same_step naming s.next_object (x ∷ a)

    is_holder : is_container (s.objects d) ≡ true
    is_holder = sym (bare_container_there (s.objects d)) ∙ ap is_container (at_number a d at_d) ∙ holder

    apart : d ≢ s.next_object
    apart e = let below = number_below a d at_d in absurd (omega (arith, below, e))

    added_objects : (b : Address X) → bare (objects_at (with_object s d o).objects grown_naming b) ≡ set_at same_step asked (x ∷ a) (bare (Some o)) b
    added_objects b = elim (same_tests_equality same_step decides (x ∷ a) b) [
      | inl e ↦
          ap (λ (t : Bool). bare (option_and_then (with_object s d o).objects (if t then Some s.next_object else naming.number b))) e.0
          ∙ ap bare (new_there s.objects s.next_object d o)
          ∙ sym (ap (λ (t : Bool). if t then bare (Some o) else asked b) e.0)
      | inr e ↦
          ap (λ (t : Bool). bare (option_and_then (with_object s d o).objects (if t then Some s.next_object else naming.number b))) e.0
          ∙ same_found (with_object s d o).objects b (λ k is. elim (eqb_tells k d) [
            | inl same_k ↦
                ap (λ (q : ℕ). bare ((with_object s d o).objects q)) same_k.1
                ∙ ap bare (new_holder s.objects s.next_object d o apart) ∙ bare_linked s.next_object (s.objects d)
                ∙ ap (λ (q : ℕ). bare (s.objects q)) (sym same_k.1)
            | inr other ↦
                ap bare (new_other s.objects s.next_object d o k
                (λ new. let below = number_below b k is in absurd (omega (arith, below, new))) other.1)
          ])
          ∙ sym (ap (λ (t : Bool). if t then bare (Some o) else asked b) e.0)
    ]

    added_named : (b : Address X) → is_some (grown_naming.number b) ≡ is_present (set_at same_step asked (x ∷ a) (bare (Some o)) b)
    added_named b = by (same_steps same_step (x ∷ a) b)
      where
        by : (t : Bool) → is_some (if t then Some s.next_object else naming.number b) ≡ is_present (if t then bare (Some o) else asked b)
        by true = refl
        by false = agrees.named b

    pub agrees_added : AgreesAt same_step (with_object s d o) grown_naming (set_at same_step asked (x ∷ a) (bare (Some o)))
    agrees_added = record {
      tree = matched_itself same_step (with_object s d o).objects (s.next_object + 1) _ grown_naming
          (matched_new same_step decides s.objects s.next_object (objects_at s.objects naming) naming agrees.tree d a
          x o (agrees.tree.addressed a d at_d) (no_number (x ∷ a) free) is_holder leaf);
      objects = added_objects;
      named = added_named;
    }

    -- the number of the new address, and of each other one
    pub number_new : grown_naming.number (x ∷ a) ≡ Some s.next_object
    number_new = ap (λ (t : Bool). if t then Some s.next_object else naming.number (x ∷ a)) (same_itself same_step decides (x ∷ a))

    pub number_old : (b : Address X) → x ∷ a ≢ b → grown_naming.number b ≡ naming.number b
    number_old b other = ap (λ (t : Bool). if t then Some s.next_object else naming.number b) (same_other same_step decides (x ∷ a) b other)

  -- An object is changed, but for its links.
  module _ (q : ℕ) (a : Address X) (change : Object Levels → Object Levels) (at_q : naming.number a ≡ Some q)
      (same_links : (o : Object Levels) → kind_links (change o).kind ≡ kind_links o.kind)
      (bared : (o : Found) → bare (option_map change o) ≡ option_map change (bare o)) where
    abbrev pub changed_state : State
    changed_state = record { objects = changed_at s.objects q change; next_object = s.next_object; next_category = s.next_category }

    changed_objects : (b : Address X) → bare (objects_at changed_state.objects naming b) ≡ set_at same_step asked a (option_map change (asked a)) b
    changed_objects b = elim (same_tests_equality same_step decides a b) [
      | inl e ↦
          ap (λ (k : Option ℕ). bare (option_and_then changed_state.objects k)) (ap naming.number (sym e.1) ∙ at_q)
          ∙ ap bare (changed_here s.objects q change) ∙ bared (s.objects q) ∙ ap (option_map change) (at_number a q at_q)
          ∙ sym (ap (λ (t : Bool). if t then option_map change (asked a) else asked b) e.0)
      | inr e ↦
          same_found changed_state.objects b (λ k is. ap bare
          (changed_other s.objects q change k (λ same_k. e.1 (one_address a b q at_q (is ∙ ap Some same_k)))))
          ∙ sym (ap (λ (t : Bool). if t then option_map change (asked a) else asked b) e.0)
    ]

    changed_named : (b : Address X) → is_some (naming.number b) ≡ is_present (set_at same_step asked a (option_map change (asked a)) b)
    changed_named b = elim (same_tests_equality same_step decides a b) [
      | inl e ↦
          ap (λ (y : Address X). is_some (naming.number y)) (sym e.1) ∙ agrees.named a
          ∙ sym (there_mapped change (asked a))
          ∙ sym (ap (λ (t : Bool). is_present (if t then option_map change (asked a) else asked b)) e.0)
      | inr e ↦ agrees.named b ∙ sym (ap (λ (t : Bool). is_present (if t then option_map change (asked a) else asked b)) e.0)
    ]

    pub agrees_changed : AgreesAt same_step changed_state naming (set_at same_step asked a (option_map change (asked a)))
    agrees_changed = record {
      tree = matched_itself same_step changed_state.objects s.next_object _ naming
          (matched_changed same_step decides s.objects s.next_object (objects_at s.objects naming) naming agrees.tree
          q a change (agrees.tree.addressed a q at_q) same_links);
      objects = changed_objects;
      named = changed_named;
    }

  -- What the container d links one step below it is unlinked with all below it.
  module _ (new : State) (d o : ℕ) (a : Address X) (x : X) (cuts : CutsOff s d o new)
      (at_o : naming.number (x ∷ a) ≡ Some o) (at_d : naming.number a ≡ Some d) where
    abbrev pub left_naming : Naming X
    left_naming = without_below same_step naming (x ∷ a)

    address_o : naming.address o ≡ Some (x ∷ a)
    address_o = agrees.tree.addressed (x ∷ a) o at_o

    left_object : (b : Address X) (k : ℕ) → under same_step (x ∷ a) b ≡ false → naming.number b ≡ Some k → bare (new.objects k) ≡ bare (s.objects k)
    left_object b k outside is = elim (eqb_tells k d) [
      | inl e ↦
          ap (λ (q : ℕ). bare (new.objects q)) e.1 ∙ ap bare cuts.is_cut.unlinked ∙ bare_unlinked o (s.objects d)
          ∙ ap (λ (q : ℕ). bare (s.objects q)) (sym e.1)
      | inr e ↦ ap bare
          (cuts.is_cut.stays k
          (not_reached same_step decides s.objects s.next_object (objects_at s.objects naming) naming agrees.tree o (x ∷ a) address_o k
          (ap (is_under same_step (x ∷ a)) (agrees.tree.addressed b k is) ∙ outside)) e.1)
    ]

    left_objects : (b : Address X) → bare (objects_at new.objects left_naming b) ≡ cut same_step asked (x ∷ a) b
    left_objects b = by (under same_step (x ∷ a) b) refl
      where
        by : (t : Bool) → under same_step (x ∷ a) b ≡ t
            → bare (option_and_then new.objects (if t then None else naming.number b)) ≡ (if t then None else asked b)
        by true e = refl
        by false e = same_found new.objects b (λ k is. left_object b k e is)

    left_named : (b : Address X) → is_some (left_naming.number b) ≡ is_present (cut same_step asked (x ∷ a) b)
    left_named b = by (under same_step (x ∷ a) b)
      where
        by : (t : Bool) → is_some (if t then None else naming.number b) ≡ is_present (if t then None else asked b)
        by true = refl
        by false = agrees.named b

    pub agrees_cut : AgreesAt same_step new left_naming (cut same_step asked (x ∷ a))
    agrees_cut = record {
      tree = subst (λ (next : ℕ). MatchesNaming same_step new.objects next (objects_at new.objects left_naming) left_naming) (sym cuts.next_object)
          (matched_itself same_step new.objects s.next_object _ left_naming
          (matched_without same_step decides s.objects s.next_object (objects_at s.objects naming) naming agrees.tree
          new.objects d o a x cuts.is_cut address_o (agrees.tree.addressed a d at_d)));
      objects = left_objects;
      named = left_named;
    }

-- the same is asked for everywhere, and the state has the same objects and the same next number
pub agrees_same : {X : Type 0} (same_step : X → X → Bool) (s new : State) (naming : Naming X)
    (asked other : Address X → Found) → AgreesAt same_step s naming asked
    → ((a : Address X) → asked a ≡ other a) → ((q : ℕ) → new.objects q ≡ s.objects q) → new.next_object ≡ s.next_object
    → AgreesAt same_step new naming other
agrees_same same_step s new naming asked other agrees alike same_objects same_next =
    let objects : s.objects ≡ new.objects = λ i q. sym (same_objects q) i in
    record {
      tree = subst (λ (next : ℕ). MatchesNaming same_step new.objects next (objects_at new.objects naming) naming) (sym same_next)
          (subst (λ (o : Objects Levels). MatchesNaming same_step o s.next_object (objects_at o naming) naming) objects agrees.tree);
      objects = λ a. ap (λ (o : Objects Levels). bare (objects_at o naming a)) (sym objects) ∙ agrees.objects a ∙ alike a;
      named = λ a. agrees.named a ∙ ap is_present (alike a);
    }

-- where a number has no object, it has no address
pub no_address : {X : Type 0} (same_step : X → X → Bool) (s : State) (naming : Naming X) (asked : Address X → Found)
    → AgreesAt same_step s naming asked → (q : ℕ) → s.objects q ≡ None → naming.address q ≡ None
no_address {X} same_step s naming asked agrees q e = by (naming.address q) refl
  where
    by : (o : Option (Address X)) → naming.address q ≡ o → o ≡ None
    by None is = refl
    by (Some a) is =
        let number = agrees.tree.numbered q a is in
        let nothing : asked a ≡ None = sym (agrees.objects a) ∙ ap (λ (k : Option ℕ). bare (option_and_then s.objects k)) number ∙ ap bare e in
        absurd (true≢false (sym (ap is_some number) ∙ agrees.named a ∙ ap is_present nothing))
