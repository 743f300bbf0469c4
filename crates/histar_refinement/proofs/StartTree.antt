-- The objects at the start are a tree, where each is at its address.
use Rattle.std.proofs.Common.{◌≡◌, ◌≢◌, ℕ, zero, suc, ◌+◌, ◌*◌, ◌<◌, ◌≤◌, ◌||◌, ◌&&◌, ◌⊎◌, inl, inr, Bool, true, false, List, [], ◌∷◌, ◌++◌, length}
use Rattle.std.proofs.Common.{Option, None, Some, refl, sym, ap, ◌∙◌, arith}
use Rattle.std.specs.Prelude.{nat_eq, nat_le, nat_lt, is_some, option_and_then}
use Rattle.std.proofs.lemmas.Bool.Decides.{eqb_tells, nat_tests}
use Rattle.std.specs.List.{list_any, range_with_len}
use Rattle.std.specs.FinSet as set
use Rattle.std.specs.Ordering.{nat_cmp}
use Rattle.std.proofs.lemmas.Option.{same_Some}
use Rattle.std.proofs.Math.Bool.{or-false}
use Rattle.histar_flat.specs.Accounts.{Accounts}
use Rattle.histar_level.specs.Levels.{Levels}
use Rattle.histar_object.specs.Objects.{Objects, is_present, links_in}
use Rattle.histar_object.specs.State.{Found}
use Rattle.histar_container.specs.Tree.{Address, Naming, wanted, same_steps, is_one_below, MatchesNaming, objects_at}
use Rattle.histar_container.proofs.Addresses.{same_itself, same_other}
use Rattle.histar_programs.specs.Start.{start_objects, start_state, object_at}
use Rattle.histar_refinement.specs.Addresses.{Step, same_step}
use Rattle.histar_refinement.proofs.StartNumbers.{process_address, inside_address, start_number}
use Rattle.histar_refinement.specs.Addresses.Step.{Left, Slash, Listing, Status, Runner}
use Rattle.histar_refinement.proofs.Steps.{step_tests_equality}
use Rattle.histar_refinement.proofs.StartNames.{start_address, Place, on_root, on_left, on_slash, on_listing, on_home, on_inside, on_runner}
use Rattle.histar_refinement.proofs.StartNames.{on_status, IsFree, Seen, placed, unplaced, seen, place_of_address, address_of_place, number_of_place}
use Rattle.histar_refinement.proofs.StartNames.{place_of_number}
use Rattle.histar_refinement.proofs.StartTable.{left_plain, slash_agrees, listing_agrees, home_agrees, inside_agrees, runner_agrees, status_agrees}
use Rattle.histar_refinement.proofs.StartTable.{none_behind, length_start}

-- the naming at the start, where there are n users
abbrev pub start_naming : ℕ → Naming Step
start_naming n = record { address = start_address n; number = start_number n }

-- a number is in a range with some numbers after it exactly where it is in the range or among these
in_row : (a n c : ℕ) (ks : List ℕ)
    → list_any (λ y. nat_eq y c) (range_with_len a n ++ ks)
    ≡ ((nat_le a c && nat_lt c (a + n)) || list_any (λ y. nat_eq y c) ks)
in_row a zero c ks =
    let outside : (nat_le a c && nat_lt c (a + 0)) ≡ false = grind (arith, nat_tests) in
    sym (ap (λ b. b || list_any (λ y. nat_eq y c) ks) outside)
in_row a (suc n) c ks =
    let one : (x : Bool)
    → (nat_eq a c || ((nat_le (a + 1) c && nat_lt c (a + 1 + n)) || x))
    ≡ ((nat_le a c && nat_lt c (a + suc n)) || x) =
    λ x. grind (arith, nat_tests) in
    ap (λ b. nat_eq a c || b) (in_row (a + 1) n c ks) ∙ one (list_any (λ y. nat_eq y c) ks)

module _ (n : ℕ) where
  -- the address is this one
  abbrev is_this : Address Step → Option (Address Step) → Bool
  is_this here None = false
  is_this here (Some b) = same_steps same_step here b

  -- a number is the one of an address exactly where it has this address
  number_is : (m c : ℕ) (here : Address Step) → Place n here m → nat_eq m c ≡ is_this here (start_address n c)
  number_is m c here p = elim (eqb_tells m c) [
    | inl e ↦
        e.0
        ∙ sym (ap (is_this here) (sym (ap (start_address n) e.1) ∙ address_of_place n m here p)
        ∙ same_itself same_step step_tests_equality here)
    | inr e ↦ e.0 ∙ sym (by e.1 (start_address n c) refl)
  ]
    where
      by : m ≢ c → (found : Option (Address Step)) → start_address n c ≡ found → is_this here found ≡ false
      by other None e = refl
      by other (Some b) e = same_other same_step step_tests_equality here b (λ r.
          let numbers : Some m ≡ Some c =
          sym (number_of_place n m here p) ∙ ap (start_number n) r
          ∙ number_of_place n c b (place_of_address n c b e) in
          other (same_Some m c numbers))

  -- a test of addresses decides what is one step below an address, if it does for those that have a number
  child_is : (a : Address Step) (t : Option (Address Step) → Bool) → t None ≡ false
      → ((b : Address Step) (q : ℕ) → Place n b q → t (Some b) ≡ is_one_below same_step a (Some b))
      → (c : ℕ) → t (start_address n c) ≡ is_one_below same_step a (start_address n c)
  child_is a t nowhere at c = elim (seen n c) [
    | placed b p e ↦ ap t e ∙ at b c p ∙ sym (ap (is_one_below same_step a) e)
    | unplaced f e ↦ ap t e ∙ nowhere ∙ sym (ap (is_one_below same_step a) e)
  ]

  -- nothing is below an address that is none of the four containers
  no_child : (a : Address Step) → same_steps same_step a [] ≡ false → same_steps same_step a (Slash ∷ []) ≡ false
      → same_steps same_step a process_address ≡ false → same_steps same_step a inside_address ≡ false
      → (c : ℕ) → false ≡ is_one_below same_step a (start_address n c)
  no_child a not_root not_slash not_home not_inside = child_is a (λ found. false) refl at
    where
      at : (b : Address Step) (p : ℕ) → Place n b p → false ≡ is_one_below same_step a (Some b)
      at b p (on_root q e) = refl
      at b p (on_left q e) = sym not_root
      at b p (on_slash q e) = sym not_root
      at b p (on_listing q e) = sym not_slash
      at b p (on_home q e) = sym not_root
      at b p (on_inside q e) = sym not_home
      at b p (on_runner q e) = sym not_inside
      at b p (on_status q e) = sym not_home

  -- a container that links one number links what is below it, where this is the number of its one child
  one_link : (m : ℕ) (a here : Address Step) → Place n here m
      → ((b : Address Step) (q : ℕ) → Place n b q → same_steps same_step here b ≡ is_one_below same_step a (Some b))
      → (c : ℕ) → set.contains (set.from_list {R = nat_cmp} (m ∷ [])) c ≡ is_one_below same_step a (start_address n c)
  one_link m a here p at c =
      set.contains-from_list_nat (m ∷ []) c ∙ or-false (nat_eq m c) ∙ number_is m c here p
      ∙ child_is a (is_this here) refl at c

  -- a number is one of those in the root container
  abbrev in_root : ℕ → Bool
  in_root q = (nat_le 3 q && nat_lt q (3 + (2 + 2 * n))) || (nat_eq (6 + 2 * n) q || false)

  -- the root container links 3 to 4 + 2n, and 6 + 2n
  root_links : (c : ℕ)
      → set.contains (set.from_list {R = nat_cmp} (range_with_len 3 (2 + 2 * n) ++ (6 + 2 * n) ∷ [])) c
      ≡ is_one_below same_step [] (start_address n c)
  root_links c =
      set.contains-from_list_nat (range_with_len 3 (2 + 2 * n) ++ (6 + 2 * n) ∷ []) c
      ∙ in_row 3 (2 + 2 * n) c ((6 + 2 * n) ∷ [])
      ∙ by (seen n c)
    where
      not_linked : (q : ℕ) → ((q < 3) ⊎ (q ≡ 5 + 2 * n) ⊎ (6 + 2 * n < q)) → in_root q ≡ false
      not_linked q h = grind (arith, nat_tests)

      at : (b : Address Step) (p : ℕ) → Place n b p → in_root p ≡ is_one_below same_step [] (Some b)
      at b p (on_root q e) = not_linked q (inl (omega arith))
      at b p (on_left q e) = grind (arith, nat_tests)
      at b p (on_slash q e) = grind (arith, nat_tests)
      at b p (on_listing q e) = not_linked q (inr (inl (omega arith)))
      at b p (on_home q e) = grind (arith, nat_tests)
      at b p (on_inside q e) = not_linked q (inr (inr (omega arith)))
      at b p (on_runner q e) = not_linked q (inr (inr (omega arith)))
      at b p (on_status q e) = not_linked q (inr (inr (omega arith)))

      free : IsFree n c → in_root c ≡ false
      free f = grind (arith, nat_tests)

      by : Seen n c → in_root c ≡ is_one_below same_step [] (start_address n c)
      by (placed b p e) = at b c p ∙ sym (ap (is_one_below same_step []) e)
      by (unplaced f e) = free f ∙ sym (ap (is_one_below same_step []) e)

  -- `/` links its directory segment
  slash_links : (c : ℕ) → set.contains (set.from_list {R = nat_cmp} ((5 + 2 * n) ∷ [])) c ≡ is_one_below same_step (Slash ∷ []) (start_address n c)
  slash_links = one_link (5 + 2 * n) (Slash ∷ []) (Listing ∷ Slash ∷ []) (on_listing (5 + 2 * n) refl) at
    where
      at : (b : Address Step) (p : ℕ) → Place n b p → same_steps same_step (Listing ∷ Slash ∷ []) b ≡ is_one_below same_step (Slash ∷ []) (Some b)
      at b p (on_root q e) = refl
      at b p other = refl

  -- the internal container links the thread
  inside_links : (c : ℕ) → set.contains (set.from_list {R = nat_cmp} ((8 + 2 * n) ∷ [])) c ≡ is_one_below same_step inside_address (start_address n c)
  inside_links = one_link (8 + 2 * n) inside_address (Runner ∷ inside_address) (on_runner (8 + 2 * n) refl) at
    where
      at : (b : Address Step) (p : ℕ) → Place n b p
          → same_steps same_step (Runner ∷ inside_address) b ≡ is_one_below same_step inside_address (Some b)
      at b p (on_root q e) = refl
      at b p other = refl

  -- an address is that of the internal container or of the process segment
  abbrev in_home : Option (Address Step) → Bool
  in_home found = is_this inside_address found || is_this (Status ∷ process_address) found

  -- the container of process 0 links its internal container and its process segment
  home_links : (c : ℕ)
      → set.contains (set.from_list {R = nat_cmp} ((7 + 2 * n) ∷ (9 + 2 * n) ∷ [])) c
      ≡ is_one_below same_step process_address (start_address n c)
  home_links c =
      set.contains-from_list_nat ((7 + 2 * n) ∷ (9 + 2 * n) ∷ []) c
      ∙ ap (λ b. nat_eq (7 + 2 * n) c || b) (or-false (nat_eq (9 + 2 * n) c))
      ∙ (λ i. number_is (7 + 2 * n) c inside_address (on_inside (7 + 2 * n) refl) i
      || number_is (9 + 2 * n) c (Status ∷ process_address) (on_status (9 + 2 * n) refl) i)
      ∙ child_is process_address in_home refl at c
    where
      at : (b : Address Step) (p : ℕ) → Place n b p → in_home (Some b) ≡ is_one_below same_step process_address (Some b)
      at b p (on_root q e) = refl
      at b p other = refl

  -- a number that has an address is below the next one
  place_below : (q : ℕ) (a : Address Step) → Place n a q → q ≤ 9 + 2 * n
  place_below p b (on_root q e) = omega arith
  place_below p b (on_left q e) = grind (arith, nat_tests)
  place_below p b (on_slash q e) = omega arith
  place_below p b (on_listing q e) = omega arith
  place_below p b (on_home q e) = omega arith
  place_below p b (on_inside q e) = omega arith
  place_below p b (on_runner q e) = omega arith
  place_below p b (on_status q e) = omega arith

  -- the next number and those above it have no address
  start_unused : (q : ℕ) → 10 + 2 * n ≤ q → start_address n q ≡ None
  start_unused q h = elim (seen n q) [
    | placed a p e ↦ absurd (omega (arith, place_below q a p))
    | unplaced f e ↦ e
  ]

  -- an address that has a number is below one that has a number
  held_place : (q : ℕ) (x : Step) (a : Address Step) → Place n (x ∷ a) q → is_some (start_number n a) ≡ true
  held_place p x a (on_left q e) = refl
  held_place p x a (on_slash q e) = refl
  held_place p x a (on_listing q e) = refl
  held_place p x a (on_home q e) = refl
  held_place p x a (on_inside q e) = refl
  held_place p x a (on_runner q e) = refl
  held_place p x a (on_status q e) = refl

  -- an address with a number at the start is below another with one
  start_held : (x : Step) (a : Address Step) → is_some (start_number n (x ∷ a)) ≡ true → is_some (start_number n a) ≡ true
  start_held x a h = elim (start_number n (x ∷ a)) as (λ o. start_number n (x ∷ a) ≡ o → is_some o ≡ true → is_some (start_number n a) ≡ true) [
    | None ↦ λ e k. absurd cc
    | Some q ↦ λ e k. held_place q x a (place_of_number n q (x ∷ a) e)
  ] refl h

module _ (accounts : Accounts) where
  -- how many users there are
  abbrev n : ℕ
  n = length accounts.users

  -- the objects at the start
  abbrev objects : Objects Levels
  objects = object_at (start_objects accounts)

  -- there is no object where there is no address
  free_none : (q : ℕ) → IsFree n q → objects q ≡ None
  free_none q (inl e) = ap objects e
  free_none q (inr (inl e)) = ap objects e
  free_none q (inr (inr h)) = none_behind accounts q h

  -- the object at each number is the one at its address
  start_as_expected : (q : ℕ) → objects q ≡ wanted (objects_at objects (start_naming n)) (start_address n q)
  start_as_expected q = elim (seen n q) [
    | placed a p e ↦ sym (ap (wanted (objects_at objects (start_naming n))) e ∙ ap (option_and_then objects) (number_of_place n q a p))
    | unplaced f e ↦ free_none q f ∙ sym (ap (wanted (objects_at objects (start_naming n))) e)
  ]

  -- equal objects have equal links
  same_links : (q c : ℕ) (found : Found) (t : Bool) → objects q ≡ found → set.contains (links_in found) c ≡ t
      → set.contains (links_in (objects q)) c ≡ t
  same_links q c found t is h = ap (λ (x : Found). set.contains (links_in x) c) is ∙ h

  -- an object without links links nothing
  no_links : (q c : ℕ) → links_in (objects q) ≡ set.empty → set.contains (links_in (objects q)) c ≡ false
  no_links q c h = ap (λ s. set.contains s c) h ∙ set.contains-empty nat_cmp c

  -- an object links exactly what is one step below it
  place_links : (q c : ℕ) (a : Address Step) → Place n a q → set.contains (links_in (objects q)) c ≡ is_one_below same_step a (start_address n c)
  place_links p c b (on_root q e) = same_links q c _ _ (ap objects e) (root_links n c)
  place_links p c b (on_left q e) = no_links q c (left_plain accounts q e).linkless ∙ no_child n (Left q ∷ []) refl refl refl refl c
  place_links p c b (on_slash q e) = same_links q c _ _ (ap objects e ∙ slash_agrees accounts) (slash_links n c)
  place_links p c b (on_listing q e) =
      no_links q c (ap links_in (ap objects e ∙ listing_agrees accounts))
      ∙ no_child n (Listing ∷ Slash ∷ []) refl refl refl refl c
  place_links p c b (on_home q e) = same_links q c _ _ (ap objects e ∙ home_agrees accounts) (home_links n c)
  place_links p c b (on_inside q e) = same_links q c _ _ (ap objects e ∙ inside_agrees accounts) (inside_links n c)
  place_links p c b (on_runner q e) =
      no_links q c (ap links_in (ap objects e ∙ runner_agrees accounts))
      ∙ no_child n (Runner ∷ inside_address) refl refl refl refl c
  place_links p c b (on_status q e) =
      no_links q c (ap links_in (ap objects e ∙ status_agrees accounts))
      ∙ no_child n (Status ∷ process_address) refl refl refl refl c

  -- there is an object where there is an address
  pub place_there : (q : ℕ) (a : Address Step) → Place n a q → is_present (objects q) ≡ true
  place_there p b (on_root q e) = ap is_present (ap objects e)
  place_there p b (on_left q e) = (left_plain accounts q e).there
  place_there p b (on_slash q e) = ap is_present (ap objects e ∙ slash_agrees accounts)
  place_there p b (on_listing q e) = ap is_present (ap objects e ∙ listing_agrees accounts)
  place_there p b (on_home q e) = ap is_present (ap objects e ∙ home_agrees accounts)
  place_there p b (on_inside q e) = ap is_present (ap objects e ∙ inside_agrees accounts)
  place_there p b (on_runner q e) = ap is_present (ap objects e ∙ runner_agrees accounts)
  place_there p b (on_status q e) = ap is_present (ap objects e ∙ status_agrees accounts)

  -- the objects at the start match their naming
  pub start_matched : MatchesNaming same_step objects (start_state accounts).next_object (objects_at objects (start_naming n)) (start_naming n)
  start_matched = record {
    as_expected = start_as_expected;
    numbered = λ q a h. number_of_place n q a (place_of_address n q a h);
    addressed = λ a q h. address_of_place n q a (place_of_number n q a h);
    held = start_held n;
    links = λ q c a h. place_links q c a (place_of_address n q a h);
    unused = λ q h. start_unused n q (omega (arith, length_start accounts));
  }
