-- The addresses of the objects at the start, where there are n users.
use Rattle.std.proofs.Common.{◌≡◌, ℕ, zero, suc, ◌+◌, ◌*◌, ◌-◌, ◌≤◌, ◌⊎◌, inl, inr, Bool, true, false, [], ◌∷◌, Option, None, Some, if◌then◌else◌}
use Rattle.std.proofs.Common.{refl, sym, ap, ◌∙◌, subst, arith}
use Rattle.std.specs.Prelude.{nat_le}
use Rattle.std.proofs.lemmas.Bool.Decides.{leb_tells, nat_tests}
use Rattle.std.proofs.lemmas.Option.{same_Some}
use Rattle.histar_container.specs.Tree.{Address}
use Rattle.histar_container.proofs.Addresses.{same_tests_equality}
use Rattle.histar_refinement.specs.Addresses.{Step, same_step, if_at}
use Rattle.histar_refinement.proofs.StartNumbers.{is_left, process_address, inside_address, start_number}
use Rattle.histar_refinement.specs.Addresses.Step.{Left, Slash, Listing, Named, Home, Status, Inside, Runner, Child}
use Rattle.histar_refinement.proofs.Steps.{step_tests_equality}

-- the addresses of `/`, its directory segment, and what makes up process 0, one after another
abbrev pub later_address : ℕ → Option (Address Step)
later_address zero = Some (Slash ∷ [])
later_address (suc zero) = Some (Listing ∷ Slash ∷ [])
later_address (suc (suc zero)) = Some process_address
later_address (suc (suc (suc zero))) = Some inside_address
later_address (suc (suc (suc (suc zero)))) = Some (Runner ∷ inside_address)
later_address (suc (suc (suc (suc (suc zero))))) = Some (Status ∷ process_address)
later_address (suc (suc (suc (suc (suc (suc k)))))) = None

module _ (n : ℕ) where
  -- the address of each number
  abbrev pub start_address : ℕ → Option (Address Step)
  start_address zero = None
  start_address (suc zero) = Some []
  start_address (suc (suc zero)) = None
  start_address (suc (suc (suc k))) = if nat_le k (2 * n) then Some (Left (suc (suc (suc k))) ∷ []) else later_address (k - (1 + 2 * n))

  -- the number of an address is q
  pub data Place : Address Step → ℕ → Type 0 where
    on_root : (q : ℕ) → q ≡ 1 → Place [] q
    on_left : (q : ℕ) → is_left n q ≡ true → Place (Left q ∷ []) q
    on_slash : (q : ℕ) → q ≡ 4 + 2 * n → Place (Slash ∷ []) q
    on_listing : (q : ℕ) → q ≡ 5 + 2 * n → Place (Listing ∷ Slash ∷ []) q
    on_home : (q : ℕ) → q ≡ 6 + 2 * n → Place process_address q
    on_inside : (q : ℕ) → q ≡ 7 + 2 * n → Place inside_address q
    on_runner : (q : ℕ) → q ≡ 8 + 2 * n → Place (Runner ∷ inside_address) q
    on_status : (q : ℕ) → q ≡ 9 + 2 * n → Place (Status ∷ process_address) q

  -- no address has the number
  abbrev pub IsFree : ℕ → Type 0
  IsFree q = (q ≡ 0) ⊎ (q ≡ 2) ⊎ (10 + 2 * n ≤ q)

  -- a number has an address, or it has none
  pub data Seen (q : ℕ) : Type 0 where
    placed : (a : Address Step) → Place a q → start_address q ≡ Some a → Seen q
    unplaced : IsFree q → start_address q ≡ None → Seen q

  -- the addresses of the numbers after those that boot left
  later_at : (j q : ℕ) → q ≡ 4 + 2 * n + j → start_address q ≡ later_address j
  later_at j zero e = absurd (omega arith)
  later_at j (suc zero) e = absurd (omega arith)
  later_at j (suc (suc zero)) e = absurd (omega arith)
  later_at j (suc (suc (suc k))) e =
      let more : nat_le k (2 * n) ≡ false = grind (arith, nat_tests) in
      ap (λ b. if b then Some (Left (suc (suc (suc k))) ∷ []) else later_address (k - (1 + 2 * n))) more ∙ ap later_address (omega arith)

  -- those numbers have an address or none
  seen_later : (j q : ℕ) → q ≡ 4 + 2 * n + j → start_address q ≡ later_address j → Seen q
  seen_later zero q e h = placed (Slash ∷ []) (on_slash q (omega arith)) h
  seen_later (suc zero) q e h = placed (Listing ∷ Slash ∷ []) (on_listing q (omega arith)) h
  seen_later (suc (suc zero)) q e h = placed process_address (on_home q (omega arith)) h
  seen_later (suc (suc (suc zero))) q e h = placed inside_address (on_inside q (omega arith)) h
  seen_later (suc (suc (suc (suc zero)))) q e h = placed (Runner ∷ inside_address) (on_runner q (omega arith)) h
  seen_later (suc (suc (suc (suc (suc zero))))) q e h = placed (Status ∷ process_address) (on_status q (omega arith)) h
  seen_later (suc (suc (suc (suc (suc (suc k)))))) q e h = unplaced (inr (inr (omega arith))) h

  -- boot left what has these numbers
  left_from : (k : ℕ) → k ≤ 2 * n → is_left n (suc (suc (suc k))) ≡ true
  left_from k h = grind (arith, nat_tests)

  -- each number has an address or none
  pub seen : (q : ℕ) → Seen q
  seen zero = unplaced (inl refl) refl
  seen (suc zero) = placed [] (on_root 1 refl) refl
  seen (suc (suc zero)) = unplaced (inr (inl refl)) refl
  seen (suc (suc (suc k))) = elim (leb_tells k (2 * n)) [
    | inl e ↦
        placed (Left (suc (suc (suc k))) ∷ []) (on_left (suc (suc (suc k))) (left_from k e.1))
        (ap (λ b. if b then Some (Left (suc (suc (suc k))) ∷ []) else later_address (k - (1 + 2 * n))) e.0)
    | inr e ↦
        let is : suc (suc (suc k))
        ≡ 4 + 2 * n
        + (k - (1 + 2 * n)) = omega (arith, e.1) in seen_later (k - (1 + 2 * n)) (suc (suc (suc k))) is
        (later_at (k - (1 + 2 * n)) (suc (suc (suc k))) is)
  ]

  -- the address of a number has that number
  pub place_of_address : (q : ℕ) (a : Address Step) → start_address q ≡ Some a → Place a q
  place_of_address q a h = elim (seen q) [
    | placed b p e ↦ subst (λ x. Place x q) (same_Some b a (sym e ∙ h)) p
    | unplaced f e ↦ absurd cc
  ]

  -- what boot left has its own number as its step
  address_left : (q : ℕ) → is_left n q ≡ true → start_address q ≡ Some (Left q ∷ [])
  address_left zero e = absurd (grind (arith, nat_tests))
  address_left (suc zero) e = absurd (grind (arith, nat_tests))
  address_left (suc (suc zero)) e = absurd (grind (arith, nat_tests))
  address_left (suc (suc (suc k))) e =
      let within : nat_le k (2 * n) ≡ true = grind (arith, nat_tests) in
      ap (λ b. if b then Some (Left (suc (suc (suc k))) ∷ []) else later_address (k - (1 + 2 * n))) within

  -- the number of an address has that address
  pub address_of_place : (q : ℕ) (a : Address Step) → Place a q → start_address q ≡ Some a
  address_of_place p b (on_root q e) = ap start_address e
  address_of_place p b (on_left q e) = address_left q e
  address_of_place p b (on_slash q e) = later_at 0 q (omega arith)
  address_of_place p b (on_listing q e) = later_at 1 q (omega arith)
  address_of_place p b (on_home q e) = later_at 2 q (omega arith)
  address_of_place p b (on_inside q e) = later_at 3 q (omega arith)
  address_of_place p b (on_runner q e) = later_at 4 q (omega arith)
  address_of_place p b (on_status q e) = later_at 5 q (omega arith)

  -- what boot left has its own number
  number_left : (q : ℕ) → is_left n q ≡ true → start_number n (Left q ∷ []) ≡ Some q
  number_left q e = ap (λ b. if b then Some q else None) e

  -- the address of a place has its number
  pub number_of_place : (q : ℕ) (a : Address Step) → Place a q → start_number n a ≡ Some q
  number_of_place p b (on_root q e) = ap Some (sym e)
  number_of_place p b (on_left q e) = number_left q e
  number_of_place p b (on_slash q e) = ap Some (sym e)
  number_of_place p b (on_listing q e) = ap Some (sym e)
  number_of_place p b (on_home q e) = ap Some (sym e)
  number_of_place p b (on_inside q e) = ap Some (sym e)
  number_of_place p b (on_runner q e) = ap Some (sym e)
  number_of_place p b (on_status q e) = ap Some (sym e)

  -- what is at an address is there under no other address, and has its value
  at_here : {A : Type 0} (here a : Address Step) (x : Option A) (q : A) → if_at here a x ≡ Some q → (here ≡ a) × (x ≡ Some q)
  at_here here a x q h = elim (same_tests_equality same_step step_tests_equality here a) [
    | inl e ↦ (e.1, sym (ap (λ b. if b then x else None) e.0) ∙ h)
    | inr e ↦ let k : None ≡ Some q = sym (ap (λ b. if b then x else None) e.0) ∙ h in absurd cc
  ]

  -- what boot left has a number only if it did
  left_here : (p q : ℕ) (b : Bool) → is_left n p ≡ b → (if b then Some p else None) ≡ Some q → Place (Left p ∷ []) q
  left_here p q true e h = subst (Place (Left p ∷ [])) (same_Some p q h) (on_left p e)
  left_here p q false e h = absurd cc

  -- an address that has a number is one of these
  pub place_of_number : (q : ℕ) (a : Address Step) → start_number n a ≡ Some q → Place a q
  place_of_number q [] h = on_root q (sym (same_Some 1 q h))
  place_of_number q (Left p ∷ a) h =
      let k = at_here [] a (if is_left n p then Some p else None) q h in
      subst (λ x. Place (Left p ∷ x) q) k.0 (left_here p q (is_left n p) refl k.1)
  place_of_number q (Slash ∷ a) h =
      let k = at_here [] a (Some (4 + 2 * n)) q h in subst (λ x. Place (Slash ∷ x) q) k.0
      (on_slash q (sym (same_Some _ q k.1)))
  place_of_number q (Listing ∷ a) h =
      let k = at_here (Slash ∷ []) a (Some (5 + 2 * n)) q h in subst (λ x. Place (Listing ∷ x) q) k.0
      (on_listing q (sym (same_Some _ q k.1)))
  place_of_number q (Named name ∷ a) h = absurd cc
  place_of_number q (Home ∷ a) h =
      let k = at_here [] a (Some (6 + 2 * n)) q h in subst (λ x. Place (Home ∷ x) q) k.0
      (on_home q (sym (same_Some _ q k.1)))
  place_of_number q (Status ∷ a) h =
      let k = at_here process_address a (Some (9 + 2 * n)) q h in subst (λ x. Place (Status ∷ x) q) k.0
      (on_status q (sym (same_Some _ q k.1)))
  place_of_number q (Inside ∷ a) h =
      let k = at_here process_address a (Some (7 + 2 * n)) q h in subst (λ x. Place (Inside ∷ x) q) k.0
      (on_inside q (sym (same_Some _ q k.1)))
  place_of_number q (Runner ∷ a) h =
      let k = at_here inside_address a (Some (8 + 2 * n)) q h in subst (λ x. Place (Runner ∷ x) q) k.0
      (on_runner q (sym (same_Some _ q k.1)))
  place_of_number q (Child k ∷ a) h = absurd cc
