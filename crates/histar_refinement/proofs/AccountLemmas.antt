-- Users and groups by their names and numbers.
use Rattle.std.proofs.Common.{◌≡◌, ◌≢◌, ℕ, zero, suc, ◌+◌, ◌<◌, ◌⊎◌, inl, inr, Bool, true, false, ◌&&◌, cond, if◌then◌else◌, List, [], ◌∷◌}
use Rattle.std.proofs.Common.{length, Option, None, Some, arith, refl, sym, ap, ◌∙◌, subst}
use Rattle.std.specs.Prelude.{slice_get, nat_lt, nat_eq, option_map, position}
use Rattle.std.specs.List.{list_any, position_or_len}
use Rattle.std.proofs.lemmas.Bool.Decides.{nat_tests, eqb_tells}
use Rattle.std.proofs.lemmas.Option.{same_Some, none-some}
use Rattle.std.proofs.lemmas.Bool.{and_from, or_left, or_right, or_cases}
use mathlib.Core.Bool.{true≢false}
use Rattle.histar_flat.specs.Words.{Name}
use Rattle.histar_base.specs.Paths.{same}
use Rattle.histar_flat.proofs.FileLemmas.{same_name_found}
use Rattle.histar_flat.specs.Accounts.{Group, Accounts, has, user_number, group_number, numbers_with, groups_of, is_member}
use Rattle.histar_flat.specs.Classes.{nobody}
use Rattle.histar_layout.proofs.Declared.{equal_names, equal_tested, placed, place_found, one_user}
use Rattle.histar_layout.proofs.Members.{same_truth, first_of, second_of, mapped_from}
use Rattle.histar_refinement.specs.Accounts.{AreAccounts}

-- a declared user is not nobody
pub not_nobody : (accounts : Accounts) → AreAccounts accounts → (name : Name) (i : ℕ) → user_number accounts name ≡ Some i → same name nobody ≡ false
not_nobody accounts ok name i is = by (same name nobody) refl
  where
    by : (b : Bool) → same name nobody ≡ b → b ≡ false
    by true e = let k : None ≡ Some i = sym ok.no_one ∙ ap (user_number accounts) (sym (equal_names name nobody e)) ∙ is in absurd cc
    by false e = refl

-- the number of a process's user is that of an owner
abbrev pub is_number : Option ℕ → ℕ → Bool
is_number None i = false
is_number (Some j) i = nat_eq i j

pub is_owner : (accounts : Accounts) (name owner : Name) (i : ℕ) → user_number accounts owner ≡ Some i
    → is_number (user_number accounts name) i ≡ same name owner
is_owner accounts name owner i numbered = by (user_number accounts name) refl
  where
    by : (o : Option ℕ) → user_number accounts name ≡ o → is_number o i ≡ same name owner
    by None e = sym (other (same_name_found name owner))
      where
        other : ((same name owner ≡ true) × (name ≡ owner)) ⊎ ((same name owner ≡ false) × (name ≢ owner)) → same name owner ≡ false
        other (inl k) = absurd (none-some i (sym e ∙ ap (user_number accounts) k.1 ∙ numbered))
        other (inr k) = k.0
    by (Some j) e = same_truth (nat_eq i j) (same name owner)
        (λ k. elim (eqb_tells i j) [
          | inl is ↦ equal_tested name owner (one_user accounts name owner i (e ∙ ap Some (sym is.1)) numbered)
          | inr is ↦ absurd (true≢false (sym k ∙ is.0))
        ])
        (λ k. let both : Some j ≡ Some i = sym e ∙ ap (user_number accounts) (equal_names name owner k) ∙ numbered in
        elim (eqb_tells i j) [ inl is ↦ is.0 | inr is ↦ absurd (is.1 (sym (same_Some j i both))) ])

-- a list of numbers has this one
abbrev pub has_number : List ℕ → ℕ → Bool
has_number ks k = list_any (nat_eq k) ks

-- what a group in a list of groups is found by
abbrev pub IsFound : ℕ → List Group → Name → ℕ → Type 0
IsFound m groups name k = (i : ℕ) × (g : Group) × (slice_get groups i ≡ Some g) × (has g.members name ≡ true) × (k ≡ m + i)

-- which groups have a member
numbers_by : (m : ℕ) (g : Group) (groups : List Group) (name : Name) (k : ℕ) (b : Bool) → has g.members name ≡ b
    → has_number (if b then m ∷ numbers_with (m + 1) groups name else numbers_with (m + 1) groups name) k ≡ true
    → (has_number (numbers_with (m + 1) groups name) k ≡ true → IsFound (m + 1) groups name k) → IsFound m (g ∷ groups) name k
numbers_by m g groups name k false is e later = let at = later e in (suc at.0, at.1, at.2, at.3, omega (arith, at.4))
numbers_by m g groups name k true is e later = elim (or_cases (nat_eq k m) (has_number (numbers_with (m + 1) groups name) k) e) [
  | inl here ↦ elim (eqb_tells k m) [ inl same_k ↦ (0, g, refl, is, omega (arith, same_k.1)) | inr other ↦ absurd (true≢false (sym here ∙ other.0)) ]
  | inr further ↦ let at = later further in (suc at.0, at.1, at.2, at.3, omega (arith, at.4))
]

pub from_numbers : (m : ℕ) (groups : List Group) (name : Name) (k : ℕ) → has_number (numbers_with m groups name) k ≡ true → IsFound m groups name k
from_numbers m [] name k e = absurd (true≢false (sym e))
from_numbers m (g ∷ groups) name k e = numbers_by m g groups name k (has g.members name) refl e (from_numbers (m + 1) groups name k)

to_numbers : (m : ℕ) (groups : List Group) (name : Name) (i : ℕ) (g : Group) → slice_get groups i ≡ Some g
    → has g.members name ≡ true → has_number (numbers_with m groups name) (m + i) ≡ true
to_numbers m [] name i g at is = absurd (none-some g at)
to_numbers m (h ∷ groups) name zero g at is =
    let same_g : h ≡ g = same_Some h g at in
    let here : has h.members name ≡ true = ap (λ (x : Group). has x.members name) same_g ∙ is in
    ap (λ b. has_number (if b then m ∷ numbers_with (m + 1) groups name else numbers_with (m + 1) groups name) (m + 0)) here
    ∙ or_left (nat_eq (m + 0) m) (has_number (numbers_with (m + 1) groups name) (m + 0)) (grind (arith, nat_tests))
to_numbers m (h ∷ groups) name (suc i) g at is =
    let later : has_number (numbers_with (m + 1) groups name) (m + 1 + i) ≡ true = to_numbers (m + 1) groups name i g at is in
    let number : m + suc i ≡ m + 1 + i = omega arith in
    ap (has_number (numbers_with m (h ∷ groups) name)) number ∙ by (has h.members name) later
  where
    by : (b : Bool) → has_number (numbers_with (m + 1) groups name) (m + 1 + i) ≡ true
        → has_number (if b then m ∷ numbers_with (m + 1) groups name else numbers_with (m + 1) groups name) (m + 1 + i)
        ≡ true
    by true later = or_right (nat_eq (m + 1 + i) m) (has_number (numbers_with (m + 1) groups name) (m + 1 + i)) later
    by false later = later

-- a member of a group of this name
pub from_members : (groups : List Group) (name group : Name) → list_any (λ (g : Group). same g.name group && has g.members name) groups ≡ true
    → (i : ℕ) × (g : Group) × (slice_get groups i ≡ Some g) × (same g.name group ≡ true) × (has g.members name ≡ true)
from_members [] name group e = absurd (true≢false (sym e))
from_members (g ∷ groups) name group e =
    elim (or_cases (same g.name group && has g.members name)
    (list_any (λ (h : Group). same h.name group && has h.members name) groups) e) [
      | inl here ↦ (0, g, refl, first_of (same g.name group) (has g.members name) here, second_of (same g.name group) (has g.members name) here)
      | inr later ↦ let at = from_members groups name group later in (suc at.0, at.1, at.2, at.3, at.4)
    ]

to_members : (groups : List Group) (name group : Name) (i : ℕ) (g : Group) → slice_get groups i ≡ Some g
    → same g.name group ≡ true → has g.members name ≡ true
    → list_any (λ (h : Group). same h.name group && has h.members name) groups ≡ true
to_members [] name group i g at is member = absurd (none-some g at)
to_members (h ∷ groups) name group zero g at is member =
    or_left (same h.name group && has h.members name) _ (subst
    (λ (x : Group). (same x.name group && has x.members name) ≡ true) (sym (same_Some h g at))
    (and_from _ _ is member))
to_members (h ∷ groups) name group (suc i) g at is member =
    or_right (same h.name group && has h.members name) _ (to_members groups name group i g at is member)

-- a user is a member of a group exactly where the group's number is among those of the user's groups
pub is_member_number : (accounts : Accounts) → AreAccounts accounts → (name group : Name) (k : ℕ)
    → group_number accounts group ≡ Some k → has_number (groups_of accounts name) k ≡ is_member accounts name group
is_member_number accounts ok name group k numbered =
    let place = mapped_from (λ k. k + 1) (position (λ (g : Group). same g.name group) accounts.groups) k numbered in
    let at = placed (λ (g : Group). same g.name group) accounts.groups place.0 place.1 in
    same_truth (has_number (groups_of accounts name) k) (is_member accounts name group)
    (λ e.
    let found = from_numbers 1 accounts.groups name k e in
    let same_place : found.0 ≡ place.0 = omega (arith, found.4, place.2) in
    let one : found.1 ≡ at.0 = same_Some found.1 at.0 (sym found.2 ∙ ap (slice_get accounts.groups) same_place ∙ at.1) in
    to_members accounts.groups name group found.0 found.1 found.2 (ap (λ (g : Group). same g.name group) one ∙ at.2) found.3)
    (λ e.
    let found = from_members accounts.groups name group e in
    let alike : same found.1.name at.0.name ≡ true =
    equal_tested found.1.name at.0.name
    (equal_names found.1.name group found.3 ∙ sym (equal_names at.0.name group at.2)) in
    let same_place : found.0 ≡ place.0 = ok.groups_differ found.0 place.0 found.1 at.0 found.2 at.1 alike in
    ap (has_number (groups_of accounts name)) (omega (arith, same_place, place.2))
    ∙ to_numbers 1 accounts.groups name found.0 found.1 found.2 found.4)

-- a group that is not declared has no members
pub no_member : (accounts : Accounts) (name group : Name) → group_number accounts group ≡ None → is_member accounts name group ≡ false
no_member accounts name group undeclared = by (is_member accounts name group) refl
  where
    by : (b : Bool) → is_member accounts name group ≡ b → b ≡ false
    by false is = refl
    by true is =
        let found = from_members accounts.groups name group is in
        let place = position_or_len (λ (g : Group). same g.name group) accounts.groups in
        let lt : place < length accounts.groups = place_found (λ (g : Group). same g.name group) accounts.groups found.0 found.1 found.2 found.3 in
        let within : nat_lt place (length accounts.groups) ≡ true = grind (arith, nat_tests, lt) in
        absurd (none-some (place + 1) (sym undeclared ∙ ap (λ b. option_map (λ k. k + 1) (cond b (Some place) None)) within))
