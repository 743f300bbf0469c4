-- The places and the numbers of declared users and groups.
use Rattle.std.proofs.Common.{◌≡◌, ℕ, zero, suc, ◌+◌, ◌<◌, ◌≤◌, inl, inr, Bool, true, false, cond, List, [], ◌∷◌, length, None}
use Rattle.std.proofs.Common.{Some, arith, refl, sym, ap, ◌∙◌}
use Rattle.std.specs.Prelude.{is_some, not, slice_get, nat_lt, option_map, position}
use Rattle.std.specs.List.{position_or_len}
use Rattle.std.proofs.lemmas.Bool.Decides.{nat_tests}
use Rattle.std.proofs.lemmas.Option.{same_Some, none-some}
use mathlib.Core.Bool.{true≢false}
use Rattle.histar_flat.specs.declared.calls.User.{User}
use Rattle.histar_flat.specs.Words.{Name}
use Rattle.histar_base.specs.Paths.{same}
use Rattle.histar_flat.proofs.FileLemmas.{same_name_found}
use Rattle.histar_flat.specs.Accounts.{Group, Accounts, user_number, group_number}
use Rattle.histar_layout.proofs.Members.{mapped_from}

pub equal_names : (a b : Name) → same a b ≡ true → a ≡ b
equal_names a b h = elim (same_name_found a b) [ inl e ↦ e.1 | inr e ↦ absurd (true≢false (sym h ∙ e.0)) ]

pub equal_tested : (a b : Name) → a ≡ b → same a b ≡ true
equal_tested a b h = elim (same_name_found a b) [ inl e ↦ e.0 | inr e ↦ absurd (e.1 h) ]

module _ {A : Type 0} (test : A → Bool) where
  -- the first place that passes the test has an item that passes it, depending on the test of the first item
  place_by : (x : A) (xs : List A) (b : Bool) → test x ≡ b → position_or_len test (x ∷ xs) < length (x ∷ xs)
      → (position_or_len test xs < length xs → (y : A) × (slice_get xs (position_or_len test xs) ≡ Some y) × (test y ≡ true))
      → (y : A) × (slice_get (x ∷ xs) (position_or_len test (x ∷ xs)) ≡ Some y) × (test y ≡ true)
  place_by x xs true is lt later = (x, ap (λ b. slice_get (x ∷ xs) (cond (not b) (1 + position_or_len test xs) 0)) is, is)
  place_by x xs false is lt later =
      let place : cond (not (test x)) (1 + position_or_len test xs) 0 ≡ 1 + position_or_len test xs =
      ap (λ b. cond (not b) (1 + position_or_len test xs) 0) is in
      let below : cond (not (test x)) (1 + position_or_len test xs) 0 < suc (length xs) = lt in
      let at = later (omega (arith, place, below)) in
      let next : 1 + position_or_len test xs ≡ suc (position_or_len test xs) = omega arith in
      (at.0, ap (slice_get (x ∷ xs)) (place ∙ next) ∙ at.1, at.2)

  first_place : (xs : List A) → position_or_len test xs < length xs → (x : A) × (slice_get xs (position_or_len test xs) ≡ Some x) × (test x ≡ true)
  first_place [] lt = absurd (omega (arith, lt))
  first_place (x ∷ xs) lt = place_by x xs (test x) refl lt (first_place xs)

  revealed : (b : Bool) (k m : ℕ) → cond b (Some k) None ≡ Some m → (b ≡ true) × (k ≡ m)
  revealed true k m e = (refl, same_Some k m e)
  revealed false k m e = absurd (none-some m e)

  pub placed : (xs : List A) (k : ℕ) → position test xs ≡ Some k → (x : A) × (slice_get xs k ≡ Some x) × (test x ≡ true) × (k < length xs)
  placed xs k e =
      let is = revealed (nat_lt (position_or_len test xs) (length xs)) (position_or_len test xs) k e in
      let passed : nat_lt (position_or_len test xs) (length xs) ≡ true = is.0 in
      let below : position_or_len test xs < length xs = grind (arith, nat_tests, passed) in
      let at = first_place xs below in
      (at.0, ap (slice_get xs) (sym is.1) ∙ at.1, at.2, omega (arith, below, is.1))

module _ {A : Type 0} (test : A → Bool) where
  -- an item that passes the test has a place, depending on the test of the first item
  place_found_by : (x : A) (xs : List A) (b : Bool) → test x ≡ b → (b ≡ false → position_or_len test xs < length xs)
      → position_or_len test (x ∷ xs) < length (x ∷ xs)
  place_found_by x xs true is later =
      let place : cond (not (test x)) (1 + position_or_len test xs) 0
      ≡ 0 = ap (λ b. cond (not b) (1 + position_or_len test xs) 0) is in omega (arith, place)
  place_found_by x xs false is later =
      let place : cond (not (test x)) (1 + position_or_len test xs) 0 ≡ 1 + position_or_len test xs =
      ap (λ b. cond (not b) (1 + position_or_len test xs) 0) is in
      omega (arith, place, later refl)

  pub place_found : (xs : List A) (i : ℕ) (x : A) → slice_get xs i ≡ Some x → test x ≡ true → position_or_len test xs < length xs
  place_found [] i x at is = absurd (none-some x at)
  place_found (y ∷ xs) zero x at is =
      place_found_by y xs (test y) refl
      (λ fails. absurd (true≢false (sym is ∙ ap test (sym (same_Some y x at)) ∙ fails)))
  place_found (y ∷ xs) (suc i) x at is = place_found_by y xs (test y) refl (λ _. place_found xs i x at is)

-- so the user of a name has a number
pub has_a_number : (accounts : Accounts) (name : Name) (i : ℕ) (user : User) → slice_get accounts.users i ≡ Some user
    → same user.name name ≡ true → is_some (user_number accounts name) ≡ true
has_a_number accounts name i user at is =
    let place = position_or_len (λ (u : User). same u.name name) accounts.users in
    let lt : place < length accounts.users = place_found (λ (u : User). same u.name name) accounts.users i user at is in
    let within : nat_lt place (length accounts.users) ≡ true = grind (arith, nat_tests, lt) in
    ap (λ b. is_some (option_map (λ k. k + 1) (cond b (Some place) None))) within

-- users and groups have the numbers from 1 on
pub user_range : (accounts : Accounts) (name : Name) (i : ℕ) → user_number accounts name ≡ Some i → (1 ≤ i) × (i ≤ length accounts.users)
user_range accounts name i e =
    let k = mapped_from (λ k. k + 1) (position (λ (u : User). same u.name name) accounts.users) i e in
    let at = placed (λ (u : User). same u.name name) accounts.users k.0 k.1 in
    let below : k.0 < length accounts.users = at.3 in
    (omega (arith, k.2), omega (arith, k.2, below))

pub group_range : (accounts : Accounts) (name : Name) (i : ℕ) → group_number accounts name ≡ Some i → (1 ≤ i) × (i ≤ length accounts.groups)
group_range accounts name i e =
    let k = mapped_from (λ k. k + 1) (position (λ (g : Group). same g.name name) accounts.groups) i e in
    let at = placed (λ (g : Group). same g.name name) accounts.groups k.0 k.1 in
    let below : k.0 < length accounts.groups = at.3 in
    (omega (arith, k.2), omega (arith, k.2, below))

-- two names of users with one number are equal
pub one_user : (accounts : Accounts) (a b : Name) (i : ℕ) → user_number accounts a ≡ Some i → user_number accounts b ≡ Some i → a ≡ b
one_user accounts a b i is_a is_b =
    let k = mapped_from (λ k. k + 1) (position (λ (u : User). same u.name a) accounts.users) i is_a in
    let m = mapped_from (λ k. k + 1) (position (λ (u : User). same u.name b) accounts.users) i is_b in
    let place : k.0 ≡ m.0 = omega (arith, k.2, m.2) in
    let u = placed (λ (u : User). same u.name a) accounts.users k.0 k.1 in
    let v = placed (λ (u : User). same u.name b) accounts.users m.0 m.1 in
    let both : Some u.0 ≡ Some v.0 = sym u.1 ∙ ap (slice_get accounts.users) place ∙ v.1 in
    let one : u.0 ≡ v.0 = same_Some u.0 v.0 both in
    sym (equal_names u.0.name a u.2) ∙ ap (λ (w : User). w.name) one ∙ equal_names v.0.name b v.2

-- so are two names of groups
pub one_group : (accounts : Accounts) (a b : Name) (i : ℕ) → group_number accounts a ≡ Some i → group_number accounts b ≡ Some i → a ≡ b
one_group accounts a b i is_a is_b =
    let k = mapped_from (λ k. k + 1) (position (λ (g : Group). same g.name a) accounts.groups) i is_a in
    let m = mapped_from (λ k. k + 1) (position (λ (g : Group). same g.name b) accounts.groups) i is_b in
    let place : k.0 ≡ m.0 = omega (arith, k.2, m.2) in
    let g = placed (λ (g : Group). same g.name a) accounts.groups k.0 k.1 in
    let h = placed (λ (g : Group). same g.name b) accounts.groups m.0 m.1 in
    let both : Some g.0 ≡ Some h.0 = sym g.1 ∙ ap (slice_get accounts.groups) place ∙ h.1 in
    let one : g.0 ≡ h.0 = same_Some g.0 h.0 both in
    sym (equal_names g.0.name a g.2) ∙ ap (λ (x : Group). x.name) one ∙ equal_names h.0.name b h.2
