-- A naming of categories with the numbers that boot gave: each other name has a number of its own above these.
use Rattle.std.proofs.Common.{◌≡◌, ℕ, zero, suc, ◌+◌, ◌*◌, ◌<◌, ◌≤◌, inl, inr, Bool, true, false, ◌&&◌, cond, List, [], ◌∷◌, length, Option, None}
use Rattle.std.proofs.Common.{Some, arith, refl, sym, ap, ◌∙◌, subst}
use Rattle.std.specs.Prelude.{nat_le, unwrap_or}
use Rattle.std.proofs.lemmas.Bool.{cases_lt}
use Rattle.std.proofs.lemmas.Bool.Decides.{nat_tests}
use Rattle.std.proofs.lemmas.Option.{none-some, same_Some}
use Rattle.histar_flat.specs.Accounts.{Accounts}
use Rattle.histar_refinement.specs.Categories.{CategoryName, Categories, AreDifferent, IsMade, split_category, boot_category}
use Rattle.histar_refinement.specs.Categories.CategoryName.{OfBoot, ReadsUser, WritesUser, ReadsGroup, WritesGroup, ReadsProcess, WritesProcess}
use Rattle.histar_refinement.specs.Categories.CategoryName.{OfJob}
use Rattle.histar_layout.proofs.Members.{first_of, second_of}
use Rattle.histar_refinement.proofs.CategoryTests.{same_split}

-- the sum of the numbers up to this one
abbrev sum_to : ℕ → ℕ
sum_to zero = 0
sum_to (suc s) = sum_to s + suc s

sum_above : (s t : ℕ) → s < t → sum_to s + s < sum_to t
sum_above s zero h = absurd (omega (arith, h))
sum_above s (suc u) h = elim (cases_lt s u) [
  | inl lt ↦ let r : sum_to s + s < sum_to u = sum_above s u lt in omega (arith, r)
  | inr le ↦ let is : s ≡ u = omega (arith, h, le) in let k : sum_to s ≡ sum_to u = ap sum_to is in omega (arith, k, is)
]

-- one number for two
abbrev pair : ℕ → ℕ → ℕ
pair a b = sum_to (a + b) + a

pair_sum : (a b c d : ℕ) → pair a b ≡ pair c d → a + b ≡ c + d
pair_sum a b c d e = elim (cases_lt (a + b) (c + d)) [
  | inl lt ↦ let k = sum_above (a + b) (c + d) lt in absurd (omega (arith, k, e))
  | inr le ↦ elim (cases_lt (c + d) (a + b)) [
    | inl lt ↦ let k = sum_above (c + d) (a + b) lt in absurd (omega (arith, k, e))
    | inr more ↦ omega (arith, le, more)
  ]
]

pair_parts : (a b c d : ℕ) → pair a b ≡ pair c d → (a ≡ c) × (b ≡ d)
pair_parts a b c d e =
    let total = pair_sum a b c d e in
    let k : sum_to (a + b) ≡ sum_to (c + d) = ap sum_to total in
    (omega (arith, e, k), omega (arith, e, k, total))

-- one number for a list
abbrev list_code : List ℕ → ℕ
list_code [] = 0
list_code (x ∷ xs) = suc (pair x (list_code xs))

one_list : (xs ys : List ℕ) → list_code xs ≡ list_code ys → xs ≡ ys
one_list [] [] e = refl
one_list [] (y ∷ ys) e = absurd (omega (arith, e))
one_list (x ∷ xs) [] e = absurd (omega (arith, e))
one_list (x ∷ xs) (y ∷ ys) e =
    let parts = pair_parts x (list_code xs) y (list_code ys) (omega (arith, e)) in
    let rest = one_list xs ys parts.1 in
    λ i. parts.0 i ∷ rest i

-- one number for a name
abbrev code : CategoryName → ℕ
code c = pair (split_category c).0 (list_code (split_category c).1)

one_code : (c d : CategoryName) → code c ≡ code d → c ≡ d
one_code c d e =
    let parts = pair_parts (split_category c).0 (list_code (split_category c).1) (split_category d).0 (list_code (split_category d).1) e in
    same_split c d parts.0 (one_list (split_category c).1 (split_category d).1 parts.1)

module _ (n m : ℕ) where
  -- boot gave the number to the name, where there are n users and m groups
  pub data Booted : CategoryName → ℕ → Type 0 where
    on_boot : (q : ℕ) → q ≡ 1 → Booted OfBoot q
    on_reads_user : (i q : ℕ) → i ≤ n → q ≡ 2 + 2 * i → Booted (ReadsUser i) q
    on_writes_user : (i q : ℕ) → i ≤ n → q ≡ 3 + 2 * i → Booted (WritesUser i) q
    on_reads_group : (k q : ℕ) → (1 ≤ k) × (k ≤ m) → q ≡ 2 + 2 * n + 2 * k → Booted (ReadsGroup k) q
    on_writes_group : (k q : ℕ) → (1 ≤ k) × (k ≤ m) → q ≡ 3 + 2 * n + 2 * k → Booted (WritesGroup k) q
    on_reads_own : (q : ℕ) → q ≡ 4 + 2 * n + 2 * m → Booted (ReadsProcess []) q
    on_writes_own : (q : ℕ) → q ≡ 5 + 2 * n + 2 * m → Booted (WritesProcess []) q

  -- a number that boot gave is below those of the other names
  booted_below : (c : CategoryName) (q : ℕ) → Booted c q → IsMade (6 + 2 * n + 2 * m) q
  booted_below c p (on_boot q e) = (omega (arith, e), omega (arith, e))
  booted_below c p (on_reads_user i q r e) = (omega (arith, e, r), omega (arith, e, r))
  booted_below c p (on_writes_user i q r e) = (omega (arith, e, r), omega (arith, e, r))
  booted_below c p (on_reads_group k q r e) = (omega (arith, e, r.0, r.1), omega (arith, e, r.0, r.1))
  booted_below c p (on_writes_group k q r e) = (omega (arith, e, r.0, r.1), omega (arith, e, r.0, r.1))
  booted_below c p (on_reads_own q e) = (omega (arith, e), omega (arith, e))
  booted_below c p (on_writes_own q e) = (omega (arith, e), omega (arith, e))

  -- each number that boot gave was given to one name
  one_booted : (c d : CategoryName) (q : ℕ) → Booted c q → Booted d q → c ≡ d
  one_booted c d p (on_boot q e) (on_boot o u) = refl
  one_booted c d p (on_boot q e) (on_reads_user j o t u) = absurd (omega (arith, e, u, t))
  one_booted c d p (on_boot q e) (on_writes_user j o t u) = absurd (omega (arith, e, u, t))
  one_booted c d p (on_boot q e) (on_reads_group h o t u) = absurd (omega (arith, e, u, t.0, t.1))
  one_booted c d p (on_boot q e) (on_writes_group h o t u) = absurd (omega (arith, e, u, t.0, t.1))
  one_booted c d p (on_boot q e) (on_reads_own o u) = absurd (omega (arith, e, u))
  one_booted c d p (on_boot q e) (on_writes_own o u) = absurd (omega (arith, e, u))
  one_booted c d p (on_reads_user i q r e) (on_boot o u) = absurd (omega (arith, e, u, r))
  one_booted c d p (on_reads_user i q r e) (on_reads_user j o t u) = ap ReadsUser (omega (arith, e, u, r, t))
  one_booted c d p (on_reads_user i q r e) (on_writes_user j o t u) = absurd (omega (arith, e, u, r, t))
  one_booted c d p (on_reads_user i q r e) (on_reads_group h o t u) = absurd (omega (arith, e, u, r, t.0, t.1))
  one_booted c d p (on_reads_user i q r e) (on_writes_group h o t u) = absurd (omega (arith, e, u, r, t.0, t.1))
  one_booted c d p (on_reads_user i q r e) (on_reads_own o u) = absurd (omega (arith, e, u, r))
  one_booted c d p (on_reads_user i q r e) (on_writes_own o u) = absurd (omega (arith, e, u, r))
  one_booted c d p (on_writes_user i q r e) (on_boot o u) = absurd (omega (arith, e, u, r))
  one_booted c d p (on_writes_user i q r e) (on_reads_user j o t u) = absurd (omega (arith, e, u, r, t))
  one_booted c d p (on_writes_user i q r e) (on_writes_user j o t u) = ap WritesUser (omega (arith, e, u, r, t))
  one_booted c d p (on_writes_user i q r e) (on_reads_group h o t u) = absurd (omega (arith, e, u, r, t.0, t.1))
  one_booted c d p (on_writes_user i q r e) (on_writes_group h o t u) = absurd (omega (arith, e, u, r, t.0, t.1))
  one_booted c d p (on_writes_user i q r e) (on_reads_own o u) = absurd (omega (arith, e, u, r))
  one_booted c d p (on_writes_user i q r e) (on_writes_own o u) = absurd (omega (arith, e, u, r))
  one_booted c d p (on_reads_group k q r e) (on_boot o u) = absurd (omega (arith, e, u, r.0, r.1))
  one_booted c d p (on_reads_group k q r e) (on_reads_user j o t u) = absurd (omega (arith, e, u, r.0, r.1, t))
  one_booted c d p (on_reads_group k q r e) (on_writes_user j o t u) = absurd (omega (arith, e, u, r.0, r.1, t))
  one_booted c d p (on_reads_group k q r e) (on_reads_group h o t u) = ap ReadsGroup (omega (arith, e, u, r.0, r.1, t.0, t.1))
  one_booted c d p (on_reads_group k q r e) (on_writes_group h o t u) = absurd (omega (arith, e, u, r.0, r.1, t.0, t.1))
  one_booted c d p (on_reads_group k q r e) (on_reads_own o u) = absurd (omega (arith, e, u, r.0, r.1))
  one_booted c d p (on_reads_group k q r e) (on_writes_own o u) = absurd (omega (arith, e, u, r.0, r.1))
  one_booted c d p (on_writes_group k q r e) (on_boot o u) = absurd (omega (arith, e, u, r.0, r.1))
  one_booted c d p (on_writes_group k q r e) (on_reads_user j o t u) = absurd (omega (arith, e, u, r.0, r.1, t))
  one_booted c d p (on_writes_group k q r e) (on_writes_user j o t u) = absurd (omega (arith, e, u, r.0, r.1, t))
  one_booted c d p (on_writes_group k q r e) (on_reads_group h o t u) = absurd (omega (arith, e, u, r.0, r.1, t.0, t.1))
  one_booted c d p (on_writes_group k q r e) (on_writes_group h o t u) = ap WritesGroup (omega (arith, e, u, r.0, r.1, t.0, t.1))
  one_booted c d p (on_writes_group k q r e) (on_reads_own o u) = absurd (omega (arith, e, u, r.0, r.1))
  one_booted c d p (on_writes_group k q r e) (on_writes_own o u) = absurd (omega (arith, e, u, r.0, r.1))
  one_booted c d p (on_reads_own q e) (on_boot o u) = absurd (omega (arith, e, u))
  one_booted c d p (on_reads_own q e) (on_reads_user j o t u) = absurd (omega (arith, e, u, t))
  one_booted c d p (on_reads_own q e) (on_writes_user j o t u) = absurd (omega (arith, e, u, t))
  one_booted c d p (on_reads_own q e) (on_reads_group h o t u) = absurd (omega (arith, e, u, t.0, t.1))
  one_booted c d p (on_reads_own q e) (on_writes_group h o t u) = absurd (omega (arith, e, u, t.0, t.1))
  one_booted c d p (on_reads_own q e) (on_reads_own o u) = refl
  one_booted c d p (on_reads_own q e) (on_writes_own o u) = absurd (omega (arith, e, u))
  one_booted c d p (on_writes_own q e) (on_boot o u) = absurd (omega (arith, e, u))
  one_booted c d p (on_writes_own q e) (on_reads_user j o t u) = absurd (omega (arith, e, u, t))
  one_booted c d p (on_writes_own q e) (on_writes_user j o t u) = absurd (omega (arith, e, u, t))
  one_booted c d p (on_writes_own q e) (on_reads_group h o t u) = absurd (omega (arith, e, u, t.0, t.1))
  one_booted c d p (on_writes_own q e) (on_writes_group h o t u) = absurd (omega (arith, e, u, t.0, t.1))
  one_booted c d p (on_writes_own q e) (on_reads_own o u) = absurd (omega (arith, e, u))
  one_booted c d p (on_writes_own q e) (on_writes_own o u) = refl

module _ (accounts : Accounts) where
  abbrev n : ℕ
  n = length accounts.users

  abbrev m : ℕ
  m = length accounts.groups

  revealed : (b : Bool) (x q : ℕ) → cond b (Some x) None ≡ Some q → (b ≡ true) × (q ≡ x)
  revealed true x q e = (refl, sym (same_Some x q e))
  revealed false x q e = absurd (none-some q e)

  in_range : (k : ℕ) → (nat_le 1 k && nat_le k m) ≡ true → (1 ≤ k) × (k ≤ m)
  in_range k e =
      let low : nat_le 1 k ≡ true = first_of (nat_le 1 k) (nat_le k m) e in
      let high : nat_le k m ≡ true = second_of (nat_le 1 k) (nat_le k m) e in
      (grind (arith, nat_tests, low), grind (arith, nat_tests, high))

  booted_is : (c : CategoryName) (q : ℕ) → boot_category accounts c ≡ Some q → Booted n m c q
  booted_is OfBoot q e = on_boot q (sym (same_Some 1 q e))
  booted_is (ReadsUser i) q e =
      let t = revealed (nat_le i n) (2 + 2 * i) q e in let le : nat_le i n
      ≡ true = t.0 in on_reads_user i q (grind (arith, nat_tests, le)) t.1
  booted_is (WritesUser i) q e =
      let t = revealed (nat_le i n) (3 + 2 * i) q e in let le : nat_le i n
      ≡ true = t.0 in on_writes_user i q (grind (arith, nat_tests, le)) t.1
  booted_is (ReadsGroup k) q e = let t = revealed (nat_le 1 k && nat_le k m) (2 + 2 * n + 2 * k) q e in on_reads_group k q (in_range k t.0) t.1
  booted_is (WritesGroup k) q e = let t = revealed (nat_le 1 k && nat_le k m) (3 + 2 * n + 2 * k) q e in on_writes_group k q (in_range k t.0) t.1
  booted_is (ReadsProcess []) q e = on_reads_own q (sym (same_Some (4 + 2 * n + 2 * m) q e))
  booted_is (ReadsProcess (x ∷ p)) q e = absurd (none-some q e)
  booted_is (WritesProcess []) q e = on_writes_own q (sym (same_Some (5 + 2 * n + 2 * m) q e))
  booted_is (WritesProcess (x ∷ p)) q e = absurd (none-some q e)
  booted_is (OfJob job) q e = absurd (none-some q e)

  -- the naming at the start: boot's numbers, and above them one for each other name
  abbrev pub start_category : Categories
  start_category c = unwrap_or (boot_category accounts c) (6 + 2 * n + 2 * m + code c)

  pub start_as_made : (c : CategoryName) (q : ℕ) → boot_category accounts c ≡ Some q → start_category c ≡ q
  start_as_made c q e = ap (λ (o : Option ℕ). unwrap_or o (6 + 2 * n + 2 * m + code c)) e

  pub start_made : (c : CategoryName) (q : ℕ) → boot_category accounts c ≡ Some q → IsMade (6 + 2 * n + 2 * m) (start_category c)
  start_made c q e = subst (IsMade (6 + 2 * n + 2 * m)) (sym (start_as_made c q e)) (booted_below n m c q (booted_is c q e))

  pub start_different : AreDifferent start_category
  start_different c d e = by (boot_category accounts c) (boot_category accounts d) refl refl e
    where
      by : (a b : Option ℕ) → boot_category accounts c ≡ a → boot_category accounts d ≡ b
          → unwrap_or a (6 + 2 * n + 2 * m + code c) ≡ unwrap_or b (6 + 2 * n + 2 * m + code d) → c ≡ d
      by (Some q) (Some r) at_c at_d e = one_booted n m c d q (booted_is c q at_c) (booted_is d q (at_d ∙ ap Some (sym e)))
      by (Some q) None at_c at_d e = let low = (booted_below n m c q (booted_is c q at_c)).1 in absurd (omega (arith, low, e))
      by None (Some r) at_c at_d e = let low = (booted_below n m d r (booted_is d r at_d)).1 in absurd (omega (arith, low, e))
      by None None at_c at_d e = one_code c d (omega (arith, e))
