-- The test of names of categories, and what is among numbers and among names.
use Rattle.std.proofs.Common.{◌≡◌, ◌≢◌, ℕ, zero, suc, ◌==◌, ◌⊎◌, inl, inr, Bool, true, false, ◌||◌, List, [], ◌∷◌, ◌++◌, refl, sym, ap, ◌∙◌}
use Rattle.std.specs.Prelude.{map}
use Rattle.std.specs.List.{list_all}
use Rattle.std.proofs.lemmas.Bool.{and_from, and_left, and_right, or_left, or_right}
use Rattle.std.proofs.lemmas.Bool.Decides.{eqb_tells}
use Rattle.std.proofs.Math.Bool.{or_assoc}
use mathlib.Core.Bool.{true≢false}
use Rattle.histar_flat.specs.Words.{ProcName}
use Rattle.histar_base.specs.Paths.{same}
use Rattle.histar_flat.proofs.FileLemmas.{same_name_found}
use Rattle.histar_container.proofs.Addresses.{TestsEquality}
use Rattle.histar_flat.specs.Accounts.{has}
use Rattle.histar_refinement.specs.Categories.{CategoryName, Categories, AreDifferent, split_category, same_category, among}
use Rattle.histar_refinement.specs.Categories.CategoryName.{OfBoot, ReadsUser, WritesUser, ReadsGroup, WritesGroup, ReadsProcess, WritesProcess}
use Rattle.histar_refinement.specs.Categories.CategoryName.{OfJob}
use Rattle.histar_layout.proofs.Members.{is_in, all_mapped, all_same, equal_itself}

-- the name of a kind, with its number or its name
join_category : ℕ → List ℕ → CategoryName
join_category zero more = OfBoot
join_category (suc zero) [] = OfBoot
join_category (suc zero) (i ∷ more) = ReadsUser i
join_category (suc (suc zero)) [] = OfBoot
join_category (suc (suc zero)) (i ∷ more) = WritesUser i
join_category (suc (suc (suc zero))) [] = OfBoot
join_category (suc (suc (suc zero))) (k ∷ more) = ReadsGroup k
join_category (suc (suc (suc (suc zero)))) [] = OfBoot
join_category (suc (suc (suc (suc zero)))) (k ∷ more) = WritesGroup k
join_category (suc (suc (suc (suc (suc zero))))) p = ReadsProcess p
join_category (suc (suc (suc (suc (suc (suc zero)))))) p = WritesProcess p
join_category (suc (suc (suc (suc (suc (suc (suc kind))))))) job = OfJob job

-- a name that was split comes back
join_split : (c : CategoryName) → join_category (split_category c).0 (split_category c).1 ≡ c
unfolding join_category
join_split OfBoot = refl
join_split (ReadsUser i) = refl
join_split (WritesUser i) = refl
join_split (ReadsGroup k) = refl
join_split (WritesGroup k) = refl
join_split (ReadsProcess p) = refl
join_split (WritesProcess p) = refl
join_split (OfJob job) = refl

-- names of one kind with one number or one name are one
pub same_split : (c d : CategoryName) → (split_category c).0 ≡ (split_category d).0 → (split_category c).1 ≡ (split_category d).1 → c ≡ d
same_split c d kind rest = sym (join_split c) ∙ (λ i. join_category (kind i) (rest i)) ∙ join_split d

-- the test of names of categories decides equality
pub category_tests_equality : TestsEquality same_category
category_tests_equality x y = elim (eqb_tells (split_category x).0 (split_category y).0) [
  | inl kind ↦ elim (same_name_found (split_category x).1 (split_category y).1) [
    | inl rest ↦ inl (and_from _ _ kind.0 rest.0, sym (join_split x) ∙ (λ i. join_category (kind.1 i) (rest.1 i)) ∙ join_split y)
    | inr rest ↦ inr (and_right _ _ rest.0, λ same. rest.1 (ap (λ z. (split_category z).1) same))
  ]
  | inr kind ↦ inr (and_left _ _ kind.0, λ same. kind.1 (ap (λ z. (split_category z).0) same))
]

pub same_itself : (c : CategoryName) → same_category c c ≡ true
same_itself c = elim (category_tests_equality c c) [ inl e ↦ e.0 | inr e ↦ absurd (e.1 refl) ]

pub same_revealed : (c d : CategoryName) → same_category c d ≡ true → c ≡ d
same_revealed c d e = elim (category_tests_equality c d) [ inl k ↦ k.1 | inr k ↦ absurd (true≢false (sym e ∙ k.0)) ]

-- what is among names before others
pub among-append : (xs ys : List CategoryName) (c : CategoryName) → among (xs ++ ys) c ≡ (among xs c || among ys c)
among-append [] ys c = refl
among-append (x ∷ xs) ys c = ap (λ b. same_category c x || b) (among-append xs ys c) ∙ sym (or_assoc (same_category c x) (among xs c) (among ys c))

-- among names that a function gives, each of which differs from this one
pub among_none : {A : Type 0} (f : A → CategoryName) (c : CategoryName) → ((x : A) → same_category c (f x) ≡ false)
    → (xs : List A) → among (map f xs) c ≡ false
among_none f c other [] = refl
among_none f c other (x ∷ xs) = rw (other x, among_none f c other xs) refl

-- among the names of jobs
pub among_jobs : (jobs : List ProcName) (job : ProcName) → among (map OfJob jobs) (OfJob job) ≡ has jobs job
among_jobs [] job = refl
among_jobs (j ∷ jobs) job = ap (λ b. same job j || b) (among_jobs jobs job)

-- two tests of numbers joined by names
module _ (category : Categories) (different : AreDifferent category) where
  -- the numbers of two names are equal exactly where the names are the same
  pub same_number : (c d : CategoryName) → (category c == category d) ≡ same_category c d
  same_number c d = elim (category_tests_equality c d) [
    | inl e ↦ ap (λ x. category c == category x) (sym e.1) ∙ equal_itself (category c) ∙ sym e.0
    | inr e ↦ by (eqb_tells (category c) (category d)) e.1 ∙ sym e.0
  ]
    where
      by : (((category c == category d) ≡ true) × (category c ≡ category d))
          ⊎ (((category c == category d) ≡ false) × (category c ≢ category d)) → c ≢ d
          → (category c == category d) ≡ false
      by (inl e) other = absurd (other (different c d e.1))
      by (inr e) other = e.0

  -- a name's number is among the numbers of names exactly where the name is among these
  pub is_in_names : (names : List CategoryName) (c : CategoryName) → is_in (map category names) (category c) ≡ among names c
  is_in_names [] c = refl
  is_in_names (x ∷ names) c = (λ i. same_number c x i || is_in_names names c i)

  -- a test of all numbers of names
  pub all_names : (test : ℕ → Bool) (other : CategoryName → Bool) → ((c : CategoryName) → test (category c) ≡ other c)
      → (names : List CategoryName) → list_all test (map category names) ≡ list_all other names
  all_names test other same names = all_mapped category test names ∙ all_same (λ c. test (category c)) other same names

-- a number among those of names is the number of one of them
pub named_in : (category : Categories) (names : List CategoryName) (q : ℕ) → is_in (map category names) q ≡ true
    → (c : CategoryName) × (q ≡ category c) × (among names c ≡ true)
named_in category [] q e = absurd (true≢false (sym e))
named_in category (x ∷ names) q e = elim (eqb_tells q (category x)) [
  | inl k ↦ (x, k.1, or_left (same_category x x) (among names x) (same_itself x))
  | inr k ↦
      let later = named_in category names q (sym (ap (λ b. b || is_in (map category names) q) k.0) ∙ e) in
      (later.0, later.1, or_right (same_category later.0 x) (among names later.0) later.2)
]
