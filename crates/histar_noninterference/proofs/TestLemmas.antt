-- Facts about tests and chains of refusals.
use Rattle.std.specs.Prelude.{Bool, List, None, Option, Some, [], false, is_some, refl, true, ℕ, ◌++◌, ◌||◌, ◌∷◌, ◌≡◌}
use Rattle.std.proofs.Common.{ap, inl, inr, subst, sym, ◌∙◌}
use Rattle.std.proofs.lemmas.Bool.{and_parts, true≢false}
use Rattle.std.specs.Cmp.Lexicographic.{pointwise}
use Rattle.std.specs.List.{list_all}
use Rattle.histar_base.specs.Refusals.{unless, ◌orelse◌}
use Rattle.histar_base.specs.Paths.{same, same_path}
use Rattle.histar_flat.specs.PathOrder.{is_under}
use Rattle.histar_flat.specs.Accounts.{has}
use Rattle.histar_flat.specs.Words.{Path, ProcName}
use Rattle.histar_flat.proofs.FileLemmas.{Found, same_name_found, same_path_found}
use Rattle.histar_flat.proofs.Under.{under_child, under_inner, under_itself}

-- names that a test finds the same are equal
pub is_same : (m n : List ℕ) → same m n ≡ true → m ≡ n
is_same m n h = elim (same_name_found m n) [ inl t ↦ t.1 | inr t ↦ absurd (true≢false (sym h ∙ t.0)) ]

-- paths that a test finds the same are equal
pub is_same_path : (q r : Path) → same_path q r ≡ true → q ≡ r
is_same_path q r h = elim (same_path_found q r) [ inl t ↦ t.1 | inr t ↦ absurd (true≢false (sym h ∙ t.0)) ]

-- if one of two holds and the second doesn't, the first does
pub left_holds : (a b : Bool) → b ≡ false → (a || b) ≡ true → a ≡ true
left_holds true b i e = refl
left_holds false b i e = absurd (true≢false (sym e ∙ i))

-- nothing is not something
pub none_some : {A : Type 0} (x : A) → None ≡ Some x → ⊥
none_some x e = cc

module _ {A : Type 0} (equal : A → A → Bool) (found : (p q : List A) → Found (pointwise equal p q) p q) where
  -- if an entry lies below an entry, its directory lies below that one's directory
  pub parent_under : (p q : List A) (n k : A) → is_under equal (n ∷ p) (k ∷ q) ≡ true → is_under equal p q ≡ true
  parent_under p [] n k h = elim (found (n ∷ p) (k ∷ [])) [
    | inl r ↦ let tails : p ≡ [] = cc in subst (λ x. is_under equal p x ≡ true) tails (under_itself equal found p)
    | inr r ↦ absurd (true≢false (sym (sym (ap (λ b. b || false) r.0) ∙ h)))
  ]
  parent_under p (m ∷ q) n k h = elim (found (n ∷ p) (k ∷ m ∷ q)) [
    | inl r ↦ let tails : p ≡ m ∷ q = cc in subst (λ x. is_under equal p x ≡ true) tails (under_itself equal found p)
    | inr r ↦ under_child equal found p q m (parent_under p q n m (under_inner equal found (n ∷ p) (m ∷ q) k r.0 h))
  ]

  -- lying below is transitive
  pub under_all : (p q r : List A) → is_under equal p q ≡ true → is_under equal q r ≡ true → is_under equal p r ≡ true
  under_all p q [] u v = elim (found q []) [
    | inl i ↦ subst (λ z. is_under equal p z ≡ true) i.1 u
    | inr i ↦ absurd (true≢false (sym v ∙ i.0))
  ]
  under_all p q (x ∷ r) u v = elim (found q (x ∷ r)) [
    | inl i ↦ subst (λ z. is_under equal p z ≡ true) i.1 u
    | inr i ↦ under_child equal found p r x (under_all p q r u (under_inner equal found q r x i.0 v))
  ]

-- if all of a list pass a test, each member passes it
pub all_of : (test : ProcName → Bool) (jobs : List ProcName) (job : ProcName) → list_all test jobs ≡ true → has jobs job ≡ true
    → test job ≡ true
all_of test [] job h i = absurd (true≢false (sym i))
all_of test (k ∷ jobs) job h i =
    let parts = and_parts (test k) (list_all test jobs) h in
    elim (same_name_found job k) [
      | inl t ↦ subst (λ x. test x ≡ true) (sym t.1) parts.0
      | inr t ↦ all_of test jobs job parts.1 (sym (ap (λ b. b || has jobs job) t.0) ∙ i)
    ]

-- a list with another name at its end contains what it contained
pub has_longer : (jobs : List ProcName) (last job : ProcName) → same job last ≡ false → has (jobs ++ last ∷ []) job ≡ has jobs job
has_longer [] last job h = ap (λ b. b || false) h
has_longer (k ∷ jobs) last job h = ap (λ b. same job k || b) (has_longer jobs last job h)

module _ {E : Type 0} where
  -- later refusals count only if there is no earlier one
  pub guarded : (a b x y : Option E) → a ≡ b → (a ≡ None → x ≡ y) → (a orelse x) ≡ (b orelse y)
  guarded None None x y e h = h refl
  guarded None (Some c) x y e h = absurd (cc)
  guarded (Some c) None x y e h = absurd (cc)
  guarded (Some c) (Some d) x y e h = e

  -- a chain whose first part refuses refuses
  pub stops_first : (a b : Option E) → is_some a ≡ true → is_some (a orelse b) ≡ true
  stops_first None b h = absurd (true≢false (sym h))
  stops_first (Some e) b h = refl

  -- a chain whose later part refuses refuses
  pub stops_later : (a b : Option E) → is_some b ≡ true → is_some (a orelse b) ≡ true
  stops_later None b h = h
  stops_later (Some e) b h = refl

  -- a test that fails refuses
  pub failed : (b : Bool) (e : E) → b ≡ false → is_some (unless b e) ≡ true
  failed true e h = absurd (true≢false h)
  failed false e h = refl

  -- a chain that refuses doesn't pass
  pub not_passed : (a : Option E) → is_some a ≡ true → a ≡ None → ⊥
  not_passed a h n = true≢false (sym h ∙ ap is_some n)
