-- What a map of paths answers after a change.
use Rattle.std.specs.Prelude.{◌≡◌, ◌≢◌, Bool, true, false, cond, ℕ, List, Some, None, refl}
use Rattle.std.proofs.Common.{◌⊎◌, ap, inl, inr, sym, ◌∙◌}
use Rattle.std.specs.Ordering.{eq_by_cmp}
use Rattle.std.specs.Cmp.Lexicographic.{pointwise_decides, bytes_decides}
use Rattle.std.specs.FinMap.Entries.{find-put, find-where_key, same_entries}
use Rattle.std.proofs.lemmas.Bool.{true≢false}
use Rattle.histar_flat.specs.Words.{Name, Path}
use Rattle.histar_base.specs.Paths.{path_cmp, same, same_path}
use Rattle.histar_base.proofs.PathLaws.{path_cmp_exact, path_cmp_ties, path_cmp_total}
use Rattle.histar_flat.specs.Files.{Files, get, insert, keep}

-- what a test for equality has found: it is true and the things are equal, or false and they differ
abbrev pub Found : {A : Type 0} → Bool → A → A → Type 0
Found answer x y = ((answer ≡ true) × (x ≡ y)) ⊎ ((answer ≡ false) × (x ≢ y))

found : {A : Type 0} (answer : Bool) (x y : A) → (answer ≡ true → x ≡ y) × (x ≡ y → answer ≡ true) → Found answer x y
found true x y d = inl (refl, d.0 refl)
found false x y d = inr (refl, λ e. absurd (true≢false (sym (d.1 e))))

-- the test of names decides equality
pub same_name_found : (m n : List ℕ) → Found (same m n) m n
same_name_found m n = found (same m n) m n (bytes_decides m n)

-- the test of paths decides equality
pub same_path_found : (q r : Path) → Found (same_path q r) q r
same_path_found q r = found (same_path q r) q r (pointwise_decides bytes_decides q r)

-- a name is the same as itself
pub same_itself : (n : Name) → same n n ≡ true
same_itself n = (bytes_decides n n).1 refl

-- two paths tie where they are the same
pub ties : (q r : Path) → eq_by_cmp path_cmp q r ≡ same_path q r
ties q r = sym (path_cmp_ties q r)

module _ {X : Type 0} where
  -- after a change at a path, that path has the new value, and each other what it had
  pub get-insert : (m : Files X) (k : Path) (x : X) (q : Path) → get (insert m k x) q ≡ cond (same_path q k) (Some x) (get m q)
  get-insert m k x q = find-put path_cmp path_cmp_total q k x m.entries ∙ ap (λ b. cond b (Some x) (get m q)) (ties q k)

  -- a change at another path leaves what is at this one
  pub get_other : (m : Files X) (k : Path) (x : X) (q : Path) → q ≢ k → get (insert m k x) q ≡ get m q
  get_other m k x q n = elim (same_path_found q k) [
    | inl e ↦ absurd (n e.1)
    | inr d ↦ get-insert m k x q ∙ ap (λ b. cond b (Some x) (get m q)) d.0
  ]

  -- the changed path has the new value
  pub get_new : (m : Files X) (k : Path) (x : X) → get (insert m k x) k ≡ Some x
  get_new m k x = get-insert m k x k ∙ ap (λ b. cond b (Some x) (get m k)) ((pointwise_decides bytes_decides k k).1 refl)

  -- what is at a path that passes the test is kept
  pub get-keep : (m : Files X) (test : Path → Bool) (q : Path) → get (keep m test) q ≡ cond (test q) (get m q) None
  get-keep m test q = find-where_key path_cmp test q (λ x e. ap test (sym (path_cmp_exact q x e))) m.entries

  -- maps with the same at each path have the same entries
  pub same_lists : (m n : Files X) → ((q : Path) → get m q ≡ get n q) → m.entries ≡ n.entries
  same_lists m n h = same_entries path_cmp path_cmp_total path_cmp_exact m.entries n.entries m.sorted n.sorted h
