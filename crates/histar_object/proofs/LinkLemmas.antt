-- Sets of numbers, by the lists of their keys.
use Rattle.std.proofs.Common.{◌≡◌, ◌<◌, ◌≤◌, ℕ, Bool, true, false, cond, List, [], ◌++◌, refl, sym, ap, subst, ◌∙◌, arith}
use Rattle.std.proofs.lemmas.List.{append-nil}
use Rattle.std.proofs.lemmas.Map.Keys.{IsDistinct-from_sorted}
use mathlib.Core.Bool.{true≢false}
use Rattle.std.specs.Prelude.{◌||◌, ◌&&◌, not, nat_eq}
use Rattle.std.proofs.lemmas.Bool.Decides.{nat_tests}
use Rattle.std.specs.List.{list_any, IsDistinct}
use Rattle.std.specs.List.Sorted.{IsStrictlySortedBy}
use Rattle.std.specs.Ordering.{nat_cmp, eq_by_cmp}
use Rattle.std.specs.Cmp.{nat_cmp_total, unsigned_tied, nat_eq_equiv}
use Rattle.std.specs.FinSet as set
use Rattle.std.specs.FinSet.{nat_cmp-IsAntisymmetric}
use Rattle.std.specs.BTreeMap.{is_at}
use Rattle.histar_object.specs.Links.{Numbers, AreUpTo, IsListOf, AppendsAll}

-- a number is listed
abbrev pub is_listed : List ℕ → ℕ → Bool
is_listed ks q = list_any (is_at (nat_cmp q)) ks

-- a set contains exactly the listed numbers
pub contains_listed : (ks : List ℕ) (q : ℕ) → set.contains (set.from_list {R = nat_cmp} ks) q ≡ is_listed ks q
contains_listed ks q = set.contains-from_list nat_cmp_total ks q

-- a number above all of a set is not in it
pub none_above : (links : Numbers) (newest q : ℕ) → AreUpTo newest links → newest < q → set.contains links q ≡ false
none_above links newest q up_to above = by (set.contains links q) refl
  where
    by : (b : Bool) → set.contains links q ≡ b → b ≡ false
    by false e = refl
    by true e = let most = up_to q e in absurd (omega (arith, most, above))

-- nothing is above the greatest of the old numbers and a new one
pub up_to_inserted : (links : Numbers) (n newest new : ℕ) → AreUpTo newest links → newest ≤ new → n ≤ new → AreUpTo new (set.insert links n)
up_to_inserted links n newest new up_to old own q there = by (eq_by_cmp nat_cmp q n) refl
  where
    equal : (a b : ℕ) → nat_eq a b ≡ true → a ≡ b
    equal a b is = grind (arith, nat_tests, is)

    by : (b : Bool) → eq_by_cmp nat_cmp q n ≡ b → q ≤ new
    by true e = let same : q ≡ n = equal q n (sym (unsigned_tied q n) ∙ e) in omega (arith, same, own)
    by false e =
        let most = up_to q (sym (λ i. e i || set.contains links q) ∙ sym (set.contains-insert nat_cmp_total links n q) ∙ there) in
        omega (arith, most, old)

-- no number of a set with no key is above any number
pub up_to_none : (ks : List ℕ) (newest : ℕ) → ks ≡ [] → AreUpTo newest (set.from_list ks)
up_to_none ks newest none q there = absurd (true≢false (sym there ∙ contains_listed ks q ∙ ap (λ k. is_listed k q) none))

-- what is left is not above it
pub up_to_removed : (links : Numbers) (n newest : ℕ) → AreUpTo newest links → AreUpTo newest (set.remove links n)
up_to_removed links n newest up_to q there =
    up_to q (second_true (not (eq_by_cmp nat_cmp q n)) (set.contains links q) (sym (set.contains-remove nat_cmp_total links n q) ∙ there))
  where
    second_true : (a b : Bool) → (a && b) ≡ true → b ≡ true
    second_true true b e = e
    second_true false b e = absurd (true≢false (sym e))

-- whether two numbers tie does not depend on which is named first
tied_back : (n q : ℕ) → is_at (nat_cmp n) q ≡ eq_by_cmp nat_cmp q n
tied_back n q = unsigned_tied n q ∙ sym (unsigned_tied q n ∙ nat_eq_equiv.symm q n)

either : (b x : Bool) → cond b true x ≡ (b || x)
either true x = refl
either false x = refl

neither : (b x : Bool) → cond b false x ≡ (not b && x)
neither true x = refl
neither false x = refl

-- one more number in the list is one more in the set
pub inserted : (old new : List ℕ) (n : ℕ)
    → ((q : ℕ) → is_listed new q ≡ cond (is_at (nat_cmp n) q) true (is_listed old q))
    → set.from_list {R = nat_cmp} new ≡ set.insert (set.from_list old) n
inserted old new n updates = set.same_set nat_cmp_total nat_cmp-IsAntisymmetric _ _ (λ q.
    contains_listed new q ∙ updates q ∙ either (is_at (nat_cmp n) q) (is_listed old q)
    ∙ (λ i. tied_back n q i || sym (contains_listed old q) i)
    ∙ sym (set.contains-insert nat_cmp_total (set.from_list old) n q))

-- one number less in the list is one less in the set
pub removed : (old new : List ℕ) (n : ℕ)
    → ((q : ℕ) → is_listed new q ≡ cond (is_at (nat_cmp n) q) false (is_listed old q))
    → set.from_list {R = nat_cmp} new ≡ set.remove (set.from_list old) n
removed old new n updates = set.same_set nat_cmp_total nat_cmp-IsAntisymmetric _ _ (λ q.
    contains_listed new q ∙ updates q ∙ neither (is_at (nat_cmp n) q) (is_listed old q)
    ∙ (λ i. not (tied_back n q i) && sym (contains_listed old q) i)
    ∙ sym (set.contains-remove nat_cmp_total (set.from_list old) n q))

-- keys that rise list their set
pub lists_keys : (ks : List ℕ) → IsStrictlySortedBy nat_cmp ks → IsListOf ks (set.from_list ks)
lists_keys ks rise = record {
  members = λ q. ap (λ (t : ℕ → Bool). list_any t ks) (sym (λ i y. unsigned_tied q y i)) ∙ sym (set.contains-from_list nat_cmp_total ks q);
  once = subst (λ (e : ℕ → ℕ → Bool). IsDistinct e ks) (λ i x y. unsigned_tied x y i) (IsDistinct-from_sorted nat_cmp ks rise);
}

-- a list to which all keys of a set were appended
pub appended : (ks all left old new : List ℕ) (links : Numbers) → set.from_list ks ≡ links → all ≡ ks
    → IsStrictlySortedBy nat_cmp ks → left ≡ [] → new ++ left ≡ old ++ all → AppendsAll links old new
appended ks all left old new links is all_is rise done e = record {
  added = ks;
  is = sym (append-nil new) ∙ ap (λ (l : List ℕ). new ++ l) (sym done) ∙ e ∙ ap (λ (l : List ℕ). old ++ l) all_is;
  listed = subst (IsListOf ks) is (lists_keys ks rise);
}
