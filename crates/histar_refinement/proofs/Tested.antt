-- The tests of the kernel on labels that are given by the names of their categories.
use Rattle.std.proofs.Common.{◌≡◌, ℕ, true, false, ◌&&◌, ◌||◌, List, ◌++◌, sym, ap, ◌∙◌, subst}
use Rattle.std.specs.Prelude.{map}
use Rattle.std.specs.List.{list_all}
use Rattle.histar_label.specs.Levels.{is_below, is_below_raised, is_made, has_star}
use Rattle.histar_layout.specs.Labelling.{cleared_at}
use Rattle.histar_refinement.specs.Categories.{CategoryName, Categories, AreDifferent, IsMade, among}
use Rattle.histar_refinement.specs.Guards.{Guard, Rights, guard_label, rights_label, rights_clearance}
use Rattle.histar_layout.proofs.Members.{is_in, AreApart}
use Rattle.histar_refinement.proofs.CategoryTests.{is_in_names, all_names, named_in}
use Rattle.histar_refinement.proofs.Levelled.{observes_guarded, below_guarded, guarded_cleared, cleared_exactly, below_owning, owning_cleared}
use Rattle.histar_refinement.proofs.Levelled.{cleared_below, guarded_owns_nothing, guarded_made, owning_made, cleared_made}

-- no name is in both lists
abbrev pub NamesApart : List CategoryName → List CategoryName → Type 0
NamesApart names others = (c : CategoryName) → among names c ≡ true → among others c ≡ false

module _ (category : Categories) (different : AreDifferent category) where
  -- then no number is in both lists
  numbers_apart : (names others : List CategoryName) → NamesApart names others → AreApart (map category names) (map category others)
  numbers_apart names others apart q e =
      let there = named_in category names q e in
      ap (is_in (map category others)) there.1 ∙ is_in_names category different others there.0 ∙ apart there.0 there.2

  -- rights observe what is guarded where each secret category is owned or at 3
  pub observes_by_names : (g : Guard) (r : Rights) → NamesApart g.secret g.written
      → is_below_raised (guard_label category g) (rights_label category r) ≡ list_all (λ c. among r.owned c || among r.tainted c) g.secret
  observes_by_names g r apart =
      observes_guarded (map category g.secret) (map category g.written) (map category r.owned) (map category r.tainted)
      (numbers_apart g.secret g.written apart)
      ∙ all_names category different _ (λ c. among r.owned c || among r.tainted c)
      (λ c i. is_in_names category different r.owned c i || is_in_names category different r.tainted c i) g.secret

  -- rights are below what is guarded where what they have at 3 is secret there, and what is written is owned
  pub below_by_names : (g : Guard) (r : Rights) → NamesApart r.tainted g.written
      → is_below (rights_label category r) (guard_label category g) ≡ (list_all (among g.secret) r.tainted && list_all (among r.owned) g.written)
  below_by_names g r apart =
      below_guarded (map category g.secret) (map category g.written) (map category r.owned) (map category r.tainted)
      (numbers_apart r.tainted g.written apart)
      ∙ (λ i. all_names category different (is_in (map category g.secret)) (among g.secret) (is_in_names category different g.secret) r.tainted i
      && all_names category different (is_in (map category r.owned)) (among r.owned) (is_in_names category different r.owned) g.written i)

  -- what is guarded is below a clearance that has each secret category
  pub cleared_by_names : (g : Guard) (r : Rights) → list_all (among (r.owned ++ r.tainted)) g.secret ≡ true
      → is_below (guard_label category g) (rights_clearance category r) ≡ true
  cleared_by_names g r all = guarded_cleared (map category g.secret) (map category g.written) (map category (r.owned ++ r.tainted))
      (all_names category different (is_in (map category (r.owned ++ r.tainted))) (among (r.owned ++ r.tainted))
      (is_in_names category different (r.owned ++ r.tainted)) g.secret ∙ all)

  -- what is guarded is below no other clearance, where no secret category is a written one
  pub cleared_exactly_by_names : (g : Guard) (names : List CategoryName) → NamesApart g.secret g.written
      → is_below (guard_label category g) (cleared_at (map category names)) ≡ list_all (among names) g.secret
  cleared_exactly_by_names g names apart =
      cleared_exactly (map category g.secret) (map category g.written) (map category names) (numbers_apart g.secret g.written apart)
      ∙ all_names category different (is_in (map category names)) (among names) (is_in_names category different names) g.secret

  -- rights are below others that have no less at 3 and own no more
  pub rights_by_names : (r other : Rights) → list_all (among other.tainted) r.tainted ≡ true
      → list_all (among r.owned) other.owned ≡ true
      → is_below (rights_label category r) (rights_label category other) ≡ true
  rights_by_names r other tainted owned =
      below_owning (map category r.owned) (map category r.tainted) (map category other.owned)
      (map category other.tainted)
      (all_names category different (is_in (map category other.tainted)) (among other.tainted)
      (is_in_names category different other.tainted) r.tainted ∙ tainted)
      (all_names category different (is_in (map category r.owned)) (among r.owned) (is_in_names category different r.owned) other.owned ∙ owned)

  -- rights are below a clearance exactly where it has all that they have at 3
  pub capped_by_names : (r : Rights) (names : List CategoryName)
      → is_below (rights_label category r) (cleared_at (map category names)) ≡ list_all (among names) r.tainted
  capped_by_names r names = owning_cleared (map category r.owned) (map category r.tainted) (map category names)
      ∙ all_names category different (is_in (map category names)) (among names) (is_in_names category different names) r.tainted

  -- a clearance is below one that has no less
  pub clearances_by_names : (r other : Rights)
      → list_all (among (other.owned ++ other.tainted)) (r.owned ++ r.tainted) ≡ true
      → is_below (rights_clearance category r) (rights_clearance category other) ≡ true
  clearances_by_names r other all = cleared_below (map category (r.owned ++ r.tainted)) (map category (other.owned ++ other.tainted))
      (all_names category different (is_in (map category (other.owned ++ other.tainted)))
      (among (other.owned ++ other.tainted)) (is_in_names category different (other.owned ++ other.tainted))
      (r.owned ++ r.tainted) ∙ all)

-- labels name only made categories where their names have such numbers
abbrev pub AreMade : ℕ → Categories → List CategoryName → Type 0
AreMade next category names = (c : CategoryName) → among names c ≡ true → IsMade next (category c)

numbers_made : (next : ℕ) (category : Categories) (names : List CategoryName) → AreMade next category names → (q : ℕ)
    → is_in (map category names) q ≡ true → IsMade next q
numbers_made next category names made q e = let there = named_in category names q e in subst (IsMade next) (sym there.1) (made there.0 there.2)

pub guard_made : (next : ℕ) (category : Categories) (g : Guard) → AreMade next category g.secret
    → AreMade next category g.written → is_made next (guard_label category g) ≡ true
guard_made next category g secret written =
    guarded_made next (map category g.secret) (map category g.written) (numbers_made next category g.secret secret)
    (numbers_made next category g.written written)

pub rights_made : (next : ℕ) (category : Categories) (r : Rights) → AreMade next category r.owned
    → AreMade next category r.tainted → is_made next (rights_label category r) ≡ true
rights_made next category r owned tainted =
    owning_made next (map category r.owned) (map category r.tainted) (numbers_made next category r.owned owned)
    (numbers_made next category r.tainted tainted)

pub clearance_made : (next : ℕ) (category : Categories) (names : List CategoryName) → AreMade next category names
    → is_made next (cleared_at (map category names)) ≡ true
clearance_made next category names made = cleared_made next (map category names) (numbers_made next category names made)

-- what is guarded owns nothing
pub guard_owns_nothing : (category : Categories) (g : Guard) → has_star (guard_label category g) ≡ false
guard_owns_nothing category g = guarded_owns_nothing (map category g.secret) (map category g.written)
