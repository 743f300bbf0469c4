-- A category is made: the naming grows, and labels of used names stay.
use Rattle.std.proofs.Common.{◌≡◌, ◌≢◌, ℕ, ◌<◌, ◌==◌, ◌⊎◌, inl, inr, Bool, true, false, ◌||◌, List, [], ◌∷◌, ◌++◌, if◌then◌else◌, arith, refl, sym}
use Rattle.std.proofs.Common.{ap, ◌∙◌}
use Rattle.std.specs.Prelude.{map}
use Rattle.std.proofs.lemmas.Bool.Decides.{eqb_tells, nat_tests}
use Rattle.std.proofs.lemmas.Bool.{or_left, or_right}
use mathlib.Core.Bool.{true≢false}
use Rattle.histar_level.specs.declared.level.Level.TheVariants.{Star, L3}
use Rattle.histar_level.proofs.Functions.{same_levels}
use Rattle.histar_label.specs.Levels.{with_level}
use Rattle.histar_label.proofs.Readers.{level_of-with_level}
use Rattle.histar_layout.specs.Labelling.{written_by, secret_of, owner_of, guarded_by, owner_label, cleared_at}
use Rattle.histar_refinement.specs.Categories.{CategoryName, Categories, AreDifferent, IsMade, same_category, among, swapped, naming_next}
use Rattle.histar_refinement.specs.Guards.{Guard, Rights, guard_label, rights_label, rights_clearance}
use Rattle.histar_refinement.proofs.AmongNames.{each_append}
use Rattle.histar_layout.proofs.Members.{is_in}
use Rattle.histar_layout.proofs.LabelLevels.{at_cleared, at_owning, cleared_level, owning_level}
use Rattle.histar_refinement.proofs.CategoryTests.{named_in, same_itself}

-- the labels of the code are of these kinds
pub written_is : (w : ℕ) → written_by w ≡ guarded_by [] (w ∷ [])
written_is w = refl

pub secret_is : (r w : ℕ) → secret_of r w ≡ guarded_by (r ∷ []) (w ∷ [])
secret_is r w = refl

pub owner_is : (r w : ℕ) → owner_of r w ≡ owner_label (r ∷ w ∷ []) []
owner_is r w = refl

-- names that keep their numbers
pub same_numbers : (category other : Categories) (names : List CategoryName)
    → ((c : CategoryName) → among names c ≡ true → other c ≡ category c) → map other names ≡ map category names
same_numbers category other [] same = refl
same_numbers category other (x ∷ names) same =
    λ i. same x (or_left (same_category x x) (among names x) (same_itself x)) i
    ∷ same_numbers category other names (λ c e. same c (or_right (same_category c x) (among names c) e)) i

-- all names of a guard, and of rights
abbrev pub GuardHas : (CategoryName → Type 0) → Guard → Type 0
GuardHas P g = ((c : CategoryName) → among g.secret c ≡ true → P c) × ((c : CategoryName) → among g.written c ≡ true → P c)

abbrev pub RightsHave : (CategoryName → Type 0) → Rights → Type 0
RightsHave P r = ((c : CategoryName) → among r.owned c ≡ true → P c) × ((c : CategoryName) → among r.tainted c ≡ true → P c)

abbrev pub KeepsNumber : Categories → Categories → CategoryName → Type 0
KeepsNumber category other c = other c ≡ category c

-- labels by names that keep their numbers stay
pub same_guard_label : (category other : Categories) (g : Guard) → GuardHas (KeepsNumber category other) g
    → guard_label other g ≡ guard_label category g
same_guard_label category other g keeps =
    λ i. guarded_by (same_numbers category other g.secret keeps.0 i) (same_numbers category other g.written keeps.1 i)

pub same_rights_label : (category other : Categories) (r : Rights) → RightsHave (KeepsNumber category other) r
    → rights_label other r ≡ rights_label category r
same_rights_label category other r keeps =
    λ i. owner_label (same_numbers category other r.owned keeps.0 i) (same_numbers category other r.tainted keeps.1 i)

pub same_rights_clearance : (category other : Categories) (r : Rights) → RightsHave (KeepsNumber category other) r
    → rights_clearance other r ≡ rights_clearance category r
same_rights_clearance category other r keeps =
    ap cleared_at (same_numbers category other (r.owned ++ r.tainted)
    (each_append (KeepsNumber category other) r.owned r.tainted keeps.0 keeps.1))

module _ (category : Categories) (different : AreDifferent category) (next : ℕ) (c : CategoryName) where
  -- the naming in which c is the next category
  abbrev pub grown : Categories
  grown = naming_next category next c

  pub new_number : grown c ≡ next
  new_number = by (eqb_tells (category c) (category c))
    where
      by : (((category c == category c) ≡ true) × (category c ≡ category c))
          ⊎ (((category c == category c) ≡ false) × (category c ≢ category c)) → grown c ≡ next
      by (inl e) = ap (λ b. if b then next else (if category c == next then category c else category c)) e.0
      by (inr e) = absurd (e.1 refl)

  -- a number below the next one stays
  pub old_number : (d : CategoryName) → d ≢ c → category d < next → grown d ≡ category d
  old_number d other below =
      let apart : category d ≢ category c = λ e. other (different d c e) in
      grind (arith, nat_tests, apart, below)

  -- no two names have one number
  one_number : (x y a b : ℕ) → swapped x y a ≡ swapped x y b → a ≡ b
  one_number x y a b e = grind (arith, nat_tests, e)

  pub still_different : AreDifferent grown
  still_different d e same = different d e (one_number (category c) next (category d) (category e) same)

  -- a label of used names stays
  abbrev pub IsOld : CategoryName → Type 0
  IsOld d = (d ≢ c) × IsMade next (category d)

  pub old_keeps : (d : CategoryName) → IsOld d → KeepsNumber category grown d
  old_keeps d old = old_number d old.0 old.1.1

  -- a thread that makes a category owns it: the label has star there, and the clearance level 3
  abbrev pub with_owned : Rights → Rights
  with_owned r = record { owned = c ∷ r.owned; tainted = r.tainted }

  below_next : (names : List CategoryName) → ((d : CategoryName) → among names d ≡ true → IsOld d) → is_in (map category names) next ≡ false
  below_next names old = by (is_in (map category names) next) refl
    where
      by : (b : Bool) → is_in (map category names) next ≡ b → b ≡ false
      by true e = let there = named_in category names next e in let made = (old there.0 there.2).1 in absurd (omega (arith, made.1, there.1))
      by false e = refl

  star_here : (b o t : Bool) → (b ≡ true → t ≡ false) → (if b then Star else owning_level o t) ≡ owning_level (b || o) t
  star_here true o true apart = absurd (true≢false (apart refl))
  star_here true o false apart = refl
  star_here false o t apart = refl

  three_here : (b o : Bool) → (if b then L3 else cleared_level o) ≡ cleared_level (b || o)
  three_here true o = refl
  three_here false o = refl

  pub made_label : (r : Rights) → RightsHave IsOld r → with_level (rights_label category r) next Star ≡ rights_label grown (with_owned r)
  made_label r old =
      same_levels (with_level (rights_label category r) next Star) (owner_label (next ∷ map category r.owned) (map category r.tainted)) (λ q.
      level_of-with_level (rights_label category r) next Star q
      ∙ ap (λ l. if q == next then Star else l) (at_owning (map category r.owned) (map category r.tainted) q)
      ∙ star_here (q == next) (is_in (map category r.owned) q) (is_in (map category r.tainted) q) (λ e. elim (eqb_tells q next) [
        | inl k ↦ ap (is_in (map category r.tainted)) k.1 ∙ below_next r.tainted old.1
        | inr k ↦ absurd (true≢false (sym e ∙ k.0))
      ])
      ∙ sym (at_owning (next ∷ map category r.owned) (map category r.tainted) q))
      ∙ (λ i. owner_label
      (sym new_number i ∷ sym (same_numbers category grown r.owned (λ d e. old_keeps d (old.0 d e))) i)
      (sym (same_numbers category grown r.tainted (λ d e. old_keeps d (old.1 d e))) i))

  pub made_clearance : (r : Rights) → RightsHave IsOld r → with_level (rights_clearance category r) next L3 ≡ rights_clearance grown (with_owned r)
  made_clearance r old =
      same_levels (with_level (rights_clearance category r) next L3) (cleared_at (next ∷ map category (r.owned ++ r.tainted))) (λ q.
      level_of-with_level (rights_clearance category r) next L3 q
      ∙ ap (λ l. if q == next then L3 else l) (at_cleared (map category (r.owned ++ r.tainted)) q)
      ∙ three_here (q == next) (is_in (map category (r.owned ++ r.tainted)) q)
      ∙ sym (at_cleared (next ∷ map category (r.owned ++ r.tainted)) q))
      ∙ (λ i. cleared_at (sym new_number i
      ∷ sym (same_numbers category grown (r.owned ++ r.tainted)
      (λ d e. old_keeps d (each_append IsOld r.owned r.tainted old.0 old.1 d e))) i))
