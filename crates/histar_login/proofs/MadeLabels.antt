-- The labels that boot gives name only categories that were made, and the boot thread owns these.
use Rattle.std.proofs.Common.{◌≡◌, ◌≢◌, ℕ, ◌+◌, ◌<◌, ◌≤◌, ◌==◌, Bool, true, false, ◌&&◌, List, [], ◌∷◌, All, if◌then◌else◌, refl, sym, ap, ◌∙◌, arith}
use Rattle.std.specs.Prelude.{nat_lt}
use Rattle.std.proofs.lemmas.Bool.Decides.{nat_tests}
use Rattle.std.proofs.lemmas.List.Elements.{All-head, All-tail}
use mathlib.Core.Bool.{false≢true}
use Rattle.histar_level.specs.declared.level.Level.{Level}
use Rattle.histar_level.specs.declared.level.Level.TheVariants.{Star, L0, L1, L2, L3}
use Rattle.histar_level.specs.Level.{rank, raised}
use Rattle.histar_level.specs.Levels.{Levels, level_of}
use Rattle.histar_level.proofs.Ranks.{rank-at_most}
use Rattle.histar_label.specs.Levels.{constant, with_level, grades, IsBelow, is_made, has_star, is_below, is_below_raised}
use Rattle.histar_label.proofs.Readers.{level_of-constant, level_of-with_level}
use Rattle.histar_label.proofs.Made.{is_made-constant, is_made-with_level}
use Rattle.histar_label.proofs.Orders.{is_below-law, is_below_raised-law}
use Rattle.histar_label.proofs.Stars.{has_star-none}
use Rattle.histar_object.specs.declared.objects.Object.{Object}
use Rattle.histar_rules.specs.Rights.{with_star_at, kind_with_three_at}
use Rattle.histar_object.specs.State.{boot_thread}
use Rattle.histar_layout.specs.Categories.{read_category, write_category}
use Rattle.histar_layout.specs.Labelling.{with_levels, written_by, secret_of, owner_of, cleared_of}
use Rattle.histar_programs.specs.Start.{at_both, owners_label, owners_clearance}
use Rattle.histar_login.specs.Booting.{was_made, OwnsMade}

-- a label that names only categories that were made, and has this level at all others
pub record IsMadeLabel (next : ℕ) (level : Level) (L : Levels) : Type 0 where
  pub made : is_made next L ≡ true
  pub others : (c : ℕ) → was_made next c ≡ false → level_of L c ≡ level

-- a label that a container or a segment may be given, with level 1 at all categories that were not made
pub record IsMadeGuard (next : ℕ) (L : Levels) : Type 0 where
  pub label : IsMadeLabel next L1 L
  pub starless : has_star L ≡ false

-- a category in range was made
in_range : (next c : ℕ) → 0 < c → c < next → was_made next c ≡ true
in_range next c low high =
    let first : nat_lt 0 c ≡ true = grind (arith, nat_tests) in
    let second : nat_lt c next ≡ true = grind (arith, nat_tests) in
    rw (first, second) refl

-- a category that was made differs from one that was not
apart : (next c q : ℕ) → 0 < c → c < next → was_made next q ≡ false → (q == c) ≡ false
apart next c q low high none = elim (q == c) as (λ b. (q == c) ≡ b → b ≡ false) [
  | true ↦ λ same.
      let is : q ≡ c = grind (arith, nat_tests) in
      absurd (false≢true (sym none ∙ in_range next q (omega (arith, is, low)) (omega (arith, is, high))))
  | false ↦ λ other. refl
] refl

pub made_constant : (next : ℕ) (level : Level) → IsMadeLabel next level (constant level)
made_constant next level = record { made = is_made-constant next level; others = λ c none. level_of-constant level c }

-- a level at one category more that was made
pub made_with : (next : ℕ) (level : Level) (L : Levels) (c : ℕ) (l : Level) → 0 < c → c < next
    → IsMadeLabel next level L → IsMadeLabel next level (with_level L c l)
made_with next level L c l low high label = record {
  made = is_made-with_level next L c l low high label.made;
  others = λ q none. level_of-with_level L c l q ∙ ap (λ b. if b then l else level_of L q) (apart next c q low high none) ∙ label.others q none;
}

-- the chosen one of two levels is no star if neither is
picked : (b : Bool) (l m : Level) → l ≢ Star → m ≢ Star → (if b then l else m) ≢ Star
picked true l m first second = first
picked false l m first second = second

starless_constant : (c : ℕ) → level_of (constant L1) c ≢ Star
starless_constant c star = omega (arith, ap rank (sym (level_of-constant L1 c) ∙ star))

starless_with : (L : Levels) (c : ℕ) (l : Level) → ((q : ℕ) → level_of L q ≢ Star) → l ≢ Star → (q : ℕ) → level_of (with_level L c l) q ≢ Star
starless_with L c l none other q star = picked (q == c) l (level_of L q) other (none q) (sym (level_of-with_level L c l q) ∙ star)

-- 0 and 3 are no star
zero_other : L0 ≢ Star
zero_other e = omega (arith, ap rank e)

three_other : L3 ≢ Star
three_other e = omega (arith, ap rank e)

-- what the owner of a category writes
pub written_made : (next c : ℕ) → 0 < c → c < next → IsMadeGuard next (written_by c)
written_made next c low high = record {
  label = made_with next L1 (constant L1) c L0 low high (made_constant next L1);
  starless = has_star-none (written_by c) (starless_with (constant L1) c L0 starless_constant zero_other);
}

-- what the owner of a category alone reads, and that of another one writes
pub secret_made : (next r w : ℕ) → 0 < r → r < next → 0 < w → w < next → IsMadeGuard next (secret_of r w)
secret_made next r w r_low r_high w_low w_high = record {
  label =
      made_with next L1 (with_level (constant L1) r L3) w L0 w_low w_high
      (made_with next L1 (constant L1) r L3 r_low r_high (made_constant next L1));
  starless =
      has_star-none (secret_of r w) (starless_with (with_level (constant L1) r L3) w L0
      (starless_with (constant L1) r L3 starless_constant three_other) zero_other);
}

-- one level at two categories
pub two_made : (next : ℕ) (level l : Level) (r w : ℕ) → 0 < r → r < next → 0 < w → w < next
    → IsMadeLabel next level (with_level (with_level (constant level) r l) w l)
two_made next level l r w r_low r_high w_low w_high =
    made_with next level (with_level (constant level) r l) w l w_low w_high
    (made_with next level (constant level) r l r_low r_high (made_constant next level))

-- one level at the categories of these users and groups
pub both_made : (next : ℕ) (level l : Level) (L : Levels) (owners : List ℕ) → All (λ o. write_category o < next) owners
    → IsMadeLabel next level L → IsMadeLabel next level (with_levels L (at_both l owners))
both_made next level l L [] all label = label
both_made next level l L (o ∷ owners) all label =
    let here : write_category o < next = All-head (λ o. write_category o < next) o owners all in
    both_made next level l (with_level (with_level L (read_category o) l) (write_category o) l) owners
    (All-tail (λ o. write_category o < next) o owners all)
    (made_with next level _ (write_category o) l (omega arith) here (made_with next level L _ l (omega arith) (omega (arith, here)) label))

-- a choice between star and a level is below the same choice between 3 and a higher level
picked_below : (b : Bool) (l m : Level) → rank l ≤ rank m → rank (if b then Star else l) ≤ rank (if b then L3 else m)
picked_below true l m under = omega arith
picked_below false l m under = under

-- a label stays under a clearance where it owns one category more, and the clearance has 3 there
below_with : (L C : Levels) (c : ℕ) → IsBelow (grades L) (grades C) → IsBelow (grades (with_level L c Star)) (grades (with_level C c L3))
below_with L C c under q =
    rw (level_of-with_level L c Star q, level_of-with_level C c L3 q)
    (picked_below (q == c) (level_of L q) (level_of C q) (under q))

below_constant : IsBelow (grades (constant L1)) (grades (constant L2))
below_constant q = rw (level_of-constant L1 q, level_of-constant L2 q) (omega arith)

below_both : (L C : Levels) (owners : List ℕ) → IsBelow (grades L) (grades C)
    → IsBelow (grades (with_levels L (at_both Star owners))) (grades (with_levels C (at_both L3 owners)))
below_both L C [] under = under
below_both L C (o ∷ owners) under =
    below_both (with_level (with_level L (read_category o) Star) (write_category o) Star)
    (with_level (with_level C (read_category o) L3) (write_category o) L3) owners
    (below_with _ _ (write_category o) (below_with L C (read_category o) under))

-- what owns two categories is under its clearance
pub owner_below : (r w : ℕ) → is_below (owner_of r w) (cleared_of r w) ≡ true
owner_below r w = (is_below-law (owner_of r w) (cleared_of r w)).1 (below_with _ _ w (below_with _ _ r below_constant))

-- what owns the categories of users and groups is below its clearance
pub owners_below : (owners : List ℕ) → is_below (owners_label owners) (owners_clearance owners) ≡ true
owners_below owners = (is_below-law (owners_label owners) (owners_clearance owners)).1 (below_both (constant L1) (constant L2) owners below_constant)

-- a level that is star where a category was made is under another that is 1 where it was not
owner_under : (b : Bool) (l m : Level) → l ≡ (if b then Star else L1) → (b ≡ false → m ≡ L1) → rank l ≤ rank m
owner_under true l m is other = omega (arith, ap rank is)
owner_under false l m is other = omega (arith, ap rank is, ap rank (other refl))

-- the clearance is above the label where star is the highest
owner_over : (b : Bool) (l m : Level) → l ≡ (if b then Star else L1) → (b ≡ false → m ≡ L1) → rank m ≤ raised l
owner_over true l m is other = omega (arith, ap raised is, rank-at_most m)
owner_over false l m is other = omega (arith, ap raised is, ap rank (other refl))

-- the clearance is above each level that is at most 2 where the category was not made
cleared_over : (b : Bool) (l m d : Level) → l ≡ (if b then L3 else L2) → (b ≡ false → m ≡ d) → rank d ≤ 3 → rank m ≤ rank l
cleared_over true l m d is other few = omega (arith, ap rank is, rank-at_most m)
cleared_over false l m d is other few = omega (arith, ap rank is, ap rank (other refl), few)

module _ (next : ℕ) (o : Object Levels) (owner : OwnsMade next o) where
  -- the boot thread is under each label that names what was made
  pub under_made : (L : Levels) → IsMadeLabel next L1 L → is_below o.label L ≡ true
  under_made L label =
      (is_below-law o.label L).1
      (λ q. owner_under (was_made next q) (level_of o.label q) (level_of L q) (owner.owns q) (label.others q))

  -- the boot thread may see what has such a label
  pub sees_made : (L : Levels) → IsMadeLabel next L1 L → is_below_raised L o.label ≡ true
  sees_made L label =
      (is_below_raised-law L o.label).1
      (λ q. owner_over (was_made next q) (level_of o.label q) (level_of L q) (owner.owns q) (label.others q))

  -- the boot thread is cleared for such a label
  pub cleared_made : (level : Level) (L : Levels) → rank level ≤ 3 → IsMadeLabel next level L → is_below L owner.clearance ≡ true
  cleared_made level L few label =
      (is_below-law L owner.clearance).1
      (λ q. cleared_over (was_made next q) (level_of owner.clearance q) (level_of L q) level (owner.cleared q)
      (label.others q) few)

  -- the categories that were made with the new one are the new one and the old ones
  owning_level : (q : ℕ) (l m : Level) → 0 < next
      → (if q == next then l else (if was_made next q then l else m)) ≡ (if was_made (next + 1) q then l else m)
  owning_level q l m some =
      elim (q == next) as (λ b. (q == next) ≡ b
      → (if b then l else (if was_made next q then l else m)) ≡ (if was_made (next + 1) q then l else m)) [
        | true ↦ λ same.
            let is : q ≡ next = grind (arith, nat_tests) in
            sym (ap (λ b. if b then l else m) (in_range (next + 1) q (omega (arith, is, some)) (omega (arith, is))))
        | false ↦ λ other. ap (λ b. if b then l else m) (same_test other)
      ] refl
    where
      same_test : (q == next) ≡ false → was_made next q ≡ was_made (next + 1) q
      same_test other = ap (λ b. nat_lt 0 q && b) (grind (arith, nat_tests, other))

  -- a thread that gets the next category owns it too
  pub owns_next : 0 < next → OwnsMade (next + 1) (with_star_at next o)
  owns_next some = record {
    clearance = with_level owner.clearance next L3;
    is_thread = ap (kind_with_three_at next) owner.is_thread;
    owns = λ q. level_of-with_level o.label next Star q ∙ ap (λ l. if q == next then Star else l) (owner.owns q) ∙ owning_level q Star L1 some;
    cleared =
        λ q. level_of-with_level owner.clearance next L3 q ∙ ap (λ l. if q == next then L3 else l) (owner.cleared q)
        ∙ owning_level q L3 L2 some;
  }

-- after the first category, only category 1 was made
first_level : (q : ℕ) (l m : Level) → (if q == 1 then l else m) ≡ (if was_made 2 q then l else m)
first_level q l m = ap (λ b. if b then l else m) (one q)
  where
    one : (q : ℕ) → (q == 1) ≡ (nat_lt 0 q && nat_lt q 2)
    one q = grind (arith, nat_tests)

-- the boot thread owns the first category
pub boot_owns : OwnsMade 2 boot_thread
boot_owns = record {
  clearance = with_level (constant L2) 1 L3;
  is_thread = refl;
  owns = λ q. level_of-with_level (constant L1) 1 Star q ∙ ap (λ l. if q == 1 then Star else l) (level_of-constant L1 q) ∙ first_level q Star L1;
  cleared = λ q. level_of-with_level (constant L2) 1 L3 q ∙ ap (λ l. if q == 1 then L3 else l) (level_of-constant L2 q) ∙ first_level q L3 L2;
}
