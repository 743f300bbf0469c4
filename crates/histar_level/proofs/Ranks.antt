-- A level is determined by its place in the order.
use Rattle.std.specs.Prelude.{◌≡◌, ℕ, ◌≤◌, Bool, true, false, refl, if◌then◌else◌, ◌==◌}
use Rattle.std.proofs.Common.{ap, sym, ◌∙◌, arith}
use Rattle.std.proofs.lemmas.Bool.Decides.{nat_tests}
use Rattle.histar_level.specs.declared.level.Level.{Level}
use Rattle.histar_level.specs.declared.level.Level.TheVariants.{Star, L0, L1, L2, L3}
use Rattle.histar_level.specs.Level.{rank, raised, lowered, level_at}

-- each level is the one at its own place
pub level_at-rank : (l : Level) → level_at (rank l) ≡ l
level_at-rank Star = refl
level_at-rank L0 = refl
level_at-rank L1 = refl
level_at-rank L2 = refl
level_at-rank L3 = refl

-- levels at one place are equal
pub same_level : (l m : Level) → rank l ≡ rank m → l ≡ m
same_level l m e = sym (level_at-rank l) ∙ ap level_at e ∙ level_at-rank m

-- no level is above 3
pub rank-at_most : (l : Level) → rank l ≤ 4
rank-at_most Star = omega arith
rank-at_most L0 = omega arith
rank-at_most L1 = omega arith
rank-at_most L2 = omega arith
rank-at_most L3 = omega arith

-- no level is above J
pub raised-at_most : (l : Level) → raised l ≤ 5
raised-at_most Star = omega arith
raised-at_most L0 = omega arith
raised-at_most L1 = omega arith
raised-at_most L2 = omega arith
raised-at_most L3 = omega arith

-- a lowered place of J or below is the place of a level
pub lowered-at_most : (n : ℕ) → n ≤ 5 → lowered n ≤ 4
lowered-at_most n h = grind (arith, nat_tests)

-- the place of a level that a test picks is picked by the test
rank_if : (b : Bool) (l m : Level) → rank (if b then l else m) ≡ (if b then rank l else rank m)
rank_if true l m = refl
rank_if false l m = refl

-- the level at a place has this place
pub rank-level_at : (n : ℕ) → n ≤ 4 → rank (level_at n) ≡ n
rank-level_at n h =
    grind (
      arith,
      nat_tests,
      rank_if (n == 0) Star
          (if n == 1 then L0 else (if n == 2 then L1 else (if n == 3 then L2 else L3))),
      rank_if (n == 1) L0
          (if n == 2 then L1 else (if n == 3 then L2 else L3)),
      rank_if (n == 2) L1 (if n == 3 then L2 else L3),
      rank_if (n == 3) L2 L3,
    )
