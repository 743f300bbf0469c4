-- The place of a combined level.
use Rattle.std.specs.Prelude.{◌≡◌, max}
use Rattle.std.proofs.Common.{arith}
use Rattle.histar_level.specs.declared.level.Level.{Level}
use Rattle.histar_level.specs.Level.{rank, raised, lowered}
use Rattle.histar_level.proofs.Ranks.{rank-at_most, raised-at_most, lowered-at_most, rank-level_at}
use Rattle.histar_label.specs.declared.levels.Combination.TheVariants.{Join, Floor}
use Rattle.histar_label.specs.Level.{combine}

-- the place of a join is the greater place
pub rank-combine_join : (l m : Level) → rank (combine Join l m) ≡ max (rank l) (rank m)
rank-combine_join l m = rank-level_at _ (omega (arith, rank-at_most l, rank-at_most m))

-- the place of a floor is given by its rule
pub rank-combine_floor : (l m : Level) → rank (combine Floor l m) ≡ lowered (max (raised l) (raised m))
rank-combine_floor l m = rank-level_at _ (lowered-at_most (max (raised l) (raised m)) (omega (arith, raised-at_most l, raised-at_most m)))
