-- The order of levels.
use Rattle.std.specs.Prelude.{ℕ, Bool, true, false, if◌then◌else◌, ◌==◌}
use Rattle.histar_level.specs.declared.level.Level.{Level}
use Rattle.histar_level.specs.declared.level.Level.TheVariants.{Star, L0, L1, L2, L3}

-- the place of a level in the order star < 0 < 1 < 2 < 3
abbrev pub rank : Level → ℕ
rank Star = 0
rank L0 = 1
rank L1 = 2
rank L2 = 3
rank L3 = 4

-- the place of a level where star is read as J, a level above 3 that no label holds
abbrev pub raised : Level → ℕ
raised Star = 5
raised L0 = 1
raised L1 = 2
raised L2 = 3
raised L3 = 4

-- the place of a level whose raised place is n: J is star again, and each other level stays
abbrev pub lowered : ℕ → ℕ
lowered n = if n == 5 then 0 else n

-- whether a level is star
unfoldable pub is_star : Level → Bool
is_star Star = true
is_star level = false

-- the level at a place in the order, which undoes `rank`
abbrev pub level_at : ℕ → Level
level_at n = if n == 0 then Star else (if n == 1 then L0 else (if n == 2 then L1 else (if n == 3 then L2 else L3)))
