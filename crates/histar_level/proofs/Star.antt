-- The test for star decides whether a level is star.
use Rattle.std.specs.Prelude.{◌≡◌, true, refl}
use Rattle.histar_level.specs.declared.level.Level.{Level}
use Rattle.histar_level.specs.declared.level.Level.TheVariants.{Star, L0, L1, L2, L3}
use Rattle.histar_level.specs.Level.{is_star}

-- the level that passes the test is star
pub star_from_is_star : (l : Level) → is_star l ≡ true → l ≡ Star
unfolding is_star
star_from_is_star Star h = refl
star_from_is_star L0 h = cc
star_from_is_star L1 h = cc
star_from_is_star L2 h = cc
star_from_is_star L3 h = cc

-- star passes the test
pub is_star_from_star : (l : Level) → l ≡ Star → is_star l ≡ true
unfolding is_star
is_star_from_star Star h = refl
is_star_from_star L0 h = cc
is_star_from_star L1 h = cc
is_star_from_star L2 h = cc
is_star_from_star L3 h = cc
