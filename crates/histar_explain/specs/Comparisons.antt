-- A comparison of two labels, and the categories at which it fails.
use Rattle.std.specs.Prelude.{◌≡◌, ◌≢◌, ◌⊎◌, ℕ, ◌<◌, Bool, true, false, not, ◌==◌, ◌&&◌, ◌||◌, List, [], ◌∷◌, Option, None, Some, is_some}
use Rattle.std.specs.Prelude.{if◌then◌else◌, nat_lt}
use Rattle.std.specs.List.{All, list_any}
use Rattle.histar_level.specs.declared.level.Level.{Level}
use Rattle.histar_level.specs.Level.{rank, raised}
use Rattle.histar_level.specs.Levels.{Levels, level_of, default_of}
use Rattle.histar_explain.specs.declared.reasons.Difference.{Difference}
use Rattle.histar_explain.specs.declared.reasons.Reason.{Reason}

-- two labels of which the first should not be above the second, and whether an owner passes: star in the second is then read as J
pub record Comparison : Type 0 where
  pub lower : Levels
  pub upper : Levels
  pub owner_passes : Bool

-- the place of a level in the order, where star is the highest if an owner passes, and otherwise the lowest
abbrev pub place : Bool → Level → ℕ
place true l = raised l
place false l = rank l

-- whether a level is above another one that is read in this way
abbrev pub exceeds : Bool → Level → Level → Bool
exceeds owner_passes l m = nat_lt (place owner_passes m) (rank l)

-- whether the comparison fails at a category: there the first label is above the second
abbrev pub fails_at : Comparison → ℕ → Bool
fails_at t c = exceeds t.owner_passes (level_of t.lower c) (level_of t.upper c)

-- one of the two labels lists the category: it has another level there than its default
abbrev pub IsListed : Comparison → ℕ → Type 0
IsListed t c = (level_of t.lower c ≢ default_of t.lower) ⊎ (level_of t.upper c ≢ default_of t.upper)

-- the categories rise, so none comes twice
abbrev pub IsRising : List Difference → Type 0
IsRising [] = Unit {0}
IsRising (d ∷ ds) = All (λ (e : Difference). d.category < e.category) ds × IsRising ds

-- whether a list names a category
abbrev pub is_named : List Difference → ℕ → Bool
is_named differences c = list_any (λ d. d.category == c) differences

-- a category that one of the two labels lists, with the levels that both have there; the comparison fails there, or passes
pub record IsDifference (t : Comparison) (fails : Bool) (d : Difference) : Type 0 where
  pub lower : d.lower ≡ level_of t.lower d.category
  pub upper : d.upper ≡ level_of t.upper d.category
  pub outcome : fails_at t d.category ≡ fails
  pub listed : IsListed t d.category

-- by rising number, each listed category at which the comparison fails, and no other; or each at which it passes
pub record Lists (t : Comparison) (fails : Bool) (differences : List Difference) : Type 0 where
  pub rising : IsRising differences
  pub right : All (IsDifference t fails) differences
  pub whole : (c : ℕ) → IsListed t c → fails_at t c ≡ fails → is_named differences c ≡ true

-- the two defaults, if the comparison fails for them
abbrev pub failing_defaults : Comparison → Option (Level × Level)
failing_defaults t = if exceeds t.owner_passes (default_of t.lower) (default_of t.upper) then Some (default_of t.lower, default_of t.upper) else None

-- a reason explains a comparison: it lists where it fails and where it passes, and says whether it fails at all other categories
pub record Explains (t : Comparison) (r : Reason) : Type 0 where
  pub named : Lists t true r.named.items
  pub spared : Lists t false r.spared.items
  pub elsewhere : r.elsewhere ≡ failing_defaults t

-- whether a reason shows a category: by name, or as one of all others except the spared ones
abbrev pub is_shown : Reason → ℕ → Bool
is_shown r c = is_named r.named.items c || (is_some r.elsewhere && not (is_named r.spared.items c))
