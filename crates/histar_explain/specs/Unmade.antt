-- The categories that a call names in a label and that were never made.
use Rattle.std.specs.Prelude.{◌≡◌, ℕ, ◌<◌, Bool, not, ◌==◌, ◌&&◌, List, [], ◌∷◌, nat_lt}
use Rattle.std.specs.List.{All, list_any}
use Rattle.histar_level.specs.Level.{rank}
use Rattle.histar_level.specs.Levels.{Levels, level_of, default_of}
use Rattle.histar_rules.specs.declared.raw.Denied.{Denied}
use Rattle.histar_rules.specs.declared.raw.Denied.TheVariants.{Range}
use Rattle.histar_rules.specs.declared.raw.RawCall.{RawCall}
use Rattle.histar_explain.specs.Named.{handed}

-- whether a label has another level at a category than its default
abbrev pub lists : Levels → ℕ → Bool
lists L c = not (rank (level_of L c) == rank (default_of L))

-- whether a category was made, where they are numbered from 1 on and `next` is the number of the next one
abbrev pub was_made : ℕ → ℕ → Bool
was_made next c = nat_lt 0 c && nat_lt c next

-- whether one of some labels lists a category that was never made
abbrev pub is_unmade : ℕ → List Levels → ℕ → Bool
is_unmade next labels c = list_any (λ L. lists L c) labels && not (was_made next c)

-- the numbers rise, so none comes twice
abbrev pub AreRising : List ℕ → Type 0
AreRising [] = Unit {0}
AreRising (c ∷ cs) = All (λ (d : ℕ). c < d) cs × AreRising cs

-- whether a category is one of a list
abbrev pub is_among : List ℕ → ℕ → Bool
is_among cs c = list_any (λ d. d == c) cs

-- by rising number, each category that one of some labels lists and that was never made, and no other
pub record AreUnmade (next : ℕ) (labels : List Levels) (cs : List ℕ) : Type 0 where
  pub rising : AreRising cs
  pub exact : (c : ℕ) → is_among cs c ≡ is_unmade next labels c

-- the labels whose categories have to be made: all that the call is given, where it is denied by a range
abbrev pub labels_of : RawCall → Denied → List Levels
labels_of call Range = handed call
labels_of call denied = []
