-- Seals: a number from which links lead to nothing but what is tainted in a category.
use Rattle.std.specs.Prelude.{◌≡◌, ◌≢◌, ◌⊎◌, ℕ, ◌<◌, Option, Some}
use Rattle.histar_level.specs.declared.level.Level.TheVariants.{Star, L3}
use Rattle.histar_level.specs.Levels.{Levels, level_of}
use Rattle.histar_object.specs.declared.objects.Object.{Object}
use Rattle.histar_object.specs.State.{State}
use Rattle.histar_container.specs.Tree.{Reached}
use Rattle.histar_rules.specs.declared.raw.Denied.{Denied}
use Rattle.histar_rules.specs.declared.raw.RawCall.{RawCall}
use Rattle.histar_rules.specs.Rules.{check, Leaves}
use Rattle.histar_rules.specs.Sound.{IsSound}
use Rattle.histar_rules.specs.Visible.{IsTaintedCaller}
use Rattle.histar_unwinding.specs.Alike.{IsClosed}

-- The number d is sealed by v: it was given to an object, and all that links lead to from it is tainted in v.
pub record IsSealed (s : State) (v d : ℕ) : Type 0 where
  pub given : d < s.next_object
  pub tainted : (q : ℕ) (o : Object Levels) → Reached s.objects d q → s.objects q ≡ Some o → level_of o.label v ≡ L3

-- the object at t, if one is there, neither is tainted in v nor owns v
abbrev pub IsPlainCaller : State → ℕ → ℕ → Type 0
IsPlainCaller s v t = (o : Object Levels) → s.objects t ≡ Some o → (level_of o.label v ≢ L3)
    × (level_of o.label v ≢ Star)

-- A seal stays, whatever raw call a thread makes, granted or denied, that is tainted in v, or that neither is tainted
-- in v nor owns v.
abbrev pub SealsStay : Type 0
SealsStay = (v d : ℕ) (s new : State) (t : ℕ) (call : RawCall) (denied : Option Denied) → IsSound s → IsClosed s v
    → IsTaintedCaller s v t ⊎ IsPlainCaller s v t → IsSealed s v d → check s t call ≡ denied
    → Leaves denied s t call new
    → IsSealed new v d
