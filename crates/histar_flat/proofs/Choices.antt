-- Values chosen by a test.
use Rattle.std.specs.Prelude.{◌≡◌, Bool, true, false, cond, Option, Some, None}
use Rattle.std.proofs.Common.{ap, sym, ◌∙◌}

module _ {A : Type 0} where
  -- where the test passes, the chosen value is the first
  pub chosen : (b : Bool) (x y : A) (o : Option A) → b ≡ true → cond b (Some x) o ≡ Some y → x ≡ y
  chosen b x y o passes e = let k : Some x ≡ Some y = sym (ap (λ c. cond c (Some x) o) passes) ∙ e in cc

  -- what a test leaves was there before
  pub left : (b : Bool) (o : Option A) (y : A) → cond b None o ≡ Some y → o ≡ Some y
  left true o y e = absurd (cc)
  left false o y e = e

  -- what a test keeps was there before
  pub kept : (b : Bool) (o : Option A) (y : A) → cond b o None ≡ Some y → o ≡ Some y
  kept true o y e = e
  kept false o y e = absurd (cc)
