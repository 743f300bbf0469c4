-- Chains of refusals.
use Rattle.std.specs.Prelude.{◌≡◌, Bool, true, false, Option, Some, None, refl}
use Rattle.histar_base.specs.Refusals.{◌orelse◌, unless}

module _ {E : Type 0} where
  -- if neither of two refuses, the first doesn't
  pub passes_first : (a b : Option E) → (a orelse b) ≡ None → a ≡ None
  passes_first None b h = refl
  passes_first (Some e) b h = absurd (cc)

  -- if neither of two refuses, the second doesn't
  pub passes_later : (a b : Option E) → (a orelse b) ≡ None → b ≡ None
  passes_later None b h = h
  passes_later (Some e) b h = absurd (cc)

  -- a test that refuses nothing has passed
  pub passed : (b : Bool) (e : E) → unless b e ≡ None → b ≡ true
  passed true e h = refl
  passed false e h = absurd (cc)

  -- a test that fails refuses, before what comes later
  pub stopped : (b : Bool) (e : E) (later : Option E) → b ≡ false → (unless b e orelse later) ≡ Some e
  stopped true e later h = absurd (cc)
  stopped false e later h = refl

  -- if a test and what comes before it refuse nothing, the test has passed
  pub one_passes : (a : Option E) (x : Bool) (e : E) → (a orelse unless x e) ≡ None → (a ≡ None) × (x ≡ true)
  one_passes a x e h = (passes_first a (unless x e) h, passed x e (passes_later a (unless x e) h))

  -- if two tests and what comes before them refuse nothing, both have passed
  pub two_pass : (a : Option E) (x y : Bool) (d e : E) → (a orelse unless x d orelse unless y e) ≡ None → (a ≡ None) × (x ≡ true) × (y ≡ true)
  two_pass a x y d e h =
      let rest = one_passes (unless x d) y e (passes_later a (unless x d orelse unless y e) h) in
      (passes_first a (unless x d orelse unless y e) h, passed x d rest.0, rest.1)

  -- if three tests and what comes before them refuse nothing, all have passed
  pub three_pass : (a : Option E) (x y z : Bool) (c d e : E)
      → (a orelse unless x c orelse unless y d orelse unless z e) ≡ None
      → (a ≡ None) × (x ≡ true) × (y ≡ true) × (z ≡ true)
  three_pass a x y z c d e h =
      let rest = two_pass (unless x c) y z d e (passes_later a (unless x c orelse unless y d orelse unless z e) h) in
      (passes_first a (unless x c orelse unless y d orelse unless z e) h, passed x c rest.0, rest.1, rest.2)
