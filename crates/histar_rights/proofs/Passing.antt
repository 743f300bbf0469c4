-- Chains of tests that refuse nothing.
use Rattle.std.specs.Prelude.{◌≡◌, Bool, true, false, not, ◌&&◌, Option, None, Some, is_some, refl}
use Rattle.std.proofs.Common.{sym, ap}
use Rattle.std.proofs.lemmas.Bool.{true≢false}
use Rattle.histar_base.specs.Refusals.{◌orelse◌, unless}

module _ {E : Type 0} where
  -- the chain refuses nothing
  abbrev pub passes : Option E → Bool
  passes w = not (is_some w)

  -- a chain with one more test passes if both do
  pub passes_one : (w : Option E) (x : Bool) (e : E) → passes (w orelse unless x e) ≡ (passes w && x)
  passes_one None true e = refl
  passes_one None false e = refl
  passes_one (Some c) x e = refl

  -- a chain with one more test that holds passes if it did
  pub passes_same : (w : Option E) (x : Bool) (e : E) → x ≡ true → passes (w orelse unless x e) ≡ passes w
  passes_same w true e h = by w
    where
      by : (w : Option E) → passes (w orelse unless true e) ≡ passes w
      by None = refl
      by (Some c) = refl
  passes_same w false e h = absurd (true≢false (sym h))

  -- a chain passes by its first part and its last test if the two tests between hold
  pub passes_third : (w : Option E) (x y z : Bool) (c d e : E) → x ≡ true → y ≡ true
      → passes (w orelse unless x c orelse unless y d orelse unless z e) ≡ (passes w && z)
  passes_third None true true true c d e h k = refl
  passes_third None true true false c d e h k = refl
  passes_third (Some b) true true z c d e h k = refl
  passes_third w false y z c d e h k = absurd (true≢false (sym h))
  passes_third w true false z c d e h k = absurd (true≢false (sym k))

  -- the same for a chain grouped in another way
  pub passes_then : (w : Option E) (x y z : Bool) (c d e : E) → x ≡ true → y ≡ true
      → passes ((w orelse unless x c orelse unless y d) orelse unless z e) ≡ (passes w && z)
  passes_then None true true true c d e h k = refl
  passes_then None true true false c d e h k = refl
  passes_then (Some b) true true z c d e h k = refl
  passes_then w false y z c d e h k = absurd (true≢false (sym h))
  passes_then w true false z c d e h k = absurd (true≢false (sym k))

  -- the same with one more part that refuses nothing
  pub passes_then_more : (w : Option E) (x y z : Bool) (c d e : E) (more : Option E) → x ≡ true → y ≡ true → more ≡ None
      → passes ((w orelse unless x c orelse unless y d) orelse unless z e orelse more) ≡ (passes w && z)
  passes_then_more None true true true c d e more h k m = ap passes m
  passes_then_more None true true false c d e more h k m = refl
  passes_then_more (Some b) true true z c d e more h k m = refl
  passes_then_more w false y z c d e more h k m = absurd (true≢false (sym h))
  passes_then_more w true false z c d e more h k m = absurd (true≢false (sym k))

  -- a chain passes by its first part and its last test if the test between holds
  pub passes_second : (w : Option E) (x z : Bool) (c e : E) → x ≡ true → passes ((w orelse unless x c) orelse unless z e) ≡ (passes w && z)
  passes_second None true true c e h = refl
  passes_second None true false c e h = refl
  passes_second (Some b) true z c e h = refl
  passes_second w false z c e h = absurd (true≢false (sym h))

  -- a chain that passes has no refusal
  pub passes_none : (w : Option E) → passes w ≡ true → w ≡ None
  passes_none None h = refl
  passes_none (Some e) h = absurd (true≢false (sym h))
