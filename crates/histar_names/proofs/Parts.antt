-- The parts from which a value was made.
use Rattle.std.proofs.Common.{◌≡◌, ℕ, Bool, true, false, ◌&&◌, ◌||◌, List, [], ◌∷◌, ◌++◌, Option, None, Some, Result, Ok, Err, is_ok, refl, sym, ap}
use Rattle.std.proofs.Common.{◌∙◌, inl, inr, ◌⊎◌, if◌then◌else◌}
use Rattle.std.specs.Prelude.{OnOk, option_and_then}
use Rattle.std.proofs.lemmas.Bool.{true≢false}
use Rattle.std.proofs.lemmas.Option.{none-some}
use Rattle.histar_flat.specs.Words.{Path}
use Rattle.histar_object.specs.State.{State}
use Rattle.histar_programs.specs.declared.roots.Roots.{Roots}
use Rattle.histar_names.specs.Purposes.{or_else}
use Rattle.histar_names.specs.Location.{is_target, path_up, target_at}

-- the first of two, or the second
pub either_there : {A : Type 0} (x y : Option A) (a : A) → or_else x y ≡ Some a → (x ≡ Some a) ⊎ (y ≡ Some a)
either_there None y a e = inr e
either_there (Some b) y a e = inl e

-- what a step was made of
pub step_there : {A B : Type 0} (f : A → Option B) (o : Option A) (b : B) → option_and_then f o ≡ Some b → (a : A) × (o ≡ Some a) × (f a ≡ Some b)
step_there f None b e = absurd (none-some b e)
step_there f (Some a) b e = (a, refl, e)

-- what a test lets through
pub tested : {A : Type 0} (t : Bool) (x y : Option A) (a : A) → (if t then x else y) ≡ Some a
    → ((t ≡ true) × (x ≡ Some a)) ⊎ ((t ≡ false) × (y ≡ Some a))
tested true x y a e = inl (refl, e)
tested false x y a e = inr (refl, e)

-- the two halves of a test
pub both : (a b : Bool) → (a && b) ≡ true → (a ≡ true) × (b ≡ true)
both true b e = (refl, e)
both false b e = absurd (true≢false (sym e))

pub one_of : (a b : Bool) → (a || b) ≡ true → (a ≡ true) ⊎ (b ≡ true)
one_of true b e = inl refl
one_of false b e = inr e

-- what is written at once
pub one_piece : {X E : Type 0} (r : Result X E) (new old a b : List ℕ) → new ≡ (if is_ok r then old ++ a else old) → a ≡ b → OnOk r (new ≡ old ++ b)
one_piece (Ok x) new old a b written same = written ∙ ap (λ l. old ++ l) same
one_piece (Err e) new old a b written same = tt

-- the path of an object is that path or one above it
pub path_here : (s : State) (roots : Roots) (q : ℕ) (path : Path) → is_target q (target_at s roots path) ≡ true → Some path ≡ path_up s roots q path
path_here s roots q [] e = sym (ap (λ b. if b then Some [] else None) e)
path_here s roots q (name ∷ d) e = sym (ap (λ b. if b then Some (name ∷ d) else path_up s roots q d) e)
