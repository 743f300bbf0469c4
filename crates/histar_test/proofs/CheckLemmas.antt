-- Checks one after another: their texts, and how they are counted.
use Rattle.std.proofs.Common.{◌≡◌, ℕ, ◌+◌, Bool, true, false, List, [], ◌∷◌, ◌++◌, length, Option, Some, None, ◌&&◌}
use Rattle.std.proofs.Common.{refl, sym, ap, ◌∙◌, append_assoc, arith, add-zero, length-append}
use Rattle.std.specs.List.{list_all}
use Rattle.std.proofs.lemmas.List.Folds.{list_all-append}
use Rattle.histar_flat.specs.FlatState.{Flat}
use Rattle.histar_flat.specs.Accounts.{Accounts}
use Rattle.histar_test.specs.declared.checks.Check.{Check}
use Rattle.histar_test.specs.declared.checks.Made.{Made}
use Rattle.histar_test.specs.declared.running.Tally.{Tally}
use Rattle.histar_test.specs.declared.steps.Step.{Step}
use Rattle.histar_test.specs.declared.steps.Step.TheVariants.{Makes, Expects, Asks, Forbids}
use Rattle.histar_test.specs.Checks.{check_text, checks_from, checks_text, is_met}
use Rattle.histar_test.specs.Running.{check_at, flat_at, last_at, tally_with}

-- the text of some checks and of those after them
pub checks_text-append : (file : List ℕ) (k : ℕ) (front more : List Check)
    → checks_text file k (front ++ more) ≡ checks_text file k front ++ checks_text file (k + length front) more
checks_text-append file k [] more = ap (λ (n : ℕ). checks_text file n more) (sym (add-zero k))
checks_text-append file k (c ∷ front) more =
    let on : (k + 1) + length front ≡ k + length (c ∷ front) = omega arith in
    ap (λ (t : List ℕ). check_text file k c ++ t)
    (checks_text-append file (k + 1) front more ∙ ap (λ (n : ℕ). checks_text file (k + 1) front ++ checks_text file n more) on)
    ∙ sym (append_assoc (check_text file k c) (checks_text file (k + 1) front) (checks_text file (k + length (c ∷ front)) more))

-- `&&` is associative
and_assoc : (a b c : Bool) → ((a && b) && c) ≡ (a && (b && c))
and_assoc true b c = refl
and_assoc false b c = refl

and_true : (a : Bool) → a ≡ (a && true)
and_true true = refl
and_true false = refl

-- the tally without further checks
pub tally_none : (t : Tally) → t ≡ tally_with t []
tally_none t = λ i. record { count = sym (add-zero t.count) i; are_met = and_true t.are_met i }

-- the tally with some checks and those after them
pub tally_more : (t : Tally) (front more : List Check) → tally_with (tally_with t front) more ≡ tally_with t (front ++ more)
tally_more t front more =
    let counted : (t.count + length front) + length more ≡ t.count + length (front ++ more) = omega (arith, length-append front more) in
    let met : ((t.are_met && list_all is_met front) && list_all is_met more) ≡ (t.are_met && list_all is_met (front ++ more)) =
    and_assoc t.are_met (list_all is_met front) (list_all is_met more)
    ∙ ap (λ (b : Bool). t.are_met && b) (sym (list_all-append is_met front more)) in
    λ i. record { count = counted i; are_met = met i }

-- the checks of steps are that of the first, and then those of the others
pub check_first : (strict : Bool) (accounts : Accounts) (f : Flat) (last : Option Made) (step : Step) (later : List Step)
    → checks_from strict accounts f last (step ∷ later)
    ≡ check_at strict accounts f last step
    ++ checks_from strict accounts (flat_at accounts f step) (last_at accounts f last step) later
check_first strict accounts f last (Makes c said) later = refl
check_first strict accounts f None (Expects text) later = refl
check_first strict accounts f (Some made) (Expects text) later = refl
check_first strict accounts f last (Asks q) later = refl
check_first strict accounts f last (Forbids q) later = refl
