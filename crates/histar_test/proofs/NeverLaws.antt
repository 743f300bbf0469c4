-- The check of a claim `#never` is met exactly if the claim holds.
use Rattle.std.proofs.Common.{◌≡◌, ℕ, Bool, true, false, List, [], ◌∷◌, ◌++◌, Option, Some, None}
use Rattle.std.proofs.Common.{refl, sym, ap₂, ◌∙◌, subst, arith}
use Rattle.std.proofs.lemmas.Bool.Decides.{nat_tests}
use Rattle.std.specs.Prelude.{◌↔◌, codes, decimal, filter, map, option_to_list, if◌then◌else◌}
use Rattle.std.specs.List.{AllZip}
use Rattle.std.proofs.lemmas.List.Elements.{filter-append}
use Rattle.histar_flat.specs.declared.calls.CallLine.{CallLine}
use Rattle.histar_flat.specs.FlatCalls.{flat_after}
use Rattle.histar_flat.specs.FlatState.{Flat}
use Rattle.histar_flat.specs.Accounts.{Accounts}
use Rattle.histar_flat.specs.Meaning.{boot}
use Rattle.histar_script.specs.Reading.{is_empty}
use Rattle.histar_never.specs.declared.claims.Never.{Never}
use Rattle.histar_never.specs.declared.breaches.LateBreach.{LateBreach}
use Rattle.histar_never.specs.Breaches.{breach_text, first_breach, holder_text}
use Rattle.histar_never.specs.Letters.{letters_text}
use Rattle.histar_never.proofs.Broken.{claims_are_never_broken}
use Rattle.histar_test.specs.declared.checks.Check.{Check}
use Rattle.histar_test.specs.declared.checks.Made.{Made}
use Rattle.histar_test.specs.declared.checks.Wanted.TheVariants.{NoRefusal}
use Rattle.histar_test.specs.declared.steps.Step.{Step}
use Rattle.histar_test.specs.declared.steps.Step.TheVariants.{Makes, Expects, Asks, Forbids}
use Rattle.histar_test.specs.Checks.{checks_from, checks_of, found_check, is_met, made_of, never_check, never_checks, unexpected}
use Rattle.histar_test.specs.Laws.{IsMetIfNever, NeversAreMet, NumberedLine, forbidding_in, is_of_never}
use Rattle.histar_test.specs.Steps.{Test, calls_in, nevers_in}
use Rattle.histar_test.proofs.StepLaws.{tests_make_the_calls}
use Rattle.histar_test.proofs.LineLaws.{IsClaimed, each_mapped, test_claimed}
use Rattle.histar_test.proofs.StrictLaws.{all_kept}

-- ---- the checks of claims among all

-- the check of the open call is of no claim
open_claims_nothing : (strict : Bool) (last : Option Made) → filter is_of_never (option_to_list (unexpected strict last)) ≡ []
open_claims_nothing false last = refl
open_claims_nothing true None = refl
open_claims_nothing true (Some made) = by made.is_refused
  where
    by : (b : Bool) → filter is_of_never (option_to_list (if b then Some (record { made = made; wanted = NoRefusal }) else None)) ≡ []
    by true = refl
    by false = refl

-- the checks of steps at their places are of no claims
steps_claim_nothing : (strict : Bool) (accounts : Accounts) (f : Flat) (last : Option Made) (steps : List Step)
    → filter is_of_never (checks_from strict accounts f last steps) ≡ []
steps_claim_nothing strict accounts f last [] = open_claims_nothing strict last
steps_claim_nothing strict accounts f last (Makes c said ∷ steps) =
    let after = flat_after accounts f c.process c.call in
    let made : Option Made = Some (made_of accounts f c said) in
    filter-append is_of_never (option_to_list (unexpected strict last)) (checks_from strict accounts after made steps)
    ∙ ap₂ (λ (a b : List Check). a ++ b) (open_claims_nothing strict last) (steps_claim_nothing strict accounts after made steps)
steps_claim_nothing strict accounts f None (Expects text ∷ steps) = steps_claim_nothing strict accounts f None steps
steps_claim_nothing strict accounts f (Some made) (Expects text ∷ steps) = steps_claim_nothing strict accounts f None steps
steps_claim_nothing strict accounts f last (Asks q ∷ steps) = steps_claim_nothing strict accounts f last steps
steps_claim_nothing strict accounts f last (Forbids q ∷ steps) = steps_claim_nothing strict accounts f last steps

-- the checks of claims are the last ones
only_claims : (strict : Bool) (test : Test) → filter is_of_never (checks_of strict test) ≡ never_checks test
only_claims strict test =
    let own = checks_from strict test.accounts (boot test.accounts) None test.steps in
    filter-append is_of_never own (never_checks test)
    ∙ ap₂ (λ (a b : List Check). a ++ b) (steps_claim_nothing strict test.accounts (boot test.accounts) None test.steps)
    (all_kept is_of_never (never_check test.accounts (calls_in test.steps)) (λ never. refl) (nevers_in test.steps))

-- ---- when one is met

-- a text with a first byte is not empty
not_empty : (b : ℕ) (bs : List ℕ) → is_empty (b ∷ bs) ≡ false
not_empty b bs = grind (arith, nat_tests)

-- the text of a breach is not empty
breach_said : (late : LateBreach) → is_empty (breach_text late) ≡ false
breach_said late =
    not_empty 97 (codes "fter line " ++ decimal late.line ++ codes ": " ++ holder_text late.breach.holder ++ codes " has "
    ++ letters_text late.breach.rights)

-- a claim is met exactly if no breach of it was found
met_unbroken : (never : Never) (found : Option LateBreach) → (is_met (found_check never found) ≡ true) ↔ (found ≡ None)
met_unbroken never None = (λ e. refl, λ e. refl)
met_unbroken never (Some late) = (λ e. let no : true ≡ false = sym e ∙ breach_said late in absurd cc, λ e. absurd cc)

-- the check of each claim is met exactly if the claim holds
pub nevers_are_met : NeversAreMet
nevers_are_met strict text script test is reads =
    let makes = tests_make_the_calls text script test is reads in
    let met : (line : NumberedLine) (never : Never) → IsClaimed script line never
    → IsMetIfNever script line (never_check script.accounts script.calls never) = λ line never claimed.
    let found = met_unbroken never (first_breach script.accounts (boot script.accounts) script.calls never) in
    let law = claims_are_never_broken script.accounts script.calls never in
    record {
      text = claimed.text;
      on_line = claimed.on_line;
      never = never;
      reads = claimed.reads;
      met = (λ e. law.0 (found.0 e), λ holds. found.1 (law.1 holds));
    } in
    subst (AllZip (IsMetIfNever script) (forbidding_in text)) (sym (only_claims strict test))
    (subst (λ (s : Accounts × List CallLine). AllZip (IsMetIfNever script) (forbidding_in text) (map (never_check s.0 s.1) (nevers_in test.steps)))
    (λ i. (sym makes.0 i, sym makes.1 i))
    (each_mapped (IsClaimed script) (IsMetIfNever script) (never_check script.accounts script.calls) met (forbidding_in text)
    (nevers_in test.steps) (test_claimed text script test is reads)))
