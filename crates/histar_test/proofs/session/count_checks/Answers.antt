-- Proves the goals of `count_checks` of src/session.rt that the search leaves open.
use Rattle.std.proofs.Common.{◌≡◌, ℕ, ◌+◌, ◌<◌, Err, List, Ok, length, subst, sym, ap, rules, ◌∙◌, take}
use Rattle.histar_io.proofs.Residuals.{passed_on}
use Rattle.histar_script.specs.Outcome.{Gives}
use Rattle.histar_test.specs.Session.{AreTests}
use Rattle.histar_test.specs.Steps.{Test, expectation_count, test_of}
use Rattle.histar_test.proofs.FileLemmas.{file_at, first_fault, more_tests}
use Rattle.histar_test.proofs.session.count_checks.Goals as goal

pub returns-in_err-test : goal.returns-in_err-test
returns-in_err-test c =
    let lt : c.files.file-index < length c.args.files.now = search rules in
    let bad = subst (λ (text : List ℕ). Gives {A = Test} (Err c.in_err-test.field-0.0) (test_of text)) c.as_slice.ensures.value
    c.in_err-test.ensures in
    rw (passed_on _ _ c.from_residual.ensures.1)
    (first_fault c.in_err-test.field-0.0 c.args.files.now c.files.file-index c.file-item.result
    (file_at c.args.files.now c.files.file-index c.file-item.result lt c.file-item.is) c.files.invariant.each bad)

pub files-preserved : goal.files-preserved
files-preserved c =
    let lt : c.files.file-index < length c.args.files.now = search rules in
    let is : test_of c.file-item.result.text.items ≡ Ok c.in_ok-test.test = ap test_of (sym c.as_slice.ensures.value) ∙ c.in_ok-test.ensures in
    let sum : c.in-Some.sum ≡ c.files.total + expectation_count c.in_ok-test.test.steps =
    c.in-Some.ensures.1 ∙ ap (λ (n : ℕ). c.files.total + n) (c.count_expectations.ensures ∙ ap expectation_count c.steps.ensures) in
    subst (AreTests (take (c.files.file-index + 1) c.args.files.now)) (sym sum)
    (more_tests c.args.files.now c.files.file-index c.file-item.result c.in_ok-test.test c.files.total (lt, c.file-item.is) c.files.invariant is)
