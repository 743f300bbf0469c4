-- Proves the goals of `test_file` of src/session.rt that the search leaves open.
use Rattle.std.proofs.Common.{ℕ, ◌+◌, List, ap, subst, ◌∙◌}
use Rattle.std.specs.Io.KnownBytes.{Appends}
use Rattle.std.proofs.lemmas.Result.{err_from_is_err_and}
use Rattle.histar_io.proofs.Residuals.{passed_on}
use Rattle.histar_io.specs.Writing.{AppendsFront}
use Rattle.histar_io.proofs.WritingLemmas.{sent_none}
use Rattle.histar_test.specs.declared.checks.Check.{Check}
use Rattle.histar_test.specs.Checks.{checks_text}
use Rattle.histar_test.specs.Running.{tally_with}
use Rattle.histar_test.proofs.FileLemmas.{parts_checked}
use Rattle.histar_test.proofs.TestLemmas.{start_has_state, test_begun, test_taken}
use Rattle.histar_test.proofs.session.test_file.Goals as goal

pub returns-in_err-test-clause-err : goal.returns-in_err-test-clause-err
returns-in_err-test-clause-err g c =
    let p = err_from_is_err_and c.from_residual.result c.from_residual.ensures.1 in
    rw p.1 (_, sent_none (g.W.Sink.written c.args.writer.now) _)

pub returns-in_err-steps-clause-err : goal.returns-in_err-steps-clause-err
returns-in_err-steps-clause-err g c =
    let p = err_from_is_err_and c.from_residual-in_err-steps.result c.from_residual-in_err-steps.ensures.1 in
    rw p.1 (_, sent_none (g.W.Sink.written c.args.writer.now) _)

pub returns-in_err-run-clause-err : goal.returns-in_err-run-clause-err
returns-in_err-run-clause-err g c =
    let p = err_from_is_err_and c.from_residual-in_err-run.result c.from_residual-in_err-run.ensures.1 in
    rw p.1 (_, sent_none (g.W.Sink.written c.args.writer.now) _)

pub run_test-outcome-requires : goal.run_test-outcome-requires
run_test-outcome-requires g c = start_has_state c.in_ok-run.ensures.ok

pub returns-in_err-outcome-clause-err : goal.returns-in_err-outcome-clause-err
returns-in_err-outcome-clause-err g c =
    let p = err_from_is_err_and c.from_residual-in_err-outcome.result c.from_residual-in_err-outcome.ensures.1 in
    let old = g.W.Sink.written c.args.writer.now in
    let new = g.W.Sink.written c.run_test-outcome.new.writer in
    let begun =
    test_begun c.in_ok-run.ensures.ok old new c.as_slice.result.now c.into_parts-accounts.result.1.items _
    (rw c.in_err-outcome.was at c.run_test-outcome.ensures.err) c.in_ok-steps.ensures in
    rw p.1
    (subst (λ (t : List ℕ × List Check). AppendsFront old new (checks_text t.0 (c.args.tally.count + 1) t.1))
    (λ i. (
      c.as_slice.ensures.value i,
      parts_checked c.args.strict c.in_ok-test.ensures.ok c.into_parts-accounts.ensures.accounts c.into_parts-accounts.ensures.steps i,
    )) begun)

pub returns-in_err-outcome-clause-count : goal.returns-in_err-outcome-clause-count
returns-in_err-outcome-clause-count g c =
    rw (passed_on _ _ c.from_residual-in_err-outcome.ensures.1) (rw c.in_err-outcome.was at c.run_test-outcome.ensures.count)

pub returns-in_err-outcome-clause-faults : goal.returns-in_err-outcome-clause-faults
returns-in_err-outcome-clause-faults g c =
    rw (passed_on _ _ c.from_residual-in_err-outcome.ensures.1) (rw c.in_err-outcome.was at c.run_test-outcome.ensures.faults)

pub returns-clause-ok : goal.returns-clause-ok
returns-clause-ok g c =
    let old = g.W.Sink.written c.args.writer.now in
    let new = g.W.Sink.written c.run_test-outcome.new.writer in
    let taken = test_taken c.in_ok-run.ensures.ok old new c.as_slice.result.now c.into_parts-accounts.result.1.items _
    (rw c.in_ok-outcome.was at c.run_test-outcome.ensures.ok) c.in_ok-steps.ensures in
    subst (λ (t : List ℕ × List Check). Appends old new (checks_text t.0 (c.args.tally.count + 1) t.1))
    (λ i. (
      c.as_slice.ensures.value i,
      parts_checked c.args.strict c.in_ok-test.ensures.ok c.into_parts-accounts.ensures.accounts c.into_parts-accounts.ensures.steps i,
    )) taken.0

pub returns-clause-tally : goal.returns-clause-tally
returns-clause-tally g c =
    let old = g.W.Sink.written c.args.writer.now in
    let new = g.W.Sink.written c.run_test-outcome.new.writer in
    let taken = test_taken c.in_ok-run.ensures.ok old new c.as_slice.result.now c.into_parts-accounts.result.1.items _
    (rw c.in_ok-outcome.was at c.run_test-outcome.ensures.ok) c.in_ok-steps.ensures in
    c.finish-after.ensures ∙ taken.1 ∙ ap (tally_with c.args.tally)
    (parts_checked c.args.strict c.in_ok-test.ensures.ok c.into_parts-accounts.ensures.accounts c.into_parts-accounts.ensures.steps)
