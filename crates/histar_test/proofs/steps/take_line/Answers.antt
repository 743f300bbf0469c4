-- Proves the goals of `take_line` of src/steps.rt that the search leaves open.
use Rattle.std.proofs.Common.{◌≡◌, None, Some, refl, rules}
use Rattle.histar_io.proofs.Residuals.{passed_on}
use Rattle.histar_test.specs.Steps.{open_after}
use Rattle.histar_test.proofs.StepLemmas.{line_refused, nothing_added, read_as, step_added, step_refused}
use Rattle.histar_test.proofs.steps.take_line.Goals as goal

pub returns-in_err-step : goal.returns-in_err-step
returns-in_err-step c =
    let old = c.args.reading.now in
    rw (passed_on _ _ c.from_residual.ensures.1) (line_refused c.args.accounts.now c.args.number c.args.line.now c.in_err-step.field-0.0
    c.in_err-step.ensures old old)

pub returns-in_default : goal.returns-in_default
returns-in_default c =
    nothing_added c.args.accounts.now c.args.number c.args.line.now c.args.reading.now (read_as c.in_ok-step.ensures c.in_default.is)

pub returns-in_default-open_after : goal.returns-in_default-open_after
returns-in_default-open_after c =
    let may : open_after c.args.reading.now.is_open c.in-Some.step ≡ None = search rules in (
      refl,
      step_refused c.args.accounts.now c.args.number c.args.line.now c.args.reading.now.is_open c.in-Some.step
          (read_as c.in_ok-step.ensures c.in-Some.is) may,
    )

pub returns : goal.returns
returns c =
    let may : open_after c.args.reading.now.is_open c.in-Some.step ≡ Some c.in-Some-open_after.is_open = search rules in
    step_added c.args.accounts.now c.args.number c.args.line.now c.args.reading.now
    _ c.in-Some.step (read_as c.in_ok-step.ensures c.in-Some.is) may c.in_ok-push.ensures.items
