-- The invariants and measures of `count_expectations` of src/session.rt.
use Rattle.std.proofs.Common.{◌≡◌, ◌≤◌, take}
use Rattle.histar_test.specs.Steps.{expectation_count}
use Rattle.histar_test.proofs.session.count_expectations.Given as goal

abbrev pub invariant-steps : goal.invariant-steps
invariant-steps l = record {
  counted : l.count ≡ expectation_count (take l.step-index l.steps);
  few : l.count ≤ l.step-index;
}
