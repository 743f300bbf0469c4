-- The invariants and measures of `read_steps` of src/steps.rt.
use Rattle.std.proofs.Common.{◌+◌, ◌≤◌, false, length}
use Rattle.histar_script.specs.Lines.{lines_of}
use Rattle.histar_test.specs.Steps.{steps_from}
use Rattle.histar_test.proofs.StepLemmas.{IsSoFar}
use Rattle.histar_test.proofs.steps.read_steps.Given as goal

abbrev pub invariant-lines : goal.invariant-lines
invariant-lines l = record {
  so_far : IsSoFar l.accounts (steps_from l.accounts 1 false (lines_of l.text)) (l.count + 1) (lines_of l.rest) l.reading;
  counted : l.count + length l.rest ≤ length l.text;
}

abbrev pub decreases-lines : goal.decreases-lines
decreases-lines l = length l.rest
