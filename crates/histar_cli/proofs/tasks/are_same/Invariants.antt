-- The invariants and measures of `are_same` of src/tasks.rt.
use Rattle.std.proofs.Common.{◌≡◌, length}
use Rattle.std.specs.List.{list_all}
use Rattle.histar_cli.specs.Checks.{is_same_without}
use Rattle.histar_cli.proofs.tasks.are_same.Given as goal

abbrev pub decreases-verdicts : goal.decreases-verdicts
decreases-verdicts l = length l.rest

abbrev pub invariant-verdicts : goal.invariant-verdicts
invariant-verdicts l = list_all is_same_without l.rest ≡ list_all is_same_without l.verdicts
