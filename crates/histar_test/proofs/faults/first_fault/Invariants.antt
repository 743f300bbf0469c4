-- The invariants and measures of `first_fault` of src/faults.rt.
use Rattle.std.proofs.Common.{length}
use Rattle.histar_script.specs.Lines.{lines_of}
use Rattle.histar_test.proofs.FaultLaws.{IsBehind}
use Rattle.histar_test.proofs.faults.first_fault.Given as goal

abbrev pub invariant-lines : goal.invariant-lines
invariant-lines l = record { is_behind : IsBehind l.accounts (lines_of l.text) l.last (lines_of l.rest) }

abbrev pub decreases-lines : goal.decreases-lines
decreases-lines l = length l.rest
