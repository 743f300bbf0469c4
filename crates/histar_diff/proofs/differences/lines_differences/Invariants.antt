-- The invariants and measures of `lines_differences` of src/differences.rt.
use Rattle.std.proofs.Common.{◌≡◌, ◌+◌, ◌++◌, length}
use Rattle.histar_diff.specs.Lines.{lines_differences}
use Rattle.histar_diff.proofs.differences.lines_differences.Given as goal

abbrev pub invariant-lines : goal.invariant-lines
invariant-lines l = l.differences.items ++ lines_differences l.columns l.old_rest l.new_rest ≡ lines_differences l.columns l.old l.new

abbrev pub decreases-lines : goal.decreases-lines
decreases-lines l = length l.old_rest + length l.new_rest
