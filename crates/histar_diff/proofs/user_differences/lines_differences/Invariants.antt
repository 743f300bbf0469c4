-- The invariants and measures of `lines_differences` of src/user_differences.rt.
use Rattle.std.proofs.Common.{◌≡◌, ◌+◌, ◌++◌, length}
use Rattle.histar_diff.specs.UserTables.{shared_lines_differences}
use Rattle.histar_diff.proofs.user_differences.lines_differences.Given as goal

abbrev pub invariant-lines : goal.invariant-lines
invariant-lines l = l.differences.items ++ shared_lines_differences l.shared l.old_rest l.new_rest ≡ shared_lines_differences l.shared l.old l.new

abbrev pub decreases-lines : goal.decreases-lines
decreases-lines l = length l.old_rest + length l.new_rest
