-- The invariants and measures of `check_directory` of src/checked.rt.
use Rattle.std.proofs.Common.{length}
use Rattle.histar_layout.proofs.CheckedDirectories.{IsCheckedUpTo, last_name}
use Rattle.histar_layout.proofs.checked.check_directory.Given as goal

abbrev pub invariant-entries : goal.invariant-entries
invariant-entries l = IsCheckedUpTo l.bytes l.rest (last_name l.last) l.count

abbrev pub decreases-entries : goal.decreases-entries
decreases-entries l = length l.rest
