-- The invariants and measures of `columns_of` of src/columns.rt.
use Rattle.std.proofs.Common.{◌≡◌, ◌+◌, ◌-◌, ◌++◌, ◌≤◌, length}
use Rattle.histar_diff.specs.Columns.{columns_from}
use Rattle.histar_diff.proofs.columns.columns_of.Given as goal

abbrev pub invariant-processes : goal.invariant-processes
invariant-processes l = record {
  joined : l.columns.items ++ columns_from (length l.old - length l.old_rest) l.old_rest (length l.new - length l.new_rest) l.new_rest
      ≡ columns_from 0 l.old 0 l.new;
  old_within : length l.old_rest ≤ length l.old;
  new_within : length l.new_rest ≤ length l.new;
}

abbrev pub decreases-processes : goal.decreases-processes
decreases-processes l = length l.old_rest + length l.new_rest
