-- The invariants and measures of `push_differences` of src/differences.rt.
use Rattle.std.proofs.Common.{◌≡◌, ◌++◌, take}
use Rattle.std.specs.Option.{option_copied}
use Rattle.histar_diff.specs.Lines.{line_differences}
use Rattle.histar_diff.proofs.differences.push_differences.Given as goal

abbrev pub invariant-loop-column : goal.invariant-loop-column
invariant-loop-column l = l.differences.items
    ≡ l.fn.differences.items ++ line_differences (take l.column-index l.columns) l.path (option_copied l.before) (option_copied l.after)
