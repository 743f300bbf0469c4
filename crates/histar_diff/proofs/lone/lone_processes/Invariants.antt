-- The invariants and measures of `lone_processes` of src/lone.rt.
use Rattle.std.proofs.Common.{◌≡◌, take}
use Rattle.std.specs.List.{filter_map}
use Rattle.histar_diff.specs.Columns.{lone_at}
use Rattle.histar_diff.proofs.lone.lone_processes.Given as goal

abbrev pub invariant-loop-column : goal.invariant-loop-column
invariant-loop-column l = l.lone.items ≡ filter_map lone_at (take l.column-index l.columns)
