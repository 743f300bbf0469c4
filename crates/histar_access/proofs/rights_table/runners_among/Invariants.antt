-- The invariants and measures of `runners_among` of src/rights_table.rt.
use Rattle.std.proofs.Common.{◌≡◌, take}
use Rattle.std.specs.List.{filter_map}
use Rattle.histar_access.specs.RightsTable.{runner_of}
use Rattle.histar_access.proofs.rights_table.runners_among.Given as goal

abbrev pub invariant-loop-process : goal.invariant-loop-process
invariant-loop-process l = l.runners.items ≡ filter_map runner_of (take l.process-index l.processes)
