-- The invariants and measures of `push_cells` of src/texts.rt.
use Rattle.std.proofs.Common.{◌≡◌, ◌++◌, take}
use Rattle.std.specs.List.{flat_map}
use Rattle.histar_ever.specs.Gathering.{gathered_cell}
use Rattle.histar_ever.proofs.texts.push_cells.Given as goal

abbrev pub invariant-loop-process : goal.invariant-loop-process
invariant-loop-process l = l.text.items ≡ l.fn.text.items ++ flat_map (gathered_cell l.ever.letters l.path) (take l.process-index l.processes)
