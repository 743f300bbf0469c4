-- The invariants and measures of `add_paths` of src/gathering.rt.
use Rattle.std.proofs.Common.{take}
use Rattle.histar_ever.specs.Gathering.{AddsPaths}
use Rattle.histar_ever.proofs.gathering.add_paths.Given as goal

abbrev pub invariant-loop-line : goal.invariant-loop-line
invariant-loop-line l = AddsPaths (take l.line-index l.lines) l.fn.paths l.paths
