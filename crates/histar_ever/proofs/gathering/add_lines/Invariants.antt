-- The invariants and measures of `add_lines` of src/gathering.rt.
use Rattle.std.proofs.Common.{take}
use Rattle.histar_ever.specs.Gathering.{AddsLines}
use Rattle.histar_ever.proofs.gathering.add_lines.Given as goal

abbrev pub invariant-loop-line : goal.invariant-loop-line
invariant-loop-line l = AddsLines l.runners (take l.line-index l.lines) l.fn.letters l.letters
