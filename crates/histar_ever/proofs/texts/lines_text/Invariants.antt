-- The invariants and measures of `lines_text` of src/texts.rt.
use Rattle.std.proofs.Common.{◌≡◌, take}
use Rattle.std.specs.List.{flat_map}
use Rattle.histar_ever.specs.Gathering.{gathered_line}
use Rattle.histar_ever.proofs.texts.lines_text.Given as goal

abbrev pub invariant-loop-path : goal.invariant-loop-path
invariant-loop-path l = l.text.items ≡ flat_map (gathered_line l.ever.letters l.processes) (take l.path-index l.paths)
