-- The invariants and measures of `push_lines_of` of src/parts.rt.
use Rattle.std.proofs.Common.{◌≡◌, ◌++◌, length}
use Rattle.std.specs.List.{flat_map}
use Rattle.histar_script.specs.Lines.{lines_of}
use Rattle.histar_dialogue.specs.Parts.{line_at}
use Rattle.histar_dialogue.proofs.parts.push_lines_of.Given as goal

abbrev pub decreases-lines : goal.decreases-lines
decreases-lines l = length l.rest

abbrev pub invariant-lines : goal.invariant-lines
invariant-lines l =
    l.text.items ++ flat_map (line_at l.path) (lines_of l.rest)
    ≡ l.initial.text.items ++ flat_map (line_at l.path) (lines_of l.table)
