-- The invariants and measures of `push_marked` of src/refusals.rt.
use Rattle.std.proofs.Common.{◌≡◌, ◌++◌, length}
use Rattle.std.specs.List.{flat_map}
use Rattle.histar_script.specs.Lines.{lines_of}
use Rattle.histar_dialogue.specs.Refusals.{marked_line}
use Rattle.histar_dialogue.proofs.refusals.push_marked.Given as goal

abbrev pub decreases-lines : goal.decreases-lines
decreases-lines l = length l.rest

abbrev pub invariant-lines : goal.invariant-lines
invariant-lines l =
    l.text.items ++ flat_map (marked_line l.mark) (lines_of l.rest)
    ≡ l.initial.text.items ++ flat_map (marked_line l.mark) (lines_of l.output)
