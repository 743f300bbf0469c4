-- The invariants and measures of `are_narrow` of src/drawing.rt.
use Rattle.std.proofs.Common.{◌≡◌, length}
use Rattle.std.specs.List.{list_all}
use Rattle.histar_page.specs.Texts.{texts}
use Rattle.histar_page.specs.Drawing.{is_narrow}
use Rattle.histar_page.proofs.drawing.are_narrow.Given as goal

abbrev pub decreases-lines : goal.decreases-lines
decreases-lines l = length l.rest

abbrev pub invariant-lines : goal.invariant-lines
invariant-lines l =
    list_all is_narrow (texts l.rest) ≡ list_all is_narrow (texts l.lines)
