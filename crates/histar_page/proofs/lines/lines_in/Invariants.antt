-- The invariants and measures of `lines_in` of src/lines.rt.
use Rattle.std.proofs.Common.{◌≡◌, ◌++◌, length}
use Rattle.histar_page.specs.Texts.{texts}
use Rattle.histar_script.specs.Lines.{lines_of}
use Rattle.histar_page.proofs.lines.lines_in.Given as goal

abbrev pub decreases-lines : goal.decreases-lines
decreases-lines l = length l.rest

abbrev pub invariant-lines : goal.invariant-lines
invariant-lines l =
    texts l.lines.items ++ lines_of l.rest ≡ lines_of l.text
