-- The invariants and measures of `push_file_bands` of src/bands.rt.
use Rattle.std.proofs.Common.{◌≡◌, ◌++◌, ◌+◌, length}
use Rattle.histar_page.specs.Items.{items_of}
use Rattle.histar_page.specs.Texts.{texts}
use Rattle.histar_page.specs.Drawing.{file_bands}
use Rattle.histar_page.proofs.bands.push_file_bands.Given as goal

abbrev pub decreases-lines : goal.decreases-lines
decreases-lines l = length l.rest

abbrev pub invariant-lines : goal.invariant-lines
invariant-lines l =
    (items_of l.pieces.items ++ file_bands l.job l.index (texts l.rest) ≡ items_of l.fn.pieces.items ++ file_bands l.job 0 (texts l.lines))
    × (l.index + length l.rest ≡ length l.lines)
