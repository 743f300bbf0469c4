-- The invariants and measures of `title_among` of src/head.rt.
use Rattle.std.proofs.Common.{◌≡◌, length}
use Rattle.histar_page.specs.Texts.{texts}
use Rattle.histar_page.specs.Head.{title_of}
use Rattle.histar_page.proofs.head.title_among.Given as goal

abbrev pub decreases-lines : goal.decreases-lines
decreases-lines l = length l.rest

abbrev pub invariant-lines : goal.invariant-lines
invariant-lines l =
    title_of l.name (texts l.rest) ≡ title_of l.name (texts l.lines)
