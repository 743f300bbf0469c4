-- The invariants and measures of `among` of src/lines.rt.
use Rattle.std.proofs.Common.{◌≡◌, ◌++◌, length}
use Rattle.std.specs.Prelude.{filter}
use Rattle.histar_page.specs.Texts.{texts}
use Rattle.histar_page.specs.LineKinds.{is_of}
use Rattle.histar_page.proofs.lines.among.Given as goal

abbrev pub decreases-lines : goal.decreases-lines
decreases-lines l = length l.rest

abbrev pub invariant-lines : goal.invariant-lines
invariant-lines l =
    texts l.found.items ++ filter (is_of l.kind) (texts l.rest) ≡ filter (is_of l.kind) (texts l.lines)
