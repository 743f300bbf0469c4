-- The invariants and measures of `refusals` of src/head.rt.
use Rattle.std.proofs.Common.{◌≡◌, ◌+◌, ◌≤◌, length}
use Rattle.std.specs.Prelude.{filter}
use Rattle.histar_page.specs.Texts.{texts}
use Rattle.histar_page.specs.Lines.{is_refused}
use Rattle.histar_page.proofs.head.refusals.Given as goal

abbrev pub decreases-replies : goal.decreases-replies
decreases-replies l = length l.rest

abbrev pub invariant-replies : goal.invariant-replies
invariant-replies l =
    (l.number + length (filter is_refused (texts l.rest)) ≡ length (filter is_refused (texts l.replies)))
    × (l.number + length l.rest ≤ length l.replies)
