-- The invariants and measures of `denials` of src/head.rt.
use Rattle.std.proofs.Common.{◌≡◌, ◌+◌, ◌≤◌, length}
use Rattle.std.specs.Prelude.{filter}
use Rattle.histar_page.specs.Texts.{texts}
use Rattle.histar_page.specs.Lines.{is_denied}
use Rattle.histar_page.proofs.head.denials.Given as goal

abbrev pub decreases-calls : goal.decreases-calls
decreases-calls l = length l.rest

abbrev pub invariant-calls : goal.invariant-calls
invariant-calls l =
    (l.number + length (filter is_denied (texts l.rest)) ≡ length (filter is_denied (texts l.raw_calls)))
    × (l.number + length l.rest ≤ length l.raw_calls)
