-- The invariants and measures of `own_count` of src/lines.rt.
use Rattle.std.proofs.Common.{◌≡◌, ◌+◌, ◌≤◌, length}
use Rattle.std.specs.List.{prefix_len}
use Rattle.histar_page.specs.Texts.{texts}
use Rattle.histar_page.specs.Lines.{is_own}
use Rattle.histar_page.proofs.lines.own_count.Given as goal

abbrev pub decreases-lines : goal.decreases-lines
decreases-lines l = length l.rest

abbrev pub invariant-lines : goal.invariant-lines
invariant-lines l =
    (l.count + prefix_len (is_own l.word) (texts l.rest) ≡ prefix_len (is_own l.word) (texts l.lines)) × (l.count + length l.rest ≤ length l.lines)
