-- The invariants and measures of `set_up_count` of src/set_up.rt.
use Rattle.std.proofs.Common.{◌≡◌, ◌+◌, ◌≤◌, [], length}
use Rattle.histar_page.specs.Texts.{texts}
use Rattle.histar_page.specs.SetUp.{set_up_from}
use Rattle.histar_page.proofs.set_up.set_up_count.Given as goal

abbrev pub decreases-replies : goal.decreases-replies
decreases-replies l = length l.rest

abbrev pub invariant-replies : goal.invariant-replies
invariant-replies l =
    (l.number + set_up_from (texts l.script) l.before (texts l.rest) ≡ set_up_from (texts l.script) [] (texts l.replies))
    × (l.number + length l.rest ≤ length l.replies)
