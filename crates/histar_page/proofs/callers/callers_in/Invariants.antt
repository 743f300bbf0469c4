-- The invariants and measures of `callers_in` of src/callers.rt.
use Rattle.std.proofs.Common.{◌≡◌, [], length, map}
use Rattle.histar_page.specs.Texts.{texts}
use Rattle.histar_page.specs.Callers.{caller}
use Rattle.histar_page.proofs.CallerLemmas.{found_after}
use Rattle.histar_page.proofs.callers.callers_in.Given as goal

abbrev pub decreases-replies : goal.decreases-replies
decreases-replies l = length l.rest

abbrev pub invariant-replies : goal.invariant-replies
invariant-replies l =
    found_after (texts l.found.items) (map (caller (texts l.script)) (texts l.rest))
    ≡ found_after [] (map (caller (texts l.script)) (texts l.replies))
