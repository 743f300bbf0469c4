-- The invariants and measures of `has_note` of src/set_up.rt.
use Rattle.std.proofs.Common.{◌≡◌, ℕ, List, length}
use Rattle.std.specs.List.{list_any}
use Rattle.histar_page.specs.Texts.{texts}
use Rattle.histar_page.specs.SetUp.{shows_note}
use Rattle.histar_page.proofs.set_up.has_note.Given as goal

abbrev pub decreases-lines : goal.decreases-lines
decreases-lines l = length l.rest

abbrev pub invariant-lines : goal.invariant-lines
invariant-lines l = (reply : List ℕ) → list_any (shows_note reply) (texts l.rest) ≡ list_any (shows_note reply) (texts l.lines)
