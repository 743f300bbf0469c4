-- The invariants and measures of `is_inside` of src/uses.rt.
use Rattle.std.proofs.Common.{◌≡◌, length}
use Rattle.std.specs.List.{list_any}
use Rattle.histar_page.specs.Texts.{texts}
use Rattle.histar_page.specs.Uses.{is_insider}
use Rattle.histar_page.proofs.uses.is_inside.Given as goal

abbrev pub decreases-members : goal.decreases-members
decreases-members l = length l.rest

abbrev pub invariant-members : goal.invariant-members
invariant-members l = list_any (is_insider l.process) (texts l.rest) ≡ list_any (is_insider l.process) (texts l.members)
