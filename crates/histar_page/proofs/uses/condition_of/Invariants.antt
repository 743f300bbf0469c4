-- The invariants and measures of `condition_of` of src/uses.rt.
use Rattle.std.proofs.Common.{◌≡◌, length}
use Rattle.histar_page.specs.Texts.{texts}
use Rattle.histar_page.specs.Uses.{condition_of}
use Rattle.histar_page.proofs.uses.condition_of.Given as goal

abbrev pub decreases-members : goal.decreases-members
decreases-members l = length l.rest

abbrev pub invariant-members : goal.invariant-members
invariant-members l = condition_of (texts l.rest) ≡ condition_of (texts l.members)
