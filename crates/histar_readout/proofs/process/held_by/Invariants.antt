-- The invariants and measures of `held_by` of src/process.rt.
use Rattle.std.proofs.Common.{◌≡◌, ◌&&◌, ◌∷◌, ◌++◌, drop}
use Rattle.std.specs.Prelude.{nat_eq, not}
use Rattle.std.specs.Set.{is_member}
use Rattle.histar_level.specs.Level.{is_star}
use Rattle.histar_layout.proofs.Scanning.{passed}
use Rattle.histar_readout.specs.Process.{owned_beside}
use Rattle.histar_readout.proofs.process.held_by.Given as goal

abbrev pub invariant-loop-category : goal.invariant-loop-category
invariant-loop-category g l =
    l.held.items
    ++ passed (λ e. is_star e.1 && not (is_member nat_eq (l.caller.read ∷ l.caller.write ∷ l.as_user) e.0))
    (drop l.category-index l.exceptions)
    ≡ owned_beside (l.caller.read ∷ l.caller.write ∷ l.as_user) l.own
