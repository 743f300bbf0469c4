-- The invariants and measures of `remove_tree` of src/removal.rt.
use Rattle.std.proofs.Common.{◌≡◌, ℕ, nat_eq, None, take, if◌then◌else◌}
use Rattle.std.specs.Set.{is_member}
use Rattle.histar_object.specs.Objects.{objects_of}
use Rattle.histar_container.proofs.removal.remove_tree.Given as goal

-- the numbers so far have been taken out
abbrev pub invariant-loop-number : goal.invariant-loop-number
invariant-loop-number g l =
    (q : ℕ)
    → objects_of l.table q
    ≡ (if is_member nat_eq (take l.number-index l.number-items) q then None else objects_of l.initial.table q)
