-- The invariants and measures of `look_up` of src/lookup.rt.
use Rattle.std.proofs.Common.{◌-◌, drop, length}
use Rattle.histar_layout.proofs.LookingUp.{IsLeft}
use Rattle.histar_layout.proofs.lookup.look_up.Given as goal

abbrev pub invariant-entries : goal.invariant-entries
invariant-entries l = IsLeft l.bytes (drop l.start l.bytes) l.name

abbrev pub decreases-entries : goal.decreases-entries
decreases-entries l = length l.bytes - l.start
