-- The invariants and measures of `+first_change` of src/changes.rt.
use Rattle.std.proofs.Common.{length}
use Rattle.histar_leak.proofs.changes.+first_change.Given as goal

abbrev pub decreases-first_change : goal.decreases-first_change
decreases-first_change l = length l.classes.now
