-- The invariants and measures of `+highest_power` of src/reasons.rt.
use Rattle.std.proofs.Common.{length}
use Rattle.histar_trust.proofs.reasons.+highest_power.Given as goal

abbrev pub decreases-highest_power : goal.decreases-highest_power
decreases-highest_power l = length l.classes.now
