-- The invariants and measures of `+push_classes` of src/way.rt.
use Rattle.std.proofs.Common.{length}
use Rattle.histar_trust.proofs.way.+push_classes.Given as goal

abbrev pub decreases-push_classes : goal.decreases-push_classes
decreases-push_classes l = length l.names.now
