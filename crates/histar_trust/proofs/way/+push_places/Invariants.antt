-- The invariants and measures of `+push_places` of src/way.rt.
use Rattle.std.proofs.Common.{length}
use Rattle.histar_trust.proofs.way.+push_places.Given as goal

abbrev pub decreases-push_places : goal.decreases-push_places
decreases-push_places l = length l.names.now
