-- The invariants and measures of `+way_to` of src/ways.rt.
use Rattle.std.proofs.Common.{length}
use Rattle.histar_why.proofs.ways.+way_to.Given as goal

abbrev pub decreases-way_to : goal.decreases-way_to
decreases-way_to g l = length l.names.now
