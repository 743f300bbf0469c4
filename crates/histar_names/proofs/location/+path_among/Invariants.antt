-- The invariants and measures of `+path_among` of src/location.rt.
use Rattle.std.proofs.Common.{length}
use Rattle.histar_names.proofs.location.+path_among.Given as goal

abbrev pub decreases-path_among : goal.decreases-path_among
decreases-path_among g l = length l.names.now
