-- The invariants and measures of `+find_place` of src/directory.rt.
use Rattle.std.proofs.Common.{length}
use Rattle.histar_programs.proofs.directory.+find_place.Given as goal

abbrev pub decreases-find_place : goal.decreases-find_place
decreases-find_place g l = length l.names.now
