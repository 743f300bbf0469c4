-- The invariants and measures of `+name_of` of src/homes.rt.
use Rattle.std.proofs.Common.{length}
use Rattle.histar_names.proofs.homes.+name_of.Given as goal

abbrev pub decreases-name_of : goal.decreases-name_of
decreases-name_of l = length l.numbers.now
