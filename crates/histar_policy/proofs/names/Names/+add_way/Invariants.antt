-- The measure of `add_way` of src/names.rt.
use Rattle.std.proofs.Common.{length}
use Rattle.histar_policy.proofs.names.Names.+add_way.Given as goal

abbrev pub decreases-add_way : goal.decreases-add_way
decreases-add_way l = length l.numbers.now
