-- The invariants and measures of `+name_of` of src/views.rt.
use Rattle.std.proofs.Common.{length}
use Rattle.histar_why.proofs.views.+name_of.Given as goal

abbrev pub decreases-name_of : goal.decreases-name_of
decreases-name_of l = length l.numbers.now
