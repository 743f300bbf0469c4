-- The invariants and measures of `+search` of src/views.rt.
use Rattle.std.proofs.Common.{length}
use Rattle.histar_why.proofs.views.+search.Given as goal

abbrev pub decreases-search : goal.decreases-search
decreases-search g l = length l.numbers.now
