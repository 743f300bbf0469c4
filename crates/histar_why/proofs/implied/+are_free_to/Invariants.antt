-- The invariants and measures of `+are_free_to` of src/implied.rt.
use Rattle.std.proofs.Common.{length}
use Rattle.histar_why.proofs.implied.+are_free_to.Given as goal

abbrev pub decreases-are_free_to : goal.decreases-are_free_to
decreases-are_free_to g l = length l.numbers.now
