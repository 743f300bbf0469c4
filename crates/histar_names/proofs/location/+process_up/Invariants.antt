-- The invariants and measures of `+process_up` of src/location.rt.
use Rattle.std.proofs.Common.{length}
use Rattle.histar_names.proofs.location.+process_up.Given as goal

abbrev pub decreases-process_up : goal.decreases-process_up
decreases-process_up g l = length l.numbers.now
