-- The measure of `writes_one` of src/changers.rt.
use Rattle.std.proofs.Common.{length}
use Rattle.histar_secrecy.proofs.changers.+writes_one.Given as goal

abbrev pub decreases-writes_one : goal.decreases-writes_one
decreases-writes_one l = length l.classes.now
