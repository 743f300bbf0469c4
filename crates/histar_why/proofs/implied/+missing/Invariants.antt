-- The invariants and measures of `+missing` of src/implied.rt.
use Rattle.std.proofs.Common.{length}
use Rattle.histar_why.proofs.implied.+missing.Given as goal

abbrev pub decreases-missing : goal.decreases-missing
decreases-missing g l = length l.names.now
