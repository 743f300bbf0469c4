-- The invariants and measures of `+is_below_file` of src/output.rt.
use Rattle.std.proofs.Common.{length}
use Rattle.histar_leak.proofs.output.+is_below_file.Given as goal

abbrev pub decreases-is_below_file : goal.decreases-is_below_file
decreases-is_below_file l = length l.names.now
