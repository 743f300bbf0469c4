-- The invariants and measures of `+find_home` of src/find.rt.
use Rattle.std.proofs.Common.{length}
use Rattle.histar_process.proofs.find.+find_home.Given as goal

abbrev pub decreases-find_home : goal.decreases-find_home
decreases-find_home g l = length l.numbers.now
