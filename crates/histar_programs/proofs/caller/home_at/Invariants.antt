-- The invariants and measures of `home_at` of src/caller.rt.
use Rattle.std.proofs.Common.{◌≡◌, length}
use Rattle.histar_syscall.specs.KernelModel.{state}
use Rattle.histar_programs.specs.Caller.{home_at}
use Rattle.histar_programs.proofs.caller.home_at.Given as goal

abbrev pub invariant-numbers : goal.invariant-numbers
invariant-numbers g l = home_at (state l.kernel) l.home l.rest ≡ home_at (state l.fn.kernel) l.fn.first l.fn.numbers

abbrev pub decreases-numbers : goal.decreases-numbers
decreases-numbers g l = length l.rest
