-- Proves the goals of `Kernel::new` of src/kernel.rt that the search leaves open.
use Rattle.std.proofs.Common.{sym, subst}
use Rattle.histar_rules.specs.Sound.{IsSound}
use Rattle.histar_rules.proofs.Sound.{sound_empty}
use Rattle.histar_syscall.proofs.kernel.Kernel.new.Goals as goal

pub invariant_of-result : goal.invariant_of-result
invariant_of-result g c = subst IsSound (sym c.in_ok-objects.ensures.ok) sound_empty
