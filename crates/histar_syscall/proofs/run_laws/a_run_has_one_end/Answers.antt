-- Proves the goals of `a_run_has_one_end` of src/run_laws.rt that the search leaves open.
use Rattle.histar_syscall.proofs.OneEnd.{one_end}
use Rattle.histar_syscall.proofs.run_laws.a_run_has_one_end.Goals as goal

pub returns : goal.returns
returns c = one_end
