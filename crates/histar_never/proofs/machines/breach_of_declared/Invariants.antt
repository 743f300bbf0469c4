-- The invariants and measures of `breach_of_declared` of src/machines.rt.
use Rattle.std.proofs.Common.{drop}
use Rattle.histar_never.proofs.OnMachines.{SameByUsers}
use Rattle.histar_never.proofs.machines.breach_of_declared.Given as goal

abbrev pub invariant-loop-place : goal.invariant-loop-place
invariant-loop-place g l = SameByUsers l.machine l.never l.machine.users.users (drop l.place l.machine.users.users)
