-- The invariants and measures of `make_users` of src/boot_calls.rt.
use Rattle.std.proofs.Common.{take}
use Rattle.histar_login.specs.Booting.{BootsOn, IsBefore, users_part}
use Rattle.histar_login.proofs.boot_calls.make_users.Given as goal

abbrev pub invariant-loop-i : goal.invariant-loop-i
invariant-loop-i g l = BootsOn l.initial.kernel l.kernel (IsBefore 3) (users_part l.accounts (take l.i l.accounts.users))
