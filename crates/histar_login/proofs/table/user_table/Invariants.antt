-- The invariants and measures of `user_table` of src/table.rt.
use Rattle.std.proofs.Common.{◌≡◌, ◌≤◌, ◌+◌, ◌*◌, length, take}
use Rattle.histar_programs.specs.Start.{user_entries}
use Rattle.histar_login.proofs.table.user_table.Given as goal

abbrev pub invariant-loop-i : goal.invariant-loop-i
invariant-loop-i g l = record {
  adds : l.table.items ≡ user_entries (take l.i l.accounts.users);
  few : length l.table.items ≤ 65 + 65 * l.i;
}
