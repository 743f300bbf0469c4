-- The invariants and measures of `push_groups` of src/table.rt.
use Rattle.std.proofs.Common.{◌≡◌, ◌≤◌, ◌+◌, ◌*◌, ◌++◌, length, take}
use Rattle.histar_programs.specs.Start.{numbered, group_entry}
use Rattle.histar_login.proofs.table.push_groups.Given as goal

abbrev pub invariant-loop-k : goal.invariant-loop-k
invariant-loop-k g l = record {
  adds : l.table.items ≡ l.initial.table.items ++ numbered (group_entry l.accounts.users) 1 (take l.k l.accounts.groups);
  few : length l.table.items ≤ length l.initial.table.items + 66 * l.k;
}
