-- The invariants and measures of `read_members` of src/groups.rt.
use Rattle.std.proofs.Common.{◌≡◌, ◌-◌, length}
use Rattle.histar_script.specs.Reading.{members_from, members_of}
use Rattle.histar_script.proofs.groups.read_members.Given as goal

abbrev pub invariant-loop : goal.invariant-loop
invariant-loop g l = record {
  so_far : members_from (16 - l.counter) l.members.items l.rest ≡ members_of l.text;
  counted : length l.members.items ≡ l.counter;
}
