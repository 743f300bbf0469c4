-- The invariants and measures of `push_each_changer` of src/changers.rt.
use Rattle.std.proofs.Common.{◌≡◌, ◌++◌, take}
use Rattle.std.specs.List.{flat_map}
use Rattle.histar_leak.specs.Findings.{shown_changer}
use Rattle.histar_leak.proofs.changers.push_each_changer.Given as goal

abbrev pub invariant-loop-member : goal.invariant-loop-member
invariant-loop-member l = l.text.items ≡ l.fn.text.items
    ++ flat_map (shown_changer l.place.groups.now l.place.classes.now l.place.changes.now) (take l.member-index l.place.members.now)
