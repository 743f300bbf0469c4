-- The invariants and measures of `push_changer_logins` of src/changers.rt.
use Rattle.std.proofs.Common.{◌≡◌, ◌++◌, take}
use Rattle.std.specs.List.{flat_map}
use Rattle.histar_leak.specs.Findings.{shown_changer_login}
use Rattle.histar_leak.proofs.changers.push_changer_logins.Given as goal

abbrev pub invariant-loop-user : goal.invariant-loop-user
invariant-loop-user l = l.text.items ≡ l.fn.text.items
    ++ flat_map (shown_changer_login l.place.groups.now l.place.classes.now l.place.changes.now l.whom) (take l.user-index l.users)
