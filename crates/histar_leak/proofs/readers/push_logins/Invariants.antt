-- The invariants and measures of `push_logins` of src/readers.rt.
use Rattle.std.proofs.Common.{◌≡◌, ◌++◌, take}
use Rattle.std.specs.List.{flat_map}
use Rattle.histar_leak.specs.Findings.{shown_login}
use Rattle.histar_leak.proofs.readers.push_logins.Given as goal

abbrev pub invariant-loop-user : goal.invariant-loop-user
invariant-loop-user l =
    let secret = l.secret in
    l.text.items ≡ l.fn.text.items
    ++ flat_map (shown_login secret.groups.now secret.classes.now secret.path.now secret.bytes.now l.whom) (take l.user-index l.users)
