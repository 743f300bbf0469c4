-- The invariants and measures of `push_each_trusted` of src/readers.rt.
use Rattle.std.proofs.Common.{◌≡◌, ◌++◌, take}
use Rattle.std.specs.List.{flat_map}
use Rattle.histar_leak.specs.Findings.{shown_trusted}
use Rattle.histar_leak.proofs.readers.push_each_trusted.Given as goal

abbrev pub invariant-loop-member : goal.invariant-loop-member
invariant-loop-member l =
    let secret = l.secret in
    l.text.items ≡ l.fn.text.items
    ++ flat_map (shown_trusted secret.groups.now secret.classes.now secret.path.now secret.bytes.now secret.members.now)
    (take l.member-index secret.members.now)
