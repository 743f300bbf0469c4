-- The invariants and measures of `push_each_changer` of src/output.rt.
use Rattle.std.proofs.Common.{◌≡◌, ◌++◌, take}
use Rattle.std.specs.List.{flat_map}
use Rattle.histar_trust.specs.Findings.{shown_changer}
use Rattle.histar_trust.proofs.output.push_each_changer.Given as goal

abbrev pub invariant-loop-member : goal.invariant-loop-member
invariant-loop-member l = l.text.items
    ≡ l.fn.text.items ++ flat_map (shown_changer l.scene.users.now l.scene.why l.scene.classes.now l.scene.places.now)
    (take l.member-index l.scene.members.now)
