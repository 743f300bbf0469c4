-- The invariants and measures of `push_login_changers` of src/output.rt.
use Rattle.std.proofs.Common.{◌≡◌, ◌++◌, take}
use Rattle.std.specs.List.{flat_map}
use Rattle.histar_trust.specs.Findings.{shown_login_changer}
use Rattle.histar_trust.proofs.output.push_login_changers.Given as goal

abbrev pub invariant-loop-user : goal.invariant-loop-user
invariant-loop-user l = l.text.items
    ≡ l.fn.text.items ++ flat_map (shown_login_changer l.scene.users.now l.scene.why l.scene.classes.now l.scene.places.now)
    (take l.user-index l.users)
