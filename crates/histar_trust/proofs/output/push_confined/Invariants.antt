-- The invariants and measures of `push_confined` of src/output.rt.
use Rattle.std.proofs.Common.{◌≡◌, [], ◌++◌, drop}
use Rattle.std.specs.Prelude.{map}
use Rattle.histar_secrecy.specs.ShownRoles.{flat_class}
use Rattle.histar_trust.specs.Findings.{named_jobs, shown_confined}
use Rattle.histar_trust.proofs.output.push_confined.Given as goal

abbrev pub invariant-processes : goal.invariant-processes
invariant-processes l =
    l.fn.text.items ++ shown_confined l.scene.users.now l.scene.why (map flat_class l.scene.classes.now) [] l.scene.processes.now
    ≡ l.text.items ++ shown_confined l.scene.users.now l.scene.why (map flat_class l.scene.classes.now) (map named_jobs l.ancestors.items)
    (drop l.node-index l.scene.processes.now)
