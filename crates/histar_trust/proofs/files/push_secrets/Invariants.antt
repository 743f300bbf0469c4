-- The invariants and measures of `push_secrets` of src/files.rt.
use Rattle.std.proofs.Common.{◌≡◌, [], ◌++◌, drop}
use Rattle.std.specs.Prelude.{map}
use Rattle.histar_secrecy.specs.ShownRoles.{flat_class}
use Rattle.histar_trust.specs.Findings.{shown_secrets}
use Rattle.histar_trust.proofs.files.push_secrets.Given as goal

abbrev pub invariant-nodes : goal.invariant-nodes
invariant-nodes l = l.fn.text.items ++ shown_secrets l.users l.members [] l.tree
    ≡ l.text.items ++ shown_secrets l.users l.members (map flat_class l.way.items) (drop l.node-index l.tree)
