-- The invariants and measures of `secret_paths` of src/files.rt.
use Rattle.std.proofs.Common.{◌≡◌, [], ◌++◌, drop}
use Rattle.std.specs.Prelude.{map}
use Rattle.histar_secrecy.specs.ShownRoles.{flat_class}
use Rattle.histar_trust.specs.Findings.{shown_secret_paths}
use Rattle.histar_trust.proofs.files.secret_paths.Given as goal

abbrev pub invariant-nodes : goal.invariant-nodes
invariant-nodes l = shown_secret_paths [] l.tree ≡ l.paths.items ++ shown_secret_paths (map flat_class l.way.items) (drop l.node-index l.tree)
