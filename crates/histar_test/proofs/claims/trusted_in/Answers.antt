-- Proves the goals of `trusted_in` of src/claims.rt that the search leaves open.
use Rattle.std.proofs.Common.{◌≡◌, ◌++◌, ap, ◌∙◌}
use Rattle.std.specs.Prelude.{map, option_copied}
use Rattle.histar_secrecy.specs.ShownRoles.{flat_class}
use Rattle.histar_trust.specs.Findings.{classes_to, node_at}
use Rattle.histar_trust.proofs.Pieces.{made_so}
use Rattle.histar_test.specs.Running.{shown_trusted}
use Rattle.histar_test.proofs.ShownTrusted.{trusted_there}
use Rattle.histar_test.proofs.claims.trusted_in.Goals as goal

pub returns : goal.returns
returns c =
    let m = c.args.machine.now in
    let path = c.args.path.now in
    let tree = c.args.tree.now in
    let classes = c.push_classes.new.classes.items in
    let found : option_copied c.node_at.result ≡ node_at path tree =
    c.node_at.ensures ∙ ap (λ names. node_at names tree) c.names-2.ensures.names in
    let are : map flat_class classes ≡ classes_to tree path =
    c.in_ok-push_classes.ensures ∙ (λ i. map flat_class (c.new-classes.ensures.items i) ++ classes_to tree (c.names.ensures.names i)) in
    made_so c.trusted_at.result
    (λ text is accounts f r. is.2
    ∙ (λ i. shown_trusted m.users.groups is.0 (found i) (map flat_class (c.as_slice.ensures.value i)))
    ∙ trusted_there r is.0 is.1 tree c.requires.tree path (map flat_class classes) are)
    c.trusted_at.ensures
