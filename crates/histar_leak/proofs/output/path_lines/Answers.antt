-- Proves the goals of `path_lines` of src/output.rt that the search leaves open.
use Rattle.std.proofs.Common.{◌≡◌, ◌++◌, ap, ◌∙◌}
use Rattle.std.specs.Prelude.{map, option_copied}
use Rattle.histar_flat.proofs.NamedPaths.{path_is_short}
use Rattle.histar_syscall.specs.KernelModel.{state}
use Rattle.histar_secrecy.specs.ShownRoles.{flat_class}
use Rattle.histar_trust.specs.Findings.{classes_to, node_at}
use Rattle.histar_trust.proofs.Pieces.{made_so}
use Rattle.histar_leak.specs.Findings.{bytes_there, shown_leak}
use Rattle.histar_leak.proofs.ShownLeak.{text_there}
use Rattle.histar_leak.proofs.output.path_lines.Goals as goal

pub returns : goal.returns
returns g c =
    let m = c.args.machine.now in
    let path = c.args.path.now in
    let accounts = c.args.snapshot.now.accounts.now in
    let members = c.args.snapshot.now.members.now in
    let tree = c.args.snapshot.now.tree.now in
    let classes = c.push_classes.new.classes.items in
    let are : map flat_class classes ≡ classes_to tree path =
    c.in_ok-push_classes.ensures ∙ (λ i. map flat_class (c.new-classes.ensures.items i) ++ classes_to tree (c.names.ensures.names i)) in
    let there : option_copied c.node_at.result ≡ node_at path tree =
    c.node_at.ensures ∙ ap (λ names. node_at names tree) c.names-2.ensures.names in
    let bytes = c.bytes_there.ensures ∙ ap (bytes_there (state m.kernel)) there in
    made_so c.scene_lines.result
    (λ text is f r. is
    ∙ (λ i. shown_leak accounts members (c.as_slice.ensures.value i) path (bytes i) tree)
    ∙ text_there r path tree c.requires.tree members c.requires.members classes are (path_is_short path c.names.ensures.right))
    c.scene_lines.ensures
