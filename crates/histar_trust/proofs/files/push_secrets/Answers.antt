-- Proves the goals of `push_secrets` of src/files.rt that the search leaves open.
use Rattle.std.proofs.Common.{◌≡◌, ◌+◌, List, [], ◌∷◌, ◌++◌, ◌∙◌, append-nil, ap, arith, drop, sym}
use Rattle.std.specs.Prelude.{map}
use Rattle.std.proofs.lemmas.List.{drop_more, length-drop, nil_from_length}
use Rattle.histar_readout.specs.declared.tree.TreeNode.{TreeNode}
use Rattle.histar_secrecy.specs.declared.file_class.FileClass.{FileClass}
use Rattle.histar_secrecy.specs.ShownRoles.{flat_class}
use Rattle.histar_trust.specs.Findings.{shown_secret, shown_secrets}
use Rattle.histar_trust.proofs.ShownSecrets.{made_more}
use Rattle.histar_trust.proofs.files.push_secrets.Goals as goal

pub nodes-init : goal.nodes-init
nodes-init c =
    ap (λ (way : List FileClass). c.args.text.now.items ++ shown_secrets c.args.users.now c.args.members.now (map flat_class way) c.args.tree.now)
    (sym c.new-way.ensures.items)

pub nodes-preserved : goal.nodes-preserved
nodes-preserved c =
    let tree = c.args.tree.now in
    let i = c.nodes.node-index in
    let turn = drop_more tree i c.node-item.result c.nodes-test.true
    ∙ ap (λ (node : TreeNode). node ∷ drop (i + 1) tree) (sym c.node-item.is) in
    let ways = c.as_slice.ensures.value in
    made_more (shown_secret c.args.users.now c.args.members.now) (map flat_class c.nodes.way.items) c.nodes.text.items turn c.in_ok-go_on.ensures
    (c.in_ok-push_secret.ensures
    ∙ ap (λ (way : List FileClass). c.nodes.text.items ++ shown_secret c.args.users.now c.args.members.now c.node-item.result
    (map flat_class way)) ways) c.nodes.invariant

pub returns : goal.returns
returns c =
    let tree = c.args.tree.now in
    let none : drop c.nodes.node-index tree ≡ [] =
    nil_from_length (drop c.nodes.node-index tree) (omega (arith, c.nodes-test.false, length-drop c.nodes.node-index tree)) in
    sym (c.nodes.invariant
    ∙ ap (λ (left : List TreeNode). c.nodes.text.items ++ shown_secrets c.args.users.now c.args.members.now
    (map flat_class c.nodes.way.items) left) none
    ∙ append-nil c.nodes.text.items)
