-- Proves the goals of `secret_paths` of src/files.rt that the search leaves open.
use Rattle.std.proofs.Common.{◌≡◌, ◌+◌, List, [], ◌∷◌, ◌++◌, ◌∙◌, append-nil, ap, arith, drop, sym}
use Rattle.std.specs.Prelude.{map}
use Rattle.std.proofs.lemmas.List.{drop_more, length-drop, nil_from_length}
use Rattle.histar_flat.specs.Words.{Path}
use Rattle.histar_readout.specs.declared.tree.TreeNode.{TreeNode}
use Rattle.histar_secrecy.specs.declared.file_class.FileClass.{FileClass}
use Rattle.histar_secrecy.specs.ShownRoles.{flat_class}
use Rattle.histar_trust.specs.Findings.{shown_secret_path, shown_secret_paths}
use Rattle.histar_trust.proofs.ShownSecrets.{made_more}
use Rattle.histar_trust.proofs.files.secret_paths.Goals as goal

pub nodes-init : goal.nodes-init
nodes-init c =
    ap (λ (way : List FileClass). shown_secret_paths (map flat_class way) c.args.tree.now) (sym c.new-way.ensures.items)
    ∙ ap (λ (paths : List Path). paths ++ shown_secret_paths (map flat_class c.new-way.result.items) c.args.tree.now)
    (sym c.new-paths.ensures.items)

pub nodes-preserved : goal.nodes-preserved
nodes-preserved c =
    let tree = c.args.tree.now in
    let i = c.nodes.node-index in
    let turn = drop_more tree i c.node-item.result c.nodes-test.true
    ∙ ap (λ (node : TreeNode). node ∷ drop (i + 1) tree) (sym c.node-item.is) in
    let ways = c.as_slice.ensures.value in
    made_more shown_secret_path (map flat_class c.nodes.way.items) c.nodes.paths.items turn c.in_ok-go_on.ensures
    (c.in_ok-push_secret_path.ensures
    ∙ ap (λ (way : List FileClass). c.nodes.paths.items ++ shown_secret_path c.node-item.result (map flat_class way)) ways) c.nodes.invariant

pub returns : goal.returns
returns c =
    let tree = c.args.tree.now in
    let none : drop c.nodes.node-index tree ≡ [] =
    nil_from_length (drop c.nodes.node-index tree) (omega (arith, c.nodes-test.false, length-drop c.nodes.node-index tree)) in
    sym (c.nodes.invariant
    ∙ ap (λ (left : List TreeNode). c.nodes.paths.items ++ shown_secret_paths (map flat_class c.nodes.way.items) left) none
    ∙ append-nil c.nodes.paths.items)
