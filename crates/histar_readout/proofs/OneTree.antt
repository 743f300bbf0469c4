-- A state has one tree at most.
use Rattle.std.specs.Prelude.{◌≡◌, ℕ, zero, suc, List, [], ◌∷◌, ◌++◌}
use Rattle.std.proofs.Common.{sym, ◌∙◌, subst}
use Rattle.std.proofs.lemmas.Option.{same_Some}
use Rattle.std.specs.FinMap as map
use Rattle.histar_flat.specs.Words.{Name, Path}
use Rattle.histar_flat.specs.Accounts.{Accounts}
use Rattle.histar_syscall.specs.KernelModel.{lent_bytes}
use Rattle.histar_object.specs.State.{State}
use Rattle.histar_layout.specs.Directory.{Entries}
use Rattle.histar_layout.specs.declared.entry.Target.{Target}
use Rattle.histar_layout.specs.declared.entry.Target.TheVariants.{File, Directory}
use Rattle.histar_layout.specs.ClassLabels.{IsClassLabel}
use Rattle.histar_layout.proofs.ClassLabels.{one_class}
use Rattle.histar_layout.proofs.DirectoryLemmas.{same_directory}
use Rattle.histar_readout.specs.declared.tree.TreeNode.{TreeNode}
use Rattle.histar_readout.specs.Tree.{IsTreeOf, Listed, AreListed, IsBelow, IsNodeAt, IsTreeAt, levels_at}
use Rattle.histar_readout.specs.Laws.{StatesHaveOneTree}

-- at a path there is one tree at most
abbrev IsOne : Listed → Type 0
IsOne is_tree = (q : Path) (target : Target) (a b : List TreeNode) → is_tree q target a → is_tree q target b → a ≡ b

-- then the entries have one list of trees at most
one_list : (is_tree : Listed) → IsOne is_tree → (d : Path) (entries : List (Name × Target)) (a b : List TreeNode)
    → AreListed is_tree d entries a → AreListed is_tree d entries b → a ≡ b
one_list is_tree one d [] a b g h = g ∙ sym h
one_list is_tree one d (e ∷ entries) a b g h =
    let first = one (e.0 ∷ d) e.1 g.0 h.0 g.2 h.2 in
    let rest = one_list is_tree one d entries g.1 h.1 g.3 h.3 in
    g.4 ∙ (λ i. first i ++ rest i) ∙ sym h.4

-- and there is one list of trees at most below a path
one_below : (is_tree : Listed) → IsOne is_tree → (s : State) (q : Path) (target : Target) (a b : List TreeNode)
    → IsBelow is_tree s q target a → IsBelow is_tree s q target b → a ≡ b
one_below is_tree one s q (File file) a b g h = g ∙ sym h
one_below is_tree one s q (Directory container listing) a b g h =
    let same = same_directory (lent_bytes s listing) h.0 g.0 h.1 g.1 in
    one_list is_tree one q (map.entries g.0) a b g.2 (subst (λ (dir : Entries). AreListed is_tree q (map.entries dir) b) same h.2)

-- nodes with the same path, class and target are equal
same_node : (a b : TreeNode) → a.path ≡ b.path → a.class ≡ b.class → a.target ≡ b.target → a ≡ b
same_node a b path class target = λ i. record { path = path i; class = class i; target = target i }

-- a path with a target has one node at most
one_node : (accounts : Accounts) (s : State) (q : Path) (target : Target) (a b : TreeNode)
    → IsNodeAt accounts s q target a → IsNodeAt accounts s q target b → a ≡ b
one_node accounts s q target a b g h =
    let label = same_Some g.label h.label (sym g.label_is ∙ h.label_is) in
    same_node a b (g.path_is ∙ sym h.path_is)
    (one_class accounts h.label a.class b.class (subst (IsClassLabel accounts a.class) label g.of_class) h.of_class) (g.target_is ∙ sym h.target_is)

-- at each path there is one tree at most, down to this many levels
one_tree : (accounts : Accounts) (s : State) (levels : ℕ) → IsOne (IsTreeAt levels accounts s)
one_tree accounts s zero q target a b g h = absurd g
one_tree accounts s (suc levels) q target a b g h =
    let node = one_node accounts s q target g.0 h.0 g.2 h.2 in
    let below = one_below (IsTreeAt levels accounts s) (one_tree accounts s levels) s q target g.1 h.1 g.3 h.3 in
    g.4 ∙ (λ i. node i ∷ below i) ∙ sym h.4

-- a state has one tree at most
pub states_have_one_tree : StatesHaveOneTree
unfolding IsTreeOf
states_have_one_tree accounts s roots a b g h = one_tree accounts s (levels_at []) [] (Directory roots.slash.container roots.slash.listing) a b g h
