-- Each node of a tree is an entry of a directory that is the node before it, or above that one.
use Rattle.std.specs.Prelude.{◌≡◌, ℕ, zero, suc, List, [], ◌∷◌, ◌++◌, refl}
use Rattle.std.proofs.Common.{ap, sym, ◌∙◌, subst, append-nil, append_assoc}
use Rattle.std.specs.FinMap as maps
use Rattle.histar_flat.specs.Words.{Name, Path}
use Rattle.histar_flat.specs.Accounts.{Accounts}
use Rattle.histar_object.specs.State.{State}
use Rattle.histar_layout.specs.declared.entry.Target.{Target}
use Rattle.histar_layout.specs.declared.entry.Target.TheVariants.{File, Directory}
use Rattle.histar_programs.specs.declared.roots.Roots.{Roots}
use Rattle.histar_readout.specs.declared.tree.TreeNode.{TreeNode}
use Rattle.histar_readout.specs.Tree.{AreListed, IsBelow, IsTreeAt, IsTreeOf, Listed, levels_at}

-- the path is the directory, or below it
abbrev pub IsIn : Path → Path → Type 0
IsIn d p = (s : Path) × (p ≡ s ++ d)

-- the second path is an entry of the first one, or of a directory above it
pub record IsNext (p q : Path) : Type 0 where
  pub name : Name
  pub directory : Path
  pub is : q ≡ name ∷ directory
  pub within : IsIn directory p

-- each of these nodes is next to the one before it, and the first one to this path
abbrev pub AreNext : Path → List TreeNode → Type 0
AreNext p [] = Unit {0}
AreNext p (node ∷ nodes) = IsNext p node.path × AreNext node.path nodes

-- these nodes are next to each path in the directory
abbrev GoOn : Path → List TreeNode → Type 0
GoOn d rest = (p : Path) → IsIn d p → AreNext p rest

-- what is in an entry of a directory is in the directory
outward : (n : Name) (d p : Path) → IsIn (n ∷ d) p → IsIn d p
outward n d p h = (h.0 ++ n ∷ [], h.1 ∙ sym (append_assoc h.0 (n ∷ []) d))

module _ (accounts : Accounts) (s : State) where
  abbrev Descends : Listed → Type 0
  Descends is_tree = (n : Name) (d : Path) (target : Target) (tree rest : List TreeNode) → is_tree (n ∷ d) target tree → GoOn (n ∷ d) rest
      → GoOn d (tree ++ rest)

  entries_descend : (is_tree : Listed) → Descends is_tree → (d : Path) (entries : List (Name × Target)) (trees rest : List TreeNode)
      → AreListed is_tree d entries trees → GoOn d rest → GoOn d (trees ++ rest)
  entries_descend is_tree each d [] trees rest is on = subst (λ (t : List TreeNode). GoOn d (t ++ rest)) (sym is) on
  entries_descend is_tree each d (e ∷ entries) trees rest is on =
      let more : GoOn d (is.1 ++ rest) = entries_descend is_tree each d entries is.1 rest is.3 on in
      subst (GoOn d) (sym (append_assoc is.0 is.1 rest) ∙ ap (λ (t : List TreeNode). t ++ rest) (sym is.4))
      (each e.0 d e.1 is.0 (is.1 ++ rest) is.2 (λ p h. more p (outward e.0 d p h)))

  below_descends : (is_tree : Listed) → Descends is_tree → (q : Path) (target : Target) (trees rest : List TreeNode)
      → IsBelow is_tree s q target trees → GoOn q rest → GoOn q (trees ++ rest)
  below_descends is_tree each q (File file) trees rest is on = subst (λ (t : List TreeNode). GoOn q (t ++ rest)) (sym is) on
  below_descends is_tree each q (Directory container listing) trees rest is on =
      entries_descend is_tree each q (maps.entries is.0) trees rest is.2 on

  descends : (levels : ℕ) → Descends (IsTreeAt levels accounts s)
  descends zero n d target tree rest is on = absurd is
  descends (suc levels) n d target tree rest is on = λ p h.
      let here : is.0.path ≡ n ∷ d = is.2.path_is in
      let below = below_descends (IsTreeAt levels accounts s) (descends levels) (n ∷ d) target is.1 rest is.3 on (n ∷ d) ([], refl) in
      subst (λ (t : List TreeNode). AreNext p (t ++ rest)) (sym is.4)
      (record { name = n; directory = d; is = here; within = h }, subst (λ (q : Path). AreNext q (is.1 ++ rest)) (sym here) below)

  -- the nodes of a tree behind that of `/`
  pub record IsRooted (tree : List TreeNode) : Type 0 where
    pub slash : TreeNode
    pub below : List TreeNode
    pub parts : tree ≡ slash ∷ below
    pub at_root : slash.path ≡ []
    pub next : AreNext [] below

  rooted_at : (levels : ℕ) (target : Target) (tree : List TreeNode) → IsTreeAt levels accounts s [] target tree → IsRooted tree
  rooted_at zero target tree is = absurd is
  rooted_at (suc levels) target tree is =
      let next = below_descends (IsTreeAt levels accounts s) (descends levels) [] target is.1 [] is.3 (λ p h. tt) [] ([], refl) in
      record {
        slash = is.0;
        below = is.1;
        parts = is.4;
        at_root = is.2.path_is;
        next = subst (AreNext []) (append-nil is.1) next;
      }

  pub rooted : (roots : Roots) (tree : List TreeNode) → IsTreeOf accounts s roots tree → IsRooted tree
  unfolding IsTreeOf
  rooted roots tree is = rooted_at (levels_at []) (Directory roots.slash.container roots.slash.listing) tree is
