-- The tree that the directory segments of a state list, from that of `/` on.
use Rattle.std.specs.Prelude.{◌≡◌, ℕ, zero, suc, ◌-◌, List, [], ◌∷◌, ◌++◌, length, Option, Some, MatchOption, Result, Ok, Err}
use Rattle.std.specs.Global.{Vec}
use Rattle.std.specs.FinMap as map
use Rattle.histar_flat.specs.Words.{Name, Path, most_names}
use Rattle.histar_flat.specs.Accounts.{Accounts}
use Rattle.histar_object.specs.Objects.{label_there}
use Rattle.histar_syscall.specs.KernelModel.{lent_bytes}
use Rattle.histar_object.specs.State.{State}
use Rattle.histar_layout.specs.Directory.{Entries, IsDirectory}
use Rattle.histar_layout.specs.Listing.{object_of}
use Rattle.histar_layout.specs.declared.entry.Target.{Target}
use Rattle.histar_layout.specs.declared.entry.Target.TheVariants.{File, Directory}
use Rattle.histar_programs.specs.declared.roots.Roots.{Roots}
use Rattle.histar_level.specs.Levels.{Levels}
use Rattle.histar_layout.specs.ClassLabels.{IsClassLabel}
use Rattle.histar_readout.specs.declared.tree.TreeNode.{TreeNode}
use Rattle.histar_readout.specs.declared.tree.TreeError.{TreeError}
use Rattle.histar_readout.specs.declared.tree.TreeError.TheVariants.{NotATree, OutOfMemory}

-- the node at a path with this target: the object of the target has a label, which is of a class
pub record IsNodeAt (accounts : Accounts) (s : State) (q : Path) (target : Target) (node : TreeNode) : Type 0 where
  pub path_is : node.path ≡ q
  pub target_is : node.target ≡ target
  pub label : Levels
  pub label_is : label_there (s.objects (object_of target)) ≡ Some label
  pub of_class : IsClassLabel accounts node.class label

-- a relation between a path, the target of its entry, and a tree
abbrev pub Listed : Type 1
Listed = Path → Target → List TreeNode → Type 0

-- these are the trees of the entries of a directory, one after another
abbrev pub AreListed : Listed → Path → List (Name × Target) → List TreeNode → Type 0
AreListed is_tree d [] trees = trees ≡ []
AreListed is_tree d (e ∷ entries) trees =
    (first : List TreeNode) × (rest : List TreeNode) × is_tree (e.0 ∷ d) e.1 first × AreListed is_tree d entries rest × (trees ≡ first ++ rest)

-- below a file is nothing, and below a directory are the trees that its directory segment lists
abbrev pub IsBelow : Listed → State → Path → Target → List TreeNode → Type 0
IsBelow is_tree s q (File file) trees = trees ≡ []
IsBelow is_tree s q (Directory container listing) trees = (dir : Entries) × IsDirectory (lent_bytes s listing) dir × AreListed is_tree q (map.entries dir) trees

-- The tree at a path, down to this many levels: the node at the path, and then those below it.
abbrev pub IsTreeAt : ℕ → Accounts → State → Listed
IsTreeAt zero accounts s q target tree = ⊥
IsTreeAt (suc levels) accounts s q target tree =
    (node : TreeNode) × (below : List TreeNode) × IsNodeAt accounts s q target node
    × IsBelow (IsTreeAt levels accounts s) s q target below × (tree ≡ node ∷ below)

-- the number of levels of a tree at a path and below it, where no path has more names than a path may have
abbrev pub levels_at : Path → ℕ
levels_at q = suc (most_names - length q)

-- the tree of a state, which is the tree at `/`
unfoldable pub IsTreeOf : Accounts → State → Roots → List TreeNode → Type 0
IsTreeOf accounts s roots tree = IsTreeAt (levels_at []) accounts s [] (Directory roots.slash.container roots.slash.listing) tree

-- a state has no tree
abbrev pub HasNoTree : Accounts → State → Roots → Type 0
HasNoTree accounts s roots = (tree : List TreeNode) → IsTreeOf accounts s roots tree → ⊥

-- the tree that was found is that of a state, and none was found exactly where it has none
abbrev pub FindsTree : Accounts → State → Roots → Option (Vec TreeNode) → Type 0
FindsTree accounts s roots found = MatchOption found (HasNoTree accounts s roots) (λ tree. IsTreeOf accounts s roots tree.items)

-- the node that was found is the one at a path, or there is none
abbrev pub FindsNode : Accounts → State → Path → Target → Result TreeNode TreeError → Type 0
FindsNode accounts s q target (Ok node) = IsNodeAt accounts s q target node
FindsNode accounts s q target (Err NotATree) = (node : TreeNode) → IsNodeAt accounts s q target node → ⊥
FindsNode accounts s q target (Err OutOfMemory) = Unit {0}

-- these trees were added, or there are none of this kind
abbrev pub Adds : (List TreeNode → Type 0) → List TreeNode → List TreeNode → Result (Unit {0}) TreeError → Type 0
Adds are_trees old new (Ok done) = (trees : List TreeNode) × are_trees trees × (new ≡ old ++ trees)
Adds are_trees old new (Err NotATree) = (trees : List TreeNode) → are_trees trees → ⊥
Adds are_trees old new (Err OutOfMemory) = Unit {0}

-- the tree at a path was added
abbrev pub AddsTree : Accounts → State → Path → Target → List TreeNode → List TreeNode → Result (Unit {0}) TreeError → Type 0
AddsTree accounts s q target = Adds (IsTreeAt (levels_at q) accounts s q target)

-- the trees below a directory were added
abbrev pub AddsBelow : Accounts → State → Path → ℕ → List TreeNode → List TreeNode → Result (Unit {0}) TreeError → Type 0
AddsBelow accounts s d listing = Adds (λ trees. (dir : Entries) × IsDirectory (lent_bytes s listing) dir × AreListed (IsTreeAt (most_names - length d) accounts s) d (map.entries dir) trees)
