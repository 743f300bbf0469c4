-- The entries at the paths of a tree.
use Rattle.std.specs.Prelude.{ℕ, Bool, List, [], Some}
use Rattle.histar_flat.specs.Words.{Path}
use Rattle.histar_flat.specs.FlatState.{Node, is_dir, bytes_of}
use Rattle.histar_syscall.specs.KernelModel.{lent_bytes}
use Rattle.histar_object.specs.State.{State}
use Rattle.histar_layout.specs.Listing.{is_directory}
use Rattle.histar_layout.specs.declared.class.Class.{Class}
use Rattle.histar_layout.specs.declared.entry.Target.{Target}
use Rattle.histar_layout.specs.declared.entry.Target.TheVariants.{File, Directory}
use Rattle.histar_refinement.specs.Categories.{Categories}
use Rattle.histar_refinement.specs.NumberedClasses.{numbered_class}
use Rattle.histar_readout.specs.declared.tree.TreeNode.{TreeNode}

-- the entry at a path: its class, with each job by the number of its category, its kind, and the bytes of a file
pub record TreeEntry : Type 0 where
  pub path : Path
  pub class : Class
  pub is_directory : Bool
  pub bytes : List ℕ

-- the bytes of a target; a directory has none
abbrev pub file_bytes_at : State → Target → List ℕ
file_bytes_at s (File file) = lent_bytes s file
file_bytes_at s (Directory container listing) = []

-- the bytes of a node of a tree
abbrev pub node_bytes : State → TreeNode → List ℕ
node_bytes s node = file_bytes_at s node.target

-- the entry of a node of a state
abbrev pub tree_entry : State → TreeNode → TreeEntry
tree_entry s node = record { path = node.path; class = node.class; is_directory = is_directory node.target; bytes = node_bytes s node }

-- the entry of a node of a flat state
abbrev pub flat_entry : Categories → Path × Node → TreeEntry
flat_entry category e = record { path = e.0; class = numbered_class category e.1.class; is_directory = is_dir e.1; bytes = bytes_of (Some e.1) }
