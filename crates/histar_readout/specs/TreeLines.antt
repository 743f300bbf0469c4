-- What a tree shows, line by line.
use Rattle.std.specs.Prelude.{ℕ, List, map, Some}
use Rattle.histar_flat.specs.Words.{Path}
use Rattle.histar_flat.specs.declared.replies.Stat.{Stat}
use Rattle.histar_flat.specs.Classes.{class_owner, class_mode}
use Rattle.histar_flat.specs.FlatState.{Flat, Node, is_dir, bytes_of}
use Rattle.histar_object.specs.State.{State}
use Rattle.histar_layout.specs.Listing.{is_directory}
use Rattle.histar_layout.specs.ShownClass.{stat_of}
use Rattle.histar_layout.specs.ClassLabels.{without_jobs}
use Rattle.histar_readout.specs.declared.tree.TreeNode.{TreeNode}
use Rattle.histar_readout.specs.TreeEntries.{file_bytes_at}

-- what a path of a tree shows: its kind, its owner and its mode, and the bytes of a file
pub record TreeLine : Type 0 where
  pub path : Path
  pub stat : Stat
  pub bytes : List ℕ

-- what a path of a flat state shows
abbrev pub flat_line : Path × Node → TreeLine
flat_line e = record {
  path = e.0;
  stat = record { is_directory = is_dir e.1; owner = class_owner e.1.class; mode = class_mode e.1.class };
  bytes = bytes_of (Some e.1);
}

-- what all paths of a flat state show, by rising paths
abbrev pub flat_lines : Flat → List TreeLine
flat_lines f = map flat_line f.files.entries

-- the kind, the owner and the mode of a file or a directory of a state
abbrev pub node_stat : TreeNode → Stat
node_stat node = stat_of (without_jobs node.class) (is_directory node.target)

-- what a node of a state shows
abbrev pub line_at : State → TreeNode → TreeLine
line_at s node = record { path = node.path; stat = node_stat node; bytes = file_bytes_at s node.target }

-- what these nodes show, one after another
abbrev pub lines_at : State → List TreeNode → List TreeLine
lines_at s tree = map (line_at s) tree
