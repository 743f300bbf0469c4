-- The lines that print a tree.
use Rattle.std.specs.Prelude.{ℕ, List, [], ◌++◌, codes, if◌then◌else◌}
use Rattle.std.specs.List.{flat_map}
use Rattle.histar_flat.specs.Texts.{path_text, stat_text}
use Rattle.histar_readout.specs.TreeLines.{TreeLine}

-- the text after the mode in a line: for a file its bytes, after an equals sign, even if there are none
abbrev pub content_text : TreeLine → List ℕ
content_text line = if line.stat.is_directory then [] else codes " = " ++ line.bytes

-- a path, the kind of what is there, its owner and its mode, and its bytes
abbrev pub node_text : TreeLine → List ℕ
node_text line = path_text line.path ++ codes " " ++ stat_text line.stat ++ content_text line

-- the text of a file or directory, and a line end
abbrev pub tree_line_text : TreeLine → List ℕ
tree_line_text line = node_text line ++ codes "\n"

-- the lines of all files and directories
abbrev pub tree_text : List TreeLine → List ℕ
tree_text lines = flat_map tree_line_text lines
