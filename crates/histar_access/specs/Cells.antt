-- The rights of all running processes at the paths of a state, by the labels of its objects.
use Rattle.std.specs.Prelude.{ℕ, List, [], ◌∷◌, ◌++◌, length, map, take, Option}
use Rattle.std.specs.List.{filter_map}
use Rattle.histar_object.specs.State.{State}
use Rattle.histar_layout.specs.Listing.{object_of}
use Rattle.histar_programs.specs.declared.roots.Roots.{Roots}
use Rattle.histar_rights.specs.declared.rights.Rights.{Rights}
use Rattle.histar_rights.specs.Table.{AccessLine, Cell as NamedRights, access_line_text, cell_text}
use Rattle.histar_readout.specs.declared.process.ProcessNode.{ProcessNode}
use Rattle.histar_readout.specs.declared.tree.TreeNode.{TreeNode}
use Rattle.histar_readout.specs.TreeLines.{node_stat}
use Rattle.histar_cells.specs.declared.cells.Cell.{Cell}
use Rattle.histar_cells.specs.Cells.{cell_below, visitor_at}
use Rattle.histar_access.specs.Rows.{last_or}

-- the cell of a process, if it runs
abbrev pub visitor_of : State → Roots → ProcessNode → Option Cell
visitor_of s roots node = visitor_at s roots node.name

-- the cells of the running ones of these processes
abbrev pub visitors_among : State → Roots → List ProcessNode → List Cell
visitors_among s roots processes = filter_map (visitor_of s roots) processes

-- the cells of processes at an entry of a directory, by their cells at the directory
abbrev pub row_below : State → ℕ → List Cell → List Cell
row_below s object above = map (cell_below s object) above

-- the process with its rights
abbrev pub shown : Cell → NamedRights
shown c = record { process = c.process; rights = c.rights }

-- the rights of a process
abbrev pub cell_rights : Cell → Rights
cell_rights c = c.rights

-- the text of a process with its rights
abbrev pub shown_text : Cell → List ℕ
shown_text c = cell_text (shown c)

-- what `stat` shows of a file or a directory, and the rights there
abbrev pub line_of_node : TreeNode → List Cell → AccessLine
line_of_node node row = record { path = node.path; stat = node_stat node; cells = map shown row }

-- the rights at a file or a directory, given those at the directory above it
abbrev pub node_row : State → List Cell → TreeNode → List Cell
node_row s above node = row_below s (object_of node.target) above

-- the line of a file or a directory, given the rights at the directory above it
abbrev pub node_line : State → List Cell → TreeNode → List ℕ
node_line s above node = access_line_text (line_of_node node (node_row s above node))

-- The lines of files and directories, each after that of its directory, computed from the rights on the way to the node before: those at
-- the directories above the node are kept.
abbrev pub lines_from : State → List Cell → List (List Cell) → List TreeNode → List AccessLine
lines_from s visitors way [] = []
lines_from s visitors way (node ∷ tree) =
    let above = take (length node.path) way in
    let row = row_below s (object_of node.target) (last_or visitors above) in
    line_of_node node row ∷ lines_from s visitors (above ++ row ∷ []) tree
