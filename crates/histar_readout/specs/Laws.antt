-- Laws about the tree of a state that represents a flat state, the targets of its paths, and its processes.
use Rattle.std.specs.Prelude.{◌≡◌, ◌≤◌, true, List, [], length, map, Some, is_some, MatchOption}
use Rattle.histar_flat.specs.Words.{Path, ProcName, most_names, most_numbers}
use Rattle.histar_flat.specs.Accounts.{Accounts}
use Rattle.histar_flat.specs.Files.{get}
use Rattle.histar_flat.specs.FlatState.{Flat, Node, is_there, is_dir, bytes_of}
use Rattle.histar_object.specs.State.{State}
use Rattle.histar_layout.specs.Listing.{is_directory}
use Rattle.histar_layout.specs.declared.entry.Target.{Target}
use Rattle.histar_programs.specs.declared.roots.Roots.{Roots}
use Rattle.histar_programs.specs.Start.{roots_of}
use Rattle.histar_refinement.specs.Categories.{Categories}
use Rattle.histar_refinement.specs.Represents.{Represents}
use Rattle.histar_readout.specs.declared.tree.TreeNode.{TreeNode}
use Rattle.histar_readout.specs.Tree.{IsTreeOf}
use Rattle.histar_readout.specs.TreeEntries.{file_bytes_at, tree_entry, flat_entry}
use Rattle.histar_readout.specs.TreeLines.{flat_lines, lines_at}
use Rattle.histar_readout.specs.Resolve.{LeadsTo, LeadsNowhere}
use Rattle.histar_readout.specs.declared.process.ProcessNode.{ProcessNode}
use Rattle.histar_readout.specs.Processes.{AreProcessesOf, levels_at}
use Rattle.histar_readout.specs.ProcessLines.{process_line, flat_processes}

-- no path has more names than a path may have
abbrev pub AreShallow : Flat → Type 0
AreShallow f = (q : Path) → is_there f q ≡ true → length q ≤ most_names

-- A state has a tree, which is the map of a flat state: path by path, in order, both have the same node, with each job named by the number
-- of its category. So both show the same.
pub record HasTreeOf (accounts : Accounts) (s : State) (f : Flat) (category : Categories) : Type 0 where
  pub tree : List TreeNode
  pub is_tree : IsTreeOf accounts s (roots_of (length accounts.users)) tree
  pub same : map (tree_entry s) tree ≡ map (flat_entry category) f.files.entries
  pub lines : lines_at s tree ≡ flat_lines f

-- a state that represents a flat state has its tree, with the category numbers of the state
abbrev pub FlatStatesHaveTheirTrees : Type 0
FlatStatesHaveTheirTrees = (accounts : Accounts) (s : State) (f : Flat) (l : Represents accounts s f) → AreShallow f → HasTreeOf accounts s f l.matched.category

-- a state has one tree at most
abbrev pub StatesHaveOneTree : Type 0
StatesHaveOneTree = (accounts : Accounts) (s : State) (roots : Roots) (a b : List TreeNode) → IsTreeOf accounts s roots a → IsTreeOf accounts s roots b → a ≡ b

-- a path leads to one target at most
abbrev pub PathsLeadToOneTarget : Type 0
PathsLeadToOneTarget = (s : State) (roots : Roots) (q : Path) (a b : Target) → LeadsTo s roots q a → LeadsTo s roots q b → a ≡ b

-- a path leads to a file or a directory like this node: of the same kind, and with the same bytes
pub record LeadsToNode (s : State) (roots : Roots) (q : Path) (node : Node) : Type 0 where
  pub target : Target
  pub leads : LeadsTo s roots q target
  pub kind : is_directory target ≡ is_dir node
  pub bytes : file_bytes_at s target ≡ bytes_of (Some node)

-- in a state that represents a flat state a path leads to the node that the flat state has there, and otherwise nowhere
abbrev pub FlatStatesAreResolved : Type 0
FlatStatesAreResolved =
    (accounts : Accounts) (s : State) (f : Flat) → Represents accounts s f → (q : Path)
    → MatchOption (get f.files q) (LeadsNowhere s (roots_of (length accounts.users)) q) (LeadsToNode s (roots_of (length accounts.users)) q)

-- no process has more numbers in its name than can be shown
abbrev pub AreNamed : Flat → Type 0
AreNamed f = (me : ProcName) → is_some (f.processes me) ≡ true → length me ≤ most_numbers

-- a state has processes, which show the same as those of this flat state, where the jobs have these categories
pub record HasProcessesOf (accounts : Accounts) (s : State) (f : Flat) (category : Categories) : Type 0 where
  pub processes : List ProcessNode
  pub are_processes : AreProcessesOf accounts s (roots_of (length accounts.users)) processes
  pub lines : map process_line processes ≡ flat_processes category (levels_at []) f []

-- A state that represents a flat state has its processes: they show the same as those of the flat state, with each job by its category in
-- the state.
abbrev pub FlatStatesHaveTheirProcesses : Type 0
FlatStatesHaveTheirProcesses =
    (accounts : Accounts) (s : State) (f : Flat) (l : Represents accounts s f) → AreNamed f → HasProcessesOf accounts s f l.matched.category
