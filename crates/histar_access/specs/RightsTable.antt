-- The table of a machine as a value.
use Rattle.std.specs.Prelude.{◌≡◌, ◌++◌, List, [], ◌∷◌, map, Option, None, Some}
use Rattle.std.specs.List.{filter_map}
use Rattle.histar_flat.specs.Words.{Path}
use Rattle.histar_flat.specs.Accounts.{Accounts}
use Rattle.histar_flat.specs.FlatState.{Flat}
use Rattle.histar_rights.specs.declared.rights.Rights.{Rights}
use Rattle.histar_rights.specs.Running.{HaveShownNames}
use Rattle.histar_diff.specs.declared.table.Runner.{Runner}
use Rattle.histar_diff.specs.declared.table.Table.{Table}
use Rattle.histar_diff.specs.declared.table.TableLine.{TableLine}
use Rattle.histar_diff.specs.Shown.{ShowsRights, rights_line}
use Rattle.histar_diff.specs.Tables.{by_path}
use Rattle.histar_syscall.specs.KernelModel.{state}
use Rattle.histar_readout.specs.declared.process.Life.{Life}
use Rattle.histar_readout.specs.declared.process.Life.TheVariants.{Running, Exited}
use Rattle.histar_readout.specs.declared.process.ProcessNode.{ProcessNode}
use Rattle.histar_flat.specs.Words.{ProcName}
use Rattle.histar_shell.specs.Machine.{MachineModel}
use Rattle.histar_shell.specs.Meaning.{Shows}
use Rattle.histar_readout.specs.declared.tree.TreeNode.{TreeNode}
use Rattle.histar_cells.specs.declared.cells.Cell.{Cell}
use Rattle.histar_access.specs.Cells.{line_of_node, lines_from}
use Rattle.histar_access.specs.Shown.{visitors_in}

-- a process of this life, with its user, if it runs
abbrev pub runner_by : ProcName → Life → Option Runner
runner_by me (Running user held) = Some (record { process = me; user = user })
runner_by me (Exited number) = None

-- a process with its user, if it runs
abbrev pub runner_of : ProcessNode → Option Runner
runner_of node = runner_by node.name node.life

-- a path and the rights there
abbrev pub line_rights : TableLine → Path × List Rights
line_rights line = (line.path, line.rights.items)

-- one line was added, with these rights at a file or a directory
pub record AddsLine (node : TreeNode) (row : List Cell) (old new : List TableLine) : Type 0 where
  pub line : TableLine
  pub is : line_rights line ≡ rights_line (line_of_node node row)
  pub added : new ≡ old ++ line ∷ []

-- the table has the running ones of these processes of a machine, and their rights at each path of the tree
pub record IsTableBy (m : MachineModel) (processes : List ProcessNode) (tree : List TreeNode) (t : Table) : Type 0 where
  pub runners : t.processes.items ≡ filter_map runner_of processes
  pub lines : by_path t.lines.items ≡ map rights_line (lines_from (state m.kernel) (visitors_in m processes) [] tree)

-- For every flat state that the machine represents, the table shows its rights.
abbrev pub ShowsTable : MachineModel → Table → Type 0
ShowsTable m t = (accounts : Accounts) (f : Flat) → Shows accounts m f → HaveShownNames f → ShowsRights accounts f t
