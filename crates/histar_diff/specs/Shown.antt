-- Tables that show the rights of a flat state.
use Rattle.std.specs.Prelude.{◌≡◌, List, map, Option, Some, option_map}
use Rattle.histar_flat.specs.Words.{Name, Path, ProcName}
use Rattle.histar_flat.specs.Accounts.{Accounts}
use Rattle.histar_flat.specs.Files.{get}
use Rattle.histar_flat.specs.Classes.{Process}
use Rattle.histar_flat.specs.FlatState.{Flat, Node}
use Rattle.histar_flat.specs.FlatCalls.{running}
use Rattle.histar_rights.specs.declared.rights.Rights.{Rights}
use Rattle.histar_rights.specs.Rights.{rights_at}
use Rattle.histar_rights.specs.Running.{Named, running_in}
use Rattle.histar_rights.specs.Table.{AccessLine, Cell, access_table}
use Rattle.histar_diff.specs.declared.table.Runner.{Runner}
use Rattle.histar_diff.specs.declared.table.Table.{Table}
use Rattle.histar_diff.specs.Sides.{Side}
use Rattle.histar_diff.specs.Tables.{by_path, no_rights}

-- a process that runs, and its user
abbrev pub runner : Named → Runner
runner c = record { process = c.0; user = c.1.user }

-- a path, and the rights of processes there
abbrev pub rights_line : AccessLine → Path × List Rights
rights_line l = (l.path, map (λ (c : Cell). c.rights) l.cells)

-- the table has the running processes with their users, and the paths and rights that `access` prints of the state
pub record ShowsRights (accounts : Accounts) (f : Flat) (t : Table) : Type 0 where
  pub processes : t.processes.items ≡ map runner (running_in f)
  pub lines : by_path t.lines.items ≡ map rights_line (access_table accounts f)

-- the rights of a process, if it runs, at a path, if it has a node; else none
abbrev pub rights_if : Accounts → Flat → Path → ProcName → Option Node → Option Process → Rights
rights_if accounts f q p (Some node) (Some process) = rights_at accounts f p process q node
rights_if accounts f q p _ _ = no_rights

-- the rights of a process at a path in a flat state
abbrev pub rights_of : Accounts → Flat → Path → ProcName → Rights
rights_of accounts f q p = rights_if accounts f q p (get f.files q) (running f p)

-- the same, if the path is there
abbrev pub letters_of : Accounts → Flat → Path → ProcName → Option Rights
letters_of accounts f q p = option_map (λ node. rights_of accounts f q p) (get f.files q)

-- the user of a process, if it is there
abbrev pub user_of : Option Process → Option Name
user_of o = option_map (λ (p : Process). p.user) o

-- a flat state as a side: the users of the processes that run, and their rights at the paths that are there
abbrev pub flat_side : Accounts → Flat → Side
flat_side accounts f = record { user = λ p. user_of (running f p); letters = letters_of accounts f }
