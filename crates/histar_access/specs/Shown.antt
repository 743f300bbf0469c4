-- The table of a machine that represents a flat state.
use Rattle.std.specs.Prelude.{◌≡◌, ℕ, List, Option}
use Rattle.std.specs.Io.KnownBytes.{Appends}
use Rattle.histar_io.specs.Writing.{AppendsFront}
use Rattle.histar_flat.specs.Accounts.{Accounts}
use Rattle.histar_flat.specs.FlatState.{Flat}
use Rattle.histar_syscall.specs.KernelModel.{state}
use Rattle.histar_rights.specs.Running.{HaveShownNames}
use Rattle.histar_rights.specs.Table.{access_table, access_text}
use Rattle.histar_readout.specs.declared.process.ProcessNode.{ProcessNode}
use Rattle.histar_shell.specs.Machine.{MachineModel}
use Rattle.histar_shell.specs.Meaning.{Shows}
use Rattle.histar_prefix.specs.Listing.{AreProcessesIn}
use Rattle.histar_cells.specs.declared.cells.Cell.{Cell}
use Rattle.histar_access.specs.Cells.{visitors_among}

-- a machine represents some flat state, whose processes have names that can be shown
abbrev pub IsShown : MachineModel → Type 0
IsShown m = (accounts : Accounts) × (f : Flat) × Shows accounts m f × HaveShownNames f

-- the cells of the running ones of these processes of a machine
abbrev pub visitors_in : MachineModel → List ProcessNode → List Cell
visitors_in m processes = visitors_among (state m.kernel) m.roots processes

-- these are the cells of the running processes of a machine
abbrev pub AreVisitors : MachineModel → List Cell → Type 0
AreVisitors m visitors = (processes : List ProcessNode) × AreProcessesIn m processes × (visitors ≡ visitors_in m processes)

-- For every flat state that the machine represents, the text of its table was written.
abbrev pub AppendsTable : MachineModel → Option (List ℕ) → Option (List ℕ) → Type 0
AppendsTable m old new = (accounts : Accounts) (f : Flat) → Shows accounts m f → HaveShownNames f → Appends old new
    (access_text (access_table accounts f))

-- a beginning of the text of its table was written
abbrev pub BeginsTable : MachineModel → Option (List ℕ) → Option (List ℕ) → Type 0
BeginsTable m old new = (accounts : Accounts) (f : Flat) → Shows accounts m f → HaveShownNames f → AppendsFront old new
    (access_text (access_table accounts f))
