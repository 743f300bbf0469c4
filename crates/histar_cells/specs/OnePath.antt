-- The rights of one process at one path, by the labels on the way to it.
use Rattle.std.specs.Prelude.{◌≡◌, [], ◌∷◌, Option, Some, MatchOption}
use Rattle.std.specs.FinMap as map
use Rattle.histar_flat.specs.Words.{Name, Path, ProcName}
use Rattle.histar_flat.specs.Accounts.{Accounts}
use Rattle.histar_flat.specs.FlatState.{Flat}
use Rattle.histar_syscall.specs.KernelModel.{lent_bytes}
use Rattle.histar_object.specs.State.{State}
use Rattle.histar_layout.specs.Directory.{Entries, IsDirectory}
use Rattle.histar_layout.specs.Listing.{object_of}
use Rattle.histar_layout.specs.declared.entry.Target.{Target}
use Rattle.histar_layout.specs.declared.entry.Target.TheVariants.{File, Directory}
use Rattle.histar_programs.specs.declared.roots.Roots.{Roots}
use Rattle.histar_rights.specs.declared.rights.Rights.{Rights}
use Rattle.histar_diff.specs.Shown.{rights_of}
use Rattle.histar_readout.specs.Resolve.{LeadsNowhere}
use Rattle.histar_shell.specs.Machine.{MachineModel}
use Rattle.histar_shell.specs.Meaning.{Shows}
use Rattle.histar_cells.specs.declared.cells.Cell.{Cell}
use Rattle.histar_cells.specs.declared.one_path.Spot.{Spot}
use Rattle.histar_cells.specs.Cells.{cell_below}

-- the directory at the one target lists this name, and its entry leads to the other target
abbrev pub Lists : State → Target → Name → Target → Type 0
Lists s (File file) name target = ⊥
Lists s (Directory container listing) name target = (dir : Entries) × IsDirectory (lent_bytes s listing) dir × (map.get dir name ≡ Some target)

-- the target that was found is where the entry of the name leads, and nothing was found exactly if there is no entry
abbrev pub FindsEntry : State → Target → Name → Option Target → Type 0
FindsEntry s above name found = MatchOption found ((target : Target) → Lists s above name target → ⊥) (Lists s above name)

-- the spot at which an entry leads to this target, by the cell at its directory
abbrev pub spot_below : State → Cell → Target → Spot
spot_below s above target = record { target = target; cell = cell_below s (object_of target) above }

-- A path leads to this spot, where a process has the rights of this cell above `/`: `/` is where boot left it, and another path is where
-- the directory above it lists its last name.
abbrev pub Reaches : State → Roots → Cell → Path → Spot → Type 0
Reaches s roots start [] spot = spot ≡ spot_below s start (Directory roots.slash.container roots.slash.listing)
Reaches s roots start (name ∷ d) spot =
    (above : Spot) × (target : Target)
    × Reaches s roots start d above × Lists s above.target name target × (spot ≡ spot_below s above.cell target)

-- what was found is the spot that the path leads to, and nothing was found exactly if it leads nowhere
unfoldable pub FindsSpot : State → Roots → Cell → Path → Option Spot → Type 0
FindsSpot s roots start q found = MatchOption found (LeadsNowhere s roots q) (Reaches s roots start q)

-- for every flat state that the machine represents, these are the rights of a process at a path in it
abbrev pub AreRightsOf : MachineModel → Path → ProcName → Rights → Type 0
AreRightsOf m q me rights = (accounts : Accounts) (f : Flat) → Shows accounts m f → rights ≡ rights_of accounts f q me
