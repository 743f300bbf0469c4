-- When calls end for want of memory.
use Rattle.std.specs.Prelude.{◌≡◌, false, Result}
use Rattle.histar_flat.specs.Accounts.{Accounts}
use Rattle.histar_flat.specs.FlatState.{Flat}
use Rattle.histar_script.specs.Memory.{OnOutOfMemory}
use Rattle.histar_script.specs.declared.fault.Fault.{Fault}
use Rattle.histar_shell.specs.Machine.{MachineModel}
use Rattle.histar_shell.specs.Meaning.{Shows}

-- if a machine that represents a flat state had not stopped, the answer is out of memory only where memory ran out, which `M` says
abbrev pub WantsMemory : {A : Type 0} → Type 0 → MachineModel → Result A Fault → Type 0
WantsMemory M m result = (accounts : Accounts) (f : Flat) → Shows accounts m f → m.is_stopped ≡ false → OnOutOfMemory result M

-- if a machine represented a flat state and had not stopped, a later one represents a flat state and has not stopped
abbrev pub StillShows : MachineModel → MachineModel → Type 0
StillShows old new =
    (accounts : Accounts) (f : Flat) → Shows accounts old f → old.is_stopped ≡ false
    → (g : Flat) × Shows accounts new g × (new.is_stopped ≡ false)
