-- When the run of a script ends for want of memory.
use Rattle.std.specs.Prelude.{◌≡◌, false, Result, OnErr}
use Rattle.histar_flat.specs.Accounts.{Accounts}
use Rattle.histar_flat.specs.FlatState.{Flat}
use Rattle.histar_shell.specs.Machine.{MachineModel}
use Rattle.histar_shell.specs.Meaning.{Shows}

-- if a machine that represents a flat state had not stopped, an error was answered only where memory ran out, which `M` says
abbrev pub FailsForMemory : {A E : Type 0} → Type 0 → MachineModel → Result A E → Type 0
FailsForMemory M m result = (accounts : Accounts) (f : Flat) → Shows accounts m f → m.is_stopped ≡ false → OnErr result M
