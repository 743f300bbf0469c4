-- Results of functions whose memory may run out, and the faults of devices.
use Rattle.std.specs.Prelude.{◌≡◌, ℕ, Option, Some, None, Result, Ok, Err}
use Rattle.histar_script.specs.declared.fault.Fault.{Fault}
use Rattle.histar_script.specs.declared.fault.Fault.TheVariants.{BadScript, TooLong, OutOfMemory, ReadFailed, WriteFailed}
use Rattle.histar_io.specs.declared.input.InputError.{InputError}
use Rattle.histar_io.specs.declared.input.InputError.TheVariants as input
use Rattle.histar_script.specs.Script.{ScriptModel}

-- the fault for an error of the input
abbrev pub input_fault : InputError → Fault
input_fault input.ReadFailed = ReadFailed
input_fault input.OutOfMemory = OutOfMemory

-- the result is this one, unless memory ran out; no device failed
abbrev pub Gives : {A : Type 0} → Result A Fault → Result A Fault → Type 0
Gives (Ok x) read = read ≡ Ok x
Gives (Err (BadScript n)) read = read ≡ Err (BadScript n)
Gives (Err TooLong) read = read ≡ Err TooLong
Gives (Err OutOfMemory) read = Unit {0}
Gives (Err ReadFailed) read = ⊥
Gives (Err WriteFailed) read = ⊥

-- a step leaves the script after line n, or finds line n bad, unless memory ran out
abbrev pub GivesNext : {A : Type 0} → ℕ → Result A Fault → ScriptModel → Option ScriptModel → Type 0
GivesNext n (Ok u) new next = next ≡ Some new
GivesNext n (Err (BadScript k)) new next = (k ≡ n) × (next ≡ None)
GivesNext n (Err OutOfMemory) new next = Unit {0}
GivesNext n (Err TooLong) new next = ⊥
GivesNext n (Err ReadFailed) new next = ⊥
GivesNext n (Err WriteFailed) new next = ⊥
