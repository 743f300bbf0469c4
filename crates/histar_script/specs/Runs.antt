-- What a run takes of its input, returns and writes, whatever the text is a script of.
use Rattle.std.specs.Prelude.{◌≡◌, ℕ, ◌⊎◌, Bool, true, false, List, Option, Result, Err}
use Rattle.std.specs.Io.KnownBytes.{Keeps}
use Rattle.histar_io.specs.Input.{TakesAll, TakesSome}
use Rattle.histar_script.specs.declared.fault.Fault.{Fault}
use Rattle.histar_script.specs.declared.fault.Fault.TheVariants.{OutOfMemory, ReadFailed, WriteFailed}

-- the result is that a read failed
abbrev pub is_read_failed : {A : Type 0} → Result A Fault → Bool
is_read_failed (Err ReadFailed) = true
is_read_failed result = false

-- the result is that a write failed
abbrev pub is_write_failed : {A : Type 0} → Result A Fault → Bool
is_write_failed (Err WriteFailed) = true
is_write_failed result = false

-- the faults that can occur while calls are answered
abbrev pub IsOutputFault : Fault → Type 0
IsOutputFault OutOfMemory = Unit {0}
IsOutputFault WriteFailed = Unit {0}
IsOutputFault fault = ⊥

-- A bad script, one that is too long or a failed read leaves the sink as it was, whatever is known of it.
abbrev pub LeavesSink : {W : Type 0} → W → W → Fault → Type 0
LeavesSink old new OutOfMemory = Unit {0}
LeavesSink old new WriteFailed = Unit {0}
LeavesSink old new fault = new ≡ old

-- The run took some bytes and ran no text: nothing was written.
pub record StopsReading (left rest old new : Option (List ℕ)) : Type 0 where
  pub takes : TakesSome left rest
  pub keeps : Keeps old new

-- a way to run a text: a relation of what was written before and after, and the result
abbrev pub Running : Type 0 → Type 1
Running A = List ℕ → Option (List ℕ) → Option (List ℕ) → Result A Fault → Type 0

-- The run took these bytes, all that it takes, and ran their text.
pub record RunsTaken {A : Type 0} (Runs : Running A) (left rest old new : Option (List ℕ)) (result : Result A Fault) : Type 0 where
  pub taken : List ℕ
  pub takes : TakesAll left rest taken
  pub runs : Runs taken old new result

-- A run takes its input and runs its text, but stops at a failed read, and may have stopped if memory runs out.
abbrev pub RunsInput : {A : Type 0} → Running A → Option (List ℕ) → Option (List ℕ) → Option (List ℕ) → Option (List ℕ) → Result A Fault → Type 0
RunsInput Runs left rest old new (Err OutOfMemory) = StopsReading left rest old new ⊎ RunsTaken Runs left rest old new (Err OutOfMemory)
RunsInput Runs left rest old new (Err ReadFailed) = StopsReading left rest old new
RunsInput Runs left rest old new result = RunsTaken Runs left rest old new result
