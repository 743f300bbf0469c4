-- How a wrap gives its category up, in the steps of its code.
use Rattle.std.specs.Prelude.{Result, Ok, Err}
use Rattle.histar_level.specs.Levels.{Levels}
use Rattle.histar_rules.specs.declared.raw.RawCall.{RawCall}
use Rattle.histar_rules.specs.declared.raw.RawCall.TheVariants.{SetLabel, SetClearance}
use Rattle.histar_rules.specs.declared.raw.Refusal.{Refusal}
use Rattle.histar_programs.specs.declared.call_error.CallError.{CallError}
use Rattle.histar_programs.specs.declared.call_error.CallError.TheVariants.{Stopped}
use Rattle.histar_programs.specs.Parts.{◌>>◌}
use Rattle.histar_programs.specs.Programs.{AnswerOf, Part}
use Rattle.histar_programs.specs.Programs.Program.{Asks}
use Rattle.histar_wrap.specs.Scratch.{or_stops}

-- asks the kernel; a denial stops the program
abbrev pub ask_or_stop : (call : RawCall) → Part (AnswerOf call)
ask_or_stop call rest = Asks call (or_stops rest)

-- the thread takes its own label and clearance again
abbrev pub restore : Levels × Levels → Part (Unit {0})
restore own rest = do
  ask_or_stop (SetLabel own.0)
  ask_or_stop (SetClearance own.1)
  rest tt

-- the answer of a raw call, or the end of the call without a reply
abbrev pub stopping : Result (Unit {0}) Refusal → Result (Unit {0}) CallError
stopping (Ok done) = Ok done
stopping (Err refusal) = Err Stopped
