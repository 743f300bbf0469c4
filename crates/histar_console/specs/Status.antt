-- The exit statuses of the programs.
use Rattle.std.specs.Prelude.{ℕ}
use Rattle.histar_console.specs.declared.status.Outcome.{Outcome}
use Rattle.histar_console.specs.declared.status.Outcome.TheVariants.{Done, NotSo}
use Rattle.histar_console.specs.declared.status.Outcome.TheVariants as outcomes
use Rattle.histar_script.specs.declared.fault.Fault.{Fault}
use Rattle.histar_script.specs.declared.fault.Fault.TheVariants.{BadScript, TooLong, OutOfMemory, ReadFailed, WriteFailed}

-- 1 if the script is at fault, 3 if memory runs out, 4 if a device failed
abbrev pub status_of : Fault → ℕ
status_of (BadScript n) = 1
status_of TooLong = 1
status_of OutOfMemory = 3
status_of ReadFailed = 4
status_of WriteFailed = 4

-- 0 if a task was done, 5 if the answer is no, 1 if a script is bad
abbrev pub outcome_status : Outcome → ℕ
outcome_status Done = 0
outcome_status NotSo = 5
outcome_status outcomes.BadScript = 1
