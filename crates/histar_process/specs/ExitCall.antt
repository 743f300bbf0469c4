-- The program of `exit STATUS`.
use Rattle.std.specs.Prelude.{ℕ, Result}
use Rattle.histar_flat.specs.declared.replies.Reply.TheVariants.{Done}
use Rattle.histar_rules.specs.declared.raw.RawCall.TheVariants.{Unlink}
use Rattle.histar_syscall.specs.KernelModel.{KernelModel}
use Rattle.histar_layout.specs.Status.{ProcessStatus, once_exited}
use Rattle.histar_programs.specs.declared.call_error.CallError.{CallError}
use Rattle.histar_programs.specs.declared.roots.Home.{Home}
use Rattle.histar_programs.specs.Programs.{Part, Program, RunsPart}
use Rattle.histar_programs.specs.Programs.Program.{Answers}
use Rattle.histar_programs.specs.Parts.{◌>>=◌, ◌>>◌, ask}
use Rattle.histar_process.specs.Parts.{read_status, write_status}
use Rattle.histar_process.specs.Reading.{IsSegment}
use Rattle.histar_process.specs.declared.find.Segment.{Segment}

-- the process's own segment is read, and written with the number of its exit; its internal container is unlinked, with its thread
unfoldable pub exit_program : Home → ℕ → Program
exit_program me number = do
  status ← read_status me
  write_status me (once_exited number status)
  ask (Unlink me.container status.internal)
  Answers Done

-- a process whose segment shows this status is written with the number of its exit, and its internal container is unlinked
abbrev pub end_process : Home → ProcessStatus → ℕ → Part (Unit {0})
end_process me status number rest = do
  write_status me (once_exited number status)
  ask (Unlink me.container status.internal)
  rest tt

-- a process whose segment was read is ended, whatever status the segment shows
abbrev pub EndsProcess : Type 0 → Home → Segment → ℕ → KernelModel → KernelModel → ℕ → Result (Unit {0}) CallError → Type 0
EndsProcess M me segment number old new thread result =
    (status : ProcessStatus) → IsSegment segment status → RunsPart M (end_process me status number) old new thread result
