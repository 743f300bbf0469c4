-- The parts of programs that read and write process segments, as the code runs them.
use Rattle.std.specs.Prelude.{◌≡◌, ℕ, List, Option, Some, Result, Ok, Err}
use Rattle.histar_flat.specs.Words.{ProcName}
use Rattle.histar_syscall.specs.KernelModel.{KernelModel}
use Rattle.histar_rules.specs.declared.raw.RawCall.TheVariants.{Write}
use Rattle.histar_layout.specs.Status.{ProcessStatus, child_at, head_of, status_in}
use Rattle.histar_layout.specs.declared.status.Child.{Child}
use Rattle.histar_layout.specs.declared.status.StatusHead.{StatusHead}
use Rattle.histar_programs.specs.declared.call_error.CallError.{CallError}
use Rattle.histar_programs.specs.declared.roots.Home.{Home}
use Rattle.histar_programs.specs.Programs.{Part, RunsPart}
use Rattle.histar_programs.specs.Parts.{◌>>=◌, ask}
use Rattle.histar_process.specs.Parts.{read_status}
use Rattle.histar_process.specs.SpawnCall.{room_for_child}
use Rattle.histar_process.specs.declared.find.Segment.{Segment}

-- a process segment is read, and its head is passed on
unfoldable pub read_head : Home → Part StatusHead
read_head home rest = do
  status ← read_status home
  rest (head_of status)

-- a process segment is read, and the child of this number is looked up in it
unfoldable pub look_up : Home → ℕ → Part (Option Child)
look_up home number rest = do
  status ← read_status home
  rest (child_at status.children number)

-- a segment that was read has the bytes of this status, and its head
pub record IsSegment (segment : Segment) (status : ProcessStatus) : Type 0 where
  pub status_is : status_in segment.bytes ≡ Some status
  pub head : segment.head ≡ head_of status

-- a process segment is read, and the code has the status in it
abbrev pub RunsReading : Type 0 → Home → KernelModel → KernelModel → ℕ → Result Segment CallError → Type 0
RunsReading M home old new thread (Ok segment) =
    (status : ProcessStatus) × IsSegment segment status × RunsPart M (read_status home) old new thread (Ok status)
RunsReading M home old new thread (Err call_error) = RunsPart M (read_status home) old new thread (Err call_error)

-- there is room for one child more of the process of this name, and the code has the status in its segment
abbrev pub RunsRoom : Type 0 → ProcName → Home → KernelModel → KernelModel → ℕ → Result Segment CallError → Type 0
RunsRoom M name home old new thread (Ok segment) =
    (status : ProcessStatus) × IsSegment segment status × RunsPart M (room_for_child name home) old new thread (Ok status)
RunsRoom M name home old new thread (Err call_error) = RunsPart M (room_for_child name home) old new thread (Err call_error)

-- these bytes are written in a process segment
abbrev pub IsRewritten : Type 0 → Home → List ℕ → KernelModel → KernelModel → ℕ → Result (Unit {0}) CallError → Type 0
IsRewritten M home bytes old new thread result = RunsPart M (ask (Write home.container home.segment 0 bytes)) old new thread result
