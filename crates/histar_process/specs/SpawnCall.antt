-- The program of `spawn`.
use Rattle.std.specs.Prelude.{◌≡◌, ℕ, ◌+◌, Bool, true, false, nat_lt, List, ◌∷◌, length, Some, Result, Ok, Err}
use Rattle.histar_flat.specs.Accounts.{Accounts}
use Rattle.histar_flat.specs.Words.{ProcName, most_children, most_numbers}
use Rattle.histar_flat.specs.declared.replies.Errno.{Errno}
use Rattle.histar_flat.specs.declared.replies.Errno.TheVariants.{EAGAIN}
use Rattle.histar_flat.specs.declared.replies.Reply.TheVariants as replies
use Rattle.histar_level.specs.Levels.{Levels}
use Rattle.histar_rules.specs.declared.raw.RawCall.TheVariants.{OwnLabel, SetLabel, SetClearance}
use Rattle.histar_layout.specs.Status.{ProcessStatus, status_in}
use Rattle.histar_syscall.specs.KernelModel.{KernelModel}
use Rattle.histar_programs.specs.declared.call_error.CallError.{CallError}
use Rattle.histar_programs.specs.declared.roots.Home.{Home}
use Rattle.histar_programs.specs.Programs.{Program, Part, RunsPart}
use Rattle.histar_programs.specs.Programs.Program.{Answers}
use Rattle.histar_programs.specs.Parts.{◌>>=◌, ◌>>◌, ask, given}
use Rattle.histar_programs.specs.Kin.{kin_of}
use Rattle.histar_process.specs.Parts.{read_status}
use Rattle.histar_process.specs.Birth.{birth}

-- there must be room for a child
abbrev pub must_have_room : Bool → Result (Unit {0}) Errno
must_have_room true = Ok tt
must_have_room false = Err EAGAIN

-- A name of 8 numbers has no room for one more, which is checked without a raw call. The process's own segment is read: fewer than 64
-- children may have been born.
abbrev pub room_for_child : ProcName → Home → Part ProcessStatus
room_for_child name me rest = do
  given (must_have_room (nat_lt (length name) most_numbers))
  status ← read_status me
  given (must_have_room (nat_lt status.born most_children))
  rest status

-- the thread takes this label and this clearance
abbrev pub take_labels : Levels × Levels → Part (Unit {0})
take_labels own rest = do
  ask (SetLabel own.0)
  ask (SetClearance own.1)
  rest tt

-- The thread asks for its own labels, the child is born, and the thread takes its own labels again.
abbrev pub make_child : Accounts → Home → ProcessStatus → Part (Unit {0})
make_child accounts me status rest = do
  own ← ask OwnLabel
  birth me status (kin_of accounts own.0)
  take_labels own
  rest tt

-- a child is made by a thread of the process whose segment has these bytes, whatever status they show
abbrev pub MakesChild : Type 0 → Accounts → Home → List ℕ → KernelModel → KernelModel → ℕ → Result (Unit {0}) CallError → Type 0
MakesChild M accounts me bytes old new thread result =
    (status : ProcessStatus) → status_in bytes ≡ Some status → RunsPart M (make_child accounts me status) old new thread result

-- There is room for a child. The thread asks for its own labels, the child is born, and the thread takes its own labels again.
unfoldable pub spawn_program : Accounts → ProcName → Home → Program
spawn_program accounts name me = do
  status ← room_for_child name me
  own ← ask OwnLabel
  birth me status (kin_of accounts own.0)
  take_labels own
  Answers (replies.Child ((status.born + 1) ∷ name))
