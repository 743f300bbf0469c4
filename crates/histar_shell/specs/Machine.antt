-- The parts of a machine, and what a call line does to it.
use Rattle.std.specs.Prelude.{◌≡◌, ℕ, Bool, true, false, length, Option, None, Some, Result, Ok, IsErr, is_err, refl}
use Rattle.std.specs.Coded.{Coded, code_by, coded×, coded_bool}
use Rattle.histar_flat.specs.declared.calls.UnixCall.{UnixCall}
use Rattle.histar_flat.specs.declared.calls.UnixCall.TheVariants.{Create, Mkdir, Write, Append, Read, List as ListCall, Stat, Unlink, Rmdir, Rmtree}
use Rattle.histar_flat.specs.declared.calls.UnixCall.TheVariants.{Rename, Spawn, Exit, Status, Kill, Whoami, Login, Wrap}
use Rattle.histar_flat.specs.declared.replies.Reply.{Reply}
use Rattle.histar_flat.specs.declared.replies.Reply.TheVariants.{Gone}
use Rattle.histar_flat.specs.Accounts.{Accounts}
use Rattle.histar_flat.specs.contracts.accounts.Accounts as sessions
use Rattle.histar_flat.specs.Words.{ProcName}
use Rattle.histar_object.specs.State.{empty_state}
use Rattle.histar_syscall.specs.KernelModel.{KernelModel, coded_kernel_model, state}
use Rattle.histar_syscall.specs.Runs.{IsRun}
use Rattle.histar_programs.specs.declared.roots.Roots.{Roots}
use Rattle.histar_programs.specs.contracts.roots.Roots as where_is
use Rattle.histar_programs.specs.Programs.{Program, Runs}
use Rattle.histar_layout.specs.UserTable.{without_passwords}
use Rattle.histar_calls.specs.Create.{create_program}
use Rattle.histar_calls.specs.Mkdir.{mkdir_program}
use Rattle.histar_calls.specs.Append.{append_program}
use Rattle.histar_calls.specs.ListCall.{list_program}
use Rattle.histar_calls.specs.Write.{write_program}
use Rattle.histar_calls.specs.Read.{read_program}
use Rattle.histar_calls.specs.StatCall.{stat_program}
use Rattle.histar_moves.specs.Unlink.{unlink_program}
use Rattle.histar_moves.specs.Rmdir.{rmdir_program}
use Rattle.histar_moves.specs.Rmtree.{rmtree_program}
use Rattle.histar_moves.specs.Rename.{rename_program}
use Rattle.histar_login.specs.Boot.{IsBooted}
use Rattle.histar_login.specs.Login.{login_program}
use Rattle.histar_wrap.specs.WrapCall.{wrap_program}
use Rattle.histar_programs.specs.declared.caller.Caller.{Caller}
use Rattle.histar_programs.specs.Caller.{caller_at}
use Rattle.histar_process.specs.SpawnCall.{spawn_program}
use Rattle.histar_process.specs.ExitCall.{exit_program}
use Rattle.histar_process.specs.StatusCall.{status_program}
use Rattle.histar_process.specs.KillCall.{kill_program}
use Rattle.histar_process.specs.Whoami.{whoami_program}
use Rattle.histar_programs.specs.Start.{roots_of, start_state}
use Rattle.histar_programs.specs.declared.call_error.Stopped.{Stopped}
use Rattle.histar_shell.specs.declared.calls.CallKind.{CallKind}
use Rattle.histar_shell.specs.declared.calls.CallKind.TheVariants.{Entries, Processes, Reading, Writing}

-- the kernel of a machine, the places of `/` and process 0, its users and groups with no passwords, and whether a call of it has ended
-- without a reply
pub record MachineModel : Type 0 where
  pub kernel : KernelModel
  pub roots : Roots
  pub users : Accounts
  pub is_stopped : Bool

-- a machine is stored as the tuple of its parts
abbrev pub coded_machine_model : Coded MachineModel
coded_machine_model = code_by (KernelModel × (Roots × (Accounts × Bool))) (coded× coded_kernel_model (coded× where_is.the_row.coded (coded× sessions.the_row.coded coded_bool))) (λ m. (m.kernel, (m.roots, (m.users, m.is_stopped)))) (λ p. record { kernel = p.0; roots = p.1.0; users = p.1.1.0; is_stopped = p.1.1.1 }) (λ _. refl)

-- the trace of the kernel is a run from the empty kernel to its state
abbrev pub IsTraced : KernelModel → Type 0
IsTraced k = IsRun empty_state k.trace (state k)

-- a machine that was booted with these users and groups: it keeps no passwords of them, it runs, and no raw call but those of boot was
-- made
pub record IsStart (declared : Accounts) (m : MachineModel) : Type 0 where
  pub users : m.users ≡ without_passwords declared
  pub roots : m.roots ≡ roots_of (length declared.users)
  pub state : state m.kernel ≡ start_state declared
  pub booted : IsBooted declared m.kernel
  pub line : m.kernel.line ≡ 0
  pub runs : m.is_stopped ≡ false

-- the kernel with this line for its next raw calls
abbrev pub on_line : ℕ → KernelModel → KernelModel
on_line line k = record { kept = k.kept; line = line; trace = k.trace }

-- a call reads or writes files and directories, or is on the entries of a directory or on processes
abbrev pub kind_of : UnixCall → CallKind
kind_of (Create path mode) = Writing
kind_of (Mkdir path mode) = Writing
kind_of (Write path bytes) = Writing
kind_of (Append path bytes) = Writing
kind_of (Read path) = Reading
kind_of (ListCall path) = Reading
kind_of (Stat path) = Reading
kind_of (Unlink path) = Entries
kind_of (Rmdir path) = Entries
kind_of (Rmtree path) = Entries
kind_of (Rename path name) = Entries
kind_of call = Processes

-- the program of raw calls that a call of a process runs
abbrev pub program_of : Accounts → Roots → ProcName → Caller → UnixCall → Program
program_of accounts roots me caller (Create path mode) = create_program accounts roots path mode
program_of accounts roots me caller (Mkdir path mode) = mkdir_program accounts roots path mode
program_of accounts roots me caller (Write path bytes) = write_program roots path bytes
program_of accounts roots me caller (Append path bytes) = append_program roots path bytes
program_of accounts roots me caller (Read path) = read_program roots path
program_of accounts roots me caller (ListCall path) = list_program roots path
program_of accounts roots me caller (Stat path) = stat_program accounts roots path
program_of accounts roots me caller (Unlink path) = unlink_program roots path
program_of accounts roots me caller (Rmdir path) = rmdir_program roots path
program_of accounts roots me caller (Rmtree path) = rmtree_program roots path
program_of accounts roots me caller (Rename path name) = rename_program roots path name
program_of accounts roots me caller Spawn = spawn_program accounts me caller.home
program_of accounts roots me caller (Exit number) = exit_program caller.home number
program_of accounts roots me caller (Status name) = status_program roots name
program_of accounts roots me caller (Kill name) = kill_program roots name
program_of accounts roots me caller Whoami = whoami_program accounts
program_of accounts roots me caller (Login name password) = login_program accounts caller name password
program_of accounts roots me caller (Wrap path) = wrap_program accounts roots me caller.home path

-- a call of a process runs its program, by the process's thread on the line that was begun; `M` says that memory ran out
abbrev pub Makes : Type 0 → Accounts → Roots → ProcName → Caller → KernelModel → KernelModel → UnixCall
    → Result Reply Stopped → Type 0
Makes M accounts roots me caller old new call result = Runs M (program_of accounts roots me caller call) old new caller.thread result

-- The call was made by the thread of the process on the line that was begun; the machine has the same places, users and groups as
-- before, and has stopped if the call ended without an answer.
pub record HasMade (M : Type 0) (old new : MachineModel) (line : ℕ) (me : ProcName) (caller : Caller) (call : UnixCall)
    (result : Result Reply Stopped) : Type 0 where
  pub made : Makes M old.users old.roots me caller (on_line line old.kernel) new.kernel call result
  pub roots : new.roots ≡ old.roots
  pub users : new.users ≡ old.users
  pub stops : new.is_stopped ≡ is_err result

-- if the process is found, its call is made; if not, the answer is `gone`, and nothing changes
abbrev pub AnswersFound : Type 0 → Option Caller → MachineModel → MachineModel → ℕ → ProcName → UnixCall
    → Result Reply Stopped → Type 0
AnswersFound M None old new line me call result = (result ≡ Ok Gone) × (new ≡ old)
AnswersFound M (Some caller) old new line me call result = HasMade M old new line me caller call result

-- a running machine: the process is looked for in the kernel's own table
abbrev pub AnswersRunning : Type 0 → MachineModel → MachineModel → ℕ → ProcName → UnixCall → Result Reply Stopped → Type 0
AnswersRunning M old new line me call result = AnswersFound M (caller_at (state old.kernel) old.roots.home me) old new line me call result

-- a machine that has stopped does nothing, and answers `Stopped`
abbrev pub AnswersIf : Type 0 → Bool → MachineModel → MachineModel → ℕ → ProcName → UnixCall → Result Reply Stopped → Type 0
AnswersIf M true old new line process call result = IsErr result × (new ≡ old)
AnswersIf M false old new line process call result = AnswersRunning M old new line process call result

-- what a call line does to a machine; `M` says that memory ran out
abbrev pub AnswersLineBy : Type 0 → MachineModel → MachineModel → ℕ → ProcName → UnixCall → Result Reply Stopped → Type 0
AnswersLineBy M old new line process call result = AnswersIf M old.is_stopped old new line process call result

-- what a call line does to a machine, whatever ends it without an answer
abbrev pub AnswersLine : MachineModel → MachineModel → ℕ → ProcName → UnixCall → Result Reply Stopped → Type 0
AnswersLine old new line process call result = AnswersLineBy (Unit {0}) old new line process call result
