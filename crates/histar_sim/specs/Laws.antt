-- The program of each Unix call refines its rule: the statements of the laws.
use Rattle.std.specs.Prelude.{ℕ, List, length, IsTrue, ◌≤◌}
use Rattle.histar_flat.specs.declared.calls.Mode.{Mode}
use Rattle.histar_flat.specs.declared.calls.UnixCall.TheVariants.{Create, Mkdir, Write, Append, Read, List as ListCall, Stat, Login, Unlink, Rmdir}
use Rattle.histar_flat.specs.declared.calls.UnixCall.TheVariants.{Rmtree, Rename, Spawn, Exit, Status, Kill, Whoami, Wrap}
use Rattle.histar_flat.specs.Words.{Name, Password, Path, ProcName, is_path, is_name, greatest_status}
use Rattle.histar_flat.specs.Accounts.{Accounts}
use Rattle.histar_calls.specs.Read.{read_program}
use Rattle.histar_calls.specs.Write.{write_program}
use Rattle.histar_calls.specs.Create.{create_program}
use Rattle.histar_calls.specs.Mkdir.{mkdir_program}
use Rattle.histar_calls.specs.Append.{append_program}
use Rattle.histar_calls.specs.ListCall.{list_program}
use Rattle.histar_calls.specs.StatCall.{stat_program}
use Rattle.histar_login.specs.Login.{login_program}
use Rattle.histar_programs.specs.Start.{roots_of}
use Rattle.histar_refinement.specs.Accounts.{AreAccounts}
use Rattle.histar_moves.specs.Unlink.{unlink_program}
use Rattle.histar_moves.specs.Rmdir.{rmdir_program}
use Rattle.histar_moves.specs.Rmtree.{rmtree_program}
use Rattle.histar_moves.specs.Rename.{rename_program}
use Rattle.histar_process.specs.SpawnCall.{spawn_program}
use Rattle.histar_process.specs.ExitCall.{exit_program}
use Rattle.histar_process.specs.StatusCall.{status_program}
use Rattle.histar_process.specs.KillCall.{kill_program}
use Rattle.histar_process.specs.Whoami.{whoami_program}
use Rattle.histar_wrap.specs.WrapCall.{wrap_program}
use Rattle.histar_sim.specs.Refines.{Refines, CallerRefines}

abbrev pub ReadRefines : Type 0 → Type 0
ReadRefines M =
    (accounts : Accounts) → AreAccounts accounts → (path : Path)
    → Refines M accounts (Read path) (read_program (roots_of (length accounts.users)) path)

abbrev pub WriteRefines : Type 0 → Type 0
WriteRefines M =
    (accounts : Accounts) → AreAccounts accounts → (path : Path) (bytes : List ℕ)
    → Refines M accounts (Write path bytes) (write_program (roots_of (length accounts.users)) path bytes)

abbrev pub CreateRefines : Type 0 → Type 0
CreateRefines M =
    (accounts : Accounts) → AreAccounts accounts → (path : Path) (mode : Mode) → IsTrue (is_path path)
    → Refines M accounts (Create path mode) (create_program accounts (roots_of (length accounts.users)) path mode)

abbrev pub MkdirRefines : Type 0 → Type 0
MkdirRefines M =
    (accounts : Accounts) → AreAccounts accounts → (path : Path) (mode : Mode) → IsTrue (is_path path)
    → Refines M accounts (Mkdir path mode) (mkdir_program accounts (roots_of (length accounts.users)) path mode)

abbrev pub AppendRefines : Type 0 → Type 0
AppendRefines M =
    (accounts : Accounts) → AreAccounts accounts → (path : Path) (bytes : List ℕ)
    → Refines M accounts (Append path bytes) (append_program (roots_of (length accounts.users)) path bytes)

abbrev pub ListRefines : Type 0 → Type 0
ListRefines M =
    (accounts : Accounts) → AreAccounts accounts → (path : Path)
    → Refines M accounts (ListCall path) (list_program (roots_of (length accounts.users)) path)

abbrev pub StatRefines : Type 0 → Type 0
StatRefines M =
    (accounts : Accounts) → AreAccounts accounts → (path : Path)
    → Refines M accounts (Stat path) (stat_program accounts (roots_of (length accounts.users)) path)

abbrev pub LoginRefines : Type 0 → Type 0
LoginRefines M =
    (accounts : Accounts) → AreAccounts accounts → (name : Name) (password : Password)
    → CallerRefines M accounts (Login name password) (λ me caller. login_program accounts caller name password)

abbrev pub UnlinkRefines : Type 0 → Type 0
UnlinkRefines M =
    (accounts : Accounts) → AreAccounts accounts → (path : Path)
    → Refines M accounts (Unlink path) (unlink_program (roots_of (length accounts.users)) path)

abbrev pub RmdirRefines : Type 0 → Type 0
RmdirRefines M =
    (accounts : Accounts) → AreAccounts accounts → (path : Path)
    → Refines M accounts (Rmdir path) (rmdir_program (roots_of (length accounts.users)) path)

abbrev pub RmtreeRefines : Type 0 → Type 0
RmtreeRefines M =
    (accounts : Accounts) → AreAccounts accounts → (path : Path)
    → Refines M accounts (Rmtree path) (rmtree_program (roots_of (length accounts.users)) path)

abbrev pub RenameRefines : Type 0 → Type 0
RenameRefines M =
    (accounts : Accounts) → AreAccounts accounts → (path : Path) (name : Name) → IsTrue (is_name name)
    → Refines M accounts (Rename path name) (rename_program (roots_of (length accounts.users)) path name)

abbrev pub SpawnRefines : Type 0 → Type 0
SpawnRefines M =
    (accounts : Accounts) → AreAccounts accounts → CallerRefines M accounts Spawn (λ me caller. spawn_program accounts me caller.home)

-- an exit with a number that is a byte
abbrev pub ExitRefines : Type 0 → Type 0
ExitRefines M =
    (accounts : Accounts) → AreAccounts accounts → (number : ℕ) → number ≤ greatest_status
    → CallerRefines M accounts (Exit number) (λ me caller. exit_program caller.home number)

abbrev pub StatusRefines : Type 0 → Type 0
StatusRefines M =
    (accounts : Accounts) → AreAccounts accounts → (name : ProcName)
    → Refines M accounts (Status name) (status_program (roots_of (length accounts.users)) name)

abbrev pub KillRefines : Type 0 → Type 0
KillRefines M =
    (accounts : Accounts) → AreAccounts accounts → (name : ProcName)
    → Refines M accounts (Kill name) (kill_program (roots_of (length accounts.users)) name)

abbrev pub WhoamiRefines : Type 0 → Type 0
WhoamiRefines M = (accounts : Accounts) → AreAccounts accounts → Refines M accounts Whoami (whoami_program accounts)

abbrev pub WrapRefines : Type 0 → Type 0
WrapRefines M =
    (accounts : Accounts) → AreAccounts accounts → (path : Path) → IsTrue (is_path path)
    → CallerRefines M accounts (Wrap path) (λ me caller. wrap_program accounts (roots_of (length accounts.users)) me caller.home path)
