-- The forms of calls: the word of each, and the arguments that follow it.
use Rattle.std.specs.Prelude.{◌≡◌, ℕ, ◌≤◌, IsTrue, List, [], ◌∷◌, ◌++◌, codes}
use Rattle.std.specs.Fmt.{decimal}
use Rattle.histar_flat.specs.declared.calls.Mode.{Mode}
use Rattle.histar_flat.specs.declared.calls.UnixCall.{UnixCall}
use Rattle.histar_flat.specs.declared.calls.UnixCall.TheVariants.{Create, Mkdir, Write, Append, Read, List as ListCall, Stat, Unlink, Rmdir, Rmtree}
use Rattle.histar_flat.specs.declared.calls.UnixCall.TheVariants.{Rename, Spawn, Exit, Status, Kill, Whoami, Login, Wrap}
use Rattle.histar_flat.specs.Words.{Name, Password, Path, ProcName, greatest_status, is_name, is_password, is_path, is_process}
use Rattle.histar_flat.specs.Modes.{is_line_mode}
use Rattle.histar_flat.specs.Texts.{path_text, process_text, mode_text}

-- the kinds of arguments of calls; a number has a greatest one
pub data Argument : Type 0 where
  a_path a_mode any_bytes a_name a_password a_process : Argument
  a_number : ℕ → Argument

-- the values of an argument
abbrev pub Value : Argument → Type 0
Value a_path = Path
Value a_mode = Mode
Value any_bytes = List ℕ
Value a_name = Name
Value a_password = Password
Value a_process = ProcName
Value (a_number greatest) = ℕ

-- the text spells the value, and a line can have it: a path, a name or a process that can be named, a mode that a line can name,
-- or a number up to the greatest
abbrev pub Spells : (a : Argument) → List ℕ → Value a → Type 0
Spells a_path text path = (text ≡ path_text path) × IsTrue (is_path path)
Spells a_mode text mode = (text ≡ mode_text mode) × IsTrue (is_line_mode mode)
Spells any_bytes text bytes = text ≡ bytes
Spells a_name text name = (text ≡ name) × IsTrue (is_name name)
Spells a_password text password = (text ≡ password) × IsTrue (is_password password)
Spells a_process text process = (text ≡ process_text process) × IsTrue (is_process process)
Spells (a_number greatest) text n = (text ≡ decimal n) × (n ≤ greatest)

-- the form of a call: its word, the arguments that follow it, none, one or two, and the call that their values make
pub data CallForm : Type 0 where
  alone : List ℕ → UnixCall → CallForm
  one : List ℕ → (a : Argument) → (Value a → UnixCall) → CallForm
  two : List ℕ → (a b : Argument) → (Value a → Value b → UnixCall) → CallForm

-- the calls that have no argument
abbrev pub lone_calls : List CallForm
lone_calls = alone (codes "spawn") Spawn ∷ alone (codes "whoami") Whoami ∷ []

-- the calls that make a file or a directory, or write
abbrev pub writing_calls : List CallForm
writing_calls =
    two (codes "create") a_path a_mode Create
    ∷ two (codes "mkdir") a_path a_mode Mkdir
    ∷ two (codes "write") a_path any_bytes Write
    ∷ two (codes "append") a_path any_bytes Append ∷ []

-- the calls that only read
abbrev pub reading_calls : List CallForm
reading_calls =
    one (codes "read") a_path Read
    ∷ one (codes "list") a_path ListCall
    ∷ one (codes "stat") a_path Stat ∷ []

-- the calls that remove or rename an entry, and the one that starts a job
abbrev pub entry_calls : List CallForm
entry_calls =
    one (codes "unlink") a_path Unlink
    ∷ one (codes "rmdir") a_path Rmdir
    ∷ one (codes "rmtree") a_path Rmtree
    ∷ two (codes "rename") a_path a_name Rename
    ∷ one (codes "wrap") a_path Wrap ∷ []

-- the calls of processes
abbrev pub process_calls : List CallForm
process_calls =
    one (codes "exit") (a_number greatest_status) Exit
    ∷ one (codes "status") a_process Status
    ∷ one (codes "kill") a_process Kill
    ∷ two (codes "login") a_name a_password Login ∷ []

-- all calls
abbrev pub call_forms : List CallForm
call_forms = lone_calls ++ writing_calls ++ reading_calls ++ entry_calls ++ process_calls
