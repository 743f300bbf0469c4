-- Leaks: how a process that is trusted with a file tells what is in it, and to whom.
use Rattle.std.specs.Prelude.{◌≡◌, ◌≢◌, ℕ, ◌<◌, Bool, true, false, List, [], ◌∷◌, ◌++◌, length, Some}
use Rattle.histar_flat.specs.declared.calls.CallLine.{CallLine}
use Rattle.histar_flat.specs.declared.calls.UnixCall.{UnixCall}
use Rattle.histar_flat.specs.declared.calls.UnixCall.TheVariants.{Exit, Login, Read, Spawn, Status}
use Rattle.histar_flat.specs.declared.replies.Reply.{Reply}
use Rattle.histar_flat.specs.declared.replies.Reply.TheVariants.{Child, Data, Done, Exited, Running}
use Rattle.histar_flat.specs.Words.{Name, Password, Path, ProcName, most_children, most_numbers}
use Rattle.histar_flat.specs.Accounts.{Accounts}
use Rattle.histar_flat.specs.Classes.{Class, Process, is_free, sees}
use Rattle.histar_flat.specs.FlatState.{Flat, bytes_at, is_file_at, with_bytes}
use Rattle.histar_flat.specs.FlatCalls.{flat_after, next_child, reply_to, running}
use Rattle.histar_flat.specs.Meaning.{boot, flat_end}
use Rattle.histar_secrecy.specs.Logins.{is_password_of, logged_in}
use Rattle.histar_secrecy.specs.Ways.{reaches, way_to}
use Rattle.histar_secrecy.specs.Roles.{is_outsider, is_trusted, logs_in_as_reader}
use Rattle.histar_secrecy.specs.Noninterference.{IsReached}

-- a process and its call
abbrev pub Line : Type 0
Line = ProcName × UnixCall

-- the replies to calls, made one after another
abbrev pub replies_from : Accounts → Flat → List Line → List Reply
replies_from accounts f [] = []
replies_from accounts f (c ∷ calls) = reply_to accounts f c.0 c.1 ∷ replies_from accounts (flat_after accounts f c.0 c.1) calls

-- ---- what each state has

-- the processes are a tree, and a child's jobs begin with its parent's: whatever process has a parent has it there
abbrev pub IsFamily : Flat → Type 0
IsFamily f = (n : ℕ) (me : ProcName) (child : Process) → f.processes (n ∷ me) ≡ Some child
    → (parent : Process) × (f.processes me ≡ Some parent) × (inner : List ProcName) × (child.chain ≡ parent.chain ++ inner)

-- in each state that calls lead to the processes are a tree
abbrev pub ProcessesAreATree : Type 0
ProcessesAreATree = (accounts : Accounts) (calls : List CallLine) → IsFamily (flat_end accounts (boot accounts) calls)

-- ---- who can tell

-- The process reads the file, and exits with a number; then the other asks for its status.
abbrev pub telling : ProcName → ProcName → Path → ℕ → List Line
telling me other path n = (me, Read path) ∷ (me, Exit n) ∷ (other, Status me) ∷ []

-- the process runs and reaches the file
pub record IsReader (accounts : Accounts) (f : Flat) (path : Path) (me : ProcName) (p : Process) : Type 0 where
  pub runs : running f me ≡ Some p
  pub reaches : reaches accounts f p path ≡ true

-- another process runs that doesn't reach the file, and knows all jobs that this one is in
pub record IsListener (accounts : Accounts) (f : Flat) (path : Path) (p : Process) (other : ProcName) (q : Process) : Type 0 where
  pub runs : running f other ≡ Some q
  pub reaches_not : reaches accounts f q path ≡ false
  pub sees : sees q p ≡ true

-- A reader tells each listener: whatever bytes are in the file, it is answered them, and the listener is answered the number.
abbrev pub ReadersTell : Type 0
ReadersTell = (accounts : Accounts) (f : Flat) → IsReached accounts f → (path : Path) → is_file_at f path ≡ true
    → (me other : ProcName) (p q : Process) → IsReader accounts f path me p → IsListener accounts f path p other q
    → (bytes : List ℕ) (n : ℕ)
    → replies_from accounts (with_bytes f path bytes) (telling me other path n) ≡ Data bytes ∷ Done ∷ Exited n ∷ []

-- The same where the other asks for the status before the exit too.
abbrev pub asking : ProcName → ProcName → Path → ℕ → List Line
asking me other path n = (me, Read path) ∷ (other, Status me) ∷ (me, Exit n) ∷ (other, Status me) ∷ []

abbrev pub ReadersTellByEnding : Type 0
ReadersTellByEnding = (accounts : Accounts) (f : Flat) → IsReached accounts f → (path : Path) → is_file_at f path ≡ true
    → (me other : ProcName) (p q : Process) → IsReader accounts f path me p → IsListener accounts f path p other q
    → (bytes : List ℕ) (n : ℕ)
    → replies_from accounts (with_bytes f path bytes) (asking me other path n) ≡ Data bytes ∷ Running ∷ Done ∷ Exited n ∷ []

-- The same of the state itself: what `leak` prints.
abbrev pub ReadersTellHere : Type 0
ReadersTellHere = (accounts : Accounts) (f : Flat) → IsReached accounts f → (path : Path) → is_file_at f path ≡ true
    → (me other : ProcName) (p q : Process) → IsReader accounts f path me p → IsListener accounts f path p other q → (n : ℕ)
    → replies_from accounts f (asking me other path n) ≡ Data (bytes_at f path) ∷ Running ∷ Done ∷ Exited n ∷ []

-- the process reads the file, starts a child, and exits with a number; then the child asks for its status
abbrev pub telling_child : ProcName → Process → Path → ℕ → List Line
telling_child me p path n = (me, Read path) ∷ (me, Spawn) ∷ (me, Exit n) ∷ (next_child me p, Status me) ∷ []

-- A reader tells a child that it starts, if it may start one.
abbrev pub ReadersTellChildren : Type 0
ReadersTellChildren = (accounts : Accounts) (f : Flat) → IsReached accounts f → (path : Path) → is_file_at f path ≡ true
    → (me : ProcName) (p : Process) → IsReader accounts f path me p → p.born < most_children → length me < most_numbers
    → (bytes : List ℕ) (n : ℕ)
    → replies_from accounts (with_bytes f path bytes) (telling_child me p path n) ≡ Data bytes ∷ Child (next_child me p) ∷ Done ∷ Exited n ∷ []

-- A process in no job logs in as a user who reaches the file, and reads it.
abbrev pub LoginsTell : Type 0
LoginsTell = (accounts : Accounts) (f : Flat) → IsReached accounts f → (path : Path) → is_file_at f path ≡ true
    → (me : ProcName) (p : Process) → running f me ≡ Some p → is_free p ≡ true
    → (name : Name) (password : Password) → is_password_of accounts name password ≡ true → reaches accounts f (logged_in name) path ≡ true
    → (bytes : List ℕ)
    → replies_from accounts (with_bytes f path bytes) ((me, Login name password) ∷ (me, Read path) ∷ []) ≡ Done ∷ Data bytes ∷ []

-- The same of the state itself.
abbrev pub LoginsTellHere : Type 0
LoginsTellHere = (accounts : Accounts) (f : Flat) → IsReached accounts f → (path : Path) → is_file_at f path ≡ true
    → (me : ProcName) (p : Process) → running f me ≡ Some p → is_free p ≡ true
    → (name : Name) (password : Password) → is_password_of accounts name password ≡ true → reaches accounts f (logged_in name) path ≡ true
    → replies_from accounts f ((me, Login name password) ∷ (me, Read path) ∷ []) ≡ Done ∷ Data (bytes_at f path) ∷ []

-- ---- trust is exact

-- a program of a process: from the replies to it so far, the latest first, it determines its next call
abbrev pub OwnProgram : Type 0
OwnProgram = List Reply → UnixCall

-- one line of a run: the process of the program calls what the program says, or another process calls this
pub data Step : Type 0 where
  Mine : Step
  Theirs : ProcName → UnixCall → Step

-- the replies to the others in a run of such lines from the state s on, where the process was answered these replies before
abbrev pub told : Accounts → ProcName → OwnProgram → List Reply → Flat → List Step → List Reply
told accounts me program before s [] = []
told accounts me program before s (Mine ∷ steps) =
    told accounts me program (reply_to accounts s me (program before) ∷ before) (flat_after accounts s me (program before)) steps
told accounts me program before s (Theirs other call ∷ steps) =
    reply_to accounts s other call ∷ told accounts me program before (flat_after accounts s other call) steps

-- the others are outsiders, each of another name, and none logs in as a reader
abbrev pub AreOthers : Accounts → List Class → Flat → ProcName → List Step → Type 0
AreOthers accounts way f me [] = Unit {0}
AreOthers accounts way f me (Mine ∷ steps) = AreOthers accounts way f me steps
AreOthers accounts way f me (Theirs other call ∷ steps) =
    (other ≢ me) × (is_outsider accounts way f other ≡ true) × (logs_in_as_reader accounts way call ≡ false) × AreOthers accounts way f me steps

-- A process can tell: for a program of it, and lines of outsiders, which are the same whatever is in the file, some outsider is answered
-- otherwise with other bytes in the file. All other trusted processes are silent, and nobody logs in as a reader.
pub record CanTell (accounts : Accounts) (f : Flat) (path : Path) (me : ProcName) : Type 0 where
  pub one : List ℕ
  pub other : List ℕ
  pub program : OwnProgram
  pub steps : List Step
  pub quiet : (before : List Reply) → logs_in_as_reader accounts (way_to f path) (program before) ≡ false
  pub others : AreOthers accounts (way_to f path) f me steps
  pub differ : told accounts me program [] (with_bytes f path one) steps ≢ told accounts me program [] (with_bytes f path other) steps

-- Each process that can tell is trusted.
abbrev pub OnlyTrustedTell : Type 0
OnlyTrustedTell = (accounts : Accounts) (f : Flat) → IsReached accounts f → (path : Path) → is_file_at f path ≡ true → (me : ProcName)
    → CanTell accounts f path me → is_trusted accounts (way_to f path) f me ≡ true

-- Each trusted process can tell, if an outsider runs that knows all its jobs.
abbrev pub TrustedCanTell : Type 0
TrustedCanTell = (accounts : Accounts) (f : Flat) → IsReached accounts f → (path : Path) → is_file_at f path ≡ true → (me : ProcName) (p : Process)
    → running f me ≡ Some p → is_trusted accounts (way_to f path) f me ≡ true → (other : ProcName) (q : Process)
    → running f other ≡ Some q → is_outsider accounts (way_to f path) f other ≡ true → sees q p ≡ true → CanTell accounts f path me

-- each process that can tell is in this set
abbrev pub IsEnough : Accounts → Flat → Path → (ProcName → Bool) → Type 0
IsEnough accounts f path set = (me : ProcName) → CanTell accounts f path me → set me ≡ true

-- The trusted are the least such set, where each has an outsider that knows its jobs: they are one, and each other one has them all.
pub record TrustIsLeast : Type 0 where
  pub enough : (accounts : Accounts) (f : Flat) → IsReached accounts f → (path : Path) → is_file_at f path ≡ true
      → IsEnough accounts f path (is_trusted accounts (way_to f path) f)
  pub least : (accounts : Accounts) (f : Flat) → IsReached accounts f → (path : Path) → is_file_at f path ≡ true
      → (set : ProcName → Bool) → IsEnough accounts f path set → (me : ProcName) (p : Process) → running f me ≡ Some p
      → is_trusted accounts (way_to f path) f me ≡ true → (other : ProcName) (q : Process) → running f other ≡ Some q
      → is_outsider accounts (way_to f path) f other ≡ true → sees q p ≡ true → set me ≡ true
