-- What warnings amount to.
use Rattle.std.specs.Prelude.{◌≡◌, ◌≢◌, ◌↔◌, ◌⊎◌, ℕ, true, false, List}
use Rattle.std.specs.Prelude.{[], ◌∷◌, ◌++◌, Option, None, Some, is_some}
use Rattle.histar_base.specs.Paths.{same}
use Rattle.histar_flat.specs.declared.calls.CallLine.{CallLine}
use Rattle.histar_flat.specs.declared.calls.Mode.TheVariants.{Group}
use Rattle.histar_flat.specs.declared.calls.UnixCall.{UnixCall}
use Rattle.histar_flat.specs.declared.calls.UnixCall.TheVariants.{Append, Create, Login, Rmtree, Write}
use Rattle.histar_flat.specs.declared.calls.User.{User}
use Rattle.histar_flat.specs.declared.replies.Reply.TheVariants.{Done}
use Rattle.histar_flat.specs.Words.{Name, Password, Path, ProcName}
use Rattle.histar_flat.specs.Accounts.{Accounts, has, user_named}
use Rattle.histar_flat.specs.Classes.{Process, is_free}
use Rattle.histar_flat.specs.Files.{get}
use Rattle.histar_flat.specs.FlatState.{Flat, Node, is_dir, is_some_and}
use Rattle.histar_flat.specs.FlatCalls.{flat_after, reply_to, running}
use Rattle.histar_flat.specs.Meaning.{boot, flat_end}
use Rattle.histar_rights.specs.Laws.{IsAnswered}
use Rattle.histar_rights.specs.Users.{somebody}
use Rattle.histar_cells.specs.Whose.{user_running}
use Rattle.histar_reasons.specs.Reasons.{absence}
use Rattle.histar_reasons.specs.Reasons.Absence.{WasNeverStarted}
use Rattle.histar_policy.specs.declared.notes.Event.TheVariants.{WrongPassword}
use Rattle.histar_policy.specs.declared.notes.Note.{Note}
use Rattle.histar_policy.specs.Notes.{event_of, notes_from}
use Rattle.histar_policy.specs.Takers.{takers, writers}
use Rattle.histar_policy.specs.Warnings.{with_child, writing_sentence_on}

-- the password of this user is another one
abbrev pub IsWrong : Accounts → Name → Password → Type 0
IsWrong accounts user password =
    (is_some (user_named accounts.users user) ≡ true)
    × (is_some_and (user_named accounts.users user) (λ (u : User). same u.password password) ≡ false)

-- a login of a running process has a warning exactly where the process is in no job and the password is another one
abbrev pub WrongPasswordsAreSaid : Type 0
WrongPasswordsAreSaid =
    (accounts : Accounts) (f : Flat) (me : ProcName) (p : Process) (user : Name) (password : Password)
    → running f me ≡ Some p
    → (event_of accounts f me (Login user password) ≡ WrongPassword user)
    ↔ ((is_free p ≡ true) × IsWrong accounts user password)

-- these processes, and those that call lines started
abbrev pub started_by : List ProcName → List Note → List ProcName
started_by started [] = started
started_by started (note ∷ notes) = started_by (with_child started note.event) notes

-- A process that by the reasons of refusals was never started is not among those that were started by the calls so far.
abbrev pub UnstartedAreSaid : Type 0
UnstartedAreSaid = (accounts : Accounts) (before : List CallLine) (me : ProcName)
    → running (flat_end accounts (boot accounts) before) me ≡ None
    → absence (flat_end accounts (boot accounts) before) me ≡ WasNeverStarted
    → has (started_by ([] ∷ []) (notes_from accounts (boot accounts) before)) me ≡ false

-- After the calls of a script, a user of it is among the takers of what is at a path exactly if it did not make it and, after any login of
-- the user that is answered, an `rmtree` of the path by the same process is answered.
abbrev pub TakersMayRemove : Type 0
TakersMayRemove =
    (accounts : Accounts) (calls : List CallLine) (me : ProcName) (line : ℕ) (user : Name) (password : Password)
    → has (somebody accounts) user ≡ true
    → IsAnswered accounts calls (record { line = line; process = me; call = Login user password })
    → (q : Path) (node : Node) → get (flat_end accounts (boot accounts) calls).files q ≡ Some node → (maker : Name) (number : ℕ)
    → (has (takers accounts (flat_end accounts (boot accounts) calls) maker q) user ≡ true)
    ↔ ((user ≢ maker)
    × IsAnswered accounts (calls ++ record { line = line; process = me; call = Login user password } ∷ [])
    (record { line = number; process = me; call = Rmtree q }))

-- After the calls of a script, a user of it is among the writers of the file at a path exactly if it did not make it and, after any login of
-- the user that is answered, an `append` of no bytes to it by the same process is answered.
abbrev pub WritersMayWrite : Type 0
WritersMayWrite =
    (accounts : Accounts) (calls : List CallLine) (me : ProcName) (line : ℕ) (user : Name) (password : Password)
    → has (somebody accounts) user ≡ true
    → IsAnswered accounts calls (record { line = line; process = me; call = Login user password })
    → (q : Path) (node : Node) → get (flat_end accounts (boot accounts) calls).files q ≡ Some node → is_dir node ≡ false
    → (maker : Name) (number : ℕ)
    → (has (writers accounts (flat_end accounts (boot accounts) calls) maker q) user ≡ true)
    ↔ ((user ≢ maker)
    × IsAnswered accounts (calls ++ record { line = line; process = me; call = Login user password } ∷ [])
    (record { line = number; process = me; call = Append q [] }))

-- the path of the file that a call writes, if it writes one
abbrev pub path_written : UnixCall → Option Path
path_written (Write q bytes) = Some q
path_written (Append q bytes) = Some q
path_written call = None

-- of these calls, made one after another from this flat state, one is done that writes the file at a path, by a process of another user
pub record AnotherWrites (accounts : Accounts) (f : Flat) (calls : List CallLine) (maker : Name) (q : Path) : Type 0 where
  pub before : List CallLine
  pub line : CallLine
  pub after : List CallLine
  pub parts : calls ≡ before ++ line ∷ after
  pub writes : path_written line.call ≡ Some q
  pub done : reply_to accounts (flat_end accounts f before) line.process line.call ≡ Done
  pub user : Name
  pub runs : user_running (flat_end accounts f before) line.process ≡ Some user
  pub other : user ≢ maker

-- Of a file that a call made for a group, nothing is said of who may write it exactly if nobody but its maker may, or if a call of the
-- script, above or below, writes at its path by a process of another user.
abbrev pub LoneWritersAreSaid : Type 0
LoneWritersAreSaid =
    (accounts : Accounts) (before after : List CallLine) (me : ProcName) (line : ℕ) (q : Path) (group maker : Name)
    → user_running (flat_end accounts (boot accounts) before) me ≡ Some maker
    → reply_to accounts (flat_end accounts (boot accounts) before) me (Create q (Group group)) ≡ Done
    → (writing_sentence_on
    (notes_from accounts (boot accounts) (before ++ record { line = line; process = me; call = Create q (Group group) } ∷ after))
    (event_of accounts (flat_end accounts (boot accounts) before) me (Create q (Group group)))
    ≡ None)
    ↔ ((writers accounts (flat_after accounts (flat_end accounts (boot accounts) before) me (Create q (Group group))) maker q ≡ [])
    ⊎ AnotherWrites accounts (boot accounts) (before ++ record { line = line; process = me; call = Create q (Group group) } ∷ after) maker q)
