-- The questions that the call of a process must ask the kernel, so that its reply is based on what was asked.
use Rattle.std.specs.Prelude.{◌≡◌, ℕ, ◌+◌, Bool, true, false, ◌&&◌, not, ◌⊎◌, List, [], ◌∷◌, ◌++◌, map, Option, None, Some, is_some, if◌then◌else◌}
use Rattle.histar_flat.specs.declared.calls.UnixCall.{UnixCall}
use Rattle.histar_flat.specs.declared.calls.UnixCall.TheVariants.{List as ListCall, Stat, Rmdir, Status, Kill, Whoami, Login, Wrap}
use Rattle.histar_flat.specs.declared.replies.Errno.TheVariants.{EAGAIN, EAUTH}
use Rattle.histar_flat.specs.declared.replies.Reply.{Reply}
use Rattle.histar_flat.specs.declared.replies.Reply.TheVariants.{Done, Stats, Refused}
use Rattle.histar_flat.specs.Words.{Path, ProcName}
use Rattle.histar_flat.specs.Accounts.{Accounts}
use Rattle.histar_flat.specs.Classes.{Process}
use Rattle.histar_flat.specs.FlatState.{Flat, is_dir_at, into}
use Rattle.histar_flat.specs.CallRules.{path_of}
use Rattle.histar_flat.specs.FlatCalls.{not_found}
use Rattle.histar_object.specs.State.{State}
use Rattle.histar_rules.specs.declared.raw.RawCall.{RawCall}
use Rattle.histar_rules.specs.declared.raw.RawCall.TheVariants as raw
use Rattle.histar_rules.specs.Sound.{root_number}
use Rattle.histar_trace.specs.declared.entries.TraceEntry.{TraceEntry}
use Rattle.histar_programs.specs.Users.{place_of, password_of}
use Rattle.histar_refinement.specs.Lines.{IsStatusSegment, IsDirectoryAt, IsObjectAt}

-- a question to the kernel
pub data Question : Type 0 where
  -- the entries of the directory at a path
  EntriesOf : Path → Question
  -- the label of what is at a path
  LabelAt : Path → Question
  -- the status in the process segment of a process
  StatusOf : ProcName → Question
  -- the thread's own label
  OwnLabel : Question
  -- the password of the user at this place of the user list
  PasswordAt : ℕ → Question

-- these raw calls are among the entries, in their order
abbrev pub AreAmong : List RawCall → List TraceEntry → Type 0
AreAmong [] entries = Unit {0}
AreAmong (call ∷ calls) [] = ⊥
AreAmong (call ∷ calls) (e ∷ entries) = ((e.call ≡ call) × AreAmong calls entries) ⊎ AreAmong (call ∷ calls) entries

-- the password was compared
abbrev pub is_compared : Reply → Bool
is_compared Done = true
is_compared (Refused EAUTH) = true
is_compared _ = false

-- a login that compared a password asks for it
abbrev pub password_asked : Option ℕ → Bool → List Question
password_asked (Some place) true = PasswordAt place ∷ []
password_asked _ _ = []

-- a reply that shows what is at a path asks for its label
abbrev pub label_asked : Path → Reply → List Question
label_asked q (Stats stat) = LabelAt q ∷ []
label_asked q _ = []

module _ (accounts : Accounts) where
  -- the directories that the walk into a directory tests for reading, from `/` on
  abbrev pub tested : Flat → Process → Path → List Path
  tested f p [] = [] ∷ []
  tested f p (n ∷ d) = tested f p d ++ (if not (is_some (into accounts f p d)) && is_dir_at f (n ∷ d) then (n ∷ d) ∷ [] else [])

  -- the processes on the way to a name that are looked at, from process 0 on: each that is there, up to the first that may not be seen
  abbrev pub looked_at : Flat → Process → ProcName → List ProcName
  looked_at f p [] = [] ∷ []
  looked_at f p (n ∷ above) = looked_at f p above ++ (if not (is_some (not_found f p above)) && is_some (f.processes (n ∷ above)) then (n ∷ above) ∷ [] else [])

  -- the walk to a path asks for the directories on the way; to `/` there is no walk
  abbrev pub walked : Flat → Process → Path → List Question
  walked f p [] = []
  walked f p (n ∷ d) = map EntriesOf (tested f p d)

  -- a directory that is to be removed is read too; `/` is not
  abbrev pub walked_into : Flat → Process → Path → List Question
  walked_into f p [] = []
  walked_into f p (n ∷ d) = map EntriesOf (tested f p (n ∷ d))

  -- a wrap that has no room for a child makes no walk
  abbrev pub walked_unless_full : Flat → Process → Path → Reply → List Question
  walked_unless_full f p q (Refused EAGAIN) = []
  walked_unless_full f p q _ = walked f p q

  -- the questions that the call of a process with this reply is expected to ask, in this order
  abbrev pub due : Flat → Process → UnixCall → Reply → List Question
  due f p (ListCall path) reply = map EntriesOf (tested f p path)
  due f p (Stat path) reply = walked f p path ++ label_asked path reply
  due f p (Rmdir path) reply = walked_into f p path
  due f p (Status name) reply = map StatusOf (looked_at f p name)
  due f p (Kill name) reply = map StatusOf (looked_at f p name)
  due f p Whoami reply = OwnLabel ∷ []
  due f p (Login name password) reply = password_asked (place_of accounts.users name) (is_compared reply)
  due f p (Wrap path) reply = walked_unless_full f p path reply
  due f p call reply = walked f p (path_of call)

  -- a raw call asks this of a state
  abbrev pub Asks : State → Question → RawCall → Type 0
  Asks s (EntriesOf d) call = (container : ℕ) × (listing : ℕ) × IsDirectoryAt accounts s d container listing × (call ≡ raw.Read container listing)
  Asks s (LabelAt q) call = (container : ℕ) × (object : ℕ) × IsObjectAt accounts s q container object × (call ≡ raw.LabelOf container object)
  Asks s (StatusOf name) call = (container : ℕ) × (segment : ℕ) × IsStatusSegment accounts s name container segment × (call ≡ raw.Read container segment)
  Asks s OwnLabel call = call ≡ raw.OwnLabel
  Asks s (PasswordAt place) call = call ≡ raw.Read root_number (password_of (place + 1))

  -- raw calls ask these questions of a state, one after another
  abbrev pub AskAll : State → List Question → List RawCall → Type 0
  AskAll s [] calls = calls ≡ []
  AskAll s (q ∷ more) calls = (call : RawCall) × (later : List RawCall) × Asks s q call × (calls ≡ call ∷ later) × AskAll s more later

  -- among the entries of a call with this reply are raw calls with the expected questions, in order; a process that doesn't run asks none
  abbrev pub HasReads : State → Flat → Option Process → UnixCall → Reply → List TraceEntry → Type 0
  HasReads s f None call reply entries = Unit {0}
  HasReads s f (Some p) call reply entries = (calls : List RawCall) × AskAll s (due f p call reply) calls × AreAmong calls entries
