-- What follows from the meaning of calls: laws of refusals, of the private files of others, of writing, of the replies of a script, of
-- names and of jobs.
use Rattle.std.specs.Prelude.{◌&&◌, ◌≡◌, ◌≢◌, ℕ, Bool, true, false, not, List, [], map, None, Some}
use Rattle.std.specs.List.{list_all}
use Rattle.histar_flat.specs.declared.calls.CallLine.{CallLine}
use Rattle.histar_flat.specs.declared.calls.UnixCall.{UnixCall}
use Rattle.histar_flat.specs.declared.calls.UnixCall.TheVariants.{Read, Write}
use Rattle.histar_flat.specs.declared.replies.Errno.{Errno}
use Rattle.histar_flat.specs.declared.replies.Reply.TheVariants.{Done, Data, Refused}
use Rattle.histar_flat.specs.Words.{Name, Path, ProcName}
use Rattle.histar_base.specs.Paths.{same}
use Rattle.histar_flat.specs.PathOrder.{under_path}
use Rattle.histar_flat.specs.Accounts.{Accounts, user_named, is_member}
use Rattle.histar_flat.specs.Files.{get}
use Rattle.histar_flat.specs.Classes.{Process, nobody, knows, carries}
use Rattle.histar_flat.specs.Classes.Class.{Private, Grouped}
use Rattle.histar_flat.specs.FlatState.{Flat, Node, IsTree, is_some_and, with_bytes, is_given}
use Rattle.histar_flat.specs.FlatState.Content.{File}
use Rattle.histar_flat.specs.Effects.{Effect}
use Rattle.histar_flat.specs.Effects.Effect.{Removes, Renames, LogsIn}
use Rattle.histar_flat.specs.CallRules.{path_of, rule}
use Rattle.histar_flat.specs.FlatCalls.{next_child, running, reply_to, flat_after}
use Rattle.histar_flat.specs.Meaning.{RepliedCall, boot, answered_from, flat_end, meaning}

-- a private file of this owner with these bytes
abbrev pub private_file : Name → List ℕ → Node
private_file owner bytes = record { class = Private owner; content = File bytes }

-- the process of this name runs, and its user is the owner
abbrev pub runs_for : Flat → ProcName → Name → Bool
runs_for f me owner = is_some_and (running f me) (λ p. same p.user owner)

-- the effect makes a process one of these users'
abbrev pub becomes : (Name → Bool) → Effect → Bool
becomes users (LogsIn name) = users name
becomes users _ = false

-- the call is a login as one of these users
abbrev pub is_login_of : (Name → Bool) → UnixCall → Bool
is_login_of users call = becomes users (rule call).effect

-- none of the calls is a login as one of these users
abbrev pub has_no_login_of : (Name → Bool) → List CallLine → Bool
has_no_login_of users calls = list_all (λ (c : CallLine). not (is_login_of users c.call)) calls

-- no running process is of one of these users
abbrev pub AreAway : (Name → Bool) → Flat → Type 0
AreAway users f = (me : ProcName) → is_some_and (running f me) (λ p. users p.user) ≡ false

-- a call that is refused changes nothing
abbrev pub RefusalsChangeNothing : Type 0
RefusalsChangeNothing = (accounts : Accounts) (f : Flat) (me : ProcName) (call : UnixCall) (e : Errno) → reply_to accounts f me call ≡ Refused e → flat_after accounts f me call ≡ f

-- the effect removes or renames what is at the path of the call
abbrev pub removes : Effect → Bool
removes Removes = true
removes (Renames name) = true
removes _ = false

-- the call removes or renames what is at the path, or a directory above it
abbrev pub takes_away : UnixCall → Path → Bool
takes_away call q = removes (rule call).effect && under_path (path_of call) q

-- In a tree a call of a process that is not the owner's leaves a private file as it is, unless it removes or renames it: the file is at its
-- path, is private, and has its bytes.
abbrev pub PrivateFilesStay : Type 0
PrivateFilesStay = (f : Flat) → IsTree f → (q : Path) (owner : Name) (bytes : List ℕ) → get f.files q ≡ Some (private_file owner bytes)
    → (accounts : Accounts) (me : ProcName) (call : UnixCall) → runs_for f me owner ≡ false → takes_away call q ≡ false
    → get (flat_after accounts f me call).files q ≡ Some (private_file owner bytes)

-- a process that is not the owner's and reads a private file is answered no bytes
abbrev pub PrivateFilesAreHidden : Type 0
PrivateFilesAreHidden = (f : Flat) (q : Path) (owner : Name) (bytes : List ℕ) → get f.files q ≡ Some (private_file owner bytes)
    → (accounts : Accounts) (me : ProcName) (revealed : List ℕ) → runs_for f me owner ≡ false → reply_to accounts f me (Read q) ≢ Data revealed

-- while no process is the owner's and no call is a login as the owner, all replies are the same with other bytes in the private file
abbrev pub PrivateBytesAreHidden : Type 0
PrivateBytesAreHidden = (owner : Name) (accounts : Accounts) (f : Flat) (q : Path) (bytes other : List ℕ) (calls : List CallLine) → get f.files q ≡ Some (private_file owner bytes)
    → AreAway (λ name. same name owner) f → has_no_login_of (λ name. same name owner) calls ≡ true → answered_from accounts f calls ≡ answered_from accounts (with_bytes f q other) calls

-- a file of this group with these bytes
abbrev pub group_file : Name → List ℕ → Node
group_file group bytes = record { class = Grouped group; content = File bytes }

-- each call of a process that is no member's has the same reply with other bytes in a file of the group
abbrev pub GroupBytesAreHidden : Type 0
GroupBytesAreHidden = (group : Name) (accounts : Accounts) (f : Flat) (q : Path) (bytes other : List ℕ) (me : ProcName) (call : UnixCall) → get f.files q ≡ Some (group_file group bytes)
    → is_some_and (running f me) (λ p. is_member accounts p.user group) ≡ false → reply_to accounts f me call ≡ reply_to accounts (with_bytes f q other) me call

-- while no process is a member's and no call is a login as a member, all replies are the same with other bytes in the group's file
abbrev pub GroupBytesStayHidden : Type 0
GroupBytesStayHidden = (group : Name) (accounts : Accounts) (f : Flat) (q : Path) (bytes other : List ℕ) (calls : List CallLine) → get f.files q ≡ Some (group_file group bytes)
    → AreAway (λ name. is_member accounts name group) f → has_no_login_of (λ name. is_member accounts name group) calls ≡ true → answered_from accounts f calls ≡ answered_from accounts (with_bytes f q other) calls

-- a process that has written bytes to a file, and reads the file next, is answered these bytes
abbrev pub WritesAreReadBack : Type 0
WritesAreReadBack = (accounts : Accounts) (f : Flat) (me : ProcName) (q : Path) (bytes : List ℕ) → reply_to accounts f me (Write q bytes) ≡ Done
    → reply_to accounts (flat_after accounts f me (Write q bytes)) me (Read q) ≡ Data bytes

-- a script has one reply for each call line, in the order of the lines
abbrev pub OneReplyALine : Type 0
OneReplyALine = (accounts : Accounts) (calls : List CallLine) → map (λ (a : RepliedCall). a.call) (meaning accounts calls) ≡ calls

-- in each state that calls lead to the paths are a tree
abbrev pub PathsAreATree : Type 0
PathsAreATree = (accounts : Accounts) (calls : List CallLine) → IsTree (flat_end accounts (boot accounts) calls)

-- each process that is there, each job that such a process knows, and each job that a class carries has a name that was given
pub record NamesAreGiven (f : Flat) : Type 0 where
  pub of_processes : (q : ProcName) (p : Process) → f.processes q ≡ Some p → is_given f.processes q ≡ true
  pub of_known_jobs : (q : ProcName) (p : Process) (job : ProcName) → f.processes q ≡ Some p → knows p job ≡ true → is_given f.processes job ≡ true
  pub of_carried_jobs : (q : Path) (n : Node) (job : ProcName) → get f.files q ≡ Some n → carries job n.class ≡ true → is_given f.processes job ≡ true

-- Names are given once: in each state that calls lead to, all names that are there were given; the name of a next child was not; and a name
-- that was given stays given.
pub record NamesAreGivenOnce : Type 0 where
  pub old : (accounts : Accounts) (calls : List CallLine) → NamesAreGiven (flat_end accounts (boot accounts) calls)
  pub new : (f : Flat) (me : ProcName) (p : Process) → f.processes me ≡ Some p → is_given f.processes (next_child me p) ≡ false
  pub stay : (accounts : Accounts) (f : Flat) (me : ProcName) (call : UnixCall) (name : ProcName) → is_given f.processes name ≡ true → is_given (flat_after accounts f me call).processes name ≡ true

-- the process is in no job and holds none
pub record HasNoJob (p : Process) : Type 0 where
  pub in_none : p.chain ≡ []
  pub holds_none : p.held ≡ []

-- a process of nobody, or of a user that is not declared, is in no job and holds none, in each state that calls lead to
pub record NobodyHasAJob : Type 0 where
  pub nobodys : (accounts : Accounts) (calls : List CallLine) (me : ProcName) (p : Process) → (flat_end accounts (boot accounts) calls).processes me ≡ Some p
      → p.user ≡ nobody → HasNoJob p
  pub strangers : (accounts : Accounts) (calls : List CallLine) (me : ProcName) (p : Process) → (flat_end accounts (boot accounts) calls).processes me ≡ Some p
      → user_named accounts.users p.user ≡ None → HasNoJob p
