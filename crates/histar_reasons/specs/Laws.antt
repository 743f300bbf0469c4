-- Laws of reasons: there is one exactly where a call is refused, it is that of the first need that is not met, and what it says is so.
use Rattle.std.specs.Prelude.{◌≡◌, ◌≢◌, ◌⊎◌, ℕ, Bool, true, false, nat_lt, nat_le, ◌==◌, List, [], ◌∷◌, ◌++◌, length, None, Some, is_some, option_map}
use Rattle.std.specs.List.{list_all}
use Rattle.histar_base.specs.Paths.{same}
use Rattle.histar_flat.specs.declared.calls.CallLine.{CallLine}
use Rattle.histar_flat.specs.declared.calls.UnixCall.{UnixCall}
use Rattle.histar_flat.specs.declared.calls.UnixCall.TheVariants.{Kill}
use Rattle.histar_flat.specs.declared.replies.Reply.{Reply}
use Rattle.histar_flat.specs.declared.replies.Reply.TheVariants.{Done, Child, Refused, Gone}
use Rattle.histar_flat.specs.Words.{Name, Path, ProcName, most_children, most_numbers}
use Rattle.histar_flat.specs.PathOrder.{under_process}
use Rattle.histar_flat.specs.Accounts.{Accounts, has, is_member, user_named}
use Rattle.histar_flat.specs.Files.{get}
use Rattle.histar_flat.specs.Classes.{Class, Process, nobody, knows, may_read, class_owner}
use Rattle.histar_flat.specs.Classes.Class.{Private, Readable, Scratch, Grouped}
use Rattle.histar_flat.specs.FlatState.{Flat, Node, IsTree, is_there, is_dir_at, is_file_at, entries_in, into, is_given}
use Rattle.histar_flat.specs.Needs.{Need, most_entries, most_bytes, is_child, not_found, passes, unmet}
use Rattle.histar_flat.specs.Needs.Need.{Nothing, Walk, ◌then◌, ◌or◌, Found}
use Rattle.histar_flat.specs.CallRules.{path_of, rule}
use Rattle.histar_flat.specs.FlatCalls.{refused, running, reply_to}
use Rattle.histar_flat.specs.Meaning.{boot, flat_end}
use Rattle.histar_reasons.specs.Causes.{Cause}
use Rattle.histar_reasons.specs.Causes.Cause.{IsPrivate, IsReadable, IsScratch, IsGrouped, NeedsJob, LeavesJob}
use Rattle.histar_reasons.specs.Reasons.{Reason, Absence, errno_of, why, why_test, not_read, absence}
use Rattle.histar_reasons.specs.Reasons.Reason.{MayNotRead, MayNotWrite, IsMissing, HasFile, HasDirectory, IsTaken, RootStays, IsFull, IsNotEmpty}
use Rattle.histar_reasons.specs.Reasons.Reason.{IsTooLong, MakesOnlyOpen, IsNoMember, HadChildren, HasNumbers, NoProcess, IsUnseen, IsNoChild, NoUser}
use Rattle.histar_reasons.specs.Reasons.Reason.{WrongPassword, IsInJob, StartsNoJob}
use Rattle.histar_reasons.specs.Reasons.Absence.{HasExited, WasNeverStarted, WasKilled}
use Rattle.histar_reasons.specs.Sentences.{sentence}

-- the element fails the test, and all before it in the list pass
pub record IsFirstNot {A : Type 0} (test : A → Bool) (xs : List A) (x : A) : Type 0 where
  pub before : List A
  pub after : List A
  pub list : xs ≡ before ++ x ∷ after
  pub passed : list_all test before ≡ true
  pub fails : test x ≡ false

-- the jobs of a class
abbrev pub jobs_of : Class → List ProcName
jobs_of (Scratch owner jobs) = jobs
jobs_of _ = []

module _ (accounts : Accounts) (p : Process) (class : Class) where
  -- the cause is so, and it is the first by which the process may not read the class
  abbrev pub ReadFails : Cause → Type 0
  ReadFails (IsPrivate owner) = (class ≡ Private owner) × (same p.user owner ≡ false)
  ReadFails (IsScratch owner) = (jobs : List ProcName) × (class ≡ Scratch owner jobs) × (same p.user owner ≡ false)
  ReadFails (IsGrouped group) = (class ≡ Grouped group) × (is_member accounts p.user group ≡ false)
  ReadFails (NeedsJob job) =
      (owner : Name) × (class ≡ Scratch owner (jobs_of class)) × (same p.user owner ≡ true) × IsFirstNot (knows p) (jobs_of class) job
  ReadFails _ = ⊥

  -- the cause is so, and it is the first by which the process may not write the class
  abbrev pub WriteFails : Cause → Type 0
  WriteFails (IsReadable owner) = (class ≡ Readable owner) × (same p.user owner ≡ false)
  WriteFails (LeavesJob job) =
      (may_read accounts p class ≡ true) × ((owner : Name) → class_owner class ≡ Some owner → same p.user owner ≡ true)
      × IsFirstNot (has (jobs_of class)) p.chain job
  WriteFails cause = ReadFails cause

module _ (accounts : Accounts) (f : Flat) (me : ProcName) (p : Process) where
  -- what a reason says is so
  abbrev pub IsSo : Reason → Type 0
  IsSo (MayNotRead q cause) = (node : Node) × (get f.files q ≡ Some node) × ReadFails accounts p node.class cause
  IsSo (MayNotWrite q cause) = (node : Node) × (get f.files q ≡ Some node) × WriteFails accounts p node.class cause
  IsSo (IsMissing q) = is_there f q ≡ false
  IsSo (HasFile q) = is_file_at f q ≡ true
  IsSo (HasDirectory q) = is_dir_at f q ≡ true
  IsSo (IsTaken q) = is_there f q ≡ true
  IsSo (IsFull d n) = (length (entries_in f d) ≡ n) × (nat_lt n most_entries ≡ false)
  IsSo (IsNotEmpty d n) = (length (entries_in f d) ≡ n) × ((n == 0) ≡ false)
  IsSo (IsTooLong q n) = nat_le n most_bytes ≡ false
  IsSo MakesOnlyOpen = same p.user nobody ≡ true
  IsSo (IsNoMember group) = is_member accounts p.user group ≡ false
  IsSo (HadChildren n) = (p.born ≡ n) × (nat_lt n most_children ≡ false)
  IsSo (HasNumbers n) = nat_lt (length me) most_numbers ≡ false
  IsSo (NoProcess name) = f.processes name ≡ None
  IsSo (IsUnseen name job) = (other : Process) × (f.processes name ≡ Some other) × IsFirstNot (knows p) other.chain job
  IsSo (IsNoChild name) = is_child me name ≡ false
  IsSo (NoUser name) = user_named accounts.users name ≡ None
  IsSo (WrongPassword name) = is_some (user_named accounts.users name) ≡ true
  IsSo (IsInJob job) = (outer : List ProcName) × (p.chain ≡ outer ++ job ∷ [])
  IsSo StartsNoJob = same p.user nobody ≡ true
  IsSo RootStays = Unit {0}

  -- The reason is that of the first directory on the way that the process can't go into: it can go into all above, and the directory is not
  -- there, or is a file, or may not be read.
  abbrev pub IsFirstOnWay : Path → Reason → Type 0
  IsFirstOnWay [] r = not_read accounts f p [] ≡ Some r
  IsFirstOnWay (n ∷ d) r =
      IsFirstOnWay d r
      ⊎ ((into accounts f p d ≡ None) × ((is_there f (n ∷ d) ≡ false) × (r ≡ IsMissing (n ∷ d))
      ⊎ ((is_file_at f (n ∷ d) ≡ true) × (r ≡ HasFile (n ∷ d)))
      ⊎ ((is_dir_at f (n ∷ d) ≡ true) × (not_read accounts f p (n ∷ d) ≡ Some r))))

  -- The reason is that of the first process on the search that is not there, or that the process doesn't see.
  abbrev pub IsFirstSought : ProcName → Reason → Type 0
  IsFirstSought [] r = ⊥
  IsFirstSought (n ∷ above) r =
      IsFirstSought above r
      ⊎ ((not_found f p above ≡ None) × ((r ≡ NoProcess (n ∷ above)) ⊎ ((job : ProcName) × (r ≡ IsUnseen (n ∷ above) job))))

  -- The reason is that of the first part of a need that is not met.
  abbrev pub IsFirstUnmet : Path → Need → Reason → Type 0
  IsFirstUnmet q (a then b) r = IsFirstUnmet q a r ⊎ ((unmet accounts f me p q a ≡ None) × IsFirstUnmet q b r)
  IsFirstUnmet q (test or e) r = (passes accounts f me p q test ≡ false) × (why_test accounts f me p q e test ≡ Some r)
  IsFirstUnmet [] Walk r = ⊥
  IsFirstUnmet (n ∷ d) Walk r = IsFirstOnWay d r
  IsFirstUnmet q (Found name) r = IsFirstSought name r
  IsFirstUnmet q Nothing r = ⊥

-- In a tree there is a reason exactly where a call is refused, and the refusal is the reason's.
abbrev pub RefusalsHaveReasons : Type 0
RefusalsHaveReasons = (accounts : Accounts) (f : Flat) → IsTree f → (me : ProcName) (p : Process) (call : UnixCall)
    → option_map errno_of (why accounts f me p call) ≡ refused accounts f me p call

-- In a tree the reason is that of the first need that is not met: all before it are.
abbrev pub ReasonsAreFirst : Type 0
ReasonsAreFirst = (accounts : Accounts) (f : Flat) → IsTree f → (me : ProcName) (p : Process) (call : UnixCall) (r : Reason)
    → why accounts f me p call ≡ Some r → IsFirstUnmet accounts f me p (path_of call) (rule call).needs r

-- In a tree what the reason says is so.
abbrev pub ReasonsAreSo : Type 0
ReasonsAreSo = (accounts : Accounts) (f : Flat) → IsTree f → (me : ProcName) (p : Process) (call : UnixCall) (r : Reason)
    → why accounts f me p call ≡ Some r → IsSo accounts f me p r

-- the process is 0, or is under one that is there
abbrev pub is_under_one : Flat → ProcName → Bool
is_under_one f [] = true
is_under_one f (n ∷ above) = is_some (f.processes above)

-- What is said of a process that doesn't run is so. Of one that was killed, or is below one that was: the number of that one was given by a
-- process that is there, and it is not there.
abbrev pub AbsenceIsSo : Flat → ProcName → Absence → Type 0
AbsenceIsSo f me HasExited = (p : Process) × (n : ℕ) × (f.processes me ≡ Some p) × (p.exited ≡ Some n)
AbsenceIsSo f me WasNeverStarted = is_given f.processes me ≡ false
AbsenceIsSo f me (WasKilled name) =
    (under_process name me ≡ true) × (is_given f.processes name ≡ true) × (f.processes name ≡ None) × (is_under_one f name ≡ true)

-- what is said of a process that doesn't run is so
abbrev pub AbsencesAreSo : Type 0
AbsencesAreSo = (f : Flat) (me : ProcName) → running f me ≡ None → AbsenceIsSo f me (absence f me)

-- a line before the end of these calls killed the process, or one above it, and was answered that this was done
pub record WasKilledIn (accounts : Accounts) (f : Flat) (calls : List CallLine) (name : ProcName) : Type 0 where
  pub before : List CallLine
  pub line : CallLine
  pub after : List CallLine
  pub parts : calls ≡ before ++ line ∷ after
  pub target : ProcName
  pub kills : line.call ≡ Kill target
  pub above : under_process target name ≡ true
  pub done : reply_to accounts (flat_end accounts f before) line.process line.call ≡ Done

-- In each state that calls lead to, a process that is said to have been killed was: a line of the calls did it.
abbrev pub KilledWereKilled : Type 0
KilledWereKilled = (accounts : Accounts) (calls : List CallLine) (me name : ProcName) → running (flat_end accounts (boot accounts) calls) me ≡ None
    → absence (flat_end accounts (boot accounts) calls) me ≡ WasKilled name → WasKilledIn accounts (boot accounts) calls name

-- In each state that calls lead to, a process that is said never to have been started was not: no line was answered with its name.
abbrev pub NeverStartedWereNot : Type 0
NeverStartedWereNot = (accounts : Accounts) (before after : List CallLine) (line : CallLine) (me : ProcName)
    → running (flat_end accounts (boot accounts) (before ++ line ∷ after)) me ≡ None
    → absence (flat_end accounts (boot accounts) (before ++ line ∷ after)) me ≡ WasNeverStarted
    → reply_to accounts (flat_end accounts (boot accounts) before) line.process line.call ≢ Child me

-- the reply is a refusal
abbrev pub is_refusal : Reply → Bool
is_refusal (Refused e) = true
is_refusal Gone = true
is_refusal reply = false

-- In each state that calls lead to, there is a sentence exactly where the reply is a refusal.
abbrev pub RefusalsHaveSentences : Type 0
RefusalsHaveSentences = (accounts : Accounts) (calls : List CallLine) (me : ProcName) (call : UnixCall)
    → is_some (sentence accounts (flat_end accounts (boot accounts) calls) me call)
    ≡ is_refusal (reply_to accounts (flat_end accounts (boot accounts) calls) me call)
