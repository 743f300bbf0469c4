-- What one line of a script does to the kernel, and what all lines do.
use Rattle.std.specs.Prelude.{◌≡◌, ℕ, ◌≤◌, Bool, false, nat_lt, ◌⊎◌, List, [], ◌∷◌, ◌++◌, length, Option, None, Some}
use Rattle.std.specs.Prelude.{option_map, Result, Ok, Err}
use Rattle.std.specs.List.{AllByRecursion}
use Rattle.histar_flat.specs.declared.calls.CallLine.{CallLine}
use Rattle.histar_flat.specs.declared.calls.UnixCall.{UnixCall}
use Rattle.histar_flat.specs.declared.replies.Errno.{Errno}
use Rattle.histar_flat.specs.declared.replies.Errno.TheVariants.{EACCES, EPERM, EFBIG}
use Rattle.histar_flat.specs.declared.replies.Reply.{Reply}
use Rattle.histar_flat.specs.declared.replies.Reply.TheVariants.{Data, Refused, Gone}
use Rattle.histar_flat.specs.Words.{Path, ProcName}
use Rattle.histar_flat.specs.Accounts.{Accounts}
use Rattle.histar_flat.specs.Files.{get}
use Rattle.histar_flat.specs.Classes.{Class, Process}
use Rattle.histar_flat.specs.FlatState.{Flat}
use Rattle.histar_flat.specs.FlatState.Content.{File}
use Rattle.histar_flat.specs.FlatCalls.{most_bytes, running, reply_to, flat_after}
use Rattle.histar_object.specs.Objects.{bytes_in}
use Rattle.histar_object.specs.State.{State}
use Rattle.histar_rules.specs.declared.raw.Denied.{Denied}
use Rattle.histar_rules.specs.declared.raw.Denied.TheVariants.{Observe, Modify, Gate, Range, TooBig}
use Rattle.histar_rules.specs.declared.raw.RawCall.TheVariants.{Read}
use Rattle.histar_rules.specs.Rules.{check, Leaves, greatest, has_number}
use Rattle.histar_trace.specs.declared.entries.TraceEntry.{TraceEntry}
use Rattle.histar_syscall.specs.KernelModel.{KernelModel, state}
use Rattle.histar_syscall.specs.Runs.{IsBy, IsRun, some_label_refusal, some_range_refusal}
use Rattle.histar_programs.specs.declared.call_error.Stopped.{Stopped}
use Rattle.histar_programs.specs.Replies.{is_no_access, is_no_permission, IsRefusedOnce, IsRestoring}
use Rattle.histar_refinement.specs.Represents.{Represents}
use Rattle.histar_refinement.specs.KeptNames.{RepresentsStill}
use Rattle.histar_refinement.specs.Lines.{IsThreadOf}
use Rattle.histar_sim.specs.Reads.{HasReads}
use Rattle.histar_sim.specs.Named.{DenialsAreNamed}
use Rattle.histar_sim.specs.RawCalls.{AreItsRequests}

-- The process that makes a call runs.
pub record IsRunning (f : Flat) (me : ProcName) : Type 0 where
  pub process : Process
  pub agrees : f.processes me ≡ Some process
  pub runs : process.exited ≡ None

-- from this state on, the last of the entries is a granted read of a segment that has these bytes
pub record EndsWithRead (s : State) (entries : List TraceEntry) (bytes : List ℕ) : Type 0 where
  pub front : List TraceEntry
  pub last : TraceEntry
  pub parts : entries ≡ front ++ last ∷ []
  pub before : State
  pub run : IsRun s front before
  pub granted : last.denied ≡ None
  pub container : ℕ
  pub segment : ℕ
  pub reads : last.call ≡ Read container segment
  pub holds : bytes_in (before.objects segment) ≡ bytes

-- the errno of a denial where a flat state is represented: EACCES if it is by label, EPERM if by range, EFBIG if there are too many bytes
abbrev pub errno_by_rule : Denied → Option Errno
errno_by_rule Observe = Some EACCES
errno_by_rule Modify = Some EACCES
errno_by_rule Gate = Some EACCES
errno_by_rule Range = Some EPERM
errno_by_rule TooBig = Some EFBIG
errno_by_rule denied = None

-- the reply is that of a denial by label, by range or for too many bytes; no other denial comes
abbrev pub IsReplyOfDenial : Reply → Option Denied → Type 0
IsReplyOfDenial reply None = Unit {0}
IsReplyOfDenial reply (Some denied) = option_map Refused (errno_by_rule denied) ≡ Some reply

-- The entries of a line with this reply, between the state before the line and the one after it. They are a run of the
-- kernel; each is of the line and of the thread that the process segment of the line's process names before it. Some is refused by
-- comparing labels exactly where the reply is EACCES, and by range exactly where it is EPERM; at most one is refused, the reply is
-- that of the denial, and after it the thread is only given labels. If bytes were replied, the last entry reads them. A line with the
-- reply `gone` has none.
pub record IsLine (accounts : Accounts) (before : State) (line : ℕ) (process : ProcName) (reply : Reply) (entries : List TraceEntry) (after : State) : Type 0 where
  pub run : IsRun before entries after
  pub own : AllByRecursion (λ e. (e.line ≡ line) × IsThreadOf accounts before process e.thread) entries
  pub access : some_label_refusal entries ≡ is_no_access reply
  pub permission : some_range_refusal entries ≡ is_no_permission reply
  pub denials : AllByRecursion (λ e. IsReplyOfDenial reply e.denied) entries
  pub once : IsRefusedOnce entries
  pub ends_with_read : (bytes : List ℕ) → reply ≡ Data bytes → EndsWithRead before entries bytes
  pub gone : reply ≡ Gone → entries ≡ []

-- The line refines its rule: its reply is what the flat state says, it has the reads that the call cannot do without, each raw call that the
-- kernel denied is on what the reason of the refusal names, and the state after it represents the flat state after the call. Its raw calls are
-- exactly the requests of the call, and the state after it is represented under names that keep their numbers, whatever names the state before
-- is represented under.
pub record SimulatesLine (accounts : Accounts) (before : State) (f : Flat) (asked : CallLine) (entries : List TraceEntry) (after : State) : Type 0 where
  pub line : IsLine accounts before asked.line asked.process (reply_to accounts f asked.process asked.call) entries after
  pub reads : HasReads accounts before f (running f asked.process) asked.call (reply_to accounts f asked.process asked.call) entries
  pub named : DenialsAreNamed accounts before f asked.process (running f asked.process) asked.call entries
  pub represents : Represents accounts after (flat_after accounts f asked.process asked.call)
  pub requests : (old : Represents accounts before f)
      → AreItsRequests accounts old.matched asked.process (running f asked.process) asked.call entries
  pub keeps : (old : Represents accounts before f)
      → RepresentsStill old after (flat_after accounts f asked.process asked.call)

-- the lines of a script, one after another, from a state that represents this flat state: each refines its rule
abbrev pub SimulatesLines : Accounts → State → Flat → List CallLine → List TraceEntry → State → Type 0
SimulatesLines accounts s f [] entries end = (entries ≡ []) × (end ≡ s)
SimulatesLines accounts s f (asked ∷ more) entries end =
    (own : List TraceEntry) × (later : List TraceEntry) × (mid : State)
    × (entries ≡ own ++ later) × SimulatesLine accounts s f asked own mid × SimulatesLines accounts mid (flat_after accounts f asked.process asked.call) more later end

-- the next category has a number
abbrev pub has_category : State → Bool
has_category s = nat_lt s.next_category greatest

-- a counter has its greatest value: the next object or the next category has no number any more
abbrev pub IsSpent : State → Type 0
IsSpent s = (has_number s ≡ false) ⊎ (has_category s ≡ false)

-- a denial that may end a line without an answer: that of a counter
abbrev pub IsExhausted : State → Denied → Type 0
IsExhausted s TooBig = IsSpent s
IsExhausted s denied = ⊥

-- after a denial of an exhausted counter, or after the denial of the reply, from where on the thread is only given labels
abbrev pub MayBreakOff : Reply → State → Option Denied → List TraceEntry → Type 0
MayBreakOff reply s None entries = Unit {0}
MayBreakOff reply s (Some denied) entries = IsExhausted s denied ⊎ (IsReplyOfDenial reply (Some denied) × AllByRecursion IsRestoring entries)

-- the entries are a run of the kernel that was broken off before this reply
abbrev pub IsBrokenOff : Reply → State → List TraceEntry → State → Type 0
IsBrokenOff reply s [] end = end ≡ s
IsBrokenOff reply s (e ∷ entries) end =
    (mid : State) × (check s e.thread e.call ≡ e.denied) × Leaves e.denied s e.thread e.call mid
    × MayBreakOff reply s e.denied entries × IsBrokenOff reply mid entries end

-- A call of a process has added these entries to the trace, on the line that was begun; they refine the rule of the call.
pub record IsAnswered (accounts : Accounts) (f : Flat) (me : ProcName) (call : UnixCall) (old new : KernelModel) : Type 0 where
  pub entries : List TraceEntry
  pub trace : new.trace ≡ old.trace ++ entries
  pub line : new.line ≡ old.line
  pub refined : SimulatesLine accounts (state old) f (record { line = old.line; process = me; call = call }) entries (state new)

-- The raw calls that were made are a run of the kernel by the thread, broken off before the reply of the flat rules: memory ran out,
-- which `M` says, or a counter has its greatest value.
pub record IsUnanswered (M : Type 0) (accounts : Accounts) (f : Flat) (me : ProcName) (call : UnixCall)
    (old new : KernelModel) (t : ℕ) : Type 0 where
  pub entries : List TraceEntry
  pub trace : new.trace ≡ old.trace ++ entries
  pub line : new.line ≡ old.line
  pub run : IsBrokenOff (reply_to accounts f me call) (state old) entries (state new)
  pub own : AllByRecursion (IsBy old.line t) entries
  pub because : M ⊎ IsSpent (state new)

-- a call of a process, which its thread makes, does what its flat rule says, or it ends without a reply
abbrev pub FollowsRule : Type 0 → Accounts → Flat → ProcName → UnixCall → KernelModel → KernelModel → ℕ
    → Result Reply Stopped → Type 0
FollowsRule M accounts f me call old new t (Ok reply) = (reply ≡ reply_to accounts f me call) × IsAnswered accounts f me call old new
FollowsRule M accounts f me call old new t (Err stopped) = IsUnanswered M accounts f me call old new t

-- each file holds as many bytes as a segment can hold
abbrev pub AreFilesSmall : Flat → Type 0
AreFilesSmall f = (q : Path) (class : Class) (bytes : List ℕ) → get f.files q ≡ Some (record { class = class; content = File bytes }) → length bytes ≤ most_bytes

-- process 0 is in no job
abbrev pub IsFirstFree : Flat → Type 0
IsFirstFree f = (p : Process) → f.processes [] ≡ Some p → p.chain ≡ []

-- Where a process makes a call: the state represents this flat state, in which the process runs, process 0 is in no job and files are
-- small enough, and the thread is the process's own.
pub record IsReady (accounts : Accounts) (s : State) (f : Flat) (me : ProcName) (t : ℕ) : Type 0 where
  pub represents : Represents accounts s f
  pub caller : IsRunning f me
  pub first : IsFirstFree f
  pub small : AreFilesSmall f
  pub thread : IsThreadOf accounts s me t
