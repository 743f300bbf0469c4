-- Release: what is in a file reaches those that are not confined only through what its trusted processes are told, also while these call.
use Rattle.std.specs.Prelude.{◌≡◌, ◌⊎◌, ℕ, Bool, true, false, not, ◌&&◌, ◌||◌, cond, List, [], ◌∷◌, is_some, Some, filter, map}
use Rattle.std.specs.List.{list_all, list_any}
use Rattle.histar_flat.specs.declared.calls.CallLine.{CallLine}
use Rattle.histar_flat.specs.declared.calls.UnixCall.{UnixCall}
use Rattle.histar_flat.specs.declared.calls.UnixCall.TheVariants.{Wrap}
use Rattle.histar_flat.specs.declared.replies.Reply.{Reply}
use Rattle.histar_flat.specs.declared.replies.Reply.TheVariants.{Child}
use Rattle.histar_flat.specs.Words.{Path, ProcName}
use Rattle.histar_flat.specs.PathOrder.{under_process}
use Rattle.histar_flat.specs.Accounts.{Accounts}
use Rattle.histar_flat.specs.Files.{get}
use Rattle.histar_flat.specs.Classes.{Class}
use Rattle.histar_flat.specs.FlatState.{Flat, is_some_and, with_bytes}
use Rattle.histar_flat.specs.FlatState.Content.{File}
use Rattle.histar_flat.specs.FlatCalls.{flat_after, reply_to, running}
use Rattle.histar_flat.specs.Meaning.{RepliedCall, answered_from}
use Rattle.histar_noninterference.specs.Isolation.{is_rmdir_or_wrap}
use Rattle.histar_secrecy.specs.Ways.{covers, reads_all, way_to}
use Rattle.histar_secrecy.specs.Roles.{is_confined, is_trusted, logs_in_as_reader}
use Rattle.histar_secrecy.specs.Noninterference.{HasFile, IsReached, Program}

-- an insider: a process that is trusted, or one that is born later to an insider
abbrev pub is_insider : Accounts → List Class → Flat → ProcName → Bool
is_insider accounts way f [] = is_trusted accounts way f []
is_insider accounts way f (n ∷ above) =
    is_trusted accounts way f (n ∷ above) || (not (is_some (f.processes (n ∷ above))) && is_insider accounts way f above)

-- the process is in one of these jobs
abbrev pub is_in_one : List ProcName → ProcName → Bool
is_in_one jobs me = list_any (λ (job : ProcName). under_process job me) jobs

-- the jobs, with the one that the call has started, if it is a `wrap`
abbrev pub with_started : UnixCall → Reply → List ProcName → List ProcName
with_started (Wrap q) (Child name) jobs = name ∷ jobs
with_started _ _ jobs = jobs

-- The calls of those who are not confined: a process is confined if it passes the first test, or is in one of the jobs, or in a job that is
-- started later by a process that passes the second test.
abbrev pub not_confined : (ProcName → Bool) → (ProcName → Bool) → List ProcName → List RepliedCall → List RepliedCall
not_confined confined opens jobs [] = []
not_confined confined opens jobs (a ∷ as') = cond (confined a.call.process || is_in_one jobs a.call.process)
    (not_confined confined opens jobs as')
    (a ∷ not_confined confined opens (cond (opens a.call.process) (with_started a.call.call a.reply jobs) jobs) as')

-- the calls of all processes that are neither confined nor in a job that an insider starts later, with their replies, when calls are made
-- from the state s on
abbrev pub unconfined : Accounts → List Class → Flat → Flat → List CallLine → List RepliedCall
unconfined accounts way f s calls = not_confined (is_confined accounts way f) (is_insider accounts way f) [] (answered_from accounts s calls)

-- the call is an insider's, or logs in as no reader
abbrev pub logs_in_as_none : Accounts → List Class → Flat → RepliedCall → Bool
logs_in_as_none accounts way f a = is_insider accounts way f a.call.process || not (logs_in_as_reader accounts way a.call.call)

-- the process of a call, and the call
abbrev pub line_of : RepliedCall → ProcName × UnixCall
line_of a = (a.call.process, a.call.call)

-- the calls are those of the program, given their replies and the replies before
abbrev pub IsOf : Program → List Reply → List RepliedCall → Type 0
IsOf program before [] = Unit {0}
IsOf program before (a ∷ as') = (line_of a ≡ program before) × IsOf program (a.reply ∷ before) as'

-- In the calls from the state s on, all that are not confined follow the program, and only insiders log in as readers.
pub record UnconfinedFollow (accounts : Accounts) (way : List Class) (f s : Flat) (program : Program) (calls : List CallLine) : Type 0 where
  pub follows : IsOf program [] (unconfined accounts way f s calls)
  pub no_login : list_all (logs_in_as_none accounts way f) (unconfined accounts way f s calls) ≡ true

-- as far as both lists go: the same process makes the same call, and is told the same unless it passes the test; and if it is told the same,
-- so on
abbrev pub DifferAt : (ProcName → Bool) → List RepliedCall → List RepliedCall → Type 0
DifferAt test [] bs = Unit {0}
DifferAt test (a ∷ as') [] = Unit {0}
DifferAt test (a ∷ as') (b ∷ bs) =
    (a.call.process ≡ b.call.process) × (a.call.call ≡ b.call.call) × (test a.call.process ≡ false → a.reply ≡ b.reply)
    × (a.reply ≡ b.reply → DifferAt test as' bs)

-- a file is at the path in both states, with the same class and any bytes, and the way to it has all of these classes
pub record AreHidden (way : List Class) (f s : Flat) (path : Path) : Type 0 where
  pub class : Class
  pub one : List ℕ
  pub other : List ℕ
  pub before : get f.files path ≡ Some (record { class = class; content = File one })
  pub after : get s.files path ≡ Some (record { class = class; content = File other })
  pub covered : covers (way_to f path) way ≡ true

-- the state differs from f only in the bytes of files whose way has all classes of this one
pub record DiffersInBytes (way : List Class) (f s : Flat) : Type 0 where
  pub processes : f.processes ≡ s.processes
  pub files : (q : Path) → (get f.files q ≡ get s.files q) ⊎ AreHidden way f s q

-- a state with other bytes in the file is such a state
abbrev pub OtherBytesDiffer : Type 0
OtherBytesDiffer = (f : Flat) (path : Path) (way : List Class) → HasFile f path way → (other : List ℕ)
    → DiffersInBytes way f (with_bytes f path other)

-- Two runs go on from a state that has the file, with any bytes in it and in all files whose way has the classes of its way. The trusted and
-- all others that are not confined follow one program; the confined call anything in each. Then the first of their replies that differs is
-- one to an insider.
abbrev pub FirstDifferenceIsTrusted : Type 0
FirstDifferenceIsTrusted = (accounts : Accounts) (f : Flat) → IsReached accounts f → (path : Path) (way : List Class) → HasFile f path way
    → (s t : Flat) → DiffersInBytes way f s → DiffersInBytes way f t → (calls others : List CallLine) (program : Program)
    → UnconfinedFollow accounts way f s program calls → UnconfinedFollow accounts way f t program others
    → DifferAt (is_insider accounts way f) (unconfined accounts way f s calls) (unconfined accounts way f t others)

-- in two runs of the same calls, each process that doesn't read all of the way is told the same
abbrev pub TellReadersAlone : Accounts → List Class → Flat → Flat → List CallLine → Type 0
TellReadersAlone accounts way s t [] = Unit {0}
TellReadersAlone accounts way s t (c ∷ calls) =
    (is_some_and (running s c.process) (reads_all accounts way) ≡ false
    → reply_to accounts s c.process c.call ≡ reply_to accounts t c.process c.call)
    × TellReadersAlone accounts way (flat_after accounts s c.process c.call) (flat_after accounts t c.process c.call) calls

-- While all processes make the same calls, whatever is in the files whose way has these classes, only those who read all of them then are
-- told otherwise: a trusted process can pass on what it reads only by calls that depend on it.
abbrev pub FixedCallsTellReadersAlone : Type 0
FixedCallsTellReadersAlone = (accounts : Accounts) (f : Flat) → IsReached accounts f → (way : List Class) (s t : Flat) → DiffersInBytes way f s
    → DiffersInBytes way f t → (calls : List CallLine) → TellReadersAlone accounts way s t calls

-- the call is a `rmdir` or a `wrap` of an insider, which can reveal what is in a job that it holds
abbrev pub may_release : Accounts → List Class → Flat → RepliedCall → Bool
may_release accounts way f a = is_insider accounts way f a.call.process && is_rmdir_or_wrap a.call.call

-- the replies to the calls that pass the test
abbrev pub replies_to : (RepliedCall → Bool) → List RepliedCall → List Reply
replies_to test as' = map (λ (a : RepliedCall). a.reply) (filter test as')

-- the call is of no insider
abbrev pub is_strangers : Accounts → List Class → Flat → RepliedCall → Bool
is_strangers accounts way f a = not (is_insider accounts way f a.call.process)

-- In two runs all that are not confined make the same calls, only insiders log in as readers, and each `rmdir` and `wrap` of an insider is
-- answered alike.
pub record ReleaseTheSame (accounts : Accounts) (way : List Class) (f : Flat) (as' bs : List RepliedCall) : Type 0 where
  pub alike : map line_of as' ≡ map line_of bs
  pub no_login : list_all (logs_in_as_none accounts way f) as' ≡ true
  pub released : replies_to (may_release accounts way f) as' ≡ replies_to (may_release accounts way f) bs

-- Then all but insiders have the same replies, whatever the trusted and the confined call.
abbrev pub OnlyInsidersRelease : Type 0
OnlyInsidersRelease = (accounts : Accounts) (f : Flat) → IsReached accounts f → (path : Path) (way : List Class) → HasFile f path way
    → (s t : Flat) → DiffersInBytes way f s → DiffersInBytes way f t → (calls others : List CallLine)
    → ReleaseTheSame accounts way f (unconfined accounts way f s calls) (unconfined accounts way f t others)
    → replies_to (is_strangers accounts way f) (unconfined accounts way f s calls)
    ≡ replies_to (is_strangers accounts way f) (unconfined accounts way f t others)
