-- Noninterference: outsiders learn nothing of what is in a file while the processes that are trusted with it are silent.
use Rattle.std.specs.Prelude.{◌≡◌, ℕ, Bool, true, not, ◌&&◌, List, [], ◌∷◌, length, Some, filter, map}
use Rattle.std.specs.List.{list_all}
use Rattle.histar_flat.specs.declared.calls.CallLine.{CallLine}
use Rattle.histar_flat.specs.declared.calls.UnixCall.{UnixCall}
use Rattle.histar_flat.specs.declared.calls.UnixCall.TheVariants.{Write}
use Rattle.histar_flat.specs.declared.replies.Reply.{Reply}
use Rattle.histar_flat.specs.declared.replies.Reply.TheVariants.{Done}
use Rattle.histar_flat.specs.Words.{Path, ProcName}
use Rattle.histar_flat.specs.Accounts.{Accounts}
use Rattle.histar_flat.specs.Classes.{Class, Process, may_read, may_write}
use Rattle.histar_flat.specs.FlatState.{Flat, is_file_at, with_bytes}
use Rattle.histar_flat.specs.FlatCalls.{flat_after, reply_to, running}
use Rattle.histar_flat.specs.Meaning.{RepliedCall, answered_from, boot, flat_end}
use Rattle.histar_secrecy.specs.Ways.{reads_all, way_to}
use Rattle.histar_secrecy.specs.Roles.{is_bound, is_confined, is_outsider, is_trusted, logs_in_as_reader}

-- calls lead to this state
abbrev pub IsReached : Accounts → Flat → Type 0
IsReached accounts f = (calls : List CallLine) × (flat_end accounts (boot accounts) calls ≡ f)

-- a file is at the path, and these are the classes on the way to it
pub record HasFile (f : Flat) (path : Path) (way : List Class) : Type 0 where
  pub file : is_file_at f path ≡ true
  pub classes : way_to f path ≡ way

-- the trusted are silent: no call is one of theirs
abbrev pub trusted_are_silent : Accounts → List Class → Flat → List CallLine → Bool
trusted_are_silent accounts way f calls = list_all (λ (c : CallLine). not (is_trusted accounts way f c.process)) calls

-- the calls of outsiders, each with its process
abbrev pub outside_calls : Accounts → List Class → Flat → List CallLine → List (ProcName × UnixCall)
outside_calls accounts way f calls =
    map (λ (c : CallLine). (c.process, c.call)) (filter (λ (c : CallLine). is_outsider accounts way f c.process) calls)

-- no outsider's call logs in as a reader
abbrev pub no_reader_logs_in : Accounts → List Class → Flat → List CallLine → Bool
no_reader_logs_in accounts way f calls =
    list_all (λ (c : ProcName × UnixCall). not (logs_in_as_reader accounts way c.1)) (outside_calls accounts way f calls)

-- the replies to the outsiders of f, when calls are made from the state s on
abbrev pub outside_replies : Accounts → List Class → Flat → Flat → List CallLine → List Reply
outside_replies accounts way f s calls =
    map (λ (a : RepliedCall). a.reply) (filter (λ (a : RepliedCall). is_outsider accounts way f a.call.process) (answered_from accounts s calls))

-- In both lists of calls the trusted are silent, and outsiders make the same calls, and log in as no reader; the confined may do anything.
pub record OutsidersCallTheSame (accounts : Accounts) (way : List Class) (f : Flat) (calls others : List CallLine) : Type 0 where
  pub silent : trusted_are_silent accounts way f calls ≡ true
  pub others_silent : trusted_are_silent accounts way f others ≡ true
  pub alike : outside_calls accounts way f calls ≡ outside_calls accounts way f others
  pub no_login : no_reader_logs_in accounts way f calls ≡ true

-- Two runs go on from a state that has the file, with any two strings of bytes in it. If the trusted are silent, and outsiders make the
-- same calls in both, and log in as no reader, outsiders have the same replies, whatever the confined call in each.
abbrev pub OutsidersLearnNothing : Type 0
OutsidersLearnNothing = (accounts : Accounts) (f : Flat) → IsReached accounts f → (path : Path) (way : List Class) → HasFile f path way
    → (one other : List ℕ) (calls others : List CallLine) → OutsidersCallTheSame accounts way f calls others
    → outside_replies accounts way f (with_bytes f path one) calls ≡ outside_replies accounts way f (with_bytes f path other) others

-- A run tells outsiders what a run of their calls alone tells, with any other bytes in the file: the trusted, who are silent, and the
-- confined might as well not be there.
abbrev pub OutsidersLearnAsIfAlone : Type 0
OutsidersLearnAsIfAlone = (accounts : Accounts) (f : Flat) → IsReached accounts f → (path : Path) (way : List Class) → HasFile f path way
    → (one other : List ℕ) (calls : List CallLine) → trusted_are_silent accounts way f calls ≡ true → no_reader_logs_in accounts way f calls ≡ true
    → outside_replies accounts way f (with_bytes f path one) calls
    ≡ map (λ (a : RepliedCall). a.reply)
    (answered_from accounts (with_bytes f path other) (filter (λ (c : CallLine). is_outsider accounts way f c.process) calls))

-- the process writes these bytes to the file, and the write is done
abbrev pub Writes : Accounts → Flat → ProcName → Path → List ℕ → Type 0
Writes accounts f writer path bytes = reply_to accounts f writer (Write path bytes) ≡ Done

-- The same holds of what is written: in the same state a process writes one string of bytes to the file in one run, and another in the
-- other.
abbrev pub WhatIsWrittenStaysSecret : Type 0
WhatIsWrittenStaysSecret = (accounts : Accounts) (f : Flat) → IsReached accounts f → (path : Path) (way : List Class) → HasFile f path way
    → (writer : ProcName) (one other : List ℕ) → Writes accounts f writer path one → Writes accounts f writer path other
    → (calls others : List CallLine) → OutsidersCallTheSame accounts way f calls others
    → outside_replies accounts way f (flat_after accounts f writer (Write path one)) calls
    ≡ outside_replies accounts way f (flat_after accounts f writer (Write path other)) others

-- A program of several processes: from the replies so far, the latest first, it determines the next process and its call.
abbrev pub Program : Type 0
Program = List Reply → ProcName × UnixCall

-- the calls are those of the program, given the replies to them and the replies before
abbrev pub Follows : Program → List Reply → List (ProcName × UnixCall) → List Reply → Type 0
Follows program before [] replies = Unit {0}
Follows program before (c ∷ calls) [] = Unit {0}
Follows program before (c ∷ calls) (r ∷ replies) = (c ≡ program before) × Follows program (r ∷ before) calls replies

-- In the calls from the state s on, the trusted are silent, and outsiders follow the program, and log in as no reader.
pub record OutsidersFollow (accounts : Accounts) (way : List Class) (f s : Flat) (program : Program) (calls : List CallLine) : Type 0 where
  pub silent : trusted_are_silent accounts way f calls ≡ true
  pub no_login : no_reader_logs_in accounts way f calls ≡ true
  pub follows : Follows program [] (outside_calls accounts way f calls) (outside_replies accounts way f s calls)

-- The same holds of programs, which decide by the replies: if outsiders follow the same program in two such runs, and make equally many
-- calls, they make the same calls, and have the same replies.
abbrev pub ProgramsLearnNothing : Type 0
ProgramsLearnNothing = (accounts : Accounts) (f : Flat) → IsReached accounts f → (path : Path) (way : List Class) → HasFile f path way
    → (one other : List ℕ) (calls others : List CallLine) (program : Program)
    → OutsidersFollow accounts way f (with_bytes f path one) program calls → OutsidersFollow accounts way f (with_bytes f path other) program others
    → length (outside_calls accounts way f calls) ≡ length (outside_calls accounts way f others)
    → (outside_calls accounts way f calls ≡ outside_calls accounts way f others)
    × (outside_replies accounts way f (with_bytes f path one) calls ≡ outside_replies accounts way f (with_bytes f path other) others)

-- Why a bound process is confined: what it may write, only readers of the whole way may read.
abbrev pub BoundWriteForReaders : Type 0
BoundWriteForReaders = (accounts : Accounts) (way : List Class) (written : Class) (p reader : Process)
    → is_bound accounts way p ≡ true → may_write accounts p written ≡ true → may_read accounts reader written ≡ true
    → reads_all accounts way reader ≡ true

-- the process is confined exactly if it is bound, and an outsider exactly if it doesn't read all of the way
pub record ShowsRole (accounts : Accounts) (way : List Class) (f : Flat) (me : ProcName) (p : Process) : Type 0 where
  pub trusted : is_trusted accounts way f me ≡ (reads_all accounts way p && not (is_bound accounts way p))
  pub confined : is_confined accounts way f me ≡ is_bound accounts way p
  pub outside : is_outsider accounts way f me ≡ not (reads_all accounts way p)

-- In each state that calls lead to, the role of each running process can be computed from the process alone.
abbrev pub RolesAreShown : Type 0
RolesAreShown = (accounts : Accounts) (f : Flat) → IsReached accounts f → (path : Path)
    → (me : ProcName) (p : Process) → running f me ≡ Some p → ShowsRole accounts (way_to f path) f me p
