-- Flows: a process can tell others only if these know every job that it is in.
use Rattle.std.specs.Prelude.{◌≡◌, ℕ, Bool, true, false, not, ◌||◌, List, [], Some, filter}
use Rattle.std.specs.List.{list_all}
use Rattle.histar_flat.specs.declared.calls.CallLine.{CallLine}
use Rattle.histar_flat.specs.declared.calls.UnixCall.TheVariants.{Exit, Status}
use Rattle.histar_flat.specs.declared.replies.Reply.TheVariants.{Exited}
use Rattle.histar_base.specs.Paths.{same}
use Rattle.histar_flat.specs.Words.{ProcName}
use Rattle.histar_flat.specs.PathOrder.{under_process}
use Rattle.histar_flat.specs.Accounts.{Accounts, has}
use Rattle.histar_flat.specs.Classes.{Process, sees}
use Rattle.histar_flat.specs.FlatState.{Flat, is_some_and}
use Rattle.histar_flat.specs.FlatCalls.{flat_after, reply_to, running}
use Rattle.histar_flat.specs.Meaning.{RepliedCall, answered_from}
use Rattle.histar_secrecy.specs.Noninterference.{IsReached, Program}
use Rattle.histar_secrecy.specs.Release.{DifferAt, IsOf}

-- the calls of all but this process and those below it, with their replies, when calls are made from the state s on
abbrev pub others_than : ProcName → Accounts → Flat → List CallLine → List RepliedCall
others_than me accounts s calls = filter (λ (a : RepliedCall). not (under_process me a.call.process)) (answered_from accounts s calls)

-- the process of this name is in the job, or runs in f and holds it
abbrev pub knows_by_name : Flat → ProcName → ProcName → Bool
knows_by_name f job x = under_process job x || is_some_and (running f x) (λ q. has q.held job)

-- Two runs go on from one state. A process and those below it call anything in each, and all others follow one program. Then the first of
-- their replies that differs is one to a process that knows each job that the first one is in.
abbrev pub OnlyKnowersAreTold : Type 0
OnlyKnowersAreTold = (accounts : Accounts) (f : Flat) → IsReached accounts f → (me : ProcName) (p : Process) → running f me ≡ Some p
    → (calls others : List CallLine) (program : Program)
    → IsOf program [] (others_than me accounts f calls) → IsOf program [] (others_than me accounts f others)
    → DifferAt (λ x. list_all (λ job. knows_by_name f job x) p.chain) (others_than me accounts f calls) (others_than me accounts f others)

-- Of a process that runs in f the test says that it sees the first one, as `status` asks.
abbrev pub KnowersSee : Type 0
KnowersSee = (accounts : Accounts) (f : Flat) → IsReached accounts f → (me : ProcName) (p : Process) → running f me ≡ Some p
    → (x : ProcName) (q : Process) → running f x ≡ Some q → list_all (λ job. knows_by_name f job x) p.chain ≡ sees q p

-- A process that sees another one can be told: whatever number that one exits with, it can ask for it.
abbrev pub KnowersCanBeTold : Type 0
KnowersCanBeTold = (accounts : Accounts) (f : Flat) → IsReached accounts f → (me : ProcName) (p : Process) → running f me ≡ Some p
    → (other : ProcName) (q : Process) → running f other ≡ Some q → same me other ≡ false → sees q p ≡ true
    → (n : ℕ) → reply_to accounts (flat_after accounts f me (Exit n)) other (Status me) ≡ Exited n
