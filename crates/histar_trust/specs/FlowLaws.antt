-- What the lines on flows mean: exactly those listed behind a process can learn what it does.
use Rattle.std.specs.Prelude.{◌≡◌, ℕ, Bool, true, not, ◌&&◌, ◌||◌, List, [], is_some, Some}
use Rattle.std.specs.List.{list_all}
use Rattle.histar_base.specs.Paths.{same}
use Rattle.histar_flat.specs.declared.calls.CallLine.{CallLine}
use Rattle.histar_flat.specs.declared.calls.UnixCall.TheVariants.{Exit, Status}
use Rattle.histar_flat.specs.declared.replies.Reply.TheVariants.{Exited}
use Rattle.histar_flat.specs.Words.{ProcName}
use Rattle.histar_flat.specs.PathOrder.{under_process}
use Rattle.histar_flat.specs.Accounts.{Accounts}
use Rattle.histar_flat.specs.Classes.{Process}
use Rattle.histar_flat.specs.FlatState.{Flat}
use Rattle.histar_flat.specs.FlatCalls.{flat_after, reply_to, running}
use Rattle.histar_rights.specs.Running.{Named}
use Rattle.histar_secrecy.specs.Flows.{knows_by_name, others_than}
use Rattle.histar_secrecy.specs.Noninterference.{IsReached, Program}
use Rattle.histar_secrecy.specs.Release.{DifferAt, IsOf}
use Rattle.histar_trust.specs.FlowsText.{is_listed}

-- Listed behind a process are exactly the other running processes that know by name each job that it is in.
abbrev pub ListedAreKnowers : Type 0
ListedAreKnowers = (accounts : Accounts) (f : Flat) → IsReached accounts f
    → (me : ProcName) (p : Process) → running f me ≡ Some p → (x : ProcName) → is_listed f (me, p) x
    ≡ (is_some (running f x) && not (same me x) && list_all (λ job. knows_by_name f job x) p.chain)

-- Each process that is listed behind another one can observe it: it can ask for the number with which that one exits.
abbrev pub ListedCanObserve : Type 0
ListedCanObserve = (accounts : Accounts) (f : Flat) → IsReached accounts f
    → (me : ProcName) (p : Process) → running f me ≡ Some p → (x : ProcName) → is_listed f (me, p) x ≡ true
    → (n : ℕ) → reply_to accounts (flat_after accounts f me (Exit n)) x (Status me) ≡ Exited n

-- the process is listed behind the first one, or it doesn't run, and its name lies in each job that the first one is in
abbrev pub may_learn_of : Flat → Named → ProcName → Bool
may_learn_of f p x =
    is_listed f p x || (not (is_some (running f x)) && list_all (λ (job : ProcName). under_process job x) p.1.chain)

-- Two runs go on from one state. A process and those below it call anything in each, and all others follow one program.
-- Then the first of their replies that differs is one to a process that is listed behind the first one, or to one that comes
-- later in all its jobs.
abbrev pub OnlyListedObserve : Type 0
OnlyListedObserve = (accounts : Accounts) (f : Flat) → IsReached accounts f
    → (me : ProcName) (p : Process) → running f me ≡ Some p
    → (calls others : List CallLine) (program : Program)
    → IsOf program [] (others_than me accounts f calls) → IsOf program [] (others_than me accounts f others)
    → DifferAt (may_learn_of f (me, p)) (others_than me accounts f calls) (others_than me accounts f others)
