-- What it means that a program of raw calls refines the rule of its Unix call: forward simulation.
use Rattle.std.specs.Prelude.{ℕ, ◌≡◌, length, Some, Result}
use Rattle.histar_flat.specs.declared.replies.Reply.{Reply}
use Rattle.histar_flat.specs.Words.{ProcName}
use Rattle.histar_flat.specs.Accounts.{Accounts}
use Rattle.histar_flat.specs.FlatState.{Flat}
use Rattle.histar_syscall.specs.KernelModel.{KernelModel, state}
use Rattle.histar_programs.specs.declared.call_error.Stopped.{Stopped}
use Rattle.histar_programs.specs.Programs.{Program, Runs}
use Rattle.histar_programs.specs.declared.caller.Caller.{Caller}
use Rattle.histar_programs.specs.Caller.{caller_at}
use Rattle.histar_programs.specs.Start.{roots_of}
use Rattle.histar_flat.specs.declared.calls.UnixCall.{UnixCall}
use Rattle.histar_sim.specs.Simulation.{IsReady, FollowsRule}

-- A thread of a process that runs the program, in a state that represents a flat state, does what the flat rule of the call says; `M`
-- says that memory ran out.
abbrev pub Refines : Type 0 → Accounts → UnixCall → Program → Type 0
Refines M accounts call program =
    (me : ProcName) (old new : KernelModel) (f : Flat) (t : ℕ) (result : Result Reply Stopped)
    → IsReady accounts (state old) f me t → Runs M program old new t result → FollowsRule M accounts f me call old new t result

-- The same for a program that takes the caller, the process as it is found in the state.
abbrev pub CallerRefines : Type 0 → Accounts → UnixCall → (ProcName → Caller → Program) → Type 0
CallerRefines M accounts call program =
    (me : ProcName) (caller : Caller) (old new : KernelModel) (f : Flat) (result : Result Reply Stopped)
    → IsReady accounts (state old) f me caller.thread → caller_at (state old) (roots_of (length accounts.users)).home me ≡ Some caller
    → Runs M (program me caller) old new caller.thread result → FollowsRule M accounts f me call old new caller.thread result
