-- A call that runs a program has made a run of the kernel, which is the new end of its trace.
use Rattle.std.proofs.Common.{◌≡◌, ℕ, List, [], ◌∷◌, ◌++◌, Option, Some, None, Result, Ok, Err, inl, inr, refl, sym, ap, ◌∙◌, subst, append_assoc}
use Rattle.std.proofs.lemmas.List.{append-nil}
use Rattle.histar_flat.specs.Accounts.{Accounts}
use Rattle.histar_flat.specs.declared.calls.UnixCall.{UnixCall}
use Rattle.histar_flat.specs.declared.replies.Reply.{Reply}
use Rattle.histar_flat.specs.Words.{ProcName}
use Rattle.histar_object.specs.State.{empty_state}
use Rattle.histar_rules.specs.declared.raw.Denied.{Denied}
use Rattle.histar_rules.specs.declared.raw.RawCall.{RawCall}
use Rattle.histar_trace.specs.declared.entries.TraceEntry.{TraceEntry}
use Rattle.histar_syscall.specs.declared.answers.Answer.{Answer}
use Rattle.histar_syscall.specs.KernelModel.{KernelModel, state, Called, IsUnchanged}
use Rattle.histar_syscall.specs.Runs.{IsRun}
use Rattle.histar_syscall.proofs.Runs.{entry_of}
use Rattle.histar_programs.specs.declared.call_error.Stopped.{Stopped}
use Rattle.histar_programs.specs.declared.roots.Roots.{Roots}
use Rattle.histar_programs.specs.Programs.{Outcome, Program, Asked, Completes, Begins, Runs}
use Rattle.histar_programs.specs.Programs.Program.{Answers, Asks, Lists, Stops}
use Rattle.histar_programs.specs.declared.caller.Caller.{Caller}
use Rattle.histar_shell.specs.Machine.{IsTraced, Makes}
use Rattle.histar_shell.specs.RawCalls.{MakesRawCall, denied_of}
use Rattle.histar_shell.proofs.RefinedRuns.{run_after}

-- the kernel came from the old to the new by a run, which is the new end of its trace
pub record GoesBy (old new : KernelModel) : Type 0 where
  pub entries : List TraceEntry
  pub trace : new.trace ≡ old.trace ++ entries
  pub run : IsRun (state old) entries (state new)

-- an unchanged kernel has made no raw call
by_nothing : (old new : KernelModel) → IsUnchanged old new → GoesBy old new
by_nothing old new same = record { entries = []; trace = same.trace ∙ sym (append-nil old.trace); run = same.state }

-- a kernel that made one raw call, and then more, went on by a run
by_call : (old mid new : KernelModel) (t : ℕ) (call : RawCall) (d : Option Denied) → Called old mid t call d → GoesBy mid new → GoesBy old new
by_call old mid new t call d called later = record {
  entries = entry_of old.line t call d ∷ later.entries;
  trace =
      later.trace ∙ ap (λ (es : List TraceEntry). es ++ later.entries) called.trace
      ∙ append_assoc old.trace (entry_of old.line t call d ∷ []) later.entries;
  run = (state mid, called.outcome, called.state, later.run);
}

-- the same, whatever the outcome of the raw call is
by_outcome : (old mid new : KernelModel) (t : ℕ) (call : RawCall) (o : Outcome call) → Asked old mid t call o → GoesBy mid new → GoesBy old new
by_outcome old mid new t call (Ok answer) asked later = by_call old mid new t call None asked.0 later
by_outcome old mid new t call (Err denied) asked later = by_call old mid new t call (Some denied) asked later

completed : (p : Program) (old new : KernelModel) (t : ℕ) (reply : Reply) → Completes p old new t reply → GoesBy old new
completed (Answers said) old new t reply runs = by_nothing old new runs.0
completed (Asks call next) old new t reply runs = by_outcome old runs.0 new t call runs.1 runs.2 (completed (next runs.1) runs.0 new t reply runs.3)
completed (Lists bytes next) old new t reply runs = completed (next runs.0) old new t reply runs.2
completed Stops old new t reply runs = absurd runs

begun : (M : Type 0) (p : Program) (old new : KernelModel) (t : ℕ) → Begins M p old new t → GoesBy old new
begun M (Answers said) old new t runs = absurd runs
begun M (Asks call next) old new t (inl same) = by_nothing old new same.1
begun M (Asks call next) old new t (inr runs) = by_outcome old runs.0 new t call runs.1 runs.2 (begun M (next runs.1) runs.0 new t runs.3)
begun M (Lists bytes next) old new t (inl same) = by_nothing old new same.1
begun M (Lists bytes next) old new t (inr runs) = begun M (next runs.0) old new t runs.2
begun M Stops old new t runs = by_nothing old new runs

pub by_program : {M : Type 0} (p : Program) (old new : KernelModel) (t : ℕ) (result : Result Reply Stopped)
    → Runs M p old new t result → GoesBy old new
by_program p old new t (Ok reply) runs = completed p old new t reply runs.done
by_program {M} p old new t (Err stopped) runs = begun M p old new t runs.done

-- the trace stays a run from the empty kernel
pub traced_on : {M : Type 0} (accounts : Accounts) (roots : Roots) (me : ProcName) (caller : Caller) (old new : KernelModel)
    (call : UnixCall) (result : Result Reply Stopped) → IsTraced old
    → Makes M accounts roots me caller old new call result → IsTraced new
traced_on accounts roots me caller old new call result traced made =
    let goes = by_program _ old new caller.thread result made in
    subst (λ (es : List TraceEntry). IsRun empty_state es (state new)) (sym goes.trace)
    (run_after empty_state (state old) (state new) old.trace goes.entries traced goes.run)

-- and it does after a raw call on a line
pub traced_raw : (old new : KernelModel) (line t : ℕ) (call : RawCall) (result : Result (Result Answer Denied) Stopped) → IsTraced old
    → MakesRawCall old new line t call result → IsTraced new
traced_raw old new line t call (Ok outcome) traced made =
    subst (λ (es : List TraceEntry). IsRun empty_state es (state new)) (sym made.called.trace)
    (run_after empty_state (state old) (state new) old.trace (entry_of line t call (denied_of outcome) ∷ []) traced
    (state new, made.called.outcome, made.called.state, refl))
traced_raw old new line t call (Err stopped) traced made =
    subst (λ (es : List TraceEntry). IsRun empty_state es (state new)) (sym made.trace)
    (subst (IsRun empty_state old.trace) (sym made.state) traced)
