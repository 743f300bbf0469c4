-- Runs of raw calls of one thread, composed call by call.
use Rattle.std.specs.Prelude.{Bool, false, ◌||◌}
use Rattle.std.proofs.Common.{◌≡◌, ℕ, List, [], ◌∷◌, ◌++◌, Option, None, Some, refl, sym, ap, ◌∙◌, subst, append_assoc}
use Rattle.std.proofs.lemmas.List.{append-nil}
use Rattle.std.specs.List.{AllByRecursion, list_any}
use Rattle.std.proofs.Math.Bool.{or-false}
use Rattle.histar_object.specs.State.{State}
use Rattle.histar_rules.specs.declared.raw.Denied.{Denied}
use Rattle.histar_rules.specs.declared.raw.RawCall.{RawCall}
use Rattle.histar_trace.specs.declared.entries.TraceEntry.{TraceEntry}
use Rattle.histar_rules.specs.Rules.{check, Leaves}
use Rattle.histar_syscall.specs.KernelModel.{KernelModel, state, Called, IsUnchanged}
use Rattle.histar_syscall.specs.Runs.{IsBy, Ran, GoesOn, Made, Granted}

-- the entry of a raw call
abbrev pub entry_of : ℕ → ℕ → RawCall → Option Denied → TraceEntry
entry_of line thread call denied = record { line = line; thread = thread; call = call; denied = denied }

-- the refusal of a raw call, if it was refused
abbrev pub refusal_of : RawCall → Option Denied → Option (RawCall × Denied)
refusal_of call None = None
refusal_of call (Some denied) = Some (call, denied)

-- the denial of the refused call, if there is one
abbrev pub denied_of : Option (RawCall × Denied) → Option Denied
denied_of None = None
denied_of (Some r) = Some r.1

pub same_kernel : (k : KernelModel) → IsUnchanged k k
same_kernel k = record { state = refl; trace = refl; line = refl }

pub still_same : (a b c : KernelModel) → IsUnchanged a b → IsUnchanged b c → IsUnchanged a c
still_same a b c first second = record { state = second.state ∙ first.state; trace = second.trace ∙ first.trace; line = second.line ∙ first.line }

-- nothing and then a raw call is that call
pub call_after : (a b c : KernelModel) (t : ℕ) (call : RawCall) (d : Option Denied) → IsUnchanged a b → Called b c t call d → Called a c t call d
call_after a b c t call d same called = record {
  outcome = subst (λ (s : State). check s t call ≡ d) same.state called.outcome;
  state = subst (λ (s : State). Leaves d s t call (state c)) same.state called.state;
  trace =
      called.trace ∙ ap (λ (es : List TraceEntry). es ++ entry_of b.line t call d ∷ []) same.trace
      ∙ ap (λ (l : ℕ). a.trace ++ entry_of l t call d ∷ []) same.line;
  line = called.line ∙ same.line;
}

-- a raw call and then nothing is that call
pub call_before : (a b c : KernelModel) (t : ℕ) (call : RawCall) (d : Option Denied) → Called a b t call d → IsUnchanged b c → Called a c t call d
call_before a b c t call d called same = record {
  outcome = called.outcome;
  state = subst (λ (s : State). Leaves d (state a) t call s) (sym same.state) called.state;
  trace = same.trace ∙ called.trace;
  line = same.line ∙ called.line;
}

-- making no calls leaves the kernel as it is
pub granted_none : (k : KernelModel) (t : ℕ) → Granted k k t []
granted_none k t = (same_kernel k, refl)

module _ (t : ℕ) where
  last_call : (call : RawCall) (d : Option Denied) (k : KernelModel) → GoesOn d call (Made k k t [] (refusal_of call d)) k k (refusal_of call d)
  last_call call None k = (same_kernel k, refl)
  last_call call (Some denied) k = (same_kernel k, refl)

  -- one more raw call, after calls that were all granted
  pub made_more : (old mid new : KernelModel) (before : List RawCall) (call : RawCall) (d : Option Denied)
      → Granted old mid t before → Called mid new t call d → Made old new t (before ++ call ∷ []) (refusal_of call d)
  made_more old mid new [] call d granted called = (new, d, call_after old mid new t call d granted.0 called, last_call call d new)
  made_more old mid new (c ∷ before) call d granted called = (
    granted.0,
    granted.1,
    granted.2,
    (elim granted.1 as (λ (x : Option Denied). GoesOn x c (Made granted.0 mid t before None) granted.0 mid None
        → GoesOn x c (Made granted.0 new t (before ++ call ∷ []) (refusal_of call d)) granted.0 new (refusal_of call d)) [
          | None ↦ λ rest. made_more granted.0 mid new before call d rest called
          | Some denied ↦ λ rest. absurd cc
        ]) granted.3,
  )

  -- a kernel that stays as it was has made the same calls
  pub made_unchanged : (old mid new : KernelModel) (calls : List RawCall) (refusal : Option (RawCall × Denied))
      → Made old mid t calls refusal → IsUnchanged mid new → Made old new t calls refusal
  made_unchanged old mid new [] refusal made same = (still_same old mid new made.0 same, made.1)
  made_unchanged old mid new (c ∷ calls) refusal made same = (
    made.0,
    made.1,
    made.2,
    (elim made.1 as (λ (x : Option Denied). GoesOn x c (Made made.0 mid t calls refusal) made.0 mid refusal
        → GoesOn x c (Made made.0 new t calls refusal) made.0 new refusal) [
          | None ↦ λ rest. made_unchanged made.0 mid new calls refusal rest same
          | Some denied ↦ λ rest. (still_same made.0 mid new rest.0 same, rest.1)
        ]) made.3,
  )

  -- The entries of raw calls that were made: a run of the kernel by this thread on this line. A property that no granted call has holds of
  -- one of the entries exactly where it holds of the refused call.
  pub record HasRun (old new : KernelModel) (refusal : Option (RawCall × Denied)) : Type 0 where
    pub entries : List TraceEntry
    pub ran : Ran old new t entries
    pub some : (p : Option Denied → Bool) → p None ≡ false → list_any (λ (e : TraceEntry). p e.denied) entries ≡ p (denied_of refusal)

  run_none : (old new : KernelModel) → IsUnchanged old new → HasRun old new None
  run_none old new same = record {
    entries = [];
    ran = record { trace = same.trace ∙ sym (append-nil old.trace); run = same.state; own = tt; line = same.line };
    some = λ p none. sym none;
  }

  run_one : (old new : KernelModel) (call : RawCall) (denied : Denied) → Called old new t call (Some denied) → HasRun old new (Some (call, denied))
  run_one old new call denied called = record {
    entries = entry_of old.line t call (Some denied) ∷ [];
    ran = record { trace = called.trace; run = (state new, called.outcome, called.state, refl); own = ((refl, refl), tt); line = called.line };
    some = λ p none. or-false (p (Some denied));
  }

  run_first : (old mid new : KernelModel) (call : RawCall) (refusal : Option (RawCall × Denied))
      → Called old mid t call None → HasRun mid new refusal → HasRun old new refusal
  run_first old mid new call refusal called later = record {
    entries = entry_of old.line t call None ∷ later.entries;
    ran = record {
      trace =
          later.ran.trace ∙ ap (λ (es : List TraceEntry). es ++ later.entries) called.trace
          ∙ append_assoc old.trace (entry_of old.line t call None ∷ []) later.entries;
      run = (state mid, called.outcome, called.state, later.ran.run);
      own = ((refl, refl), subst (λ (l : ℕ). AllByRecursion (IsBy l t) later.entries) called.line later.ran.own);
      line = later.ran.line ∙ called.line;
    };
    some = λ p none. ap (λ (b : Bool). b || list_any (λ (e : TraceEntry). p e.denied) later.entries) none ∙ later.some p none;
  }

  pub made_run : (old new : KernelModel) (calls : List RawCall) (refusal : Option (RawCall × Denied))
      → Made old new t calls refusal → HasRun old new refusal
  made_run old new [] refusal made = subst (HasRun old new) (sym made.1) (run_none old new made.0)
  made_run old new (c ∷ calls) refusal made =
      (elim made.1 as (λ (x : Option Denied).
      Called old made.0 t c x → GoesOn x c (Made made.0 new t calls refusal) made.0 new refusal
      → HasRun old new refusal) [
        | None ↦ λ called rest. run_first old made.0 new c refusal called (made_run made.0 new calls refusal rest)
        | Some denied ↦
            λ called rest. subst (HasRun old new) (sym rest.1)
            (run_one old new c denied (call_before old made.0 new t c (Some denied) called rest.0))
      ]) made.2 made.3

  -- one more granted raw call
  pub granted_more : (old mid new : KernelModel) (before : List RawCall) (call : RawCall) → Granted old mid t before
      → Called mid new t call None → Granted old new t (before ++ call ∷ [])
  granted_more old mid new before call granted called = made_more old mid new before call None granted called
