-- Raw calls that were made, one after another, each with its outcome.
use Rattle.std.proofs.Common.{◌≡◌, ℕ, false, true, inl, inr, List, [], ◌∷◌, ◌++◌, ◌⊎◌, Option, None, Some, refl, sym, ap, ◌∙◌, subst, append_assoc}
use Rattle.std.proofs.lemmas.List.{append-nil}
use Rattle.std.specs.Prelude.{map}
use Rattle.std.specs.List.{AllByRecursion}
use Rattle.histar_flat.specs.declared.replies.Reply.{Reply}
use Rattle.histar_object.specs.State.{State}
use Rattle.histar_rules.specs.declared.raw.Denied.{Denied}
use Rattle.histar_rules.specs.declared.raw.Denied.TheVariants.{TooBig}
use Rattle.histar_rules.specs.declared.raw.RawCall.{RawCall}
use Rattle.histar_rules.specs.Rules.{has_number}
use Rattle.histar_trace.specs.declared.entries.TraceEntry.{TraceEntry}
use Rattle.histar_syscall.specs.KernelModel.{KernelModel, state, Called, IsUnchanged}
use Rattle.histar_syscall.specs.Runs.{IsBy, IsRun, GoesOn, Made}
use Rattle.histar_syscall.proofs.Runs.{entry_of, still_same, call_after}
use Rattle.histar_programs.specs.Replies.{IsRestoring, sets_labels}
use Rattle.histar_sim.specs.Simulation.{has_category, IsBrokenOff, IsReplyOfDenial}

-- a raw call with its outcome
abbrev pub Step : Type 0
Step = RawCall × Option Denied

-- these raw calls, each of them granted
abbrev pub all_granted : List RawCall → List Step
all_granted calls = map (λ (c : RawCall). (c, None)) calls

-- the entries of raw calls of one thread on a line
abbrev pub entries_of : ℕ → ℕ → List Step → List TraceEntry
entries_of line thread steps = map (λ (s : Step). entry_of line thread s.0 s.1) steps

-- the thread made these raw calls, each with this outcome, and nothing else was done
abbrev pub Chain : KernelModel → ℕ → List Step → KernelModel → Type 0
Chain old thread [] new = IsUnchanged old new
Chain old thread (s ∷ steps) new = (mid : KernelModel) × Called old mid thread s.0 s.1 × Chain mid thread steps new

-- the entries of one line are one after another the new end of the trace, and a run of the kernel
pub record IsPart (old new : KernelModel) (entries : List TraceEntry) : Type 0 where
  pub trace : new.trace ≡ old.trace ++ entries
  pub run : IsRun (state old) entries (state new)
  pub line : new.line ≡ old.line

module _ (t : ℕ) where
  -- a chain is a part of a run
  pub chain_run : (old new : KernelModel) (steps : List Step) → Chain old t steps new → IsPart old new (entries_of old.line t steps)
  chain_run old new [] same = record { trace = same.trace ∙ sym (append-nil old.trace); run = same.state; line = same.line }
  chain_run old new (s ∷ steps) chain =
      let called = chain.1 in
      let later = chain_run chain.0 new steps chain.2 in
      let same_line : entries_of chain.0.line t steps ≡ entries_of old.line t steps = ap (λ (l : ℕ). entries_of l t steps) called.line in
      record {
        trace =
            later.trace ∙ ap (λ (es : List TraceEntry). es ++ entries_of chain.0.line t steps) called.trace
            ∙ append_assoc old.trace (entry_of old.line t s.0 s.1 ∷ []) (entries_of chain.0.line t steps)
            ∙ ap (λ (es : List TraceEntry). old.trace ++ entry_of old.line t s.0 s.1 ∷ es) same_line;
        run = (
          state chain.0,
          called.outcome,
          called.state,
          subst
              (λ (es : List TraceEntry). IsRun (state chain.0) es (state new)) same_line later.run,
        );
        line = later.line ∙ called.line;
      }

  -- each entry of a chain is of the thread, on the line that was begun
  pub chain_own : (line : ℕ) (steps : List Step) → AllByRecursion (IsBy line t) (entries_of line t steps)
  chain_own line [] = tt
  chain_own line (s ∷ steps) = ((refl, refl), chain_own line steps)

  -- entries of granted calls that give the thread labels
  pub all_restoring : (line : ℕ) (calls : List RawCall) → AllByRecursion (λ (c : RawCall). sets_labels c ≡ true) calls
      → AllByRecursion IsRestoring (entries_of line t (all_granted calls))
  all_restoring line [] sets = tt
  all_restoring line (call ∷ calls) sets = ((refl, sets.0), all_restoring line calls sets.1)

  -- a chain after a kernel that is unchanged
  chain_from : (old mid new : KernelModel) (steps : List Step) → IsUnchanged old mid → Chain mid t steps new → Chain old t steps new
  chain_from old mid new [] same later = still_same old mid new same later
  chain_from old mid new (s ∷ steps) same later = (later.0, call_after old mid later.0 t s.0 s.1 same later.1, later.2)

  -- a chain after another
  pub chain_after : (old mid new : KernelModel) (steps more : List Step) → Chain old t steps mid → Chain mid t more new
      → Chain old t (steps ++ more) new
  chain_after old mid new [] more same later = chain_from old mid new more same later
  chain_after old mid new (s ∷ steps) more chain later = (chain.0, chain.1, chain_after chain.0 mid new steps more chain.2 later)

  -- where no raw call was refused the entries are a run of granted calls
  pub granted_run : (old new : KernelModel) (calls : List RawCall) → Made old new t calls None
      → (steps : List Step) × Chain old t steps new × (steps ≡ all_granted calls)
  granted_run old new [] made = ([], made.0, refl)
  granted_run old new (call ∷ calls) made =
      (elim made.1 as (λ (x : Option Denied). Called old made.0 t call x → GoesOn x call (Made made.0 new t calls None) made.0 new None
      → (steps : List Step) × Chain old t steps new × (steps ≡ all_granted (call ∷ calls))) [
        | None ↦
            λ called others. let later = granted_run made.0 new calls others in
            ((call, None) ∷ later.0, (made.0, called, later.1), ap (λ (l : List Step). (call, None) ∷ l) later.2)
        | Some denied ↦ λ called others. absurd cc
      ]) made.2 made.3

  module _ (reply : Reply) where
    -- a run of granted calls may be broken off
    pub granted_broken_off : (old new : KernelModel) (line : ℕ) (calls : List RawCall)
        → Chain old t (all_granted calls) new
        → IsBrokenOff reply (state old) (entries_of line t (all_granted calls)) (state new)
    granted_broken_off old new line [] same = same.state
    granted_broken_off old new line (call ∷ calls) chain =
        (state chain.0, chain.1.outcome, chain.1.state, tt, granted_broken_off chain.0 new line calls chain.2)

    -- a run whose last raw call was refused, since the next object or the next category has no number, may be broken off
    pub exhausted_broken_off : (old mid new : KernelModel) (line : ℕ) (calls : List RawCall) (last : RawCall)
        → Chain old t (all_granted calls) mid → Chain mid t ((last, Some TooBig) ∷ []) new
        → (has_number (state mid) ≡ false) ⊎ (has_category (state mid) ≡ false)
        → IsBrokenOff reply (state old) (entries_of line t (all_granted calls ++ (last, Some TooBig) ∷ [])) (state new)
    exhausted_broken_off old mid new line [] last same later greatest =
        let end = chain_from old mid new ((last, Some TooBig) ∷ []) same later in (
          state end.0,
          end.1.outcome,
          end.1.state,
          inl
              (subst (λ (s : State). (has_number s ≡ false) ⊎ (has_category s ≡ false)) same.state greatest),
          end.2.state,
        )
    exhausted_broken_off old mid new line (call ∷ calls) last chain later greatest = (
      state chain.0,
      chain.1.outcome,
      chain.1.state,
      tt,
      exhausted_broken_off chain.0 mid new line calls last
          chain.2 later greatest,
    )

    -- a run whose last raw calls give the thread labels, after one whose denial the reply shows, may be broken off
    pub refused_broken_off : (old new : KernelModel) (line : ℕ) (calls : List RawCall) (last : RawCall) (denied : Denied) (restoring : List RawCall)
        → IsReplyOfDenial reply (Some denied) → AllByRecursion (λ (c : RawCall). sets_labels c ≡ true) restoring
        → Chain old t (all_granted calls ++ (last, Some denied) ∷ all_granted restoring) new
        → IsBrokenOff reply (state old) (entries_of line t (all_granted calls ++ (last, Some denied) ∷ all_granted restoring)) (state new)
    refused_broken_off old new line [] last denied restoring revealed sets chain = (
      state chain.0,
      chain.1.outcome,
      chain.1.state,
      inr (revealed, all_restoring line restoring sets),
      granted_broken_off chain.0 new line restoring chain.2,
    )
    refused_broken_off old new line (call ∷ calls) last denied restoring revealed sets chain =
        (state chain.0, chain.1.outcome, chain.1.state, tt, refused_broken_off chain.0 new line calls last denied restoring revealed sets chain.2)
