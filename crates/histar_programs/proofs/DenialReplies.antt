-- A program that replies to its refusals and was run to its reply: the outcomes of its raw calls.
use Rattle.std.proofs.Common.{◌≡◌, ℕ, Bool, true, false, List, [], ◌∷◌, ◌++◌, Option, None, Some, Ok, Err, refl, sym, ap, ◌∙◌, subst, append_assoc}
use Rattle.std.specs.Prelude.{◌||◌}
use Rattle.std.proofs.lemmas.List.{append-nil}
use Rattle.std.specs.List.{AllByRecursion}
use Rattle.histar_flat.specs.declared.replies.Reply.{Reply}
use Rattle.histar_rules.specs.declared.raw.Denied.{Denied}
use Rattle.histar_rules.specs.declared.raw.RawCall.{RawCall}
use Rattle.histar_trace.specs.declared.entries.TraceEntry.{TraceEntry}
use Rattle.histar_syscall.specs.KernelModel.{KernelModel, state, Called}
use Rattle.histar_syscall.specs.Runs.{IsBy, Ran, is_label_refusal, is_range_refusal, some_label_refusal, some_range_refusal}
use Rattle.histar_syscall.proofs.Runs.{entry_of}
use Rattle.histar_programs.specs.Replies.{is_no_access, is_no_permission, IsRestoring, Replies}
use Rattle.histar_programs.specs.Programs.{Outcome, Program, Asked, Completes}
use Rattle.histar_programs.specs.Programs.Program.{Answers, Asks, Lists, Stops}
use Rattle.histar_programs.specs.Laws.{RepliesToDenial, RepliesToRefusals}

-- no granted raw call that gives labels was refused
none_refused : (entries : List TraceEntry) → AllByRecursion IsRestoring entries
    → (some_label_refusal entries ≡ false) × (some_range_refusal entries ≡ false)
none_refused [] all = (refl, refl)
none_refused (e ∷ entries) all =
    let later = none_refused entries all.1 in
    ((λ i. is_label_refusal (all.0.0 i) || later.0 i), (λ i. is_range_refusal (all.0.0 i) || later.1 i))

-- what was run after a denial: calls that give labels, all granted, and then the reply to the denial
record Restores (old new : KernelModel) (t : ℕ) (denied : Denied) (reply : Reply) : Type 0 where
  entries : List TraceEntry
  ran : Ran old new t entries
  restoring : AllByRecursion IsRestoring entries
  access : is_label_refusal (Some denied) ≡ is_no_access reply
  permission : is_range_refusal (Some denied) ≡ is_no_permission reply

-- one entry more at the front of a run
ran_more : (old mid new : KernelModel) (t : ℕ) (call : RawCall) (d : Option Denied) (entries : List TraceEntry)
    → Called old mid t call d → Ran mid new t entries → Ran old new t (entry_of old.line t call d ∷ entries)
ran_more old mid new t call d entries called later = record {
  trace = later.trace ∙ ap (λ (es : List TraceEntry). es ++ entries) called.trace ∙ append_assoc old.trace (entry_of old.line t call d ∷ []) entries;
  run = (state mid, called.outcome, called.state, later.run);
  own = ((refl, refl), subst (λ (l : ℕ). AllByRecursion (IsBy l t) entries) called.line later.own);
  line = later.line ∙ called.line;
}

-- a program that stops has no reply
no_reply : (p : Program) (old new : KernelModel) (t : ℕ) (reply : Reply) → p ≡ Stops → Completes p old new t reply → ⊥
no_reply p old new t reply stops runs = subst (λ (q : Program). Completes q old new t reply) stops runs

restores : (p : Program) (old new : KernelModel) (t : ℕ) (denied : Denied) (reply : Reply) → RepliesToDenial denied p
    → Completes p old new t reply → Restores old new t denied reply
restores (Answers said) old new t denied reply obeys runs = record {
  entries = [];
  ran = record { trace = runs.0.trace ∙ sym (append-nil old.trace); run = runs.0.state; own = tt; line = runs.0.line };
  restoring = tt;
  access = obeys.0 ∙ ap is_no_access (sym runs.1);
  permission = obeys.1 ∙ ap is_no_permission (sym runs.1);
}
restores (Asks call next) old new t denied reply obeys runs =
    (elim runs.1 as (λ (o : Outcome call). Asked old runs.0 t call o → Completes (next o) runs.0 new t reply → Restores old new t denied reply) [
      | Ok answer ↦ λ asked rest.
          let later = restores (next (Ok answer)) runs.0 new t denied reply (obeys.1 answer) rest in
          record {
            entries = entry_of old.line t call None ∷ later.entries;
            ran = ran_more old runs.0 new t call None later.entries asked.0 later.ran;
            restoring = ((refl, obeys.0), later.restoring);
            access = later.access;
            permission = later.permission;
          }
      | Err other ↦ λ asked rest. absurd (no_reply (next (Err other)) runs.0 new t reply (obeys.2 other) rest)
    ]) runs.2 runs.3
restores (Lists bytes next) old new t denied reply obeys runs = absurd obeys
restores Stops old new t denied reply obeys runs = absurd runs

-- a denial, and what was run after it
or_none : (a b : Bool) → b ≡ false → (a || b) ≡ a
or_none true b is = refl
or_none false b is = is

-- the entries of the program's raw calls agree with its reply
pub replies : (p : Program) → RepliesToRefusals p → (old new : KernelModel) (t : ℕ) (reply : Reply)
    → Completes p old new t reply → Replies old new t reply
replies (Answers said) obeys old new t reply runs = record {
  entries = [];
  ran = record { trace = runs.0.trace ∙ sym (append-nil old.trace); run = runs.0.state; own = tt; line = runs.0.line };
  access = sym obeys.0 ∙ ap is_no_access (sym runs.1);
  permission = sym obeys.1 ∙ ap is_no_permission (sym runs.1);
  once = tt;
}
replies (Asks call next) obeys old new t reply runs =
    (elim runs.1 as (λ (o : Outcome call). Asked old runs.0 t call o → Completes (next o) runs.0 new t reply → Replies old new t reply) [
      | Ok answer ↦ λ asked rest.
          let later = replies (next (Ok answer)) (obeys.0 answer) runs.0 new t reply rest in
          record {
            entries = entry_of old.line t call None ∷ later.entries;
            ran = ran_more old runs.0 new t call None later.entries asked.0 later.ran;
            access = later.access;
            permission = later.permission;
            once = later.once;
          }
      | Err denied ↦ λ asked rest.
          let later = restores (next (Err denied)) runs.0 new t denied reply (obeys.1 denied) rest in
          let none = none_refused later.entries later.restoring in
          record {
            entries = entry_of old.line t call (Some denied) ∷ later.entries;
            ran = ran_more old runs.0 new t call (Some denied) later.entries asked later.ran;
            access = or_none (is_label_refusal (Some denied)) (some_label_refusal later.entries) none.0 ∙ later.access;
            permission = or_none (is_range_refusal (Some denied)) (some_range_refusal later.entries) none.1 ∙ later.permission;
            once = later.restoring;
          }
    ]) runs.2 runs.3
replies (Lists bytes next) obeys old new t reply runs = replies (next runs.0) (obeys runs.0) old new t reply runs.2
replies Stops obeys old new t reply runs = absurd runs
