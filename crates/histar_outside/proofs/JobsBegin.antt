-- A machine is under way from boot on, and has a job after the wrap that starts it.
use Rattle.std.proofs.Common.{◌≡◌, ℕ, ◌+◌, Bool, true, false, List, [], ◌∷◌, ◌++◌, Option, None, Some, Ok, refl, sym, ap, ◌∙◌, subst}
use Rattle.std.specs.Prelude.{cond}
use Rattle.std.proofs.lemmas.Bool.{or_left}
use mathlib.Core.Bool.{false≢true}
use Rattle.histar_base.specs.Paths.{same}
use Rattle.histar_flat.specs.Words.{Name, Path, ProcName}
use Rattle.histar_flat.specs.Accounts.{Accounts, has}
use Rattle.histar_flat.specs.Classes.{Process}
use Rattle.histar_flat.specs.FlatState.{Flat}
use Rattle.histar_flat.specs.FlatCalls.{changed, flat_after, inner_chain, next_child}
use Rattle.histar_flat.specs.Meaning.{RepliedCall, boot}
use Rattle.histar_flat.specs.declared.calls.UnixCall.TheVariants.{Wrap}
use Rattle.histar_flat.proofs.FileLemmas.{same_itself}
use Rattle.histar_flat.proofs.Laws.{states_go_on}
use Rattle.histar_flat.proofs.WrappedJobs.{has_last}
use Rattle.histar_noninterference.specs.Comparison.{is_wrap_reply}
use Rattle.histar_noninterference.proofs.Isolated.{wrap_line}
use Rattle.histar_object.specs.State.{State, empty_state}
use Rattle.histar_rules.specs.declared.raw.Denied.{Denied}
use Rattle.histar_rules.specs.declared.raw.RawCall.{RawCall}
use Rattle.histar_rules.specs.Rules.{check, Leaves}
use Rattle.histar_rules.specs.Sound.{IsSound}
use Rattle.histar_rules.proofs.Sound.{sound_changes, sound_empty}
use Rattle.histar_trace.specs.declared.entries.TraceEntry.{TraceEntry}
use Rattle.histar_syscall.specs.KernelModel.{state}
use Rattle.histar_syscall.specs.Runs.{IsRun}
use Rattle.histar_programs.specs.declared.caller.Caller.{Caller}
use Rattle.histar_programs.specs.Caller.{caller_at}
use Rattle.histar_refinement.specs.Categories.{IsKnown}
use Rattle.histar_shell.specs.Machine.{MachineModel, AnswersFound, AnswersIf, AnswersLine}
use Rattle.histar_shell.proofs.CallRefinements.{calls_refine}
use Rattle.histar_shell.proofs.LineMeanings.{line_follows}
use Rattle.histar_outside.specs.NamedAttacks.{BootedAreUnderWay, LinesLeadOn, WrapsStartJobs}

-- a raw call leaves a sound state, and so does a run
sound_leaves : (s new : State) (t : ℕ) (call : RawCall) (denied : Option Denied) → IsSound s → check s t call ≡ denied
    → Leaves denied s t call new → IsSound new
sound_leaves s new t call None sound passed leaves = sound_changes s new t call sound passed leaves
sound_leaves s new t call (Some denied) sound refused leaves = subst IsSound (sym leaves) sound

sound_run : (s end : State) (entries : List TraceEntry) → IsSound s → IsRun s entries end → IsSound end
sound_run s end [] sound run = subst IsSound (sym run) sound
sound_run s end (e ∷ entries) sound run =
    sound_run run.0 end entries (sound_leaves s run.0 e.thread e.call e.denied sound run.1 run.2) run.3

pub booted_under_way : BootedAreUnderWay
booted_under_way accounts m entries shows run running = record {
  shows = shows;
  sound = sound_run empty_state (state m.kernel) entries sound_empty run;
  runs = running;
  reached = ([], refl);
}

module _ (m mid : MachineModel) (a : RepliedCall) (runs : m.is_stopped ≡ false) where
  -- a machine that answers a line runs on
  by_caller : (o : Option Caller) → AnswersFound (Unit {0}) o m mid a.call.line a.call.process a.call.call (Ok a.reply) → mid.is_stopped ≡ false
  by_caller None answered = ap (λ (x : MachineModel). x.is_stopped) answered.1 ∙ runs
  by_caller (Some caller) answered = answered.stops

  runs_on : AnswersLine m mid a.call.line a.call.process a.call.call (Ok a.reply) → mid.is_stopped ≡ false
  runs_on answered = by m.is_stopped answered
    where
      by : (b : Bool) → AnswersIf (Unit {0}) b m mid a.call.line a.call.process a.call.call (Ok a.reply) → mid.is_stopped ≡ false
      by true h = absurd (false≢true h.0)
      by false h = by_caller (caller_at (state m.kernel) m.roots.home a.call.process) h

pub lines_lead_on : LinesLeadOn
lines_lead_on accounts m mid f a under_way can answered =
    let meant = line_follows calls_refine m mid a.call.line a.call.process a.call.call (Ok a.reply) can answered accounts f under_way.shows in
    record {
      shows = meant.shows;
      sound = sound_run (state m.kernel) (state mid.kernel) meant.entries under_way.sound meant.refined.line.run;
      runs = runs_on m mid a under_way.runs answered;
      reached = (
        under_way.reached.0 ++ a.call ∷ [],
        states_go_on accounts (boot accounts) under_way.reached.0 (a.call ∷ [])
            ∙ ap (λ (x : Flat). flat_after accounts x a.call.process a.call.call) under_way.reached.1,
      );
    }

-- the first process of a job is in it, right after the line of its wrap
known_now : (accounts : Accounts) (f : Flat) (me job : ProcName) (p : Process) (n : Name) (d : Path) → job ≡ next_child me p
    → IsKnown (changed accounts f me p (Wrap (n ∷ d))) job
known_now accounts f me job p n d named =
    subst (IsKnown (changed accounts f me p (Wrap (n ∷ d)))) (sym named) (
      next_child me p,
      record { user = p.user; chain = inner_chain me p; held = []; exited = None; born = 0 },
      ap (λ b. cond b (Some (record { user = p.user; chain = inner_chain me p; held = []; exited = None; born = 0 }))
          (cond (same me (next_child me p)) (Some (record p { held = p.held ++ next_child me p ∷ []; born = p.born + 1 }))
          (f.processes (next_child me p)))) (same_itself (next_child me p)),
      or_left (has (inner_chain me p) (next_child me p)) (has [] (next_child me p)) (has_last p.chain (next_child me p)),
    )

pub wraps_start_jobs : WrapsStartJobs
wraps_start_jobs accounts m mid f a job under_way can answered told =
    let meant = line_follows calls_refine m mid a.call.line a.call.process a.call.call (Ok a.reply) can answered accounts f under_way.shows in (
      _,
      record {
        under_way = lines_lead_on accounts m mid f a under_way can answered;
        known = wrap_line accounts f a.call.process job (λ x. IsKnown x job) a.call.call
            (λ p n d here named. known_now accounts f a.call.process job p n d named)
            (ap (is_wrap_reply job a.call.call) (sym meant.is_reply) ∙ told);
        number = refl;
      },
    )
