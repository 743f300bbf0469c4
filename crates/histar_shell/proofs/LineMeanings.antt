-- A line ends as the flat state says that the machine represents before it.
use Rattle.std.proofs.Common.{◌≡◌, ℕ, Bool, true, false, List, [], ◌∷◌, length, Option, None, Some, Result, Ok, Err, refl, sym, ap, ◌∙◌, subst}
use Rattle.std.proofs.Common.{◌≤◌, ◌⊎◌, inl, inr, append-nil}
use Rattle.std.specs.Prelude.{IsTrue, is_some}
use Rattle.std.specs.List.{AllByRecursion}
use mathlib.Core.Bool.{true≢false}
use Rattle.histar_flat.specs.declared.calls.UnixCall.{UnixCall}
use Rattle.histar_flat.specs.declared.replies.Reply.{Reply}
use Rattle.histar_flat.specs.declared.replies.Reply.TheVariants.{Gone}
use Rattle.histar_flat.specs.Words.{ProcName}
use Rattle.histar_flat.specs.Accounts.{Accounts}
use Rattle.histar_flat.specs.Classes.{Process}
use Rattle.histar_flat.specs.FlatState.{Flat}
use Rattle.histar_flat.specs.FlatCalls.{running, reply_to, flat_after}
use Rattle.histar_flat.proofs.Laws.{not_running_is_gone}
use Rattle.histar_object.specs.State.{State}
use Rattle.histar_trace.specs.declared.entries.TraceEntry.{TraceEntry}
use Rattle.histar_syscall.specs.KernelModel.{KernelModel, state}
use Rattle.histar_syscall.specs.Runs.{IsBy}
use Rattle.histar_programs.specs.declared.roots.Roots.{Roots}
use Rattle.histar_programs.specs.declared.call_error.Stopped.{Stopped}
use Rattle.histar_programs.specs.Programs.{Program, Runs}
use Rattle.histar_programs.specs.declared.caller.Caller.{Caller}
use Rattle.histar_programs.specs.Caller.{caller_at}
use Rattle.histar_programs.specs.Start.{roots_of}
use Rattle.histar_refinement.specs.KeptNames.{RepresentsStill}
use Rattle.histar_refinement.proofs.KeepingNames.{still_represents}
use Rattle.histar_refinement.specs.Represents.{Represents}
use Rattle.histar_refinement.specs.Laws.{IsCallerOf}
use Rattle.histar_refinement.specs.Lines.{IsThreadOf}
use Rattle.histar_refinement.specs.Accounts.{AreAccounts}
use Rattle.histar_refinement.proofs.CallerFound.{caller_found, caller_there}
use Rattle.histar_refinement.proofs.Renaming.{nothing_under}
use Rattle.histar_refinement.proofs.StatusFound.{thread_led}
use Rattle.histar_flat.specs.Calls.{IsCall}
use Rattle.histar_sim.specs.Simulation.{IsBrokenOff, IsLine, IsReady, IsSpent, FollowsRule, IsFirstFree, AreFilesSmall}
use Rattle.histar_sim.specs.Reads.{HasReads}
use Rattle.histar_sim.specs.Named.{DenialsAreNamed}
use Rattle.histar_sim.specs.RawCalls.{AreItsRequests}
use Rattle.histar_sim.proofs.FirstFree.{first_free_after}
use Rattle.histar_shell.specs.Machine.{MachineModel, on_line, program_of, Makes, HasMade, IsTraced}
use Rattle.histar_shell.specs.Machine.{AnswersFound, AnswersRunning, AnswersIf, AnswersLine, AnswersLineBy}
use Rattle.histar_shell.specs.Meaning.{Shows, EndsAsMeant, FollowsMeaning}
use Rattle.histar_rules.specs.Rules.{greatest}
use Rattle.histar_shell.proofs.CallRefinements.{CallsRefine, calls_refine}
use Rattle.histar_shell.proofs.Counters.{not_spent}
use Rattle.histar_shell.proofs.SamePrograms.{same_program}
use Rattle.histar_readout.specs.Laws.{AreShallow}
use Rattle.histar_shell.proofs.SmallFiles.{small_after}
use Rattle.histar_shell.proofs.ShallowPaths.{shallow_after}
use Rattle.histar_shell.proofs.Users.{is_accounts}

-- what is not there is nothing
none_of : {A : Type 0} (o : Option A) → is_some o ≡ false → o ≡ None
none_of None e = refl
none_of (Some x) e = absurd (true≢false e)

-- W is what is said of a line that ends without an answer
module _ {M W : Type 0} (refinements : CallsRefine M) (accounts : Accounts) (old new : MachineModel) (f : Flat) (shows : Shows accounts old f)
    (why : (reply : Reply) (entries : List TraceEntry) → IsBrokenOff reply (state old.kernel) entries (state new.kernel)
    → M ⊎ IsSpent (state new.kernel) → W) where
  ok : AreAccounts accounts
  ok = is_accounts accounts shows.declared

  module _ (me : ProcName) (caller : Caller) (found : caller_at (state old.kernel) (roots_of (length accounts.users)).home me ≡ Some caller) where
    -- the process is found where it runs
    running_as : (p : Process) × IsCallerOf accounts (state old.kernel) f shows.represents.matched me p caller
    running_as = caller_found accounts (state old.kernel) f shows.represents.matched me caller found

    ready : IsReady accounts (state old.kernel) f me caller.thread
    ready =
        let p = running_as.0 in
        let runs = running_as.1 in
        record {
          represents = shows.represents;
          caller = record { process = p; agrees = runs.runs.0; runs = runs.runs.1 };
          first = shows.first;
          small = shows.small;
          thread = thread_led accounts (state old.kernel) f shows.represents.matched me p caller.thread runs.runs.0 runs.runs.1 runs.runs.2;
        }

    -- a call of the process refines its rule
    made_refined : (k : KernelModel) → state k ≡ state old.kernel → (call : UnixCall) (result : Result Reply Stopped) → IsCall call
        → Makes M accounts (roots_of (length accounts.users)) me caller k new.kernel call result
        → FollowsRule M accounts f me call k new.kernel caller.thread result
    made_refined k same call result can made =
        let there : IsReady accounts (state k) f me caller.thread = subst (λ (s : State). IsReady accounts s f me caller.thread) (sym same) ready in
        let at : caller_at (state k) (roots_of (length accounts.users)).home me ≡ Some caller =
        ap (λ (s : State). caller_at s (roots_of (length accounts.users)).home me) same ∙ found in
        refinements accounts ok call can me caller k new.kernel f result there at made

    -- the program of a call reads no password
    made_of : (k : KernelModel) (call : UnixCall) (result : Result Reply Stopped)
        → Makes M old.users (roots_of (length accounts.users)) me caller k new.kernel call result
        → Makes M accounts (roots_of (length accounts.users)) me caller k new.kernel call result
    made_of k call result made =
        let roots = roots_of (length accounts.users) in
        subst (λ (p : Program). Runs M p k new.kernel caller.thread result)
        (ap (λ (users : Accounts). program_of users roots me caller call) shows.users
        ∙ same_program accounts roots me caller call) made

    -- a call of the machine refines its rule, at the places that boot made
    refined_of_made : (line : ℕ) (call : UnixCall) (result : Result Reply Stopped) → IsCall call → HasMade M old new line me caller call result
        → FollowsRule M accounts f me call (on_line line old.kernel) new.kernel caller.thread result
    refined_of_made line call result can h =
        made_refined (on_line line old.kernel) refl call result can
        (made_of (on_line line old.kernel) call result (subst
        (λ (roots : Roots). Makes M old.users roots me caller (on_line line old.kernel) new.kernel call result)
        shows.roots h.made))

    -- the machine after the line represents what its kernel represents
    still_shows : (line : ℕ) (call : UnixCall) (result : Result Reply Stopped) (g : Flat)
        → HasMade M old new line me caller call result → Represents accounts (state new.kernel) g → IsFirstFree g
        → AreFilesSmall g → AreShallow g
        → Shows accounts new g
    still_shows line call result g h represented first small shallow = record {
      declared = shows.declared;
      users = h.users ∙ shows.users;
      roots = h.roots ∙ shows.roots;
      represents = represented;
      first = first;
      small = small;
      shallow = shallow;
    }

    -- each raw call is by the process's thread
    own_thread : (line : ℕ) (entries : List TraceEntry) → AllByRecursion (IsBy line caller.thread) entries
        → AllByRecursion (λ (e : TraceEntry). (e.line ≡ line) × IsThreadOf accounts (state old.kernel) me e.thread)
        entries
    own_thread line [] own = tt
    own_thread line (e ∷ entries) own = (
      (own.0.0, subst (IsThreadOf accounts (state old.kernel) me) (sym own.0.1) ready.thread),
      own_thread line
          entries own.1,
    )

    -- the call ends as is meant
    made_ends : (line : ℕ) (call : UnixCall) (result : Result Reply Stopped) → IsCall call
        → HasMade M old new line me caller call result
        → EndsAsMeant W accounts old new f (record { line = line; process = me; call = call }) result
    made_ends line call (Ok reply) can h =
        let refined = refined_of_made line call (Ok reply) can h in
        record {
          is_reply = refined.0;
          entries = refined.1.entries;
          trace = refined.1.trace;
          refined = refined.1.refined;
          shows = still_shows line call (Ok reply) (flat_after accounts f me call) h refined.1.refined.represents
              (first_free_after accounts f shows.first me call)
              (small_after f shows.small accounts me (nothing_under accounts (state old.kernel) f shows.represents.matched) call)
              (shallow_after f shows.shallow accounts me (nothing_under accounts (state old.kernel) f shows.represents.matched) call can);
        }
    made_ends line call (Err stopped) can h =
        let out = refined_of_made line call (Err stopped) can h in
        record {
          entries = out.entries;
          trace = out.trace;
          run = out.run;
          own = own_thread line out.entries out.own;
          because = inr (why (reply_to accounts f me call) out.entries out.run out.because);
        }

  -- a line of a process that doesn't run is answered `gone`, and makes no raw call
  gone_ends : (line : ℕ) (me : ProcName) (call : UnixCall) → running f me ≡ None
      → EndsAsMeant W accounts old old f (record { line = line; process = me; call = call }) (Ok Gone)
  gone_ends line me call none =
      let still = not_running_is_gone accounts f me call none in
      let is_line : IsLine accounts (state old.kernel) line me Gone [] (state old.kernel) = record {
        run = refl;
        own = tt;
        access = refl;
        permission = refl;
        denials = tt;
        once = tt;
        ends_with_read = λ bytes e. absurd cc;
        gone = λ e. refl;
      } in
      record {
        is_reply = sym still.0;
        entries = [];
        trace = sym (append-nil old.kernel.trace);
        refined = record {
          line = subst (λ (r : Reply). IsLine accounts (state old.kernel) line me r [] (state old.kernel)) (sym still.0) is_line;
          reads = subst (λ (o : Option Process). HasReads accounts (state old.kernel) f o call (reply_to accounts f me call) []) (sym none) tt;
          named = subst (λ (o : Option Process). DenialsAreNamed accounts (state old.kernel) f me o call []) (sym none) tt;
          represents = subst (Represents accounts (state old.kernel)) (sym still.1) shows.represents;
          requests = λ from. subst (λ (o : Option Process). AreItsRequests accounts from.matched me o call []) (sym none) refl;
          keeps = λ from. subst (RepresentsStill from (state old.kernel)) (sym still.1) (still_represents from (state old.kernel) refl);
        };
        shows = subst (Shows accounts old) (sym still.1) shows;
      }

  -- a process that is not found doesn't run
  lost_is_gone : (me : ProcName) → caller_at (state old.kernel) (roots_of (length accounts.users)).home me ≡ None → running f me ≡ None
  lost_is_gone me lost = none_of (running f me) (sym (caller_there accounts (state old.kernel) f shows.represents.matched me) ∙ ap is_some lost)

  runs_end : (line : ℕ) (me : ProcName) (call : UnixCall) (result : Result Reply Stopped) → IsCall call
      → AnswersRunning M old new line me call result
      → EndsAsMeant W accounts old new f (record { line = line; process = me; call = call }) result
  runs_end line me call result can h = by (caller_at (state old.kernel) (roots_of (length accounts.users)).home me) refl
      (subst (λ (roots : Roots). AnswersFound M (caller_at (state old.kernel) roots.home me) old new line me call result) shows.roots h)
    where
      by : (o : Option Caller) → caller_at (state old.kernel) (roots_of (length accounts.users)).home me ≡ o
          → AnswersFound M o old new line me call result
          → EndsAsMeant W accounts old new f (record { line = line; process = me; call = call }) result
      by None lost k =
          subst (λ (m : MachineModel). EndsAsMeant W accounts old m f (record { line = line; process = me; call = call }) result) (sym k.1)
          (subst (EndsAsMeant W accounts old old f (record { line = line; process = me; call = call })) (sym k.0)
          (gone_ends line me call (lost_is_gone me lost)))
      by (Some caller) found made = made_ends me caller found line call result can made

  -- a machine that had stopped makes no raw call
  stopped_ends : (line : ℕ) (process : ProcName) (call : UnixCall) (result : Result Reply Stopped)
      → IsTrue old.is_stopped → AnswersIf M true old new line process call result
      → EndsAsMeant W accounts old new f (record { line = line; process = process; call = call }) result
  stopped_ends line process call (Ok reply) had_stopped h = absurd cc
  stopped_ends line process call (Err stopped) had_stopped h = record {
    entries = [];
    trace = ap (λ (m : MachineModel). m.kernel.trace) h.1 ∙ sym (append-nil old.kernel.trace);
    run = ap (λ (m : MachineModel). state m.kernel) h.1;
    own = tt;
    because = inl had_stopped;
  }

  pub line_ends : (line : ℕ) (process : ProcName) (call : UnixCall) (result : Result Reply Stopped) → IsCall call
      → AnswersLineBy M old new line process call result
      → EndsAsMeant W accounts old new f (record { line = line; process = process; call = call }) result
  line_ends line process call result can h = by old.is_stopped refl h
    where
      by : (b : Bool) → old.is_stopped ≡ b → AnswersIf M b old new line process call result
          → EndsAsMeant W accounts old new f (record { line = line; process = process; call = call }) result
      by true is k = stopped_ends line process call result is k
      by false is k = runs_end line process call result can k

-- a line follows the meaning, whatever ends it without an answer
pub line_follows : (refinements : CallsRefine (Unit {0})) (old new : MachineModel) (line : ℕ) (process : ProcName)
    (call : UnixCall) (result : Result Reply Stopped) → IsCall call
    → AnswersLine old new line process call result → FollowsMeaning (Unit {0}) old new line process call result
line_follows refinements old new line process call result can h accounts f shows =
    line_ends refinements accounts old new f shows (λ reply entries run why. tt) line process call result can h

-- a line follows the meaning, and ends without an answer only where memory ran out: no counter is spent in a run that has no more
-- entries than a number of 64 bits counts
pub line_follows_by : (M : Type 0) (old new : MachineModel) (line : ℕ) (process : ProcName)
    (call : UnixCall) (result : Result Reply Stopped) → IsCall call → IsTraced new.kernel → length new.kernel.trace ≤ greatest
    → AnswersLineBy M old new line process call result → FollowsMeaning M old new line process call result
line_follows_by M old new line process call result can traced few h accounts f shows =
    line_ends {M = M} {W = M} calls_refine accounts old new f shows
    (λ reply entries run why. elim why [
      | inl memory ↦ memory
      | inr spent ↦ absurd (not_spent accounts f old.kernel new.kernel shows.represents.matched reply entries run traced few spent)
    ])
    line process call result can h
