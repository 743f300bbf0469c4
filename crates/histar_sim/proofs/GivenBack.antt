-- A raw call that is refused after the thread has taken a category: the thread takes its own label and clearance again, and the reply is the
-- errno of the denial.
use Rattle.std.proofs.Common.{◌≡◌, ℕ, true, List, [], ◌∷◌, ◌++◌, None, Some, Option, Result, Ok, Err, inl, inr, refl, sym, ap, ◌∙◌, subst}
use Rattle.std.proofs.Common.{append_assoc}
use Rattle.std.proofs.lemmas.List.{map-append, append-nil}
use Rattle.std.specs.Prelude.{IsErr, option_map}
use Rattle.std.specs.List.{AllByRecursion}
use Rattle.histar_flat.specs.declared.calls.UnixCall.{UnixCall}
use Rattle.histar_flat.specs.declared.replies.Errno.{Errno}
use Rattle.histar_flat.specs.declared.replies.Reply.{Reply}
use Rattle.histar_flat.specs.declared.replies.Reply.TheVariants.{Refused}
use Rattle.histar_flat.specs.Words.{ProcName}
use Rattle.histar_flat.specs.Accounts.{Accounts}
use Rattle.histar_flat.specs.FlatState.{Flat}
use Rattle.histar_flat.specs.FlatCalls.{refused, reply_to}
use Rattle.histar_level.specs.Levels.{Levels}
use Rattle.histar_rules.specs.Rights.{with_changed, with_label, with_clearance}
use Rattle.histar_object.specs.State.{State}
use Rattle.histar_rules.specs.declared.raw.Denied.{Denied}
use Rattle.histar_rules.specs.declared.raw.RawCall.{RawCall}
use Rattle.histar_rules.specs.declared.raw.RawCall.TheVariants.{SetLabel, SetClearance}
use Rattle.histar_rules.specs.Rules.{check}
use Rattle.histar_syscall.specs.KernelModel.{KernelModel, state, Called}
use Rattle.histar_syscall.proofs.Runs.{same_kernel}
use Rattle.histar_programs.specs.declared.call_error.Stopped.{Stopped}
use Rattle.histar_programs.specs.Refusals.{errno_for}
use Rattle.histar_programs.specs.Replies.{sets_labels}
use Rattle.histar_programs.specs.Programs.{AnswerOf, Outcome, Program, Runs}
use Rattle.histar_programs.specs.Programs.Program.{Answers, Asks}
use Rattle.histar_wrap.specs.Scratch.{or_stops, give_back, gives_back_with, or_given_back, ask_or_give_back}
use Rattle.histar_refinement.specs.KeptNames.{RepresentsStill}
use Rattle.histar_refinement.proofs.Beside.{own_set}
use Rattle.histar_sim.specs.Simulation.{errno_by_rule, IsReplyOfDenial}
use Rattle.histar_sim.proofs.Ready.{Ready}
use Rattle.histar_sim.proofs.Chains.{Step, all_granted, Chain, chain_after, refused_broken_off}
use Rattle.histar_sim.proofs.CallErrors.{FollowsFrom, IsDenialNamed, AreItsCalls, reply_is, chain_unanswered, given_back_refined}
use Rattle.histar_sim.proofs.Steps.{EndsHere, Goal, replied, granted_so, denied_step}

module _ {M : Type 0} (accounts : Accounts) (f : Flat) (me : ProcName) (call : UnixCall)
    (old new : KernelModel) (t : ℕ) (ready : Ready M accounts (state old) f me t) (result : Result Reply Stopped) where
  abbrev Refined : Type 0
  Refined = Goal accounts f me call old new t ready result

  -- raw calls that were granted, the last one, which was refused, and the errno of its denial, which the flat rules reply
  module _ (calls : List RawCall) (last : RawCall) (denied : Denied) (errno : Errno)
      (revealed : errno_by_rule denied ≡ Some errno) (is : refused accounts f me ready.caller.process call ≡ Some errno)
      (named : IsDenialNamed accounts f me call old new t ready last) where
    -- after the refused one come these, which are granted
    abbrev steps : List RawCall → List Step
    steps restoring = all_granted calls ++ (last, Some denied) ∷ all_granted restoring

    -- the reply of the flat rules is that of the denial
    reveals : IsReplyOfDenial (reply_to accounts f me call) (Some denied)
    reveals = ap (option_map Refused) revealed ∙ ap Some (sym (reply_is accounts f me call old new t ready (Some errno) is))

    -- After the refused one the thread was given labels.
    module _ (restoring : List RawCall) (sets : AllByRecursion (λ (c : RawCall). sets_labels c ≡ true) restoring)
        (mid : KernelModel) (so_far : Chain old t (steps restoring) mid) where
      -- the call ends here without a reply
      ended : EndsHere M mid new result → Refined
      ended ends = by result ends.unanswered
        where
          chain : Chain old t (steps restoring) new
          chain =
              subst (λ (all : List Step). Chain old t all new) (append-nil (steps restoring))
              (chain_after t old mid new (steps restoring) [] so_far ends.unchanged)

          by : (r : Result Reply Stopped) → IsErr r → FollowsFrom M accounts f me call old new t ready.represents r
          by (Ok reply) err = absurd cc
          by (Err stopped) err =
              chain_unanswered accounts f me call old new t ready (steps restoring) chain
              (refused_broken_off t (reply_to accounts f me call) old new old.line calls last denied restoring
              reveals sets chain) (inl ends.because)

      -- one step more
      longer : (next : RawCall) (later : KernelModel) → Called mid later t next None → Chain old t (steps (restoring ++ next ∷ [])) later
      longer next later called = subst (λ (all : List Step). Chain old t all later)
          (append_assoc (all_granted calls) ((last, Some denied) ∷ all_granted restoring) ((next, None) ∷ [])
          ∙ ap (λ (more : List Step). all_granted calls ++ (last, Some denied) ∷ more)
          (sym (map-append (λ (c : RawCall). (c, None)) restoring (next ∷ []))))
          (chain_after t old mid later (steps restoring) ((next, None) ∷ []) so_far (later, called, same_kernel later))

      -- the thread is given a label or a clearance more
      restored_step : (next : RawCall) (rest : Outcome next → Program) → check (state mid) t next ≡ None
          → Runs M (Asks next rest) mid new t result
          → ((later : KernelModel) (answer : AnswerOf next) → Called mid later t next None
          → Chain old t (steps (restoring ++ next ∷ [])) later → Runs M (rest (Ok answer)) later new t result
          → Refined) → Refined
      restored_step next rest passes runs go_on = elim (granted_so t mid new next rest passes result runs) [
        | inl ends ↦ ended ends
        | inr goes ↦ go_on goes.mid goes.answer goes.called (longer next goes.mid goes.called) goes.runs
      ]

      -- the call replies the errno
      revealed_at_last : RepresentsStill ready.represents (state mid) f
          → AreItsCalls accounts f me call old new t ready (steps restoring) (Refused errno)
          → Runs M (Answers (Refused errno)) mid new t result → Refined
      revealed_at_last represents reads runs =
          let end = replied t mid new (Refused errno) result runs in
          subst (FollowsFrom M accounts f me call old new t ready.represents) (sym end.1)
          (given_back_refined accounts f me call old new t ready calls last denied restoring sets
          (subst (λ (all : List Step). Chain old t all new) (append-nil (steps restoring))
          (chain_after t old mid new (steps restoring) [] so_far end.0))
          errno revealed is named reads (subst (λ (s : State). RepresentsStill ready.represents s f) (sym end.0.state) represents))

    -- The thread takes its own label and clearance again, and the call replies the errno.
    module _ (own : Levels × Levels) where
      -- the raw calls by which it takes them
      abbrev taken_again : List RawCall
      taken_again = SetLabel own.0 ∷ SetClearance own.1 ∷ []

      give_back_step : (mid : KernelModel) → Chain old t (steps []) mid
          → check (state mid) t (SetLabel own.0) ≡ None
          → check (with_changed (state mid) t (with_label own.0)) t (SetClearance own.1) ≡ None
          → RepresentsStill ready.represents (own_set t (state mid) own.0 own.1) f
          → AreItsCalls accounts f me call old new t ready (steps taken_again) (Refused errno)
          → Runs M (give_back own errno) mid new t result → Refined
      give_back_step mid so_far label_passes clearance_passes represents reads runs =
          restored_step [] tt mid so_far (SetLabel own.0)
          (or_stops (λ _. Asks (SetClearance own.1) (or_stops (λ _. Answers (Refused errno))))) label_passes runs
          (λ labelled done called chain on.
          restored_step (SetLabel own.0 ∷ []) (refl, tt) labelled chain (SetClearance own.1) (or_stops (λ _. Answers (Refused errno)))
          (ap (λ (s : State). check s t (SetClearance own.1)) called.state ∙ clearance_passes) on
          (λ cleared set_to called_then whole answers.
          revealed_at_last taken_again (refl, (refl, tt)) cleared whole
          (subst (λ (s : State). RepresentsStill ready.represents s f)
          (sym (called_then.state ∙ ap (λ (s : State). with_changed s t (with_clearance own.1)) called.state))
          represents) reads answers))

  -- A raw call that the rules refuse, as the flat rules refuse the call, once the thread has taken what it gives up.
  pub given_back_step : (calls : List RawCall) (mid : KernelModel) → Chain old t (all_granted calls) mid
      → (errno : Errno) → refused accounts f me ready.caller.process call ≡ Some errno
      → (own : Levels × Levels) (next : RawCall) (rest : AnswerOf next → Program) (denied : Denied)
      → check (state mid) t next ≡ Some denied → errno_for next denied ≡ Some errno → errno_by_rule denied ≡ Some errno
      → IsDenialNamed accounts f me call old new t ready next
      → check (state mid) t (SetLabel own.0) ≡ None
      → check (with_changed (state mid) t (with_label own.0)) t (SetClearance own.1) ≡ None
      → RepresentsStill ready.represents (own_set t (state mid) own.0 own.1) f
      → AreItsCalls accounts f me call old new t ready
      (all_granted calls ++ (next, Some denied) ∷ all_granted (SetLabel own.0 ∷ SetClearance own.1 ∷ []))
      (Refused errno)
      → Runs M (ask_or_give_back own next rest) mid new t result → Refined
  given_back_step calls mid so_far errno is own next rest denied fails revealed by_rule named label_passes clearance_passes represents reads runs =
      denied_step accounts f me call old new t ready result calls mid so_far next (or_given_back own (errno_for next) rest) denied fails runs
      (λ later called chain on.
      let same = called.state in
      give_back_step calls next denied errno by_rule is named own later chain
      (ap (λ (s : State). check s t (SetLabel own.0)) same ∙ label_passes)
      (ap (λ (s : State). check (with_changed s t (with_label own.0)) t (SetClearance own.1)) same
      ∙ clearance_passes)
      (subst (λ (s : State). RepresentsStill ready.represents (own_set t s own.0 own.1) f) (sym same) represents) reads
      (subst (λ (o : Option Errno). Runs M (gives_back_with own o) later new t result) revealed on))
