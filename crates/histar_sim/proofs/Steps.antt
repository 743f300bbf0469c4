-- A program that is run at a state that represents a flat state: one step a raw call.
use Rattle.std.proofs.Common.{◌≡◌, ℕ, false, List, [], ◌∷◌, ◌++◌, ◌⊎◌, Option, None, Some, Result, Ok, Err, inl, inr, refl, sym, ap, ◌∙◌, subst}
use Rattle.std.proofs.lemmas.List.{map-append, append-nil}
use Rattle.std.specs.Prelude.{IsErr}
use Rattle.histar_flat.specs.declared.calls.UnixCall.{UnixCall}
use Rattle.histar_flat.specs.declared.replies.Errno.{Errno}
use Rattle.histar_flat.specs.declared.replies.Errno.TheVariants.{ENOTDIR}
use Rattle.histar_flat.specs.declared.replies.Reply.{Reply}
use Rattle.histar_flat.specs.declared.replies.Reply.TheVariants.{Refused}
use Rattle.histar_flat.specs.Words.{ProcName}
use Rattle.histar_flat.specs.Accounts.{Accounts}
use Rattle.histar_flat.specs.FlatState.{Flat}
use Rattle.histar_flat.specs.FlatCalls as flat
use Rattle.histar_flat.specs.FlatCalls.{refused, changed, reply_to}
use Rattle.histar_object.specs.State.{State}
use Rattle.histar_rules.specs.declared.raw.Denied.{Denied}
use Rattle.histar_rules.specs.declared.raw.Denied.TheVariants.{TooBig}
use Rattle.histar_rules.specs.declared.raw.RawCall.{RawCall}
use Rattle.histar_rules.specs.Rules.{check, has_number}
use Rattle.histar_syscall.specs.KernelModel.{KernelModel, state, Called, IsUnchanged}
use Rattle.histar_syscall.proofs.Runs.{same_kernel}
use Rattle.histar_layout.specs.Directory.{Entries, IsDirectory}
use Rattle.histar_layout.proofs.DirectoryLemmas.{found_directory}
use Rattle.histar_programs.specs.declared.call_error.Stopped.{Stopped}
use Rattle.histar_programs.specs.Refusals.{errno_for}
use Rattle.histar_programs.specs.Replies.{is_access, is_permission}
use Rattle.histar_programs.specs.Programs.{AnswerOf, IsAnswer, Outcome, Program, Asked, Completes, Begins, Runs}
use Rattle.histar_programs.specs.Programs.Program.{Answers, Asks, Stops}
use Rattle.histar_programs.specs.Parts.{refused_with, or_refused, ask, if_there, list}
use Rattle.histar_refinement.specs.KeptNames.{RepresentsStill}
use Rattle.histar_sim.specs.Simulation.{errno_by_rule, IsSpent, has_category}
use Rattle.histar_sim.proofs.Ready.{Ready}
use Rattle.histar_sim.proofs.Chains.{Step, all_granted, entries_of, Chain, chain_after, granted_broken_off, exhausted_broken_off}
use Rattle.histar_sim.proofs.CallErrors.{FollowsFrom, IsBacked, IsDenialNamed, AreItsCalls, chain_unanswered, granted_refined}
use Rattle.histar_sim.proofs.CallErrors.{unchanged_refined, refused_refined}

-- the call ended here without a reply, since memory ran out
pub record EndsHere (M : Type 0) (old new : KernelModel) (result : Result Reply Stopped) : Type 0 where
  pub because : M
  pub unchanged : IsUnchanged old new
  pub unanswered : IsErr result

-- the program stopped here
record StopsHere (old new : KernelModel) (result : Result Reply Stopped) : Type 0 where
  unchanged : IsUnchanged old new
  unanswered : IsErr result

-- a raw call that was granted, and the rest of the call after it
pub record GoesOnAfter (M : Type 0) (old new : KernelModel) (t : ℕ) (call : RawCall) (rest : Outcome call → Program)
    (result : Result Reply Stopped) : Type 0 where
  pub mid : KernelModel
  pub answer : AnswerOf call
  pub called : Called old mid t call None
  pub right : IsAnswer (state old) t call answer
  pub runs : Runs M (rest (Ok answer)) mid new t result

-- a raw call that was refused, and what its denial made of the call
record IsRefusedAt (M : Type 0) (old new : KernelModel) (t : ℕ) (call : RawCall) (rest : Outcome call → Program) (denied : Denied)
    (result : Result Reply Stopped) : Type 0 where
  mid : KernelModel
  called : Called old mid t call (Some denied)
  runs : Runs M (rest (Err denied)) mid new t result

same_denied : (a b : Denied) → Some a ≡ Some b → a ≡ b
same_denied a b e = cc

-- a call that has only its reply left has replied
pub replied : {M : Type 0} → (t : ℕ) (old new : KernelModel) (reply : Reply) (result : Result Reply Stopped)
    → Runs M (Answers reply) old new t result → IsUnchanged old new × (result ≡ Ok reply)
replied t old new reply (Ok other) runs = (runs.done.0, ap Ok runs.done.1)
replied t old new reply (Err stopped) runs = absurd runs.done

-- a program that stops has no reply
stopped_here : {M : Type 0} → (t : ℕ) (old new : KernelModel) (result : Result Reply Stopped) → Runs M Stops old new t result
    → StopsHere old new result
stopped_here t old new (Ok reply) runs = absurd runs.done
stopped_here t old new (Err stopped) runs = record { unchanged = runs.done; unanswered = refl }

module _ (t : ℕ) (old new : KernelModel) where
  -- bytes that are a directory
  listed_as : {M : Type 0} → (bytes : List ℕ) (dir : Entries) → IsDirectory bytes dir
      → (rest : Entries → Program) (result : Result Reply Stopped) → Runs M (list bytes rest) old new t result
      → EndsHere M old new result ⊎ Runs M (rest dir) old new t result
  listed_as bytes dir is rest (Ok reply) runs =
      inr (record {
        done = subst (λ (o : Option Entries). Completes (if_there ENOTDIR rest o) old new t reply)
            (found_directory bytes runs.done.0 dir runs.done.1 is) runs.done.2;
      })
  listed_as {M} bytes dir is rest (Err stopped) runs = elim runs.done [
    | inl same ↦ inl (record { because = same.0; unchanged = same.1; unanswered = refl })
    | inr goes ↦ inr (record {
      done =
          subst (λ (o : Option Entries). Begins M (if_there ENOTDIR rest o) old new t) (found_directory bytes goes.0 dir goes.1 is) goes.2;
    })
  ]

  module _ (call : RawCall) (rest : Outcome call → Program) where
    -- a raw call was made, with its outcome
    asked_so : {M : Type 0} → (result : Result Reply Stopped) → Runs M (Asks call rest) old new t result
        → EndsHere M old new result
        ⊎ ((mid : KernelModel) × (outcome : Outcome call) × Asked old mid t call outcome
        × Runs M (rest outcome) mid new t result)
    asked_so (Ok reply) runs = let goes = runs.done in inr (goes.0, goes.1, goes.2, record { done = goes.3 })
    asked_so (Err stopped) runs = elim runs.done [
      | inl same ↦ inl (record { because = same.0; unchanged = same.1; unanswered = refl })
      | inr goes ↦ inr (goes.0, goes.1, goes.2, record { done = goes.3 })
    ]

    -- the rules grant it
    pub granted_so : {M : Type 0} → check (state old) t call ≡ None → (result : Result Reply Stopped)
        → Runs M (Asks call rest) old new t result → EndsHere M old new result ⊎ GoesOnAfter M old new t call rest result
    granted_so {M} passes result runs = elim (asked_so result runs) [
      | inl ends ↦ inl ends
      | inr goes ↦ by goes.0 goes.1 goes.2 goes.3
    ]
      where
        by : (mid : KernelModel) (outcome : Outcome call) → Asked old mid t call outcome
            → Runs M (rest outcome) mid new t result → EndsHere M old new result ⊎ GoesOnAfter M old new t call rest result
        by mid (Ok answer) asked runs = inr (record { mid = mid; answer = answer; called = asked.0; right = asked.1; runs = runs })
        by mid (Err denied) asked runs = let k : Some denied ≡ None = sym asked.outcome ∙ passes in absurd cc

    -- the rules refuse it
    refused_so : {M : Type 0} → (denied : Denied) → check (state old) t call ≡ Some denied → (result : Result Reply Stopped)
        → Runs M (Asks call rest) old new t result
        → EndsHere M old new result ⊎ IsRefusedAt M old new t call rest denied result
    refused_so {M} denied fails result runs = elim (asked_so result runs) [
      | inl ends ↦ inl ends
      | inr goes ↦ by goes.0 goes.1 goes.2 goes.3
    ]
      where
        by : (mid : KernelModel) (outcome : Outcome call) → Asked old mid t call outcome
            → Runs M (rest outcome) mid new t result
            → EndsHere M old new result ⊎ IsRefusedAt M old new t call rest denied result
        by mid (Ok answer) asked runs = let k : None ≡ Some denied = sym asked.0.outcome ∙ fails in absurd cc
        by mid (Err other) asked runs =
            let same : other ≡ denied = same_denied other denied (sym asked.outcome ∙ fails) in
            inr (record {
              mid = mid;
              called = subst (λ (d : Denied). Called old mid t call (Some d)) same asked;
              runs = subst (λ (d : Denied). Runs M (rest (Err d)) mid new t result) same runs;
            })

module _ {M : Type 0} (accounts : Accounts) (f : Flat) (me : ProcName) (call : UnixCall)
    (old new : KernelModel) (t : ℕ) (ready : Ready M accounts (state old) f me t) (result : Result Reply Stopped) where
  -- what is to be shown: the call follows its rule
  abbrev pub Goal : Type 0
  Goal = FollowsFrom M accounts f me call old new t ready.represents result

  -- the raw calls so far, each granted
  module _ (calls : List RawCall) (mid : KernelModel) (so_far : Chain old t (all_granted calls) mid) where
    -- the raw calls with one more
    longer : (next : RawCall) (later : KernelModel) → Called mid later t next None → Chain old t (all_granted (calls ++ next ∷ [])) later
    longer next later called =
        subst (λ (steps : List Step). Chain old t steps later)
        (sym (map-append (λ (c : RawCall). (c, None)) calls (next ∷ [])))
        (chain_after t old mid later (all_granted calls) ((next, None) ∷ []) so_far (later, called, same_kernel later))

    -- the raw calls with nothing more
    kept : IsUnchanged mid new → Chain old t (all_granted calls) new
    kept same =
        subst (λ (steps : List Step). Chain old t steps new) (append-nil (all_granted calls))
        (chain_after t old mid new (all_granted calls) [] so_far same)

    -- the call ends here
    ends_here : EndsHere M mid new result → Goal
    ends_here ends = by result ends.unanswered
      where
        chain : Chain old t (all_granted calls) new
        chain = kept ends.unchanged

        by : (r : Result Reply Stopped) → IsErr r → FollowsFrom M accounts f me call old new t ready.represents r
        by (Ok reply) err = absurd cc
        by (Err stopped) err =
            chain_unanswered accounts f me call old new t ready (all_granted calls) chain
            (granted_broken_off t (reply_to accounts f me call) old new old.line calls chain) (inl ends.because)

    -- a raw call that the rules grant, whatever would follow a denial
    pub allowed_step : (next : RawCall) (rest : Outcome next → Program) → check (state mid) t next ≡ None
        → Runs M (Asks next rest) mid new t result
        → ((later : KernelModel) (answer : AnswerOf next) → Called mid later t next None
        → IsAnswer (state mid) t next answer → Chain old t (all_granted (calls ++ next ∷ [])) later
        → Runs M (rest (Ok answer)) later new t result → Goal) → Goal
    allowed_step next rest passes runs go_on = elim (granted_so t mid new next rest passes result runs) [
      | inl ends ↦ ends_here ends
      | inr goes ↦ go_on goes.mid goes.answer goes.called goes.right (longer next goes.mid goes.called) goes.runs
    ]

    -- a granted raw call whose denial would be replied or stop the call
    pub granted_step : (next : RawCall) (rest : AnswerOf next → Program) → check (state mid) t next ≡ None
        → Runs M (ask next rest) mid new t result
        → ((later : KernelModel) (answer : AnswerOf next) → Called mid later t next None
        → IsAnswer (state mid) t next answer → Chain old t (all_granted (calls ++ next ∷ [])) later
        → Runs M (rest answer) later new t result → Goal) → Goal
    granted_step next rest passes runs go_on = allowed_step next (or_refused (errno_for next) rest) passes runs go_on

    -- a raw call that the rules refuse: the call goes on with its denial
    pub denied_step : (next : RawCall) (rest : Outcome next → Program) (denied : Denied)
        → check (state mid) t next ≡ Some denied → Runs M (Asks next rest) mid new t result
        → ((later : KernelModel) → Called mid later t next (Some denied)
        → Chain old t (all_granted calls ++ (next, Some denied) ∷ []) later
        → Runs M (rest (Err denied)) later new t result → Goal) → Goal
    denied_step next rest denied fails runs go_on = elim (refused_so t mid new next rest denied fails result runs) [
      | inl ends ↦ ends_here ends
      | inr end ↦
          go_on end.mid end.called (chain_after t old mid end.mid (all_granted calls) ((next, Some denied) ∷ []) so_far
          (end.mid, end.called, same_kernel end.mid)) end.runs
    ]

    -- bytes that are a directory
    pub listed_step : (bytes : List ℕ) (dir : Entries) → IsDirectory bytes dir → (rest : Entries → Program)
        → Runs M (list bytes rest) mid new t result → (Runs M (rest dir) mid new t result → Goal) → Goal
    listed_step bytes dir is rest runs go_on =
        elim (listed_as t mid new bytes dir is rest result runs) [ inl ends ↦ ends_here ends | inr goes ↦ go_on goes ]

    -- a raw call that the rules refuse since a counter has its greatest value, and that stops the call then
    pub spent_step : (next : RawCall) (rest : Outcome next → Program) → check (state mid) t next ≡ Some TooBig → rest (Err TooBig) ≡ Stops
        → (has_number (state mid) ≡ false) ⊎ (has_category (state mid) ≡ false) → Runs M (Asks next rest) mid new t result → Goal
    spent_step next rest fails stops greatest runs = elim (refused_so t mid new next rest TooBig fails result runs) [
      | inl ends ↦ ends_here ends
      | inr end ↦
          let here = stopped_here t end.mid new result (subst (λ (program : Program). Runs M program end.mid new t result) stops end.runs) in
          let last : Chain mid t ((next, Some TooBig) ∷ []) new = (end.mid, end.called, here.unchanged) in
          let chain = chain_after t old mid new (all_granted calls) ((next, Some TooBig) ∷ []) so_far last in
          by result here.unanswered (chain_unanswered accounts f me call old new t ready
          (all_granted calls ++ (next, Some TooBig) ∷ []) chain (exhausted_broken_off t
          (reply_to accounts f me call) old mid new old.line calls next so_far last greatest)
          (inr (subst IsSpent (sym (here.unchanged.state ∙ end.called.state)) greatest)))
    ]
      where
        by : (r : Result Reply Stopped) → IsErr r → FollowsFrom M accounts f me call old new t ready.represents (Err (record {}))
            → FollowsFrom M accounts f me call old new t ready.represents r
        by (Ok reply) err refined = absurd cc
        by (Err stopped) err refined = refined

    -- a raw call that they refuse since a counter has its greatest value, and whose denial has no errno
    counted_out : (next : RawCall) (rest : AnswerOf next → Program) → check (state mid) t next ≡ Some TooBig → errno_for next TooBig ≡ None
        → (has_number (state mid) ≡ false) ⊎ (has_category (state mid) ≡ false) → Runs M (ask next rest) mid new t result → Goal
    counted_out next rest fails unrevealed greatest runs =
        spent_step next (or_refused (errno_for next) rest) fails (ap refused_with unrevealed) greatest runs

    -- a raw call that makes an object is refused, since the next object has no number
    pub exhausted_step : (next : RawCall) (rest : AnswerOf next → Program) → check (state mid) t next ≡ Some TooBig
        → errno_for next TooBig ≡ None → has_number (state mid) ≡ false → Runs M (ask next rest) mid new t result → Goal
    exhausted_step next rest fails unrevealed greatest runs = counted_out next rest fails unrevealed (inl greatest) runs

    -- a raw call that makes a category is refused, since the next category has no number
    pub exhausted_category_step : (next : RawCall) (rest : AnswerOf next → Program)
        → check (state mid) t next ≡ Some TooBig → errno_for next TooBig ≡ None → has_category (state mid) ≡ false
        → Runs M (ask next rest) mid new t result → Goal
    exhausted_category_step next rest fails unrevealed greatest runs = counted_out next rest fails unrevealed (inr greatest) runs

    module _ (stays : state mid ≡ state old) (errno : Errno)
        (is : refused accounts f me ready.caller.process call ≡ Some errno) where
      -- a raw call that the rules refuse, as the flat rules refuse the call, and that is on what their reason names
      pub refused_step : (next : RawCall) (rest : AnswerOf next → Program) (denied : Denied)
          → check (state mid) t next ≡ Some denied → errno_for next denied ≡ Some errno → errno_by_rule denied ≡ Some errno
          → IsDenialNamed accounts f me call old new t ready next
          → AreItsCalls accounts f me call old new t ready (all_granted calls ++ (next, Some denied) ∷ [])
          (Refused errno) → Runs M (ask next rest) mid new t result → Goal
      refused_step next rest denied fails revealed by_rule named reads runs =
          elim (refused_so t mid new next (or_refused (errno_for next) rest) denied fails result runs) [
            | inl ends ↦ ends_here ends
            | inr end ↦
                let said =
                replied t end.mid new (Refused errno) result
                (subst (λ (o : Option Errno). Runs M (refused_with o) end.mid new t result) revealed end.runs) in
                let chain = chain_after t old mid new (all_granted calls) ((next, Some denied) ∷ []) so_far (end.mid, end.called, said.0) in
                subst (FollowsFrom M accounts f me call old new t ready.represents) (sym said.1)
                (refused_refined accounts f me call old new t ready (said.0.state ∙ end.called.state ∙ stays)
                calls next denied chain errno by_rule is named reads)
          ]

      -- a call that is refused with no further raw call
      pub refused_at_once : is_access errno ≡ false → is_permission errno ≡ false
          → AreItsCalls accounts f me call old new t ready (all_granted calls) (Refused errno)
          → Runs M (Answers (Refused errno)) mid new t result → Goal
      refused_at_once no_access no_permission reads runs =
          let end = replied t mid new (Refused errno) result runs in
          subst (FollowsFrom M accounts f me call old new t ready.represents) (sym end.1)
          (unchanged_refined accounts f me call old new t ready (end.0.state ∙ stays) calls
          (kept end.0) errno no_access no_permission is reads)

    -- a call that replies what the flat rules answer
    pub answered_step : (reply : Reply) → reply ≡ flat.answer f me ready.caller.process call
        → refused accounts f me ready.caller.process call ≡ None
        → IsBacked (state old) (entries_of old.line t (all_granted calls)) (flat.answer f me ready.caller.process call)
        → AreItsCalls accounts f me call old new t ready (all_granted calls)
        (flat.answer f me ready.caller.process call)
        → RepresentsStill ready.represents (state mid) (changed accounts f me ready.caller.process call)
        → Runs M (Answers reply) mid new t result → Goal
    answered_step reply said is backed reads still runs =
        let end = replied t mid new reply result runs in
        subst (FollowsFrom M accounts f me call old new t ready.represents) (sym (end.1 ∙ ap Ok said))
        (granted_refined accounts f me call old new t ready calls (kept end.0) is backed reads
        (subst (λ (s : State). RepresentsStill ready.represents s (changed accounts f me ready.caller.process call)) (sym end.0.state) still))
