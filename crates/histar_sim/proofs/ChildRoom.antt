-- Room for a child: the name has fewer than 8 numbers, the process's own segment is read, and fewer than 64 children were born; or the call is
-- refused.
use Rattle.std.proofs.Common.{◌≡◌, ℕ, Bool, true, false, List, [], ◌∷◌, ◌++◌, length, Option, None, Some, Result, refl, sym, ap, ◌∙◌, subst}
use Rattle.std.proofs.Common.{if◌then◌else◌}
use Rattle.std.specs.Prelude.{nat_lt}
use Rattle.std.proofs.lemmas.Option.{same_Some}
use Rattle.histar_base.specs.Refusals.{◌orelse◌, unless}
use Rattle.histar_flat.specs.declared.calls.UnixCall.{UnixCall}
use Rattle.histar_flat.specs.declared.replies.Errno.{Errno}
use Rattle.histar_flat.specs.declared.replies.Errno.TheVariants.{EAGAIN, ESRCH}
use Rattle.histar_flat.specs.declared.replies.Reply.{Reply}
use Rattle.histar_flat.specs.declared.replies.Reply.TheVariants.{Refused}
use Rattle.histar_flat.specs.Words.{ProcName, most_children, most_numbers}
use Rattle.histar_flat.specs.Accounts.{Accounts}
use Rattle.histar_flat.specs.Classes.{Process}
use Rattle.histar_flat.specs.FlatState.{Flat}
use Rattle.histar_flat.specs.FlatCalls.{refused}
use Rattle.histar_flat.proofs.CommonNeeds.{no_child}
use Rattle.histar_level.specs.Levels.{Levels}
use Rattle.histar_label.specs.Levels.{is_below_raised}
use Rattle.histar_object.specs.Objects.{bytes_in, is_thread, label_there, clearance_there}
use Rattle.histar_object.specs.State.{State}
use Rattle.histar_rules.specs.declared.raw.Denied.TheVariants.{NoThread, Observe}
use Rattle.histar_rules.specs.declared.raw.RawCall.{RawCall}
use Rattle.histar_rules.specs.declared.raw.RawCall.TheVariants.{OwnLabel, Read}
use Rattle.histar_rules.specs.Rules.{check}
use Rattle.histar_syscall.specs.KernelModel.{KernelModel, state}
use Rattle.histar_syscall.proofs.Runs.{same_kernel}
use Rattle.histar_layout.specs.Status.{ProcessStatus, status_in}
use Rattle.histar_programs.specs.declared.call_error.Stopped.{Stopped}
use Rattle.histar_programs.specs.Programs.{Program, Runs}
use Rattle.histar_programs.specs.Parts.{ask, given, if_there}
use Rattle.histar_programs.specs.declared.caller.Caller.{Caller}
use Rattle.histar_programs.specs.Caller.{caller_at}
use Rattle.histar_process.specs.Parts.{read_status}
use Rattle.histar_process.specs.SpawnCall.{must_have_room, room_for_child}
use Rattle.histar_programs.specs.Start.{roots_of}
use Rattle.histar_refinement.specs.Guards.{guard_label, rights_label, rights_clearance}
use Rattle.histar_refinement.specs.Labels.{process_guard, thread_rights}
use Rattle.histar_refinement.specs.Addresses.{home_address}
use Rattle.histar_refinement.specs.Addresses.Step.{Status, Inside, Runner}
use Rattle.histar_refinement.specs.Represents.{ObjectsMatch}
use Rattle.histar_refinement.specs.Laws.{IsCallerOf}
use Rattle.histar_refinement.specs.Processes.{or_zero, process_bytes, status_by}
use Rattle.histar_refinement.proofs.CallerFound.{caller_found, status_held}
use Rattle.histar_refinement.proofs.ClassTests.{sees_process}
use Rattle.histar_refinement.proofs.MakingRanges.{all_known}
use Rattle.histar_refinement.proofs.RawChecks.{read_check}
use Rattle.histar_refinement.proofs.StatusFound.{thread_back}
use Rattle.histar_sim.specs.RawCalls.{Request, home_of, plain, reads_status, requests_of, with_room}
use Rattle.histar_sim.proofs.Requests.{AreLeft, all_made}
use Rattle.histar_sim.proofs.Ready.{Ready}
use Rattle.histar_sim.proofs.ReadsByCall.{HasReadsByCall}
use Rattle.histar_sim.proofs.Chains.{Step, all_granted, entries_of, Chain}
use Rattle.histar_sim.proofs.Steps.{Goal, granted_step, refused_at_once}
use Rattle.histar_sim.proofs.BirthObjects.{Around}
use Rattle.histar_sim.proofs.BirthRights.{around_before}

-- what the flat rules say of a call that needs room for a child: they refuse it first where there is none, and then it needs no reads
pub record NeedsChild (accounts : Accounts) (f : Flat) (me : ProcName) (p : Process) (call : UnixCall) (behind : Option Errno) : Type 0 where
  pub refuses : refused accounts f me p call ≡ (no_child me p orelse behind)
  pub reads : (steps : List Step) (line t : ℕ) (s : State) → HasReadsByCall accounts s f p call (Refused EAGAIN) (entries_of line t steps)

module _ {M : Type 0} (accounts : Accounts) (me : ProcName) (caller : Caller) (old new : KernelModel) (f : Flat) (result : Result Reply Stopped)
    (ready : Ready M accounts (state old) f me caller.thread)
    (found : caller_at (state old) (roots_of (length accounts.users)).home me ≡ Some caller) where
  abbrev t : ℕ
  t = caller.thread

  abbrev p : Process
  p = ready.caller.process

  abbrev l : ObjectsMatch accounts (state old) f
  l = ready.represents.matched

  -- the caller is found in the state
  is_caller : (q : Process) × IsCallerOf accounts (state old) f l me q caller
  is_caller = caller_found accounts (state old) f l me caller found

  pub at_home : l.naming.number (home_address me) ≡ Some caller.home.container
  at_home = is_caller.1.home

  pub at_status : l.naming.number (Status ∷ home_address me) ≡ Some caller.home.segment
  at_status = is_caller.1.segment

  pub at_thread : l.naming.number (Runner ∷ Inside ∷ home_address me) ≡ Some t
  at_thread = (thread_back accounts (state old) f l me t ready.thread).3

  -- the own label and clearance of the process's thread, and the status in its segment
  abbrev pub own_of : Levels
  own_of = rights_label l.category (thread_rights accounts me p)

  abbrev pub own_clearance_of : Levels
  own_clearance_of = rights_clearance l.category (thread_rights accounts me p)

  abbrev home_label : Levels
  home_label = guard_label l.category (process_guard me p)

  abbrev held : List ℕ
  held = process_bytes f.processes l.naming.number me p

  abbrev pub status_of : ProcessStatus
  status_of = status_by f.processes l.naming.number me p

  -- the raw call that reads the process's own segment
  abbrev pub reads : RawCall
  reads = Read caller.home.container caller.home.segment

  -- the objects around the process
  pub around : Around t caller.home.container caller.home.segment own_of own_clearance_of home_label held (state old)
  around =
      around_before accounts (state old) f l me p ready.caller.agrees ready.caller.runs caller.home.container
      caller.home.segment at_home at_status t at_thread

  -- the thread sees its own container
  seen : is_below_raised home_label own_of ≡ true
  seen = sees_process accounts me p l.category l.different me p ∙ all_known p

  status_revealed : status_in (bytes_in ((state old).objects caller.home.segment)) ≡ Some status_of
  status_revealed =
      ap (λ (q : ℕ). status_in (bytes_in ((state old).objects q))) (sym (ap or_zero at_status))
      ∙ status_held accounts (state old) f l me p ready.caller.agrees

  -- where the process is found by the names of its objects
  pub home_is : home_of accounts ready.represents.matched me ≡ caller.home
  home_is = λ i. record { container = or_zero (at_home i); segment = or_zero (at_status i) }

  read_said : check (state old) t reads ≡ None
  read_said =
      read_check (state old) t own_of own_clearance_of around.thread caller.home.container home_label around.home.0
      around.home.1 seen caller.home.segment around.home.2 home_label held around.segment
      ∙ ap (λ (b : Bool). unless b Observe) seen

  -- the thread asks for its own labels
  pub own_label_step : (call : UnixCall) (calls : List RawCall) (mid : KernelModel)
      → Chain old t (all_granted calls) mid → state mid ≡ state old → (rest : Levels × Levels → Program)
      → Runs M (ask OwnLabel rest) mid new t result
      → ((after : KernelModel) → Chain old t (all_granted (calls ++ OwnLabel ∷ [])) after → state after ≡ state old
      → Runs M (rest (own_of, own_clearance_of)) after new t result
      → Goal accounts f me call old new t ready result)
      → Goal accounts f me call old new t ready result
  own_label_step call calls mid chain stays rest runs go_on =
      granted_step accounts f me call old new t ready result calls mid chain OwnLabel rest
      (ap (λ (s : State). check s t OwnLabel) stays ∙ λ i. unless (is_thread (around.thread i)) NoThread) runs
      (λ after revealed called reveals longer goes.
      let label = reveals.0 ∙ ap (λ (s : State). label_there (s.objects t)) stays ∙ ap label_there around.thread in
      let clearance = reveals.1 ∙ ap (λ (s : State). clearance_there (s.objects t)) stays ∙ ap clearance_there around.thread in
      let revealed_is : revealed ≡ (own_of, own_clearance_of) =
      λ i. (same_Some revealed.0 own_of label i, same_Some revealed.1 own_clearance_of clearance i) in
      go_on after longer (called.state ∙ stays) (subst (λ (x : Levels × Levels). Runs M (rest x) after new t result) revealed_is goes))

  module _ (call : UnixCall) (behind : Option Errno) (needs : NeedsChild accounts f me p call behind) (after : List Request)
      (asks : requests_of accounts ready.represents.matched me ready.caller.process call
      ≡ with_room accounts ready.represents.matched me ready.caller.process after)
      (rest : ProcessStatus → Program) where
    abbrev Refined : Type 0
    Refined = Goal accounts f me call old new t ready result

    -- the call goes on with room for a child
    abbrev pub GoesOn : Type 0
    GoesOn =
        nat_lt (length me) most_numbers ≡ true → nat_lt p.born most_children ≡ true → (mid : KernelModel)
        → Chain old t (all_granted (reads ∷ [])) mid → state mid ≡ state old
        → AreLeft (requests_of accounts ready.represents.matched me ready.caller.process call) (reads ∷ []) after
        → Runs M (rest status_of) mid new t result → Refined

    -- what the flat rules refuse
    refused_is : (born long : Bool) → nat_lt p.born most_children ≡ born → nat_lt (length me) most_numbers ≡ long
        → refused accounts f me p call ≡ ((unless born EAGAIN orelse unless long EAGAIN) orelse behind)
    refused_is born long is_born is_long = needs.refuses ∙ λ i. (unless (is_born i) EAGAIN orelse unless (is_long i) EAGAIN) orelse behind

    -- a refusal and the same refusal after it are the refusal
    either_again : (b : Bool) → ((unless b EAGAIN orelse Some EAGAIN) orelse behind) ≡ Some EAGAIN
    either_again true = refl
    either_again false = refl

    abbrev with_status : ProcessStatus → Program
    with_status revealed = given (must_have_room (nat_lt revealed.born most_children)) (λ _. rest revealed)

    -- what is left once the process's own segment is read
    left_read : (b : Bool) → nat_lt p.born most_children ≡ b → nat_lt (length me) most_numbers ≡ true
        → AreLeft (requests_of accounts ready.represents.matched me ready.caller.process call) (reads ∷ []) (if b then after else [])
    left_read b is long =
        asks ∙ λ i. if long i then plain (Read (home_is i).container (home_is i).segment ∷ []) ++ (if is i then after else []) else []

    -- the process has 64 children, or there is room
    by_born : (b : Bool) → nat_lt p.born most_children ≡ b → nat_lt (length me) most_numbers ≡ true
        → (mid : KernelModel) → Chain old t (all_granted (reads ∷ [])) mid → state mid ≡ state old
        → Runs M (given (must_have_room b) (λ _. rest status_of)) mid new t result → GoesOn → Refined
    by_born false is long mid chain stays runs go_on =
        refused_at_once accounts f me call old new t ready result (reads ∷ []) mid chain stays
        EAGAIN (refused_is false true is long) refl refl
        (needs.reads (all_granted (reads ∷ [])) old.line t (state old), all_made _ old.line t (reads ∷ []) (left_read false is long)) runs
    by_born true is long mid chain stays runs go_on = go_on long is mid chain stays (left_read true is long) runs

    -- the process's own segment is read
    abbrev with_bytes : List ℕ → Program
    with_bytes bytes = if_there ESRCH with_status (status_in bytes)

    read : nat_lt (length me) most_numbers ≡ true → Runs M (ask reads with_bytes) old new t result → GoesOn → Refined
    read long runs go_on =
        granted_step accounts f me call old new t ready result [] old (same_kernel old) reads with_bytes read_said runs
        (λ later bytes called right longer goes.
        by_born (nat_lt p.born most_children) refl long later longer called.state
        (subst (λ (o : Option ProcessStatus). Runs M (if_there ESRCH with_status o) later new t result)
        (ap status_in right ∙ status_revealed) goes) go_on)

    -- the name has 8 numbers, or there is room
    by_length : (b : Bool) → nat_lt (length me) most_numbers ≡ b
        → Runs M (given (must_have_room b) (λ _. read_status caller.home with_status)) old new t result → GoesOn → Refined
    unfolding read_status
    by_length false is runs go_on =
        refused_at_once accounts f me call old new t ready result [] old (same_kernel old) refl EAGAIN
        (refused_is (nat_lt p.born most_children) false refl is ∙ either_again (nat_lt p.born most_children)) refl refl (
          needs.reads [] old.line t (state old),
          all_made _ old.line t [] (asks ∙ ap (λ (b : Bool).
              if b then plain (reads_status accounts ready.represents.matched me ∷ []) ++ (if nat_lt p.born most_children then after else [])
              else []) is),
        ) runs
    by_length true is runs go_on = read is runs go_on

    -- There is room for a child, or the call is refused.
    pub child_room_step : Runs M (room_for_child me caller.home rest) old new t result → GoesOn → Refined
    child_room_step runs go_on = by_length (nat_lt (length me) most_numbers) refl runs go_on
