-- A wrap refines its rule: it is refused as the flat rules say, and then what the thread took is given up; or the container of its
-- scratch directory is made, and the job is begun.
use Rattle.std.proofs.Common.{◌≡◌, ℕ, ◌+◌, inl, Bool, true, false, List, [], ◌∷◌, ◌++◌, length, Option, None, Some, Result, refl, sym, ap, ◌∙◌, subst}
use Rattle.std.specs.Prelude.{IsTrue, is_some, nat_lt, not}
use Rattle.std.specs.FinMap as finite
use Rattle.histar_base.specs.Refusals.{◌orelse◌, unless}
use Rattle.histar_flat.specs.declared.calls.UnixCall.TheVariants.{Wrap}
use Rattle.histar_flat.specs.declared.replies.Errno.{Errno}
use Rattle.histar_flat.specs.declared.replies.Errno.TheVariants.{EACCES, EPERM, EAGAIN}
use Rattle.histar_flat.specs.declared.replies.Reply.{Reply}
use Rattle.histar_flat.specs.declared.replies.Reply.TheVariants.{Child, Refused}
use Rattle.histar_flat.specs.Words.{Name, Path, ProcName, is_name, is_path, most_children, most_numbers}
use Rattle.histar_base.specs.Paths.{same}
use Rattle.histar_level.specs.Levels.{Levels}
use Rattle.histar_level.specs.declared.level.Level.TheVariants.{Star, L3}
use Rattle.histar_label.specs.Levels.{with_level}
use Rattle.histar_flat.specs.Accounts.{Accounts, user_number}
use Rattle.histar_flat.specs.Classes.{Process, nobody, may_write}
use Rattle.histar_flat.specs.Files.{get}
use Rattle.histar_flat.specs.FlatState.{Flat, entries_in, into}
use Rattle.histar_flat.specs.FlatCalls.{most_entries, refused}
use Rattle.histar_flat.specs.Needs.{room as room_needed}
use Rattle.histar_flat.proofs.CommonNeeds.{no_room}
use Rattle.histar_reasons.specs.Reasons.{why_need}
use Rattle.histar_reasons.specs.Reasons.Reason.{HadChildren, HasNumbers, StartsNoJob}
use Rattle.histar_rules.specs.Rights.{with_category, with_label, with_changed}
use Rattle.histar_object.specs.State.{State, with_object}
use Rattle.histar_rules.specs.declared.raw.Denied.{Denied}
use Rattle.histar_rules.specs.declared.raw.Denied.TheVariants.{Modify, Range, TooBig}
use Rattle.histar_rules.specs.declared.raw.RawCall.{RawCall}
use Rattle.histar_rules.specs.declared.raw.RawCall.TheVariants.{MakeCategory, MakeContainer, OwnLabel, SetLabel, SetClearance, MakeSegment}
use Rattle.histar_rules.specs.Rules.{check, has_number}
use Rattle.histar_syscall.specs.KernelModel.{KernelModel, state}
use Rattle.histar_trace.specs.declared.entries.TraceEntry.{TraceEntry}
use Rattle.histar_layout.specs.Status.{ProcessStatus}
use Rattle.histar_layout.specs.declared.entry.Target.TheVariants as targets
use Rattle.histar_programs.specs.declared.call_error.Stopped.{Stopped}
use Rattle.histar_programs.specs.declared.find.Room.{Room}
use Rattle.histar_programs.specs.Refusals.{errno_for}
use Rattle.histar_programs.specs.Programs.{Program, Runs}
use Rattle.histar_programs.specs.Programs.Program.{Answers}
use Rattle.histar_programs.specs.Parts.{ask, find_room}
use Rattle.histar_programs.specs.declared.caller.Caller.{Caller}
use Rattle.histar_process.specs.Birth.{birth}
use Rattle.histar_programs.specs.Caller.{caller_at}
use Rattle.histar_programs.specs.Start.{roots_of}
use Rattle.histar_wrap.specs.Scratch.{ask_or_give_back, directory_label, hold_job, kin_in, make_scratch, or_given_back}
use Rattle.histar_wrap.specs.WrapCall.{wrap_program}
use Rattle.histar_refinement.specs.Accounts.{AreAccounts}
use Rattle.histar_refinement.specs.KeptNames.{RepresentsStill}
use Rattle.histar_refinement.proofs.Beside.{own_set}
use Rattle.histar_refinement.proofs.AccountLemmas.{not_nobody as declared_is_other}
use Rattle.histar_refinement.proofs.Agreeing.{some_of}
use Rattle.histar_refinement.proofs.WrapRefused.{still_refused}
use Rattle.histar_programs.specs.declared.roots.Home.{Home}
use Rattle.histar_sim.specs.Simulation.{errno_by_rule, has_category}
use Rattle.histar_sim.specs.RawCalls.{Request, births_at, home_of, in_directory, plain, requests_of, starts_job, takes_own}
use Rattle.histar_sim.specs.RawCalls.{unless_refused, writes_entries}
use Rattle.histar_sim.proofs.Requests.{AreLeft, request, left_after, left_allowed, left_by_denial, left_granted, left_then, of_denial, made_to_denial}
use Rattle.histar_sim.proofs.Ready.{Ready}
use Rattle.histar_sim.specs.Reads.{AreAmong}
use Rattle.histar_sim.proofs.CallErrors.{IsDenialNamed, from_each}
use Rattle.histar_sim.proofs.ReadsByCall.{HasWalk, HasWalkUnlessFull}
use Rattle.histar_sim.proofs.Chains.{all_granted, entries_of, Chain}
use Rattle.histar_sim.proofs.Steps.{Goal, allowed_step, spent_step}
use Rattle.histar_sim.proofs.Walks.{walk_reads, among_granted_behind, among_then, among_also}
use Rattle.histar_sim.proofs.FoundObjects.{container, directory_class, is_nobody, thread}
use Rattle.histar_sim.proofs.FoundRoom.{NeedsRoom, slash_agrees, the_room, has_reads, refused_in_room, unwritten_named, unmade_named, room_step}
use Rattle.histar_sim.proofs.NewEntries.{last_name}
use Rattle.histar_sim.proofs.BirthChecks.{category_said}
use Rattle.histar_sim.proofs.BirthSteps.{category_step}
use Rattle.histar_sim.proofs.ChildRoom.{NeedsChild, own_of, own_clearance_of, status_of, reads, at_thread, child_room_step, own_label_step}
use Rattle.histar_sim.proofs.ChildRoom.{home_is}
use Rattle.histar_sim.specs.Laws.{WrapRefines}
use Rattle.histar_sim.proofs.GivenBack.{given_back_step}
use Rattle.histar_sim.proofs.GrantedWrap as granted
use Rattle.histar_sim.proofs.GrantedWrap.{job_begun}
use Rattle.histar_sim.proofs.ScratchChecks.{set_label_said, set_clearance_said, scratch_said}

-- a wrap that has the reads of the walk has those that it cannot do without
walk_unless_full : (accounts : Accounts) (s : State) (f : Flat) (p : Process) (q : Path) (reply : Reply)
    (entries : List TraceEntry) → HasWalk accounts s f p q entries → HasWalkUnlessFull accounts s f p q reply entries
walk_unless_full accounts s f p q (Refused EAGAIN) entries walk = tt
walk_unless_full accounts s f p q (Refused errno) entries walk = walk
walk_unless_full accounts s f p q reply entries walk = walk

module _ {M : Type 0} (accounts : Accounts) (ok : AreAccounts accounts) (me : ProcName) (caller : Caller) (old new : KernelModel)
    (f : Flat) (result : Result Reply Stopped)
    (ready : Ready M accounts (state old) f me caller.thread)
    (found : caller_at (state old) (roots_of (length accounts.users)).home me ≡ Some caller) where
  abbrev t : ℕ
  t = caller.thread

  abbrev p : Process
  p = ready.caller.process

  abbrev own : Levels
  own = own_of accounts me caller old new f result ready found

  abbrev clearance : Levels
  clearance = own_clearance_of accounts me caller old new f result ready found

  abbrev status : ProcessStatus
  status = status_of accounts me caller old new f result ready found

  -- after the room for a child and for an entry, a wrap needs a declared user
  abbrev not_nobody : Option Errno
  not_nobody = unless (not (same p.user nobody)) EPERM

  -- a wrap first needs room for a child
  needs_child : (q : Path) → NeedsChild accounts f me p (Wrap q) (no_room accounts f p q orelse not_nobody)
  needs_child q = record { refuses = refl; reads = λ steps line t s. tt }

  -- the raw call that this takes
  abbrev first : List RawCall
  first = reads accounts me caller old new f result ready found ∷ []

  -- ---- the program

  abbrev in_job : ProcessStatus → Levels × Levels → Room → ℕ → Program
  in_job revealed labels room job =
      make_scratch labels (directory_label accounts labels.0 job) room
      (λ _. birth caller.home revealed (kin_in accounts labels.0 job)
      (λ _. hold_job labels job (λ _. Answers (Child ((revealed.born + 1) ∷ me)))))

  abbrev with_labels : ProcessStatus → Room → Levels × Levels → Program
  with_labels revealed room labels = ask MakeCategory (in_job revealed labels room)

  abbrev with_room : ProcessStatus → Room → Program
  with_room revealed room = ask OwnLabel (with_labels revealed room)

  abbrev with_child : Path → ProcessStatus → Program
  with_child q revealed = find_room (roots_of (length accounts.users)) q (with_room revealed)

  module _ (long : nat_lt (length me) most_numbers ≡ true) (few : nat_lt p.born most_children ≡ true) where
    -- a wrap then needs room for an entry
    needs_room : (q : Path) → NeedsRoom accounts f me p q (Wrap q) not_nobody
    needs_room q = record {
      refuses = λ i. (unless (few i) EAGAIN orelse unless (long i) EAGAIN) orelse no_room accounts f p q orelse not_nobody;
      path = refl;
      named = unless (not (same p.user nobody)) StartsNoJob;
      explains =
          λ i. (unless (few i) (HadChildren p.born) orelse unless (long i) (HasNumbers (length me + 1)))
          orelse why_need accounts f me p q room_needed orelse unless (not (same p.user nobody)) StartsNoJob;
      reads = λ s reply entries walk. walk_unless_full accounts s f p q reply entries walk;
    }

    module _ (m : Name) (named : IsTrue (is_name m)) (d : Path) where
      abbrev Refined : Type 0
      Refined = Goal accounts f me (Wrap (m ∷ d)) old new t ready result

      abbrev walk : List RawCall
      walk = walk_reads accounts ok (state old) f me t ready d

      abbrev room : Room
      room = the_room accounts ok (state old) f me t ready d m

      -- the raw calls up to the make call
      abbrev before : List RawCall
      before = ((first ++ walk) ++ OwnLabel ∷ []) ++ MakeCategory ∷ []

      -- ---- the container of the scratch directory is made

      abbrev job : ℕ
      job = (state old).next_category

      abbrev next : RawCall
      next = MakeContainer (container accounts ok (state old) f me t ready d) (directory_label accounts own job)

      -- what is left after the walk, and of it from the make call on
      abbrev requests : List Request
      requests = requests_of accounts ready.represents.matched me p (Wrap (m ∷ d))

      abbrev starts : List Request
      starts = starts_job accounts ready.represents.matched me p d m

      abbrev made : Request
      made = record { call = next; if_denied = takes_own accounts ready.represents.matched me p }

      abbrev after_made : Home → List RawCall
      after_made home =
          MakeSegment (state old).next_object (directory_label accounts own job) []
          ∷ writes_entries accounts ready.represents.matched d (finite.insert room.entries m
          (targets.Directory (state old).next_object ((state old).next_object + 1)))
          ∷ births_at home status (kin_in accounts own job) (job + 1) ((state old).next_object + 1 + 1)
          ++ SetLabel (with_level own job Star) ∷ SetClearance (with_level clearance job L3) ∷ []

      abbrev made_on : Home → List Request
      made_on home = made ∷ plain (after_made home)

      left_before : AreLeft requests (first ++ walk) starts → AreLeft requests before (made_on caller.home)
      left_before left =
          subst (λ (home : Home). AreLeft requests before (made_on home)) (home_is accounts me caller old new f result ready found)
          (left_then requests ((first ++ walk) ++ OwnLabel ∷ []) MakeCategory (made_on (home_of accounts ready.represents.matched me))
          (left_then requests (first ++ walk) OwnLabel
          (request MakeCategory ∷ made_on (home_of accounts ready.represents.matched me)) left))

      among_before : AreAmong walk (entries_of old.line t (all_granted before))
      among_before =
          among_then old.line t walk ((first ++ walk) ++ OwnLabel ∷ []) (MakeCategory ∷ [])
          (among_then old.line t walk (first ++ walk) (OwnLabel ∷ []) (among_granted_behind old.line t first walk))

      -- what is left of the program once the container has a number
      abbrev within : ℕ → Program
      within = granted.within accounts ok me caller old new f result ready found m named d

      module _ (open_so_far : into accounts f p d ≡ None) (absent : get f.files (m ∷ d) ≡ None)
          (roomy : nat_lt (length (entries_in f d)) most_entries ≡ true)
          (mid : KernelModel) (counted : state mid ≡ with_category (state old) t) (chain : Chain old t (all_granted before) mid)
          (left : AreLeft requests (first ++ walk) (unless_refused (refused accounts f me p (Wrap (m ∷ d))) starts)) where
        -- the directory above may be written
        abbrev may : Bool
        may = may_write accounts p (directory_class accounts ok (state old) f me t ready d open_so_far)

        refused_is : (can : Bool) → may ≡ can → refused accounts f me p (Wrap (m ∷ d)) ≡ (unless can EACCES orelse not_nobody)
        refused_is can is =
            refused_in_room accounts ok old new f me t ready m d (Wrap (m ∷ d)) result not_nobody (needs_room (m ∷ d))
            open_so_far absent roomy can is

        -- the raw call is on what the reason names: the directory above, where it may not be written, and where nobody starts a job in it
        above_unwritten : may ≡ false → IsDenialNamed accounts f me (Wrap (m ∷ d)) old new t ready next
        above_unwritten fails =
            unwritten_named accounts ok old new f me t ready m d (Wrap (m ∷ d)) result not_nobody (needs_room (m ∷ d)) open_so_far absent roomy
            next refl fails

        starts_no_job : may ≡ true → is_some (user_number accounts p.user) ≡ false
            → IsDenialNamed accounts f me (Wrap (m ∷ d)) old new t ready next
        unfolding needs_room
        starts_no_job passes undeclared =
            unmade_named accounts ok old new f me t ready m d (Wrap (m ∷ d)) result not_nobody (needs_room (m ∷ d)) open_so_far absent roomy
            next refl passes StartsNoJob
            (ap (λ (b : Bool). unless (not b) StartsNoJob) (is_nobody accounts ok (state old) f me t ready undeclared)) (λ makes. makes)

        -- the raw call is refused, and so is the Unix call
        given_back : (denied : Denied) (errno : Errno) → check (state mid) t next ≡ Some denied
            → errno_for next denied ≡ Some errno → errno_by_rule denied ≡ Some errno
            → IsDenialNamed accounts f me (Wrap (m ∷ d)) old new t ready next
            → refused accounts f me p (Wrap (m ∷ d)) ≡ Some errno
            → Runs M (ask_or_give_back (own, clearance) next within) mid new t result → Refined
        given_back denied errno fails revealed by_rule named is on =
            given_back_step accounts f me (Wrap (m ∷ d)) old new t ready result before mid chain
            errno is (own, clearance) next within denied fails revealed by_rule named
            (ap (λ (s : State). check s t (SetLabel own)) counted ∙ set_label_said accounts ok (state old) f me t ready)
            (ap (λ (s : State). check (with_changed s t (with_label own)) t (SetClearance clearance)) counted
            ∙ set_clearance_said accounts ok (state old) f me t ready)
            (subst (λ (s : State). RepresentsStill ready.represents (own_set t s own clearance) f) (sym counted)
            (still_refused accounts (state old) f ready.represents me p ready.caller.agrees
            ready.caller.runs t (at_thread accounts me caller old new f result ready found))) (
              has_reads accounts ok old new f me t ready m d (Wrap (m ∷ d)) result not_nobody (needs_room (m ∷ d))
                  (all_granted before ++ (next, Some denied) ∷ all_granted (SetLabel own ∷ SetClearance clearance ∷ []))
                  (Refused errno)
                  (among_also old.line t walk before ((next, Some denied) ∷ all_granted (SetLabel own ∷ SetClearance clearance ∷ []))
                  among_before),
              made_to_denial requests old.line t before made _ denied
                  (left_before (left_by_denial requests (first ++ walk) _ errno starts is (of_denial denied errno by_rule) left)),
            ) on

        -- by what the kernel says
        by_right : (can declared has : Bool) → may ≡ can → is_some (user_number accounts p.user) ≡ declared → has_number (state old) ≡ has
            → check (state mid) t next ≡ (unless can Modify orelse unless declared Range orelse unless has TooBig)
            → Runs M (ask_or_give_back (own, clearance) next within) mid new t result → Refined
        by_right false declared has is_may is_declared is_has said on =
            given_back Modify EACCES said refl refl (above_unwritten is_may) (refused_is false is_may) on
        by_right true false has is_may is_declared is_has said on =
            given_back Range EPERM said refl refl (starts_no_job is_may is_declared) (refused_is true is_may
            ∙ ap (λ (b : Bool). unless (not b) EPERM)
            (is_nobody accounts ok (state old) f me t ready is_declared)) on
        by_right true true false is_may is_declared is_has said on =
            spent_step accounts f me (Wrap (m ∷ d)) old new t ready result before mid chain next
            (or_given_back (own, clearance) (errno_for next) within) said refl
            (inl (ap has_number counted ∙ is_has)) on
        by_right true true true is_may is_declared is_has said on =
            allowed_step accounts f me (Wrap (m ∷ d)) old new t ready result before mid chain next
            (or_given_back (own, clearance) (errno_for next) within) said on
            (λ linked number called number_is longer rest.
            let user = some_of (user_number accounts p.user) is_declared in
            job_begun accounts ok me caller old new f result ready found m named d long few open_so_far absent roomy
            is_may user.0 user.1 is_has (before ++ next ∷ [])
            (among_then old.line t walk before (next ∷ []) among_before)
            (left_granted requests before made (after_made caller.home) (left_before (left_allowed requests (first ++ walk) _ starts
            (refused_is true is_may ∙ ap (λ (b : Bool). unless (not b) EPERM) (declared_is_other accounts ok p.user user.0 user.1)) left))) linked
            (called.state
            ∙ ap (λ (s : State). with_object s room.place.container
            (granted.container accounts ok me caller old new f result ready found m named d)) counted)
            longer
            (subst (λ (q : ℕ). Runs M (within q) linked new t result) (number_is ∙ ap (λ (s : State). s.next_object) counted) rest))

        made_step : Runs M (in_job status (own, clearance) room job) mid new t result → Refined
        unfolding make_scratch
        made_step on =
            by_right may (is_some (user_number accounts p.user)) (has_number (state old)) refl refl refl
            (ap (λ (s : State). check s t next) counted
            ∙ scratch_said accounts ok (state old) f me t ready d open_so_far) on

      -- ---- there is room

      roomed : AreLeft requests (first ++ walk) (unless_refused (refused accounts f me p (Wrap (m ∷ d))) starts)
          → (open_so_far : into accounts f p d ≡ None) → get f.files (m ∷ d) ≡ None
          → nat_lt (length (entries_in f d)) most_entries ≡ true
          → (mid : KernelModel) → state mid ≡ state old → Chain old t (all_granted (first ++ walk)) mid
          → Runs M (with_room status room) mid new t result → Refined
      roomed left open_so_far absent roomy mid stays chain on =
          own_label_step accounts me caller old new f result ready found (Wrap (m ∷ d)) (first ++ walk) mid chain stays (with_labels status room) on
          (λ labelled longer still rest.
          category_step accounts f me (Wrap (m ∷ d)) old new t ready result
          ((first ++ walk) ++ OwnLabel ∷ []) labelled longer MakeCategory (in_job status (own, clearance) room) refl
          (ap (λ (s : State). check s t MakeCategory) still
          ∙ category_said (state old) t own clearance (thread accounts ok (state old) f me t ready)
          ∙ ap (λ (s : State). unless (has_category s) TooBig) (sym still)) rest
          (λ later number called number_is whole goes.
          made_step open_so_far absent roomy later (called.state ∙ ap (λ (s : State). with_category s t) still) whole left
          (subst (λ (q : ℕ). Runs M (in_job status (own, clearance) room q) later new t result)
          (number_is ∙ ap (λ (s : State). s.next_category) still) goes)))

      entered : (mid : KernelModel) → Chain old t (all_granted first) mid → state mid ≡ state old
          → AreLeft requests first (plain walk ++ unless_refused (refused accounts f me p (Wrap (m ∷ d))) starts)
          → Runs M (with_child (m ∷ d) status) mid new t result → Refined
      entered mid chain stays left on =
          room_step accounts ok old new f me t ready m d (Wrap (m ∷ d)) result not_nobody (needs_room (m ∷ d)) first mid
          stays chain starts left (with_room status) on (roomed (left_after requests first walk _ left))

  -- what is left of a wrap of this path once the process's own segment is read
  abbrev starts_at : Path → List Request
  starts_at q =
      in_directory accounts ready.represents.matched me p (refused accounts f me p (Wrap q)) q
      (starts_job accounts ready.represents.matched me p)

  -- a wrap of this path
  wrapped : (q : Path) → IsTrue (is_path q) → nat_lt (length me) most_numbers ≡ true
      → nat_lt p.born most_children ≡ true → (mid : KernelModel) → Chain old t (all_granted first) mid
      → state mid ≡ state old
      → AreLeft (requests_of accounts ready.represents.matched me p (Wrap q)) first (starts_at q)
      → Runs M (with_child q status) mid new t result → Goal accounts f me (Wrap q) old new t ready result
  wrapped [] right long few mid chain stays left on =
      slash_agrees accounts old new f me t ready (Wrap []) result not_nobody (needs_room long few []) first mid stays
      chain left (with_room status) on
  wrapped (m ∷ d) right long few mid chain stays left on = entered long few m (last_name m d right) d mid chain stays left on

-- The program of `wrap` refines its rule.
pub wrap_refines : {M : Type 0} → WrapRefines M
unfolding wrap_program
wrap_refines {M} accounts ok q right me caller old new f result ready found runs =
    from_each M accounts f me (Wrap q) old new caller.thread result ready (λ ready.
    child_room_step accounts me caller old new f result ready found (Wrap q)
    (no_room accounts f ready.caller.process q orelse unless (not (same ready.caller.process.user nobody)) EPERM)
    (needs_child accounts ok me caller old new f result ready found q) (starts_at accounts ok me caller old new f result ready found q) refl
    (with_child accounts ok me caller old new f result ready found q) runs
    (λ long few mid chain stays left on.
    wrapped accounts ok me caller old new f result ready found q right long few mid chain stays left on))
