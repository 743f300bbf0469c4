-- How the code of `wrap` runs its program, from one part to the next.
use Rattle.std.proofs.Common.{◌≡◌, ℕ, ◌+◌, List, ◌∷◌, None, Some, Result, Ok, Err, length, inl, refl, sym, ap, ◌∙◌, subst}
use Rattle.std.specs.Prelude.{false}
use Rattle.std.specs.Result.{IsErrAnd}
use Rattle.histar_flat.specs.Accounts.{Accounts}
use Rattle.histar_flat.specs.Words.{Path, ProcName}
use Rattle.histar_flat.specs.declared.replies.Reply.{Reply}
use Rattle.histar_flat.specs.declared.replies.Reply.TheVariants.{Child}
use Rattle.histar_level.specs.Levels.{Levels}
use Rattle.histar_rules.specs.declared.raw.RawCall.TheVariants.{MakeCategory, MakeContainer, OwnLabel}
use Rattle.histar_syscall.specs.KernelModel.{KernelModel, state, Called}
use Rattle.histar_syscall.proofs.Runs.{same_kernel}
use Rattle.histar_layout.specs.Status.{ProcessStatus, status_in}
use Rattle.histar_layout.specs.declared.status.StatusHead.{StatusHead}
use Rattle.histar_layout.specs.Categories.{IsUserOf, scratch_label}
use Rattle.histar_programs.specs.Parts.{ask, find_room}
use Rattle.histar_programs.specs.Programs.{IsAnswer, Part, Program, Runs, RunsPart}
use Rattle.histar_programs.specs.Refusals.{settled}
use Rattle.histar_programs.specs.Programs.Program.{Answers}
use Rattle.histar_programs.specs.declared.call_error.CallError.{CallError}
use Rattle.histar_programs.specs.declared.call_error.CallError.TheVariants.{Stopped as HasStopped}
use Rattle.histar_programs.specs.declared.find.Room.{Room}
use Rattle.histar_programs.specs.declared.roots.Home.{Home}
use Rattle.histar_programs.specs.declared.unix.Unix.{Unix}
use Rattle.histar_programs.proofs.Exits.{Leaves, LeavesPart, ends_in, ends_in_so, ends_so, further, further_in, whole_part}
use Rattle.histar_programs.proofs.Running.{grants, replies_so}
use Rattle.histar_layout.proofs.UserOf.{user_is}
use Rattle.histar_process.specs.Birth.{birth}
use Rattle.histar_programs.specs.Kin.{Kin, owned_by}
use Rattle.histar_process.specs.SpawnCall.{room_for_child}
use Rattle.histar_process.specs.Reading.{RunsRoom}
use Rattle.histar_process.specs.declared.find.Segment.{Segment}
use Rattle.histar_process.proofs.Calling.{born_so}
use Rattle.histar_wrap.specs.Filling.{JobPlan, MakesJob, fill_job, make_job, plan_for, start_job}
use Rattle.histar_wrap.specs.Scratch.{ask_or_give_back, directory_label, hold_job, jobs_with, kin_in, make_scratch}
use Rattle.histar_wrap.specs.WrapCall.{wrap_program}
use Rattle.histar_wrap.proofs.Scratching.{without_container}

module _ {M : Type 0} (t : ℕ) (own : Levels × Levels) (label : Levels) (room : Room) (k : KernelModel) where
  before_container : M → RunsPart M (ask_or_give_back own (MakeContainer room.place.container label)) k k t (Err HasStopped)
  before_container memory = record { done = λ rest. inl (memory, same_kernel k) }

  -- memory ran out before a scratch directory was made
  pub before_scratch : M → RunsPart M (make_scratch own label room) k k t (Err HasStopped)
  before_scratch memory = without_container t own label room k k HasStopped (Err HasStopped) refl (before_container memory)

module _ (accounts : Accounts) (own : Levels) (job user : ℕ) (jobs : List ℕ)
    (is : IsUserOf own (length accounts.users) user) (jobs_are : jobs ≡ jobs_with own job) where
  -- the label of the scratch directory is the one that the thread's own label determines
  pub directory_is : (label : Levels) → label ≡ scratch_label user jobs → label ≡ directory_label accounts own job
  directory_is label label_is = label_is ∙ (λ i. scratch_label (sym (user_is own (length accounts.users) user is) i) (jobs_are i))

  -- the kin of the first process are those that the thread's own label determines
  pub kin_is : (owned : List ℕ) → owned ≡ owned_by accounts user false → record { owned = owned; jobs = jobs } ≡ kin_in accounts own job
  kin_is owned owned_is = λ i. record {
    owned = (owned_is ∙ ap (λ (u : ℕ). owned_by accounts u false) (sym (user_is own (length accounts.users) user is))) i;
    jobs = jobs_are i;
  }

-- the parts of filling a job, one after another
module _ (t : ℕ) (me : Home) (status : ProcessStatus) (room : Room) (plan : JobPlan) (old : KernelModel) where
  -- what comes after the birth
  abbrev after_birth : Unit {0} → Part (Unit {0})
  after_birth done = hold_job plan.own plan.job

  -- what comes after the scratch directory
  abbrev after_scratch : Unit {0} → Part (Unit {0})
  after_scratch done rest = birth me status plan.kin (λ born. after_birth born rest)

  -- no scratch directory is made
  pub no_scratch : {M : Type 0} → (new : KernelModel) (call_error : CallError) (result : Result (Unit {0}) CallError)
      → IsErrAnd result (λ e. e ≡ call_error)
      → RunsPart M (make_scratch plan.own plan.label room) old new t (Err call_error) → RunsPart M (fill_job me status room plan) old new t result
  no_scratch = ends_in_so (make_scratch plan.own plan.label room) after_scratch (whole_part t (fill_job me status room plan) old)

  module _ {M : Type 0} (mid : KernelModel) (made : RunsPart M (make_scratch plan.own plan.label room) old mid t (Ok tt)) (kin : Kin)
      (same : kin ≡ plan.kin) where
    -- a scratch directory is made
    with_scratch : LeavesPart M (Unit {0}) t (fill_job me status room plan) old (after_scratch tt) mid
    with_scratch =
        further_in (make_scratch plan.own plan.label room) after_scratch (whole_part t (fill_job me status room plan) old) mid tt made

    -- no process is born
    pub no_birth : (new : KernelModel) (call_error : CallError) (result : Result (Unit {0}) CallError) → IsErrAnd result (λ e. e ≡ call_error)
        → RunsPart M (birth me status kin) mid new t (Err call_error) → RunsPart M (fill_job me status room plan) old new t result
    no_birth new call_error result gave first =
        ends_in_so (birth me status plan.kin) after_birth with_scratch new call_error result gave
        (born_so t mid new me status kin plan.kin same (Err call_error) first)

    -- the thread holds the job, or doesn't
    pub held : (late new : KernelModel) → RunsPart M (birth me status kin) mid late t (Ok tt)
        → (result : Result (Unit {0}) CallError) → RunsPart M (hold_job plan.own plan.job) late new t result
        → RunsPart M (fill_job me status room plan) old new t result
    held late new first =
        (further_in (birth me status plan.kin) after_birth with_scratch late tt (born_so t mid late me status kin plan.kin same (Ok tt) first)).leads
        new

-- memory ran out before a job was filled
pub before_filling : {M : Type 0} → (t : ℕ) (me : Home) (status : ProcessStatus) (room : Room) (plan : JobPlan) (k : KernelModel) → M
    → RunsPart M (fill_job me status room plan) k k t (Err HasStopped)
before_filling t me status room plan k memory =
    ends_in (make_scratch plan.own plan.label room) (after_scratch t me status room plan k) (whole_part t (fill_job me status room plan) k)
    k HasStopped (before_scratch t plan.own plan.label room k memory)

-- a job was filled by the expected plan, and by the expected thread
pub filled_so : {M : Type 0} → (me : Home) (status : ProcessStatus) (room : Room) (old new : KernelModel) (plan due : JobPlan) → plan ≡ due
    → (thread t : ℕ) → thread ≡ t → (result : Result (Unit {0}) CallError)
    → RunsPart M (fill_job me status room plan) old new thread result
    → RunsPart M (fill_job me status room due) old new t result
filled_so {M} me status room old new plan due same thread t is result runs =
    subst (λ (p : JobPlan). RunsPart {A = Unit {0}} M (fill_job me status room p) old new t result) same
    (subst (λ (u : ℕ). RunsPart {A = Unit {0}} M (fill_job me status room plan) old new u result) is runs)

-- the parts of starting a job, one after another
module _ (accounts : Accounts) (me : Home) (status : ProcessStatus) (room : Room) (t : ℕ) (old : KernelModel) where
  -- what comes after the category
  abbrev after_job : Levels × Levels → ℕ → Part (Unit {0})
  after_job own job = fill_job me status room (plan_for accounts own job)

  -- what comes after the thread's own labels
  abbrev after_own : Levels × Levels → Part (Unit {0})
  after_own own rest = ask MakeCategory (λ job. after_job own job rest)

  -- the thread's own labels aren't told
  pub no_labels : {M : Type 0} → (new : KernelModel) (call_error : CallError) (result : Result (Unit {0}) CallError)
      → IsErrAnd result (λ e. e ≡ call_error)
      → RunsPart M (ask OwnLabel) old new t (Err call_error) → RunsPart M (start_job accounts me status room) old new t result
  no_labels = ends_in_so (ask OwnLabel) after_own (whole_part t (start_job accounts me status room) old)

  module _ (own : Levels × Levels) (mid : KernelModel) (told : Called old mid t OwnLabel None × IsAnswer (state old) t OwnLabel own) where
    -- the thread's own labels are told
    with_labels : {M : Type 0} → LeavesPart M (Unit {0}) t (start_job accounts me status room) old (after_own own) mid
    with_labels =
        further_in (ask OwnLabel) after_own (whole_part t (start_job accounts me status room) old) mid own
        (grants t OwnLabel old mid own told.0 told.1)

    -- no category is made
    pub no_category : {M : Type 0} → (new : KernelModel) (call_error : CallError) (result : Result (Unit {0}) CallError)
        → IsErrAnd result (λ e. e ≡ call_error)
        → RunsPart M (ask MakeCategory) mid new t (Err call_error) → RunsPart M (start_job accounts me status room) old new t result
    no_category = ends_in_so (ask MakeCategory) (after_job own) with_labels

    -- the category of the job is made
    pub with_category : {M : Type 0} → (job : ℕ) (later : KernelModel)
        → Called mid later t MakeCategory None × IsAnswer (state mid) t MakeCategory job
        → LeavesPart M (Unit {0}) t (start_job accounts me status room) old (after_job own job) later
    with_category job later made =
        further_in (ask MakeCategory) (after_job own) with_labels later job (grants t MakeCategory mid later job made.0 made.1)

-- the parts of making a job, one after another
module _ (unix : Unix) (path : Path) (status : ProcessStatus) (old : KernelModel) where
  -- the whole part, as the caller runs it
  abbrev its_job : Part (Unit {0})
  its_job = make_job unix.users.now unix.roots.now unix.caller.now.home path status

  -- what comes after the room for an entry
  abbrev after_place : Room → Part (Unit {0})
  after_place = start_job unix.users.now unix.caller.now.home status

  -- there is no room for an entry
  pub no_place : {M : Type 0} → (new : KernelModel) (call_error : CallError) (result : Result (Unit {0}) CallError)
      → IsErrAnd result (λ e. e ≡ call_error)
      → RunsPart M (find_room unix.roots.now path) old new unix.caller.now.thread (Err call_error)
      → RunsPart M its_job old new unix.caller.now.thread result
  no_place = ends_in_so (find_room unix.roots.now path) after_place (whole_part unix.caller.now.thread its_job old)

  -- there is room for an entry
  pub with_place : {M : Type 0} → (mid : KernelModel) (room : Room)
      → RunsPart M (find_room unix.roots.now path) old mid unix.caller.now.thread (Ok room)
      → LeavesPart M (Unit {0}) unix.caller.now.thread its_job old (after_place room) mid
  with_place = further_in (find_room unix.roots.now path) after_place (whole_part unix.caller.now.thread its_job old)

-- the parts of the whole program, one after another
module _ (unix : Unix) (path : Path) (old : KernelModel) where
  -- the whole program, as the caller runs it
  abbrev its_program : Program
  its_program = wrap_program unix.users.now unix.roots.now unix.process.now unix.caller.now.home path

  -- what is still to do once the job is started
  abbrev after_start : ProcessStatus → Unit {0} → Program
  after_start status done = Answers (Child ((status.born + 1) ∷ unix.process.now))

  -- what is still to do once there is room for a child
  abbrev after_status : ProcessStatus → Program
  after_status status = make_job unix.users.now unix.roots.now unix.caller.now.home path status (after_start status)

  -- at first the whole program is left
  begun : {M : Type 0} → Leaves M unix.caller.now.thread its_program old (room_for_child unix.process.now unix.caller.now.home after_status) old
  unfolding wrap_program
  begun = record { leads = λ new result on. on }

  -- there is no room for a child
  pub no_room : {M : Type 0} → (new : KernelModel) (call_error : CallError) (result : Result Reply CallError)
      → IsErrAnd result (λ e. e ≡ call_error)
      → RunsPart M (room_for_child unix.process.now unix.caller.now.home) old new unix.caller.now.thread (Err call_error)
      → Runs M its_program old new unix.caller.now.thread (settled result)
  no_room = ends_so (room_for_child unix.process.now unix.caller.now.home) after_status begun

  module _ {M : Type 0} (mid : KernelModel) (segment : Segment)
      (room : RunsRoom M unix.process.now unix.caller.now.home old mid unix.caller.now.thread (Ok segment)) where
    -- there is room for a child
    with_room : Leaves M unix.caller.now.thread its_program old (after_status room.0) mid
    with_room = further (room_for_child unix.process.now unix.caller.now.home) after_status begun mid room.0 room.2

    module _ (bytes : List ℕ) (same : bytes ≡ segment.bytes) (new : KernelModel) where
      -- the status in the bytes that the code makes the job by
      status_is : status_in bytes ≡ Some room.0
      status_is = ap status_in same ∙ room.1.status_is

      -- the job isn't made
      pub not_made : (call_error : CallError) (result : Result Reply CallError) → IsErrAnd result (λ e. e ≡ call_error)
          → MakesJob M unix path bytes mid new (Err call_error) → Runs M its_program old new unix.caller.now.thread (settled result)
      not_made call_error result gave makes =
          ends_so (its_job unix path room.0 mid) (after_start room.0) with_room new call_error result gave (makes room.0 status_is)

      -- the job is made, and the name of its first process is replied
      pub made : MakesJob M unix path bytes mid new (Ok tt) → (child : ProcName) → child ≡ (segment.head.born + 1) ∷ unix.process.now
          → Runs M its_program old new unix.caller.now.thread (Ok (Child child))
      made makes child is =
          (further (its_job unix path room.0 mid) (after_start room.0) with_room new tt (makes room.0 status_is)).leads new (Ok (Child child))
          (replies_so unix.caller.now.thread new (Child ((room.0.born + 1) ∷ unix.process.now)) (Child child)
          (ap (λ (p : List ℕ). Child p) (is ∙ ap (λ (h : StatusHead). (h.born + 1) ∷ unix.process.now) room.1.head)))
