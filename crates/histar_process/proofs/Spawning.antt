-- How the code of `spawn` runs its program: what is left of it, from one part to the next.
use Rattle.std.proofs.Common.{◌≡◌, ℕ, ◌+◌, List, ◌∷◌, None, Some, Result, Ok, Err, ap, ◌∙◌}
use Rattle.std.specs.Result.{IsErrAnd}
use Rattle.histar_flat.specs.Accounts.{Accounts}
use Rattle.histar_flat.specs.Words.{ProcName}
use Rattle.histar_flat.specs.declared.replies.Reply.{Reply}
use Rattle.histar_flat.specs.declared.replies.Reply.TheVariants.{Child}
use Rattle.histar_level.specs.Levels.{Levels}
use Rattle.histar_rules.specs.declared.raw.RawCall.TheVariants.{OwnLabel, SetLabel, SetClearance}
use Rattle.histar_syscall.specs.KernelModel.{KernelModel, state, Called}
use Rattle.histar_layout.specs.Status.{ProcessStatus, status_in}
use Rattle.histar_layout.specs.declared.status.StatusHead.{StatusHead}
use Rattle.histar_programs.specs.Parts.{ask}
use Rattle.histar_programs.specs.Refusals.{settled}
use Rattle.histar_programs.specs.declared.call_error.CallError.{CallError}
use Rattle.histar_programs.specs.declared.roots.Home.{Home}
use Rattle.histar_programs.specs.Programs.{IsAnswer, Part, Program, Runs, RunsPart}
use Rattle.histar_programs.specs.Programs.Program.{Answers}
use Rattle.histar_programs.proofs.Exits.{Leaves, LeavesPart, ends_in_so, ends_so, further, further_in, whole_part}
use Rattle.histar_programs.proofs.Running.{grants, replies_so}
use Rattle.histar_process.specs.Birth.{birth}
use Rattle.histar_programs.specs.Kin.{kin_of}
use Rattle.histar_process.specs.SpawnCall.{MakesChild, make_child, room_for_child, spawn_program, take_labels}
use Rattle.histar_process.specs.declared.find.Segment.{Segment}
use Rattle.histar_process.specs.Reading.{RunsRoom}

-- the parts of giving a thread its labels, one after another
module _ (t : ℕ) (own : Levels × Levels) (old : KernelModel) where
  -- what comes after the label
  abbrev after_label : Unit {0} → Part (Unit {0})
  after_label done = ask (SetClearance own.1)

  -- the label isn't given
  pub without_label : {M : Type 0} → (new : KernelModel) (call_error : CallError) (result : Result (Unit {0}) CallError)
      → IsErrAnd result (λ e. e ≡ call_error)
      → RunsPart M (ask (SetLabel own.0)) old new t (Err call_error) → RunsPart M (take_labels own) old new t result
  without_label = ends_in_so (ask (SetLabel own.0)) after_label (whole_part t (take_labels own) old)

  -- the label is given, and the clearance is still to be given
  pub with_label : {M : Type 0} → (mid : KernelModel) → Called old mid t (SetLabel own.0) None
      → LeavesPart M (Unit {0}) t (take_labels own) old (ask (SetClearance own.1)) mid
  with_label mid called =
      further_in (ask (SetLabel own.0)) after_label (whole_part t (take_labels own) old) mid tt (grants t (SetLabel own.0) old mid tt called tt)

-- the parts of making a child, one after another
module _ (accounts : Accounts) (me : Home) (status : ProcessStatus) (t : ℕ) (old : KernelModel) where
  -- what comes after the birth
  abbrev after_birth : Levels × Levels → Unit {0} → Part (Unit {0})
  after_birth own done = take_labels own

  -- what comes after the thread's own labels
  abbrev after_own : Levels × Levels → Part (Unit {0})
  after_own own rest = birth me status (kin_of accounts own.0) (λ done. after_birth own done rest)

  -- the thread's own labels aren't told
  pub no_labels : {M : Type 0} → (new : KernelModel) (call_error : CallError) (result : Result (Unit {0}) CallError)
      → IsErrAnd result (λ e. e ≡ call_error)
      → RunsPart M (ask OwnLabel) old new t (Err call_error) → RunsPart M (make_child accounts me status) old new t result
  no_labels = ends_in_so (ask OwnLabel) after_own (whole_part t (make_child accounts me status) old)

  module _ (own : Levels × Levels) (mid : KernelModel) (told : Called old mid t OwnLabel None × IsAnswer (state old) t OwnLabel own) where
    -- the thread's own labels are told
    with_labels : {M : Type 0} → LeavesPart M (Unit {0}) t (make_child accounts me status) old (after_own own) mid
    with_labels =
        further_in (ask OwnLabel) after_own (whole_part t (make_child accounts me status) old) mid own (grants t OwnLabel old mid own told.0 told.1)

    -- the child isn't born
    pub no_birth : {M : Type 0} → (new : KernelModel) (call_error : CallError) (result : Result (Unit {0}) CallError)
        → IsErrAnd result (λ e. e ≡ call_error)
        → RunsPart M (birth me status (kin_of accounts own.0)) mid new t (Err call_error)
        → RunsPart M (make_child accounts me status) old new t result
    no_birth = ends_in_so (birth me status (kin_of accounts own.0)) (after_birth own) with_labels

    -- the child is born, and the thread is still to take its own labels again
    pub with_birth : {M : Type 0} → (later : KernelModel) → RunsPart M (birth me status (kin_of accounts own.0)) mid later t (Ok tt)
        → LeavesPart M (Unit {0}) t (make_child accounts me status) old (take_labels own) later
    with_birth later = further_in (birth me status (kin_of accounts own.0)) (after_birth own) with_labels later tt

-- the parts of the whole program, one after another
module _ (accounts : Accounts) (me : Home) (name : ProcName) (t : ℕ) (old : KernelModel) where
  -- what is still to do once the child is made
  abbrev after_child : ProcessStatus → Unit {0} → Program
  after_child status done = Answers (Child ((status.born + 1) ∷ name))

  -- what is still to do once there is room for a child
  abbrev after_room : ProcessStatus → Program
  after_room status = make_child accounts me status (after_child status)

  -- at first the whole program is left
  begun : {M : Type 0} → Leaves M t (spawn_program accounts name me) old (room_for_child name me after_room) old
  unfolding spawn_program
  begun = record { leads = λ new result on. on }

  -- there is no room for a child
  pub no_room : {M : Type 0} → (new : KernelModel) (call_error : CallError) (result : Result Reply CallError)
      → IsErrAnd result (λ e. e ≡ call_error)
      → RunsPart M (room_for_child name me) old new t (Err call_error) → Runs M (spawn_program accounts name me) old new t (settled result)
  no_room = ends_so (room_for_child name me) after_room begun

  module _ {M : Type 0} (mid : KernelModel) (segment : Segment) (room : RunsRoom M name me old mid t (Ok segment)) where
    -- there is room for a child
    with_room : Leaves M t (spawn_program accounts name me) old (after_room room.0) mid
    with_room = further (room_for_child name me) after_room begun mid room.0 room.2

    module _ (bytes : List ℕ) (same : bytes ≡ segment.bytes) (new : KernelModel) where
      -- the status in the bytes that the code makes the child by
      status_is : status_in bytes ≡ Some room.0
      status_is = ap status_in same ∙ room.1.status_is

      -- the child isn't made
      pub not_made : (call_error : CallError) (result : Result Reply CallError) → IsErrAnd result (λ e. e ≡ call_error)
          → MakesChild M accounts me bytes mid new t (Err call_error) → Runs M (spawn_program accounts name me) old new t (settled result)
      not_made call_error result gave makes =
          ends_so (make_child accounts me room.0) (after_child room.0) with_room new call_error result gave
          (makes room.0 status_is)

      -- the child is made, and its name is replied
      pub made : MakesChild M accounts me bytes mid new t (Ok tt) → (child : ProcName) → child ≡ (segment.head.born + 1) ∷ name
          → Runs M (spawn_program accounts name me) old new t (Ok (Child child))
      made makes child is =
          (further (make_child accounts me room.0) (after_child room.0) with_room new tt
          (makes room.0 status_is)).leads new (Ok (Child child))
          (replies_so t new (Child ((room.0.born + 1) ∷ name)) (Child child)
          (ap (λ (p : List ℕ). Child p) (is ∙ ap (λ (h : StatusHead). (h.born + 1) ∷ name) room.1.head)))
