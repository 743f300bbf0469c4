-- How the code that looks for room for a child runs its part.
use Rattle.std.proofs.Common.{◌≡◌, length, Result, Ok, Err, ℕ, sym, ap, ◌∙◌, subst}
use Rattle.std.specs.Prelude.{nat_lt}
use Rattle.std.specs.Result.{IsErrAnd}
use Rattle.std.proofs.lemmas.Result.{err_from_is_err_and}
use Rattle.histar_flat.specs.Words.{ProcName, most_children, most_numbers}
use Rattle.histar_flat.specs.declared.replies.Errno.{Errno}
use Rattle.histar_syscall.specs.KernelModel.{KernelModel}
use Rattle.histar_layout.specs.Status.{ProcessStatus, head_of}
use Rattle.histar_layout.specs.declared.status.StatusHead.{StatusHead}
use Rattle.histar_programs.specs.Parts.{given}
use Rattle.histar_programs.specs.Programs.{Part, RunsPart}
use Rattle.histar_programs.specs.declared.call_error.CallError.{CallError}
use Rattle.histar_programs.specs.declared.call_error.CallError.TheVariants.{Refused}
use Rattle.histar_programs.specs.declared.roots.Home.{Home}
use Rattle.histar_programs.proofs.Exits.{LeavesPart, ends_in, further_in, whole_part}
use Rattle.histar_programs.proofs.Running.{hands, part_fails}
use Rattle.histar_process.specs.declared.find.Segment.{Segment}
use Rattle.histar_process.specs.Parts.{read_status}
use Rattle.histar_process.specs.Reading.{RunsReading, RunsRoom}
use Rattle.histar_process.specs.SpawnCall.{must_have_room, room_for_child}
use Rattle.histar_process.proofs.Segments.{decided, decided_not}

-- what comes after a process segment was read
abbrev if_room : ProcessStatus → Part ProcessStatus
if_room status rest = given (must_have_room (nat_lt status.born most_children)) (λ _. rest status)

-- what is left once the name has room
abbrev after_depth : Home → Unit {0} → Part ProcessStatus
after_depth home done rest = read_status home (λ status. if_room status rest)

module _ (t : ℕ) (name : ProcName) (home : Home) (old : KernelModel) where
  -- an error that `?` passed on
  fails : {M : Type 0} → (new : KernelModel) (call_error : CallError) (result : Result Segment CallError)
      → IsErrAnd result (λ e. e ≡ call_error)
      → RunsPart M (room_for_child name home) old new t (Err call_error) → RunsRoom M name home old new t result
  fails {M} new call_error result gave first =
      let error = err_from_is_err_and result gave in
      subst (RunsRoom M name home old new t) (sym (error.1 ∙ ap Err error.2)) first

  -- whether the name has room for one number more
  abbrev deep : Result (Unit {0}) Errno
  deep = must_have_room (nat_lt (length name) most_numbers)

  -- the name has no room
  pub depth_fails : (M : Type 0) (errno : Errno) (result : Result Segment CallError) → IsErrAnd result (λ e. e ≡ Refused errno)
      → Err errno ≡ deep
      → RunsRoom M name home old old t result
  depth_fails M errno result gave is =
      fails old (Refused errno) result gave (part_fails t (given deep) old old (after_depth home) (Refused errno) (decided_not t old deep errno is))

  module _ (new : KernelModel) (is_deep : Ok tt ≡ deep) where
    -- the name has room
    with_depth : {M : Type 0} → LeavesPart M ProcessStatus t (room_for_child name home) old (after_depth home tt) old
    with_depth =
        further_in (given deep) (after_depth home) (whole_part t (room_for_child name home) old) old tt (decided t old deep tt is_deep)

    -- the segment was not read
    pub reading_fails : {M : Type 0} → (call_error : CallError) (result : Result Segment CallError) → IsErrAnd result (λ e. e ≡ call_error)
        → RunsPart M (read_status home) old new t (Err call_error) → RunsRoom M name home old new t result
    reading_fails call_error result gave first =
        fails new call_error result gave (ends_in (read_status home) if_room with_depth new call_error first)

    module _ {M : Type 0} (segment : Segment) (read : RunsReading M home old new t (Ok segment)) where
      -- the segment was read
      with_status : LeavesPart M ProcessStatus t (room_for_child name home) old (if_room read.0) new
      with_status = further_in (read_status home) if_room with_depth new read.0 read.2

      -- whether there is room for one child more
      abbrev roomy : StatusHead → Result (Unit {0}) Errno
      roomy head = must_have_room (nat_lt head.born most_children)

      -- what comes after there is room
      abbrev after_room : Unit {0} → Part ProcessStatus
      after_room done rest = rest read.0

      -- too many children were born
      pub room_fails : (errno : Errno) (result : Result Segment CallError) → IsErrAnd result (λ e. e ≡ Refused errno)
          → Err errno ≡ roomy segment.head → RunsRoom M name home old new t result
      room_fails errno result gave is =
          fails new (Refused errno) result gave (ends_in (given (roomy (head_of read.0))) after_room with_status new (Refused errno)
          (decided_not t new (roomy (head_of read.0)) errno (is ∙ ap roomy read.1.head)))

      -- there is room for one child more
      pub room_is_there : Ok tt ≡ roomy segment.head → RunsRoom M name home old new t (Ok segment)
      room_is_there is = (
        read.0,
        read.1,
        (further_in (given (roomy (head_of read.0))) after_room with_status new tt
            (decided t new (roomy (head_of read.0)) tt (is ∙ ap roomy read.1.head))).leads new (Ok read.0) (hands t new read.0),
      )
