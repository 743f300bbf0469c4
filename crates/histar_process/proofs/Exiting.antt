-- How the code of `exit` runs its program: what is left of it, from one part to the next.
use Rattle.std.specs.Prelude.{◌≡◌, ℕ, Result, Ok, Err}
use Rattle.std.proofs.Common.{refl, ap}
use Rattle.std.specs.Result.{IsErrAnd}
use Rattle.histar_flat.specs.declared.replies.Reply.{Reply}
use Rattle.histar_flat.specs.declared.replies.Reply.TheVariants.{Done}
use Rattle.histar_rules.specs.declared.raw.RawCall.TheVariants.{Unlink}
use Rattle.histar_syscall.specs.KernelModel.{KernelModel}
use Rattle.histar_layout.specs.Status.{ProcessStatus, once_exited}
use Rattle.histar_layout.specs.declared.status.StatusHead.{StatusHead}
use Rattle.histar_programs.specs.declared.call_error.CallError.{CallError}
use Rattle.histar_programs.specs.declared.roots.Home.{Home}
use Rattle.histar_programs.specs.Parts.{ask}
use Rattle.histar_programs.specs.Programs.{Part, Program, Runs, RunsPart}
use Rattle.histar_programs.specs.Refusals.{settled}
use Rattle.histar_programs.specs.Programs.Program.{Answers}
use Rattle.histar_programs.proofs.Exits.{Leaves, ends_in_so, ends_so, further, further_in, whole_part}
use Rattle.histar_programs.proofs.Running.{says}
use Rattle.histar_process.specs.ExitCall.{EndsProcess, end_process, exit_program}
use Rattle.histar_process.specs.Parts.{read_status, write_status}
use Rattle.histar_process.specs.Reading.{IsSegment, RunsReading}
use Rattle.histar_process.specs.declared.find.Segment.{Segment}
use Rattle.histar_process.proofs.Calling.{unlinked_so}

module _ (me : Home) (number : ℕ) where
  -- what comes after the segment is written
  abbrev after_write : ProcessStatus → Unit {0} → Part (Unit {0})
  after_write status done = ask (Unlink me.container status.internal)

  -- what is still to do once the segment was read
  abbrev after_status : ProcessStatus → Program
  after_status status = end_process me status number (λ (done : Unit {0}). Answers Done)

  -- at first the whole program is left
  begun : {M : Type 0} → (t : ℕ) (old : KernelModel) → Leaves M t (exit_program me number) old (read_status me after_status) old
  unfolding exit_program
  begun t old = record { leads = λ new result on. on }

  module _ (t : ℕ) (old : KernelModel) where
    -- the process's segment isn't read
    pub not_read : {M : Type 0} → (new : KernelModel) (call_error : CallError) (result : Result Reply CallError)
        → IsErrAnd result (λ e. e ≡ call_error)
        → RunsPart M (read_status me) old new t (Err call_error) → Runs M (exit_program me number) old new t (settled result)
    not_read = ends_so (read_status me) after_status (begun t old)

    module _ {M : Type 0} (mid : KernelModel) (segment : Segment) (read : RunsReading M me old mid t (Ok segment)) (new : KernelModel) where
      -- its segment is read
      with_status : Leaves M t (exit_program me number) old (after_status read.0) mid
      with_status = further (read_status me) after_status (begun t old) mid read.0 read.2

      -- the process isn't ended
      pub not_ended : (call_error : CallError) (result : Result Reply CallError) → IsErrAnd result (λ e. e ≡ call_error)
          → EndsProcess M me segment number mid new t (Err call_error) → Runs M (exit_program me number) old new t (settled result)
      not_ended call_error result gave ends =
          ends_so (end_process me read.0 number) (λ (done : Unit {0}). Answers Done) with_status new call_error result gave (ends read.0 read.1)

      -- the process is ended
      pub ended : EndsProcess M me segment number mid new t (Ok tt) → Runs M (exit_program me number) old new t (Ok Done)
      ended ends =
          (further (end_process me read.0 number) (λ (done : Unit {0}). Answers Done) with_status new tt (ends read.0 read.1)).leads new (Ok Done)
          (says t new Done)

module _ (t : ℕ) (me : Home) (status : ProcessStatus) (number : ℕ) (old new : KernelModel) where
  -- the segment isn't written, and with it the process isn't ended
  pub not_written : {M : Type 0} → (call_error : CallError) (result : Result (Unit {0}) CallError) → IsErrAnd result (λ e. e ≡ call_error)
      → RunsPart M (write_status me (once_exited number status)) old new t (Err call_error)
      → RunsPart M (end_process me status number) old new t result
  not_written =
      ends_in_so (write_status me (once_exited number status)) (after_write me number status)
      (whole_part t (end_process me status number) old) new

  -- the segment is written, and the internal container that it shows is all that is left to unlink
  pub unlinked : {M : Type 0} → (segment : Segment) → IsSegment segment status → (mid : KernelModel)
      → RunsPart M (write_status me (once_exited number status)) old mid t (Ok tt) → (result : Result (Unit {0}) CallError)
      → RunsPart M (ask (Unlink me.container segment.head.internal)) mid new t result → RunsPart M (end_process me status number) old new t result
  unlinked segment shown mid written result unlinks =
      (further_in (write_status me (once_exited number status)) (after_write me number status)
      (whole_part t (end_process me status number) old) mid tt written).leads new result
      (unlinked_so t mid new me.container me.container segment.head.internal status.internal refl (ap (λ (h : StatusHead). h.internal) shown.head)
      result unlinks)
