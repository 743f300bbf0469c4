-- How the code that kills a child runs its program, from one part to the next.
use Rattle.std.proofs.Common.{◌≡◌, ℕ, List, ◌∷◌, Result, Ok, Err, ap, ◌∙◌}
use Rattle.std.specs.Result.{IsErrAnd}
use Rattle.histar_flat.specs.Words.{ProcName}
use Rattle.histar_flat.specs.declared.replies.Errno.{Errno}
use Rattle.histar_flat.specs.declared.replies.Reply.{Reply}
use Rattle.histar_flat.specs.declared.replies.Reply.TheVariants.{Done}
use Rattle.histar_rules.specs.declared.raw.RawCall.TheVariants.{Unlink}
use Rattle.histar_syscall.specs.KernelModel.{KernelModel}
use Rattle.histar_layout.specs.Status.{ProcessStatus, child_at, status_in, without_child}
use Rattle.histar_layout.specs.declared.status.Child.{Child}
use Rattle.histar_layout.specs.declared.status.StatusHead.{StatusHead}
use Rattle.histar_programs.specs.Parts.{ask, given}
use Rattle.histar_programs.specs.Programs.{Part, Program, Runs, RunsPart}
use Rattle.histar_programs.specs.Programs.Program.{Answers}
use Rattle.histar_programs.specs.Refusals.{settled}
use Rattle.histar_programs.specs.declared.call_error.CallError.{CallError}
use Rattle.histar_programs.specs.declared.call_error.CallError.TheVariants.{Refused}
use Rattle.histar_programs.specs.declared.roots.Home.{Home}
use Rattle.histar_programs.specs.declared.roots.Roots.{Roots}
use Rattle.histar_programs.proofs.Exits.{Leaves, LeavesPart, ends_in_so, ends_so, further, further_in}
use Rattle.histar_programs.proofs.Running.{says}
use Rattle.histar_process.specs.KillCall.{KillsKnown, kill_known, kill_program}
use Rattle.histar_process.specs.Parts.{find_home, home_of, must_be_there, read_status, write_status}
use Rattle.histar_process.specs.Reading.{RunsReading, read_head}
use Rattle.histar_process.specs.declared.find.Segment.{Segment}
use Rattle.histar_process.proofs.Segments.{decided, decided_not}

module _ (home : Home) (status : ProcessStatus) (n : ℕ) where
  -- the child that is to be killed, or that it isn't there
  abbrev there : Result Child Errno
  there = must_be_there (child_at status.children n)

  -- what comes after the container is unlinked
  abbrev pub after_unlink : Unit {0} → Part (Unit {0})
  after_unlink done = write_status home (without_child n status)

  -- what comes after the child's own segment was read
  abbrev pub after_head : Child → StatusHead → Part (Unit {0})
  after_head child head rest = ask (Unlink home.container child.container) (λ done. after_unlink done rest)

  -- what comes after the child was found
  abbrev after_child : Child → Part (Unit {0})
  after_child child rest = read_head (home_of child) (λ head. after_head child head rest)

  module _ (t : ℕ) (old : KernelModel) where
    -- at first the whole part is left
    begun : {M : Type 0} → LeavesPart M (Unit {0}) t (kill_known home status n) old (λ rest. given there (λ child. after_child child rest)) old
    unfolding read_head
    begun = record { leads = λ new result on. on }

    -- no child has the number
    pub no_child : {M : Type 0} → (errno : Errno) (result : Result (Unit {0}) CallError) → IsErrAnd result (λ e. e ≡ Refused errno)
        → Err errno ≡ there
        → RunsPart M (kill_known home status n) old old t result
    no_child errno result gave is = ends_in_so (given there) after_child begun old (Refused errno) result gave (decided_not t old there errno is)

    module _ (child : Child) (is : Ok child ≡ there) where
      -- the child was found
      with_child : {M : Type 0} → LeavesPart M (Unit {0}) t (kill_known home status n) old (after_child child) old
      with_child = further_in (given there) after_child begun old child (decided t old there child is)

      -- the child's segment isn't read
      pub not_read : {M : Type 0} → (new : KernelModel) (call_error : CallError) (result : Result (Unit {0}) CallError)
          → IsErrAnd result (λ e. e ≡ call_error)
          → RunsPart M (read_head (home_of child)) old new t (Err call_error) → RunsPart M (kill_known home status n) old new t result
      not_read = ends_in_so (read_head (home_of child)) (after_head child) with_child

      -- the child's segment is read
      pub with_head : {M : Type 0} → (mid : KernelModel) (head : StatusHead) → RunsPart M (read_head (home_of child)) old mid t (Ok head)
          → LeavesPart M (Unit {0}) t (kill_known home status n) old (after_head child head) mid
      with_head = further_in (read_head (home_of child)) (after_head child) with_child

module _ (roots : Roots) (n : ℕ) (above : ProcName) (t : ℕ) (old : KernelModel) where
  -- what is still to do once the segment above was read
  abbrev after_status : Home → ProcessStatus → Program
  after_status home status = kill_known home status n (λ (done : Unit {0}). Answers Done)

  -- what is still to do once the process above was found
  abbrev after_home : Home → Program
  after_home home = read_status home (after_status home)

  -- at first the whole program is left
  call_begun : {M : Type 0} → Leaves M t (kill_program roots (n ∷ above)) old (find_home roots.home above after_home) old
  unfolding kill_program
  call_begun = record { leads = λ new result on. on }

  -- the process above isn't found
  pub not_found : {M : Type 0} → (new : KernelModel) (call_error : CallError) (result : Result Reply CallError)
      → IsErrAnd result (λ e. e ≡ call_error)
      → RunsPart M (find_home roots.home above) old new t (Err call_error) → Runs M (kill_program roots (n ∷ above)) old new t (settled result)
  not_found = ends_so (find_home roots.home above) after_home call_begun

  module _ {M : Type 0} (mid : KernelModel) (home : Home) (found : RunsPart M (find_home roots.home above) old mid t (Ok home)) where
    -- the process above is found
    with_home : Leaves M t (kill_program roots (n ∷ above)) old (after_home home) mid
    with_home = further (find_home roots.home above) after_home call_begun mid home found

    -- its segment isn't read
    pub not_read_above : (new : KernelModel) (call_error : CallError) (result : Result Reply CallError) → IsErrAnd result (λ e. e ≡ call_error)
        → RunsPart M (read_status home) mid new t (Err call_error) → Runs M (kill_program roots (n ∷ above)) old new t (settled result)
    not_read_above = ends_so (read_status home) (after_status home) with_home

    module _ (later : KernelModel) (segment : Segment) (read : RunsReading M home mid later t (Ok segment)) (bytes : List ℕ)
        (same : bytes ≡ segment.bytes) (new : KernelModel) where
      -- its segment is read
      with_status : Leaves M t (kill_program roots (n ∷ above)) old (after_status home read.0) later
      with_status = further (read_status home) (after_status home) with_home later read.0 read.2

      -- the child isn't killed
      pub not_killed : (call_error : CallError) (result : Result Reply CallError) → IsErrAnd result (λ e. e ≡ call_error)
          → KillsKnown M home bytes n later new t (Err call_error) → Runs M (kill_program roots (n ∷ above)) old new t (settled result)
      not_killed call_error result gave kills =
          ends_so (kill_known home read.0 n) (λ (done : Unit {0}). Answers Done) with_status new call_error result gave
          (kills read.0 (ap status_in same ∙ read.1.status_is))

      -- the child is killed
      pub killed : KillsKnown M home bytes n later new t (Ok tt) → Runs M (kill_program roots (n ∷ above)) old new t (Ok Done)
      killed kills =
          (further (kill_known home read.0 n) (λ (done : Unit {0}). Answers Done) with_status new tt
          (kills read.0 (ap status_in same ∙ read.1.status_is))).leads new (Ok Done) (says t new Done)
