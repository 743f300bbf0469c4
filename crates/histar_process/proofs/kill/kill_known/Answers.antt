-- Proves the goals of `kill_known` of src/kill.rt that the search leaves open.
use Rattle.std.proofs.Common.{◌≡◌, Some, Result, Ok, refl, ap, ◌∙◌, subst}
use Rattle.histar_rules.specs.declared.raw.RawCall.TheVariants.{Unlink}
use Rattle.histar_layout.specs.Status.{ProcessStatus, child_at, status_in}
use Rattle.histar_layout.specs.declared.status.StatusHead.{StatusHead}
use Rattle.histar_programs.specs.Parts.{ask}
use Rattle.histar_programs.specs.Programs.{RunsPart}
use Rattle.histar_programs.specs.declared.call_error.CallError.{CallError}
use Rattle.histar_programs.specs.declared.call_error.CallError.TheVariants.{Stopped}
use Rattle.histar_programs.specs.declared.roots.Home.{Home}
use Rattle.histar_programs.proofs.Exits.{LeavesPart, ends_in_so, further_in}
use Rattle.histar_programs.proofs.Running.{before_ask, grants, refuses}
use Rattle.histar_process.specs.KillCall.{kill_known}
use Rattle.histar_process.specs.Parts.{home_of, must_be_there}
use Rattle.histar_process.specs.Reading.{read_head}
use Rattle.histar_process.proofs.Births.{written_so}
use Rattle.histar_process.proofs.Calling.{found_is, no_fault, unlinked_so}
use Rattle.histar_process.proofs.Killing.{after_head, after_unlink, no_child, not_read, with_head}
use Rattle.histar_process.proofs.kill.kill_known.Given as given
use Rattle.histar_process.proofs.kill.kill_known.Goals.{After-read_head, After-unlink}
use Rattle.histar_process.proofs.kill.kill_known.Goals as goal

module _ (g : given.Over) where
  module _ (c : After-read_head g) where
    -- the child that was found is in the status that the bytes show
    child_is : (status : ProcessStatus) → status_in c.args.parent.now.bytes.now ≡ Some status
        → Ok c.in_ok-child.child ≡ must_be_there (child_at status.children c.args.number)
    child_is status is =
        c.in_ok-child.ensures
        ∙ ap must_be_there (found_is c.args.parent.now.bytes.now status c.args.number c.in_ok-found.found is c.in_ok-found.ensures)

    -- the segment that is read is that of the child
    its_head : (result : Result StatusHead CallError)
        → RunsPart g.H.Heap.Refused (read_head c.home_of-its.result) c.args.kernel.now c.read_head.new.kernel c.args.thread result
        → RunsPart g.H.Heap.Refused (read_head (home_of c.in_ok-child.child)) c.args.kernel.now c.read_head.new.kernel c.args.thread result
    its_head result reads =
        subst (λ (h : Home). RunsPart g.H.Heap.Refused (read_head h) c.args.kernel.now c.read_head.new.kernel c.args.thread result)
        c.home_of-its.ensures reads

    -- the child's segment was read: what is left is to unlink the child, and to write the segment above
    left : (status : ProcessStatus) → status_in c.args.parent.now.bytes.now ≡ Some status → (head : StatusHead)
        → RunsPart g.H.Heap.Refused (read_head c.home_of-its.result) c.args.kernel.now c.read_head.new.kernel c.args.thread (Ok head)
        → LeavesPart g.H.Heap.Refused (Unit {0}) c.args.thread (kill_known c.args.parent.now.home.now status c.args.number) c.args.kernel.now
        (after_head c.args.parent.now.home.now status c.args.number c.in_ok-child.child head) c.read_head.new.kernel
    left status is head reads =
        with_head c.args.parent.now.home.now status c.args.number c.args.thread c.args.kernel.now c.in_ok-child.child (child_is status is) _ head
        (its_head (Ok head) reads)

  -- the container that is unlinked is that of the child
  its_container : (c : After-unlink g) (result : Result (Unit {0}) CallError)
      → RunsPart g.H.Heap.Refused (ask (Unlink c.args.parent.now.home.now.container c.home_of-its.result.container)) c.read_head.new.kernel
      c.unlink.new.self
      c.args.thread result
      → RunsPart g.H.Heap.Refused (ask (Unlink c.args.parent.now.home.now.container c.in_ok-child.child.container)) c.read_head.new.kernel
      c.unlink.new.self
      c.args.thread result
  its_container c result unlinks = unlinked_so _ _ _ _ _ _ _ refl (ap (λ (h : Home). h.container) c.home_of-its.ensures) result unlinks

pub returns-in_err-found : goal.returns-in_err-found
returns-in_err-found g c status is = absurd (no_fault _ status _ _ is
    c.in_err-found.ensures)

pub returns-in_err-child : goal.returns-in_err-child
returns-in_err-child g c status is =
    no_child _ status _ _ _ _ _ c.from_residual-in_err-child.ensures.1 (c.in_err-child.ensures
    ∙ ap must_be_there (found_is _ status _ _ is c.in_ok-found.ensures))

pub returns-in_err-read_head : goal.returns-in_err-read_head
returns-in_err-read_head g c status is =
    not_read _ status _ _ _ _
    (child_is g (goal.at.returns-in_err-read_head g c).After-read_head status is) _ _ _ c.from_residual-in_err-read_head.ensures.1
    (its_head g (goal.at.returns-in_err-read_head g c).After-read_head _ c.in_err-read_head.ensures)

pub returns-in_err-without : goal.returns-in_err-without
returns-in_err-without g c status is =
    ends_in_so (ask (Unlink c.args.parent.now.home.now.container c.in_ok-child.child.container))
    (after_unlink c.args.parent.now.home.now status c.args.number)
    (left g (goal.at.returns-in_err-without g c).After-read_head status is _ c.in_ok-read_head.ensures)
    _ Stopped _ c.from_residual-in_err-without.ensures.1
    (before_ask c.args.thread (Unlink c.args.parent.now.home.now.container c.in_ok-child.child.container) c.read_head.new.kernel
    c.in_err-without.ensures.memory)

pub returns-in_err-unlink : goal.returns-in_err-unlink
returns-in_err-unlink g c status is =
    ends_in_so _ (after_unlink _ status _) (left g (goal.at.returns-in_err-unlink g c).After-read_head status is _ c.in_ok-read_head.ensures)
    _ _ _ c.from_residual-in_err-unlink.ensures.1 (its_container g (goal.at.returns-in_err-unlink g c).After-unlink _
    (refuses _ _ _ _ _ _ c.in_err-unlink.ensures.ok c.in_err-unlink.ensures.memory))

pub returns : goal.returns
returns g c status is =
    (further_in _ (after_unlink _ status _) (left g (goal.at.returns g c).After-read_head status is _ c.in_ok-read_head.ensures)
    _ tt (its_container g (goal.at.returns g c).After-unlink (Ok tt) (grants _ _ _ _ tt c.in_ok-unlink.ensures.ok.0 tt))).leads _ _
    (written_so _ _ _ _ _ _ (c.in_ok-without.ensures.ok status is) _ c.write_segment.ensures)
