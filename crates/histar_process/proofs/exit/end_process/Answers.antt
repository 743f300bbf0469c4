-- Proves the goals of `end_process` of src/exit.rt that the search leaves open.
use Rattle.std.proofs.Common.{◌≡◌, ℕ, List, Some, Result, Ok, sym, subst}
use Rattle.histar_layout.specs.Status.{ProcessStatus, once_exited, status_in}
use Rattle.histar_programs.specs.Programs.{RunsPart}
use Rattle.histar_programs.specs.declared.call_error.CallError.{CallError}
use Rattle.histar_programs.proofs.Running.{fails_so, grants, refuses}
use Rattle.histar_process.specs.Parts.{write_status}
use Rattle.histar_process.specs.Reading.{IsRewritten, IsSegment}
use Rattle.histar_process.proofs.Births.{before_write, written_so}
use Rattle.histar_process.proofs.Exiting.{not_written, unlinked}
use Rattle.histar_process.proofs.exit.end_process.Given as given
use Rattle.histar_process.proofs.exit.end_process.Goals.{After-write_segment}
use Rattle.histar_process.proofs.exit.end_process.Goals as goal

-- the bytes that the code writes are those of the status that is due
written : (g : given.Over) (c : After-write_segment g) (status : ProcessStatus) → IsSegment c.args.segment status
    → (result : Result (Unit {0}) CallError)
    → IsRewritten g.H.Heap.Refused c.args.unix.now.caller.now.home c.in_ok-bytes.bytes c.args.kernel.now c.write_segment.new.kernel
    c.args.unix.now.caller.now.thread result
    → RunsPart g.H.Heap.Refused (write_status c.args.unix.now.caller.now.home (once_exited c.args.number status)) c.args.kernel.now
    c.write_segment.new.kernel
    c.args.unix.now.caller.now.thread result
written g c status segment result writes =
    written_so _ _ _ _ _ _
    (c.in_ok-bytes.ensures.ok status (subst (λ (bytes : List ℕ). status_in bytes ≡ Some status) (sym c.as_slice.ensures) segment.status_is))
    result writes

pub returns-in_err-bytes : goal.returns-in_err-bytes
returns-in_err-bytes g c status segment =
    not_written _ _ status _ _ _ _ _ c.from_residual.ensures.1
    (before_write c.args.unix.now.caller.now.thread _ (once_exited c.args.number status) c.args.kernel.now c.in_err-bytes.ensures.memory)

pub returns-in_err-write_segment : goal.returns-in_err-write_segment
returns-in_err-write_segment g c status segment =
    not_written _ _ status _ _ _ _ _ c.from_residual-in_err-write_segment.ensures.1
    (written g (goal.at.returns-in_err-write_segment g c).After-write_segment status segment _ c.in_err-write_segment.ensures)

pub returns-in_err-unlink : goal.returns-in_err-unlink
returns-in_err-unlink g c status segment =
    fails_so _ _ _ _ _ _ c.from_residual-in_err-unlink.ensures.1 (unlinked _ _ status _ _ _ _ segment _
    (written g (goal.at.returns-in_err-unlink g c).After-write_segment status segment (Ok tt) c.in_ok-write_segment.ensures) _
    (refuses _ _ _ _ _ _ c.in_err-unlink.ensures.ok c.in_err-unlink.ensures.memory))

pub returns : goal.returns
returns g c status segment =
    unlinked _ _ status _ _ _ _ segment _
    (written g (goal.at.returns g c).After-write_segment status segment (Ok tt) c.in_ok-write_segment.ensures) (Ok tt)
    (grants _ _ _ _ tt c.in_ok-unlink.ensures.ok.0 tt)
