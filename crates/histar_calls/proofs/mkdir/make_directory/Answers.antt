-- Proves the goals of `make_directory` of src/mkdir.rt that the search leaves open.
use Rattle.std.proofs.Common.{Ok, Err, Result, subst}
use Rattle.histar_rules.specs.declared.raw.RawCall.TheVariants.{OwnLabel}
use Rattle.histar_rules.specs.Memory.{OnOutOfMemory}
use Rattle.histar_syscall.specs.KernelModel.{OwnLent}
use Rattle.histar_layout.specs.Categories.{label_made}
use Rattle.histar_programs.specs.declared.call_error.CallError.TheVariants.{Stopped}
use Rattle.histar_calls.specs.Mkdir.{add_directory, make_directory}
use Rattle.histar_programs.proofs.Exits.{LeavesPart, ends_in_so, further_in, whole_part}
use Rattle.histar_calls.proofs.MakingDirectories.{adds_so, after_own, before_adding}
use Rattle.histar_programs.proofs.Running.{fails_so, grants, refuses}
use Rattle.histar_calls.proofs.mkdir.make_directory.Given as given
use Rattle.histar_calls.proofs.mkdir.make_directory.Goals as goal
use Rattle.histar_calls.proofs.mkdir.make_directory.Goals.{In_ok-own}

pub returns-in_err-own : goal.returns-in_err-own
returns-in_err-own g c =
    ends_in_so _ (after_own _ _ _) (whole_part _ _ _) c.lend_own_label.follows.lender-at-none _ _ c.from_residual.ensures.1
    (refuses _ OwnLabel _ c.lend_own_label.follows.lender-at-none _ _
    (subst (λ (r : Result _ _). OwnLent c.args.kernel.now c.args.unix.now.caller.now.thread r c.lend_own_label.follows.lender-at-none)
    c.in_err-own.was c.lend_own_label.follows.holds-at-none)
    (subst (λ (r : Result _ _). OnOutOfMemory r g.H.Heap.Refused) c.in_err-own.was c.lend_own_label.ensures.memory))

-- the thread's own label was lent
lent : (g : given.Over) (c : In_ok-own g)
    → OwnLent c.args.kernel.now c.args.unix.now.caller.now.thread (Ok c.in_ok-own.own) c.lend_own_label.follows.lender-at-none
lent g c =
    subst (λ (r : Result _ _). OwnLent c.args.kernel.now c.args.unix.now.caller.now.thread r c.lend_own_label.follows.lender-at-none)
    c.in_ok-own.was c.lend_own_label.follows.holds-at-none

-- once the label was lent, it is left to add the directory
adding : (g : given.Over) (c : In_ok-own g)
    → LeavesPart g.H.Heap.Refused (Unit {0}) c.args.unix.now.caller.now.thread (make_directory c.args.unix.now.users.now c.args.mode c.args.room)
    c.args.kernel.now
    (add_directory (label_made c.args.unix.now.users.now c.in_ok-own.own.now c.args.mode) c.args.room) c.lend_own_label.follows.lender-at-none
adding g c =
    further_in _ (after_own _ _ _) (whole_part _ _ _) c.lend_own_label.follows.lender-at-none (c.in_ok-own.own.now, (lent g c).1.0)
    (grants _ OwnLabel _ c.lend_own_label.follows.lender-at-none (c.in_ok-own.own.now, (lent g c).1.0) (lent g c).0 (lent g c).1.1)

pub returns-in_err-label : goal.returns-in_err-label
returns-in_err-label g c =
    fails_so _ _ _ c.lend_own_label.follows.lender-at-none Stopped _ c.from_residual-in_err-label.ensures.1
    ((adding g (goal.at.returns-in_err-label g c).In_ok-own).leads c.lend_own_label.follows.lender-at-none (Err Stopped) (before_adding _ _ _
    c.lend_own_label.follows.lender-at-none c.in_err-label.ensures.memory))

pub returns : goal.returns
returns g c =
    (adding g (goal.at.returns g c).In_ok-own).leads c.add_directory.new.kernel c.add_directory.result
    (adds_so _ c.lend_own_label.follows.lender-at-none _ _ _ _ c.in_ok-label.ensures.ok _ c.add_directory.ensures)
