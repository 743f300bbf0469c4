-- Proves the goals of `ask_password` of src/login.rt that the search leaves open.
use Rattle.std.proofs.Common.{Result, subst}
use Rattle.histar_rules.specs.declared.raw.RawCall.TheVariants.{Read}
use Rattle.histar_rules.specs.Memory.{OnOutOfMemory}
use Rattle.histar_syscall.specs.KernelModel.{ReadsLent}
use Rattle.histar_programs.proofs.Running.{fails_so, grants, refuses}
use Rattle.histar_login.proofs.LoginRuns.{asks_none, asks_password, reads}
use Rattle.histar_login.proofs.login.ask_password.Goals as goal

pub returns-in_err-kept : goal.returns-in_err-kept
returns-in_err-kept g c =
    let left = subst (λ (r : Result _ _). ReadsLent c.args.kernel.now c.args.thread c.new.result c.password_segment.result r
    c.read.follows.lender-at-none) c.in_err-kept.was c.read.follows.holds-at-none in
    fails_so _ _ _ c.read.follows.lender-at-none _ _ c.from_residual.ensures.1 (asks_none _ _ _ _ c.read.follows.lender-at-none _
    (reads _ _ c.read.follows.lender-at-none _ _ _ _ c.new.ensures c.password_segment.ensures (refuses _ _ _ c.read.follows.lender-at-none _ _ left
    (subst (λ (r : Result _ _). OnOutOfMemory r g.H.Heap.Refused) c.in_err-kept.was c.read.ensures.memory))))

pub returns : goal.returns
returns g c =
    let kept = c.in_ok-kept.kept.now in
    let left = subst (λ (r : Result _ _). ReadsLent c.args.kernel.now c.args.thread c.new.result c.password_segment.result r
    c.read.follows.lender-at-none) c.in_ok-kept.was c.read.follows.holds-at-none in
    asks_password _ _ _ _ c.read.follows.lender-at-none kept _ (reads _ _ c.read.follows.lender-at-none _ _ _ _ c.new.ensures
    c.password_segment.ensures
    (grants c.args.thread (Read c.new.result c.password_segment.result) c.args.kernel.now c.read.follows.lender-at-none kept left.0 left.1))
    c.is_password.ensures
