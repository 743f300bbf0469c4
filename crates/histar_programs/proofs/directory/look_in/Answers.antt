-- Proves the goals of `look_in` of src/directory.rt that the search leaves open.
use Rattle.std.proofs.Common.{Result, subst}
use Rattle.histar_rules.specs.declared.raw.RawCall.TheVariants.{Read}
use Rattle.histar_rules.specs.Memory.{OnOutOfMemory}
use Rattle.histar_syscall.specs.KernelModel.{ReadsLent}
use Rattle.histar_programs.specs.Parts.{look_in}
use Rattle.histar_programs.proofs.Running.{grants, refuses, fails_so}
use Rattle.histar_programs.proofs.Directories.{look_refused, looks}
use Rattle.histar_programs.proofs.directory.look_in.Goals as goal

pub returns-in_err-bytes : goal.returns-in_err-bytes
returns-in_err-bytes g c =
    let call = Read c.args.place.container c.args.place.listing in
    let left =
    subst (λ (r : Result _ _). ReadsLent c.args.kernel.now c.args.thread c.args.place.container c.args.place.listing r
    c.read.follows.lender-at-none) c.in_err-bytes.was c.read.follows.holds-at-none in
    fails_so c.args.thread (look_in c.args.place c.args.name.now) c.args.kernel.now c.read.follows.lender-at-none _ _ c.from_residual.ensures.1
    (look_refused c.args.thread c.args.kernel.now c.read.follows.lender-at-none c.args.place c.args.name.now _
    (refuses c.args.thread call c.args.kernel.now c.read.follows.lender-at-none _ c.in_err-bytes.field-0.0 left
    (subst (λ (r : Result _ _). OnOutOfMemory r g.H.Heap.Refused) c.in_err-bytes.was c.read.ensures.memory)))

pub returns : goal.returns
returns g c =
    let call = Read c.args.place.container c.args.place.listing in
    let left =
    subst (λ (r : Result _ _). ReadsLent c.args.kernel.now c.args.thread c.args.place.container c.args.place.listing r
    c.read.follows.lender-at-none) c.in_ok-bytes.was c.read.follows.holds-at-none in
    looks c.args.thread c.args.kernel.now c.read.follows.lender-at-none c.args.place c.args.name.now
    c.in_ok-bytes.bytes.now
    (grants c.args.thread call c.args.kernel.now c.read.follows.lender-at-none c.in_ok-bytes.bytes.now left.0
    left.1)
    c.look_up.result c.look_up.ensures.found
