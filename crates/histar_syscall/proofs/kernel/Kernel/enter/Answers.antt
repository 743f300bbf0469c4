-- Proves the goals of `Kernel::enter` of src/kernel.rt that the search finds slowly.
use Rattle.histar_rules.proofs.Sound.{sound_decided}
use Rattle.histar_rules.specs.declared.raw.RawCall.TheVariants.{Enter}
use Rattle.histar_syscall.specs.KernelModel.{KernelModel}
use Rattle.histar_syscall.proofs.Rooms.{recorded_answer, unstored}
use Rattle.histar_syscall.proofs.kernel.Kernel.enter.Goals as goal

pub returns-in_err-call-clause-ok : goal.returns-in_err-call-clause-ok
returns-in_err-call-clause-ok g c =
    let before : KernelModel = record { kept = c.self.inside.objects; line = c.self.inside.line; trace = c.self.inside.trace.entries } in
    unstored _ before _ _ _ _ _ c.self.view_is c.store_enter.ensures.entries c.from_residual.ensures.1

pub invariant_of-self-2 : goal.invariant_of-self-2
invariant_of-self-2 g c =
    sound_decided c.self.inside.objects c.enter-answer.new.objects c.args.thread (Enter c.args.container c.args.gate c.args.labels.wanted.now
    c.args.labels.clearance.now c.args.labels.verify.now) _ _ c.self.invariant (rw
    c.new-access.ensures at c.enter-answer.ensures.ok)

pub returns-clause-ok : goal.returns-clause-ok
returns-clause-ok g c =
    let before : KernelModel = record { kept = c.self.inside.objects; line = c.self.inside.line; trace = c.self.inside.trace.entries } in
    recorded_answer _ before _ _ c.record.new.self.entries _
    (Enter c.args.container c.args.gate c.args.labels.wanted.now c.args.labels.clearance.now c.args.labels.verify.now) _
    c.record.result c.self.view_is c.store_enter.ensures.entries (rw c.new-access.ensures at c.enter-answer.ensures.ok)
    c.record.ensures.outcome (c.record.ensures.entries (Enter c.args.container c.args.gate c.args.labels.wanted.now
    c.args.labels.clearance.now c.args.labels.verify.now) c.in_ok-call.ensures.stands)
