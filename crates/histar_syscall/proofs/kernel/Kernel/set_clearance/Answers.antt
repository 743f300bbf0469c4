-- Proves the goals of `Kernel::set_clearance` of src/kernel.rt that the search finds slowly.
use Rattle.histar_rules.proofs.Sound.{sound_decided}
use Rattle.histar_rules.specs.declared.raw.RawCall.TheVariants.{SetClearance}
use Rattle.histar_syscall.specs.KernelModel.{KernelModel}
use Rattle.histar_syscall.proofs.Rooms.{recorded_answer, unstored}
use Rattle.histar_syscall.proofs.kernel.Kernel.set_clearance.Goals as goal

pub returns-in_err-call-clause-ok : goal.returns-in_err-call-clause-ok
returns-in_err-call-clause-ok g c =
    let before : KernelModel = record { kept = c.self.inside.objects; line = c.self.inside.line; trace = c.self.inside.trace.entries } in
    unstored _ before _ _ _ _ _ c.self.view_is c.store_set_clearance.ensures.entries c.from_residual.ensures.1

pub invariant_of-self-2 : goal.invariant_of-self-2
invariant_of-self-2 g c =
    sound_decided c.self.inside.objects c.set_clearance-answer.new.objects c.args.thread (SetClearance c.args.clearance)
    _ _ c.self.invariant c.set_clearance-answer.ensures.ok

pub returns-clause-ok : goal.returns-clause-ok
returns-clause-ok g c =
    let before : KernelModel = record { kept = c.self.inside.objects; line = c.self.inside.line; trace = c.self.inside.trace.entries } in
    recorded_answer _ before _ _ c.record.new.self.entries _
    (SetClearance c.args.clearance) _ c.record.result c.self.view_is
    c.store_set_clearance.ensures.entries c.set_clearance-answer.ensures.ok c.record.ensures.outcome (c.record.ensures.entries (SetClearance
    c.args.clearance) c.in_ok-call.ensures.stands)
