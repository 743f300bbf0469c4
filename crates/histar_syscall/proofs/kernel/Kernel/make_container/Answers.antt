-- Proves the goals of `Kernel::make_container` of src/kernel.rt that the search finds slowly.
use Rattle.histar_rules.proofs.Sound.{sound_decided}
use Rattle.histar_rules.specs.declared.raw.RawCall.TheVariants.{MakeContainer}
use Rattle.histar_syscall.specs.KernelModel.{KernelModel}
use Rattle.histar_syscall.proofs.Rooms.{made_numbered, recorded_answer, unstored}
use Rattle.histar_syscall.proofs.kernel.Kernel.make_container.Goals as goal

pub returns-in_err-call-clause-answered : goal.returns-in_err-call-clause-answered
returns-in_err-call-clause-answered g c =
    let before : KernelModel = record { kept = c.self.inside.objects; line = c.self.inside.line; trace = c.self.inside.trace.entries } in
    unstored _ before _ _ _ _ _ c.self.view_is c.store_make_container.ensures.entries c.from_residual.ensures.1

pub invariant_of-self-2 : goal.invariant_of-self-2
invariant_of-self-2 g c =
    sound_decided c.self.inside.objects c.make_container-answer.new.objects c.args.thread (MakeContainer c.args.container c.args.label)
    _ _ c.self.invariant (rw c.new-maker.ensures at c.make_container-answer.ensures.ok)

pub returns-clause-answered : goal.returns-clause-answered
returns-clause-answered g c =
    let before : KernelModel = record { kept = c.self.inside.objects; line = c.self.inside.line; trace = c.self.inside.trace.entries } in
    recorded_answer _ before _ _ c.record.new.self.entries _
    (MakeContainer c.args.container c.args.label) _ c.record.result
    c.self.view_is c.store_make_container.ensures.entries (rw c.new-maker.ensures at c.make_container-answer.ensures.ok) c.record.ensures.outcome
    (c.record.ensures.entries (MakeContainer c.args.container c.args.label) c.in_ok-call.ensures.stands)

pub returns-clause-numbered : goal.returns-clause-numbered
returns-clause-numbered g c =
    let before : KernelModel = record { kept = c.self.inside.objects; line = c.self.inside.line; trace = c.self.inside.trace.entries } in
    made_numbered before c.make_container-answer.new.objects c.args.thread (MakeContainer c.args.container c.args.label)
    c.make_container-answer.result c.record.result c.self.invariant (rw c.new-maker.ensures at c.make_container-answer.ensures.ok)
    c.record.ensures.outcome
