-- Proves the goals of `Kernel::make_call` of src/kernel.rt that the search finds slowly.
use Rattle.histar_rules.proofs.Sound.{sound_decided}
use Rattle.histar_syscall.specs.Answers.{IsAnswerValue}
use Rattle.histar_syscall.specs.KernelModel.{KernelModel, state}
use Rattle.histar_syscall.proofs.Rooms.{recorded, unstored}
use Rattle.histar_syscall.proofs.kernel.Kernel.make_call.Goals as goal

pub returns-in_err-stored-clause-answered : goal.returns-in_err-stored-clause-answered
returns-in_err-stored-clause-answered g c =
    let before : KernelModel = record { kept = c.self.inside.objects; line = c.self.inside.line; trace = c.self.inside.trace.entries } in
    unstored _ before _ _ _ _ _ c.self.view_is c.store.ensures.entries c.from_residual.ensures.1

pub invariant_of-self-2 : goal.invariant_of-self-2
invariant_of-self-2 g c =
    let before : KernelModel = record { kept = c.self.inside.objects; line = c.self.inside.line; trace = c.self.inside.trace.entries } in
    sound_decided c.self.inside.objects c.decide-answer.new.objects _ _ _
    (IsAnswerValue (state before) c.args.thread c.args.call.now) c.self.invariant c.decide-answer.ensures.ok

pub returns-clause-answered : goal.returns-clause-answered
returns-clause-answered g c =
    let before : KernelModel = record { kept = c.self.inside.objects; line = c.self.inside.line; trace = c.self.inside.trace.entries } in
    recorded _ before _ _ c.record.new.self.entries _ _ _ c.record.result (λ k. IsAnswerValue (state k) c.args.thread c.args.call.now)
    c.self.view_is c.store.ensures.entries c.decide-answer.ensures.ok c.record.ensures.outcome
    (c.record.ensures.entries c.args.call.now c.in_ok-stored.ensures.stands)
