-- Proves the goals of `Kernel::ask_own_label` of src/kernel.rt that the search finds slowly.
use Rattle.std.proofs.Common.{refl}
use Rattle.histar_level.specs.Levels.{Levels}
use Rattle.histar_rules.proofs.Sound.{sound_decided}
use Rattle.histar_rules.specs.declared.raw.RawCall.TheVariants.{OwnLabel}
use Rattle.histar_rules.specs.RawAnswers.{IsAnswer}
use Rattle.histar_syscall.specs.KernelModel.{KernelModel, state}
use Rattle.histar_syscall.proofs.Rooms.{recorded, unstored}
use Rattle.histar_syscall.proofs.kernel.Kernel.ask_own_label.Goals as goal

pub returns-in_err-make_room-clause-ok : goal.returns-in_err-make_room-clause-ok
returns-in_err-make_room-clause-ok g c =
    let before : KernelModel = record { kept = c.self.inside.objects; line = c.self.inside.line; trace = c.self.inside.trace.entries } in
    unstored _ before _ _ OwnLabel _ _ c.self.view_is c.make_room.ensures.entries c.from_residual.ensures.1

pub invariant_of-self-2 : goal.invariant_of-self-2
invariant_of-self-2 g c =
    sound_decided c.self.inside.objects c.self.inside.objects _ OwnLabel _ _ c.self.invariant c.check_own_label-answer.ensures.ok

pub returns-clause-ok : goal.returns-clause-ok
returns-clause-ok g c =
    let before : KernelModel = record { kept = c.self.inside.objects; line = c.self.inside.line; trace = c.self.inside.trace.entries } in
    recorded c.args.self.now before c.self.inside.objects c.make_room.new.self.entries c.record.new.self.entries c.args.thread OwnLabel
    c.check_own_label-answer.result c.record.result (λ k _.
    (own : Levels × Levels) × IsAnswer (state k) c.args.thread OwnLabel own) c.self.view_is c.make_room.ensures.entries
    c.check_own_label-answer.ensures.ok c.record.ensures.outcome (c.record.ensures.entries OwnLabel (record { kept = tt; is = refl }))
