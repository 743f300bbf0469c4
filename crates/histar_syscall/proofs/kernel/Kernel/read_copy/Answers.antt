-- Proves the goals of `Kernel::read_copy` of src/kernel.rt that the search finds slowly.
use Rattle.std.proofs.Common.{refl}
use Rattle.histar_rules.proofs.Sound.{sound_decided}
use Rattle.histar_rules.specs.declared.raw.RawCall.TheVariants.{Read}
use Rattle.histar_syscall.specs.KernelModel.{KernelModel}
use Rattle.histar_syscall.proofs.Rooms.{recorded_answer, unstored}
use Rattle.histar_syscall.proofs.kernel.Kernel.read_copy.Goals as goal

pub returns-in_err-make_room-clause-ok : goal.returns-in_err-make_room-clause-ok
returns-in_err-make_room-clause-ok g c =
    let before : KernelModel = record { kept = c.self.inside.objects; line = c.self.inside.line; trace = c.self.inside.trace.entries } in
    unstored _ before _ _ _ _ _ c.self.view_is c.make_room.ensures.entries c.from_residual.ensures.1

pub invariant_of-self-2 : goal.invariant_of-self-2
invariant_of-self-2 g c =
    sound_decided c.self.inside.objects c.read-answer.new.objects c.args.thread (Read c.args.container c.args.segment) _
    _ c.self.invariant (rw c.new-access.ensures at c.read-answer.ensures.ok)

pub returns-clause-ok : goal.returns-clause-ok
returns-clause-ok g c =
    let before : KernelModel = record { kept = c.self.inside.objects; line = c.self.inside.line; trace = c.self.inside.trace.entries } in
    recorded_answer _ before _ _ c.record.new.self.entries _
    (Read c.args.container c.args.segment) _ c.record.result c.self.view_is
    c.make_room.ensures.entries (rw c.new-access.ensures at c.read-answer.ensures.ok) c.record.ensures.outcome (c.record.ensures.entries (Read
    c.args.container c.args.segment) (record { kept = tt; is = refl }))
