-- Proves the goals of `Kernel::write` of src/kernel.rt that the search finds slowly.
use Rattle.std.proofs.Common.{◌≡◌}
use Rattle.histar_rules.proofs.Sound.{sound_decided}
use Rattle.histar_rules.specs.declared.raw.RawCall.TheVariants.{Write}
use Rattle.histar_syscall.specs.KernelModel.{KernelModel}
use Rattle.histar_syscall.proofs.Rooms.{recorded_answer, unstored}
use Rattle.histar_syscall.proofs.kernel.Kernel.write.Goals as goal

pub returns-in_err-call-clause-ok : goal.returns-in_err-call-clause-ok
returns-in_err-call-clause-ok g c =
    let before : KernelModel = record { kept = c.self.inside.objects; line = c.self.inside.line; trace = c.self.inside.trace.entries } in
    unstored _ before _ _ _ _ _ c.self.view_is c.store_write.ensures.entries c.from_residual.ensures.1

pub invariant_of-self-2 : goal.invariant_of-self-2
invariant_of-self-2 g c =
    let same : c.bytes-bytes.result.now ≡ c.args.bytes = cc (c.in_ok-call.ensures.bytes, c.bytes-bytes.ensures) in
    sound_decided c.self.inside.objects c.write-answer.new.objects c.args.thread (Write c.args.container c.args.segment c.args.keep c.args.bytes)
    _ _ c.self.invariant (rw (c.new-access.ensures, same) at c.write-answer.ensures.ok)

pub returns-clause-ok : goal.returns-clause-ok
returns-clause-ok g c =
    let before : KernelModel = record { kept = c.self.inside.objects; line = c.self.inside.line; trace = c.self.inside.trace.entries } in
    let same : c.bytes-bytes.result.now ≡ c.args.bytes = cc (c.in_ok-call.ensures.bytes, c.bytes-bytes.ensures) in
    recorded_answer _ before _ _ c.record.new.self.entries _
    (Write c.args.container c.args.segment c.args.keep c.args.bytes) _ c.record.result c.self.view_is
    c.store_write.ensures.entries (rw (c.new-access.ensures, same) at c.write-answer.ensures.ok) c.record.ensures.outcome (c.record.ensures.entries
    (Write c.args.container c.args.segment c.args.keep c.args.bytes) c.in_ok-call.ensures.stands)
