-- Proves the goals of `Kernel::make_segment` of src/kernel.rt that the search finds slowly.
use Rattle.std.proofs.Common.{◌≡◌}
use Rattle.histar_rules.proofs.Sound.{sound_decided}
use Rattle.histar_rules.specs.declared.raw.RawCall.TheVariants.{MakeSegment}
use Rattle.histar_syscall.specs.KernelModel.{KernelModel}
use Rattle.histar_syscall.proofs.Rooms.{made_numbered, recorded_answer, unstored}
use Rattle.histar_syscall.proofs.kernel.Kernel.make_segment.Goals as goal

pub returns-in_err-call-clause-answered : goal.returns-in_err-call-clause-answered
returns-in_err-call-clause-answered g c =
    let before : KernelModel = record { kept = c.self.inside.objects; line = c.self.inside.line; trace = c.self.inside.trace.entries } in
    unstored _ before _ _ _ _ _ c.self.view_is c.store_make_segment.ensures.entries c.from_residual.ensures.1

pub invariant_of-self-2 : goal.invariant_of-self-2
invariant_of-self-2 g c =
    let same : c.bytes-bytes.result.now ≡ c.args.bytes = cc (c.in_ok-call.ensures.bytes, c.bytes-bytes.ensures) in
    sound_decided c.self.inside.objects c.make_segment-answer.new.objects c.args.thread (MakeSegment c.args.container c.args.label c.args.bytes)
    _ _ c.self.invariant (rw (c.new-maker.ensures, same) at c.make_segment-answer.ensures.ok)

pub returns-clause-answered : goal.returns-clause-answered
returns-clause-answered g c =
    let before : KernelModel = record { kept = c.self.inside.objects; line = c.self.inside.line; trace = c.self.inside.trace.entries } in
    let same : c.bytes-bytes.result.now ≡ c.args.bytes = cc (c.in_ok-call.ensures.bytes, c.bytes-bytes.ensures) in
    recorded_answer _ before _ _ c.record.new.self.entries _
    (MakeSegment c.args.container c.args.label c.args.bytes) _ c.record.result c.self.view_is
    c.store_make_segment.ensures.entries (rw (c.new-maker.ensures, same) at c.make_segment-answer.ensures.ok) c.record.ensures.outcome
    (c.record.ensures.entries (MakeSegment c.args.container c.args.label c.args.bytes) c.in_ok-call.ensures.stands)

pub returns-clause-numbered : goal.returns-clause-numbered
returns-clause-numbered g c =
    let before : KernelModel = record { kept = c.self.inside.objects; line = c.self.inside.line; trace = c.self.inside.trace.entries } in
    let same : c.bytes-bytes.result.now ≡ c.args.bytes = cc (c.in_ok-call.ensures.bytes, c.bytes-bytes.ensures) in
    made_numbered before c.make_segment-answer.new.objects c.args.thread (MakeSegment c.args.container c.args.label c.args.bytes)
    c.make_segment-answer.result c.record.result c.self.invariant (rw (c.new-maker.ensures, same) at c.make_segment-answer.ensures.ok)
    c.record.ensures.outcome
