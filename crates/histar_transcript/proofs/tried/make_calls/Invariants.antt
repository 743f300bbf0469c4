-- The invariants and measures of `make_calls` of src/tried.rt.
use Rattle.std.proofs.Common.{map}
use Rattle.histar_transcript.specs.Tried.{AddsReplies}
use Rattle.histar_transcript.proofs.tried.make_calls.Given as goal

abbrev pub invariant-calls : goal.invariant-calls
invariant-calls g l =
    AddsReplies l.shown.first (map (λ line. line.now) l.shown.lines.now) l.fn.machine l.machine l.fn.said l.said l.yielded
