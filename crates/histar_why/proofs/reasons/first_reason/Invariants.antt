-- The invariants and measures of `first_reason` of src/reasons.rt.
use Rattle.std.proofs.Common.{◌≡◌, drop}
use Rattle.histar_why.specs.Reasons.{first_reason}
use Rattle.histar_why.proofs.reasons.first_reason.Given as goal

abbrev pub invariant-loop-part : goal.invariant-loop-part
invariant-loop-part l = first_reason l.view l.parts ≡ first_reason l.view (drop l.part-index l.parts)
