-- The invariants and measures of `push_reasons` of src/lines.rt.
use Rattle.std.proofs.Common.{◌≡◌, ◌++◌, take}
use Rattle.std.specs.List.{flat_map}
use Rattle.histar_raw_explain.specs.Texts.{both_fail, reason_lines}
use Rattle.histar_raw_explain.proofs.lines.push_reasons.Given as goal

abbrev pub invariant-loop-reason : goal.invariant-loop-reason
invariant-loop-reason g l =
    l.text.items
    ≡ l.fn.text.items
    ++ flat_map (reason_lines (g.V.Wording.words l.words) l.opening (both_fail l.reasons)) (take l.reason-index l.reasons)
