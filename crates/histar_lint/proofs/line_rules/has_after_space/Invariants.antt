-- The invariants and measures of `has_after_space` of src/line_rules.rt.
use Rattle.std.proofs.Common.{◌≡◌, length}
use Rattle.histar_lint.specs.Lines.{has_after_space}
use Rattle.histar_lint.proofs.line_rules.has_after_space.Given as goal

abbrev pub decreases-loop-rest : goal.decreases-loop-rest
decreases-loop-rest l = length l.rest

abbrev pub invariant-loop-rest : goal.invariant-loop-rest
invariant-loop-rest l = has_after_space l.byte l.text ≡ has_after_space l.byte l.rest
