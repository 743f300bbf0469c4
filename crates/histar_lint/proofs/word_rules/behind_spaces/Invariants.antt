-- The invariants and measures of `behind_spaces` of src/word_rules.rt.
use Rattle.std.proofs.Common.{◌≡◌, length}
use Rattle.histar_lint.specs.FreeParts.{behind_spaces}
use Rattle.histar_lint.proofs.word_rules.behind_spaces.Given as goal

abbrev pub decreases-loop-rest : goal.decreases-loop-rest
decreases-loop-rest l = length l.rest

abbrev pub invariant-loop-rest : goal.invariant-loop-rest
invariant-loop-rest l = behind_spaces l.text ≡ behind_spaces l.rest
