-- The invariants and measures of `sentence_on` of src/session.rt.
use Rattle.std.proofs.Common.{◌-◌}
use Rattle.histar_attack_lint.proofs.LinesBefore.{IsAt}
use Rattle.histar_attack_lint.proofs.session.sentence_on.Given as goal

abbrev pub decreases-right : goal.decreases-right
decreases-right l = l.bad - l.count

abbrev pub invariant-right : goal.invariant-right
invariant-right l = IsAt l.text l.rest l.script l.count l.bad
