-- The invariants and measures of `bad_line` of src/session.rt.
use Rattle.std.proofs.Common.{◌-◌}
use Rattle.histar_raw_lint.proofs.FirstBadLine.{IsAt}
use Rattle.histar_raw_lint.proofs.session.bad_line.Given as goal

abbrev pub invariant-ahead : goal.invariant-ahead
invariant-ahead l = IsAt l.text l.rest l.left l.bad

abbrev pub decreases-ahead : goal.decreases-ahead
decreases-ahead l = l.left - 1
