-- The invariants and measures of `first_line` of src/replies.rt.
use Rattle.std.proofs.Common.{◌≡◌, length}
use Rattle.histar_noninterference.specs.Replies.{first_shown}
use Rattle.histar_noninterference.proofs.replies.first_line.Given as goal

abbrev pub invariant-loop-rest : goal.invariant-loop-rest
invariant-loop-rest l = first_shown l.rest l.other_rest ≡ first_shown l.replies l.others

abbrev pub decreases-loop-rest : goal.decreases-loop-rest
decreases-loop-rest l = length l.rest
