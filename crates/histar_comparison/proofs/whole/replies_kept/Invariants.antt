-- The invariants and measures of `replies_kept` of src/whole.rt.
use Rattle.std.proofs.Common.{◌≡◌, length}
use Rattle.histar_comparison.specs.Replies.{no_replies, with_replies}
use Rattle.histar_comparison.specs.Whole.{answered}
use Rattle.histar_comparison.proofs.whole.replies_kept.Given as goal

abbrev pub invariant-answers : goal.invariant-answers
invariant-answers g l = with_replies l.job l.kept (answered l.calls l.replies)
    ≡ with_replies l.job no_replies (answered l.fn.calls l.fn.replies)

abbrev pub decreases-answers : goal.decreases-answers
decreases-answers g l = length l.calls
