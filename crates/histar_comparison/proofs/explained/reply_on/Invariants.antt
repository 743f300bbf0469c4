-- The invariants and measures of `reply_on` of src/explained.rt.
use Rattle.std.proofs.Common.{◌≡◌, drop}
use Rattle.histar_comparison.specs.Explained.{kept_on}
use Rattle.histar_comparison.proofs.explained.reply_on.Given as goal

abbrev pub invariant-loop-reply : goal.invariant-loop-reply
invariant-loop-reply l = kept_on l.line l.replies ≡ kept_on l.line (drop l.reply-index l.replies)
