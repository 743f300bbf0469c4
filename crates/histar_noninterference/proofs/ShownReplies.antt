-- Replies differ exactly if their texts differ.
use Rattle.std.specs.Prelude.{◌≡◌, List, None, Some, [], cond, refl, ◌∷◌}
use Rattle.histar_base.specs.Paths.{same}
use Rattle.histar_flat.specs.Texts.{reply_text}
use Rattle.histar_noninterference.specs.declared.replies.ShownReply.{ShownReply}
use Rattle.histar_noninterference.specs.Replies.{FindsFirstLine, first_shown}

-- no line differs if the other run has no more replies
pub first_shown-nil : (as' : List ShownReply) → first_shown as' [] ≡ None
first_shown-nil [] = refl
first_shown-nil (a ∷ as') = refl

-- the first line at which two runs differ is the first at which their texts differ
pub finds_first_line : FindsFirstLine
finds_first_line [] bs = refl
finds_first_line (a ∷ as') [] = refl
finds_first_line (a ∷ as') (b ∷ bs) =
    λ i. cond (same (reply_text a.reply) (reply_text b.reply)) (finds_first_line as' bs i) (Some a.call.line)
