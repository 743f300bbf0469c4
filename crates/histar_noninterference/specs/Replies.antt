-- The replies of two runs, as they are printed.
use Rattle.std.specs.Prelude.{◌≡◌, ℕ, cond, List, [], ◌∷◌, Option, None, Some, map}
use Rattle.histar_base.specs.Paths.{same}
use Rattle.histar_flat.specs.Texts.{reply_text}
use Rattle.histar_flat.specs.Meaning.{RepliedCall}
use Rattle.histar_noninterference.specs.declared.replies.ShownReply.{ShownReply}
use Rattle.histar_noninterference.specs.Comparison.{first_line}

-- the number of a line, and the text of its reply
abbrev pub shown : RepliedCall → ShownReply
shown a = record { line = a.call.line; text = reply_text a.reply }

-- the number of the first line at which the texts of two replies differ
abbrev pub first_shown : List ShownReply → List ShownReply → Option ℕ
first_shown [] bs = None
first_shown (a ∷ as') [] = None
first_shown (a ∷ as') (b ∷ bs) = cond (same a.text b.text) (first_shown as' bs) (Some a.line)

-- replies differ exactly if their texts differ
abbrev pub FindsFirstLine : Type 0
FindsFirstLine = (as' bs : List RepliedCall) → first_line as' bs ≡ first_shown (map shown as') (map shown bs)
