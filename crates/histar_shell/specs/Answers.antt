-- The lines that answer the call lines of a script.
use Rattle.std.specs.Prelude.{ℕ, List, ◌++◌, codes, decimal, map}
use Rattle.std.specs.List.{flat_map}
use Rattle.histar_flat.specs.declared.replies.Reply.{Reply}
use Rattle.histar_flat.specs.Texts.{reply_text}
use Rattle.histar_flat.specs.Meaning.{RepliedCall}
use Rattle.histar_flat.specs.declared.calls.CallLine.{CallLine}

-- the number of a call line, a space, the text of the reply, and a line end
abbrev pub line_text : ℕ → Reply → List ℕ
line_text number reply = decimal number ++ codes " " ++ reply_text reply ++ codes "\n"

-- the line of an answer's reply
abbrev pub answer_text : RepliedCall → List ℕ
answer_text a = line_text a.call.line a.reply

-- the lines of all answers
abbrev pub answers_text : List RepliedCall → List ℕ
answers_text answers = flat_map answer_text answers

-- the call lines that were answered
abbrev pub calls_of : List RepliedCall → List CallLine
calls_of answers = map (λ a. a.call) answers
