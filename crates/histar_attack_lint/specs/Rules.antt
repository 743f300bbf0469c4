-- The rules of a line of a mixed session, each with the sentence that is written where a bad line breaks it.
use Rattle.std.specs.Prelude.{ℕ, true, List, [], ◌∷◌, ◌++◌, length}
use Rattle.std.specs.Prelude.{codes, decimal, nat_lt, Option, None, Some, is_none, if◌then◌else◌}
use Rattle.std.specs.Str.{bytes_eq}
use Rattle.histar_script.specs.Lines.{most_line_bytes}
use Rattle.histar_script.specs.Script.{ScriptModel}
use Rattle.histar_lint.specs.Lines.{Rule, after_word, first_sentence, printable_rules, rest_of, space_rules, word_of}
use Rattle.histar_lint.specs.Rules.{rules_for}
use Rattle.histar_raw_lint.specs.Rules.{call_rules, thread_rules}

-- the sentence with the form of a line with a raw call
abbrev pub raw_form : List ℕ
raw_form = codes "a line with a raw call is `thread N CALL`, as in `thread 2 make_category`"

-- the sentence that a raw call has too many bytes, with their number
abbrev pub long_call_text : List ℕ → List ℕ
long_call_text call = codes "the raw call has " ++ decimal (length call) ++ codes " bytes, and 1024 is the most"

-- The rules for the bytes of a line with this raw call, which may be as long as a line of a raw session.
abbrev pub raw_byte_rules : List ℕ → List ℕ → List Rule
raw_byte_rules line call = (nat_lt most_line_bytes (length call), long_call_text call) ∷ printable_rules line

-- The rules for the words behind `thread `: the number of a thread, and a call.
abbrev pub raw_word_rules : List ℕ → List Rule
raw_word_rules call = (is_none (after_word call), raw_form) ∷ (thread_rules (word_of call) ++ call_rules (rest_of call))

-- The rules for a line whose first word is `thread`, and for what follows it, if anything does.
abbrev pub thread_line_rules : List ℕ → Option (List ℕ) → List Rule
thread_line_rules line None = (true, raw_form) ∷ []
thread_line_rules line (Some call) = raw_byte_rules line call ++ (space_rules line None ++ raw_word_rules call)

-- The rules for a line of a text with these lines, in their order, given the script of the lines above.
abbrev pub mixed_rules : List (List ℕ) → ScriptModel → List ℕ → List Rule
mixed_rules lines s line =
    if bytes_eq (word_of line) (codes "thread") then thread_line_rules line (after_word line)
    else rules_for lines s line

-- the sentence of the first rule that the line breaks
abbrev pub mixed_sentence : List (List ℕ) → ScriptModel → List ℕ → Option (List ℕ)
mixed_sentence lines s line = first_sentence (mixed_rules lines s line)
