-- The parts of a line, and the rules for its bytes and its spaces.
use Rattle.std.specs.Prelude.{ℕ, ◌+◌, ◌-◌, ◌%◌, ◌/◌, Bool, false, ◌&&◌, ◌||◌, ◌==◌, nat_lt, List, [], ◌∷◌, ◌++◌, length, codes, decimal}
use Rattle.std.specs.Prelude.{Option, None, Some, is_none, is_some, take, unwrap_or, if◌then◌else◌}
use Rattle.std.specs.List.{slice_get}
use Rattle.std.specs.Option.{option_map_or}
use Rattle.histar_script.specs.Lines.{is_plain_byte, most_line_bytes, split_word}

-- a rule: whether a line breaks it, and the sentence that is then written
abbrev pub Rule : Type 0
Rule = Bool × List ℕ

-- the sentence of the first of these rules that is broken
abbrev pub first_sentence : List Rule → Option (List ℕ)
first_sentence [] = None
first_sentence (rule ∷ rules) = if rule.0 then Some rule.1 else first_sentence rules

-- the first word of a text
abbrev pub word_of : List ℕ → List ℕ
word_of text = (split_word text).0

-- what follows the first word of a text, if anything does
abbrev pub after_word : List ℕ → Option (List ℕ)
after_word text = (split_word text).1

-- what follows the first word of a text
abbrev pub rest_of : List ℕ → List ℕ
rest_of text = unwrap_or (after_word text) []

-- the text begins with this byte
abbrev pub begins_with : ℕ → List ℕ → Bool
begins_with b [] = false
begins_with b (c ∷ text) = c == b

-- the text ends with this byte
abbrev pub ends_with : ℕ → List ℕ → Bool
ends_with b text = option_map_or (λ c. c == b) (slice_get text (length text - 1)) false

-- the text has a space directly followed by this byte
abbrev pub has_after_space : ℕ → List ℕ → Bool
has_after_space b [] = false
has_after_space b (c ∷ text) = (c == 32 && begins_with b text) || has_after_space b text

-- a line up to its free part, if it ends in one
abbrev pub before_free : List ℕ → Option (List ℕ) → List ℕ
before_free line free = option_map_or (λ part. take (length line - length part) line) free line

-- a hexadecimal digit
abbrev pub hex_digit : ℕ → ℕ
hex_digit n = if nat_lt n 10 then 48 + n else 87 + n

-- a byte in hexadecimal
abbrev pub hex_text : ℕ → List ℕ
hex_text b = codes "0x" ++ hex_digit (b / 16) ∷ hex_digit (b % 16) ∷ []

-- the column and the value of the first byte that is not printable, with columns numbered from this one on
abbrev pub unprintable_from : ℕ → List ℕ → Option (ℕ × ℕ)
unprintable_from n [] = None
unprintable_from n (b ∷ line) = if is_plain_byte b then unprintable_from (n + 1) line else Some (n, b)

-- the sentence that a byte is not printable, with its column
abbrev pub unprintable_text : ℕ × ℕ → List ℕ
unprintable_text found = codes "byte " ++ hex_text found.1 ++ codes " at column " ++ decimal found.0 ++ codes " is not printable"

-- the sentence that a line has too many bytes, with their number
abbrev pub long_text : List ℕ → List ℕ
long_text line = codes "the line has " ++ decimal (length line) ++ codes " bytes, and 1024 is the most"

-- The rules that the bytes of a line are printable.
abbrev pub printable_rules : List ℕ → List Rule
printable_rules line =
    (ends_with 13 line, codes "the line ends with a carriage return (0x0d)")
    ∷ (is_some (unprintable_from 1 line), option_map_or unprintable_text (unprintable_from 1 line) []) ∷ []

-- The rules for the bytes of a line.
abbrev pub byte_rules : List ℕ → List Rule
byte_rules line = (nat_lt most_line_bytes (length line), long_text line) ∷ printable_rules line

-- The rules for the spaces of a line. They are not for its free part, if it ends in one.
abbrev pub space_rules : List ℕ → Option (List ℕ) → List Rule
space_rules line free =
    (begins_with 32 line, codes "a space stands at the beginning of the line")
    ∷ (is_none free && ends_with 32 line, codes "a space stands at the end of the line")
    ∷ (has_after_space 35 (before_free line free), codes "a comment has a line of its own")
    ∷ (has_after_space 32 (before_free line free), codes "two spaces stand one behind the other") ∷ []
