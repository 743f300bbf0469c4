-- Lines of a text, and their first words.
use Rattle.std.specs.Prelude.{ℕ, ◌||◌, ◌&&◌, Bool, List, [], ◌∷◌, ◌++◌, length, nat_lt, nat_le, Option, if◌then◌else◌, ◌==◌}
use Rattle.std.specs.List.{list_all}
use Rattle.histar_flat.specs.Words.{split_at_first}

-- the lines with one more byte in front of the first
abbrev pub onto_line : ℕ → List (List ℕ) → List (List ℕ)
onto_line b [] = (b ∷ []) ∷ []
onto_line b (line ∷ lines) = (b ∷ line) ∷ lines

-- the lines: each ends with the byte 10, which the last may lack
unfoldable pub lines_of : List ℕ → List (List ℕ)
lines_of [] = []
lines_of (b ∷ bs) = if b == 10 then [] ∷ lines_of bs else onto_line b (lines_of bs)

-- the most bytes of a script: 1,048,576
abbrev pub most_script_bytes : ℕ
most_script_bytes = 1048576

-- the most lines of a script: 16,384
abbrev pub most_script_lines : ℕ
most_script_lines = 16384

-- the most bytes of a line: 1,024
abbrev pub most_line_bytes : ℕ
most_line_bytes = 1024

-- the text has more bytes or more lines than a script may have
abbrev pub is_too_long : List ℕ → Bool
is_too_long text = nat_lt most_script_bytes (length text) || nat_lt most_script_lines (length (lines_of text))

-- a printable byte
abbrev pub is_plain_byte : ℕ → Bool
is_plain_byte b = nat_le 32 b && nat_le b 126

-- a line of printable bytes, and no more of them than a line may have
unfoldable pub is_plain : List ℕ → Bool
is_plain line = nat_le (length line) most_line_bytes && list_all is_plain_byte line

-- two texts with one space between them
infixr 60 ◌space◌
abbrev pub ◌space◌ : List ℕ → List ℕ → List ℕ
word space rest = word ++ 32 ∷ rest

-- the bytes before the first space, and those after it if there is one
abbrev pub split_word : List ℕ → List ℕ × Option (List ℕ)
split_word = split_at_first 32
