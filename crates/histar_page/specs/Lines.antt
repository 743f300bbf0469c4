-- The lines of a run's output, by what they begin with.
use Rattle.std.specs.Prelude.{ℕ, ◌-◌, None, Some, slice_index_or, Bool, true, false, not, List, [], ◌∷◌, ◌==◌, codes, nat_eq, nat_le, Option, is_some, unwrap_or, if◌then◌else◌}
use Rattle.std.specs.Str.{bytes_eq}
use Rattle.std.specs.List.{ends_with}
use Rattle.histar_flat.specs.Words.{number_of}
use Rattle.histar_script.specs.Lines.{most_script_lines, onto_line, split_word}

-- the number that a line begins with, if it is that of a line of a script
abbrev pub front_number : List ℕ → Option ℕ
front_number line = number_of (λ n. nat_le n most_script_lines) (split_word line).0

-- the line of a script that a reply answers
abbrev pub call_on : List (List ℕ) → List ℕ → List ℕ
call_on script line = elim (front_number line) [ None ↦ [] | Some n ↦ slice_index_or script (n - 1) [] ]

-- a reply begins with the number of its call's line
abbrev pub is_reply : List ℕ → Bool
is_reply line = is_some (front_number line)

-- the text after the first word of a line
abbrev pub after_word : List ℕ → List ℕ
after_word line = unwrap_or (split_word line).1 []

-- a line begins with a mark
abbrev pub has_mark : ℕ → List ℕ → Bool
has_mark mark [] = false
has_mark mark (b ∷ bs) = b == mark

-- a raw call begins with `@`
abbrev pub is_raw_call : List ℕ → Bool
is_raw_call line = has_mark 64 line

-- an explanation begins with `?`
abbrev pub is_explanation : List ℕ → Bool
is_explanation line = has_mark 63 line

-- a reason of a refusal begins with `!`
abbrev pub is_reason : List ℕ → Bool
is_reason line = has_mark 33 line

-- the word after a mark: the number of the line that a raw call, an explanation or a reason belongs to
abbrev pub mark_number : List ℕ → List ℕ
mark_number [] = []
mark_number (b ∷ bs) = (split_word bs).0

-- the word after the mark of a line is this one
abbrev pub is_own : List ℕ → List ℕ → Bool
is_own word line = bytes_eq (mark_number line) word

-- a raw call was denied unless it ends with ` = ok`
abbrev pub is_denied : List ℕ → Bool
is_denied line = not (ends_with nat_eq line (codes " = ok"))

-- the text begins with `ok` or `=`, and is no refusal
abbrev pub begins_granted : List ℕ → Bool
begins_granted [] = false
begins_granted (b ∷ bs) = if b == 111 then true else b == 61

-- a reply is a refusal
abbrev pub is_refused : List ℕ → Bool
is_refused line = not (begins_granted (after_word line))

-- the list without its first text
abbrev pub without_first : List (List ℕ) → List (List ℕ)
without_first [] = []
without_first (text ∷ texts) = texts

-- the words of a line: each ends at a space, which the last may lack
unfoldable pub words_of : List ℕ → List (List ℕ)
words_of [] = []
words_of (b ∷ bs) = if b == 32 then [] ∷ words_of bs else onto_line b (words_of bs)
