-- The free part of a line, and the rules for the words of any line.
use Rattle.std.specs.Prelude.{ℕ, ◌||◌, ◌==◌, List, [], ◌∷◌, ◌++◌, length, codes, Option, None, Some, is_none, is_some, if◌then◌else◌}
use Rattle.std.specs.Option.{option_and_then}
use Rattle.std.specs.Str.{bytes_eq}
use Rattle.histar_lint.specs.declared.shapes.Kind.{Kind}
use Rattle.histar_lint.specs.declared.shapes.Kind.TheVariants.{Bytes, Name, Password}
use Rattle.histar_lint.specs.declared.shapes.Shape.{Shape}
use Rattle.histar_lint.specs.declared.shapes.Shape.TheVariants.{Alone, One, Two}
use Rattle.histar_lint.specs.Lines.{Rule, after_word, rest_of, space_rules, word_of}
use Rattle.histar_lint.specs.Calls.{shape_named}

-- a text without the spaces at its beginning
abbrev pub behind_spaces : List ℕ → List ℕ
behind_spaces [] = []
behind_spaces (b ∷ text) = if b == 32 then behind_spaces text else b ∷ text

-- what follows the first word of a text and the spaces behind it
abbrev pub words_behind : List ℕ → List ℕ
words_behind text = behind_spaces (rest_of text)

-- the text, if it is one word: not empty, and without a space
abbrev pub one_word : List ℕ → Option (List ℕ)
one_word text = if length text == 0 || is_some (after_word text) then None else Some text

-- the free part of an argument of this kind, with which its line ends: bytes, or a password
abbrev pub free_in : Kind → List ℕ → Option (List ℕ)
free_in Bytes text = Some text
free_in Password text = one_word (behind_spaces text)
free_in kind text = None

-- the free part of a call of this shape, which is this text; what follows the word of an unknown call may be bytes
abbrev pub free_in_call : Option Shape → List ℕ → Option (List ℕ)
free_in_call None text = after_word text
free_in_call (Some Alone) text = None
free_in_call (Some (One a)) text = option_and_then (free_in a) (after_word text)
free_in_call (Some (Two a b)) text = option_and_then (free_in b) (after_word (words_behind text))

-- the free part of a line, in which a space and a number sign mean nothing: the bytes of a call, or a password
abbrev pub free_of : List ℕ → Option (List ℕ)
free_of line =
    if bytes_eq (word_of line) (codes "user") then free_in_call (Some (Two Name Password)) line
    else (if bytes_eq (word_of line) (codes "group") then None
    else free_in_call (shape_named (word_of (words_behind line))) (words_behind line))

-- The rule that a line has a second word.
abbrev pub second_word_rules : List ℕ → List Rule
second_word_rules line =
    (is_none (after_word line), codes "a line is `user NAME PASSWORD`, `group NAME USER..` or `PROC CALL`") ∷ []

-- The rules for the words of any line.
abbrev pub word_rules : List ℕ → List Rule
word_rules line = space_rules line (free_of line) ++ second_word_rules line
