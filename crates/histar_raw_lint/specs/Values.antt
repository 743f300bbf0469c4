-- The rules for the values that the words of a raw call spell: numbers, labels, bytes, and a gate's entry.
use Rattle.std.specs.Prelude.{ℕ, ◌-◌, ◌%◌, Bool, true, false, not, take, drop, ◌&&◌, ◌||◌, ◌==◌, nat_le, nat_lt, List, [], ◌∷◌, ◌++◌, length}
use Rattle.std.specs.Prelude.{codes, decimal, Option, is_none, unwrap_or, if◌then◌else◌}
use Rattle.std.specs.List.{list_all, slice_split}
use Rattle.std.specs.Option.{option_map_or}
use Rattle.std.specs.Str.{bytes_eq}
use Rattle.histar_flat.specs.Words.{number_of, split_at_first}
use Rattle.histar_rules.specs.Rules.{greatest}
use Rattle.histar_rawtext.specs.Reading.{number_in}
use Rattle.histar_lint.specs.Lines.{Rule, begins_with, ends_with}

-- a decimal digit
abbrev pub is_digit : ℕ → Bool
is_digit b = nat_le 48 b && nat_le b 57

-- the word consists of digits, and of at least one
abbrev pub are_digits : List ℕ → Bool
are_digits word = not (length word == 0) && list_all is_digit word

-- there is a zero before other digits
abbrev pub has_zero : List ℕ → Bool
has_zero word = begins_with 48 word && nat_lt 1 (length word)

-- The rules for the spelling of a number of a kind, the greatest of which is `most`.
abbrev pub digit_rules : List ℕ → ℕ → List ℕ → List Rule
digit_rules noun most word =
    (has_zero word, noun ++ codes " has no zero before its digits")
    ∷ (is_none (number_of (λ n. nat_le n most) word), noun ++ codes " is at most " ++ decimal most)
    ∷ []

-- The rules for a number of a kind, the greatest of which is `most`.
abbrev pub number_rules : List ℕ → ℕ → List ℕ → List Rule
number_rules noun most word =
    (not (are_digits word), noun ++ codes " is a number") ∷ digit_rules noun most word

-- The rules for a number of a kind, which is 1 to `most`.
abbrev pub positive_rules : List ℕ → ℕ → List ℕ → List Rule
positive_rules noun most word =
    (bytes_eq word (codes "0"), noun ++ codes " is 1 or more") ∷ number_rules noun most word

-- a level
abbrev pub is_level : List ℕ → Bool
is_level [] = false
is_level (b ∷ []) = b == 42 || (nat_le 48 b && nat_le b 51)
is_level (b ∷ c ∷ text) = false

-- the sentence that lists the levels
abbrev pub level_sentence : List ℕ
level_sentence = codes "a level is *, 0, 1, 2 or 3"

-- the text before the first colon
abbrev pub before_colon : List ℕ → List ℕ
before_colon text = (split_at_first 58 text).0

-- the text after the first colon, if there is one
abbrev pub behind_colon : List ℕ → Option (List ℕ)
behind_colon text = (split_at_first 58 text).1

-- the text after the first colon, or none
abbrev pub text_behind : List ℕ → List ℕ
text_behind part = unwrap_or (behind_colon part) []

-- the category of a part of a label, or 0
abbrev pub category_of_part : List ℕ → ℕ
category_of_part part = unwrap_or (number_in (before_colon part)) 0

-- a word spells a number that is not above this one
abbrev pub is_late : ℕ → List ℕ → Bool
is_late before word = option_map_or (λ n. nat_le n before) (number_in word) false

-- The rules for a category after this one.
abbrev pub category_rules : ℕ → List ℕ → List Rule
category_rules before word =
    (bytes_eq word (codes "0"), codes "a category is 1 or more")
    ∷ (is_late before word, codes "the categories of a label rise")
    ∷ number_rules (codes "a category") greatest word

-- The rules for a category with its level, after this category, in a label that has this default.
abbrev pub exception_rules : List ℕ → ℕ → List ℕ → List Rule
exception_rules default before part =
    (is_none (behind_colon part), codes "a category has its level behind a colon, as in {4:3,1}")
    ∷ (not (is_level (text_behind part)), level_sentence)
    ∷ (bytes_eq (text_behind part) default, codes "a category with the default level is left out")
    ∷ category_rules before (before_colon part)

-- The rules for the categories of a label, one after another, after this one.
abbrev pub exceptions_rules : List ℕ → ℕ → List (List ℕ) → List Rule
exceptions_rules default before [] = []
exceptions_rules default before (part ∷ parts) =
    exception_rules default before part ++ exceptions_rules default (category_of_part part) parts

-- the last of some texts
abbrev pub last_of : List (List ℕ) → List ℕ
last_of [] = []
last_of (text ∷ []) = text
last_of (text ∷ more ∷ texts) = last_of (more ∷ texts)

-- the texts before the last one
abbrev pub before_last : List (List ℕ) → List (List ℕ)
before_last [] = []
before_last (text ∷ []) = []
before_last (text ∷ more ∷ texts) = text ∷ before_last (more ∷ texts)

-- a text is no default: it is empty or a category
abbrev pub lacks_default : List ℕ → Bool
lacks_default text = length text == 0 || not (is_none (behind_colon text))

-- the sentence that shows the parts of a label
abbrev pub list_sentence : List ℕ
list_sentence = codes "a label is levels by category and a default at last, as in {4:3,1}"

-- The rules for the default of a label and for its exceptions.
abbrev pub list_rules : List ℕ → List (List ℕ) → List Rule
list_rules default exceptions =
    (lacks_default default, list_sentence)
    ∷ (not (is_level default), level_sentence)
    ∷ exceptions_rules default 0 exceptions

-- The rules for the parts of a label, of which the last is the default.
abbrev pub part_rules : List (List ℕ) → List Rule
part_rules parts = list_rules (last_of parts) (before_last parts)

-- a text is in braces
abbrev pub is_braced : List ℕ → Bool
is_braced word = begins_with 123 word && ends_with 125 word

-- the text in the braces of a text
abbrev pub in_braces : List ℕ → List ℕ
in_braces word = take (length word - 2) (drop 1 word)

-- The rules for a label: in braces its parts, with a comma between two.
abbrev pub label_rules : List ℕ → List Rule
label_rules word =
    (not (is_braced word), codes "a label stands in braces, as in {4:3,1}")
    ∷ part_rules (slice_split (λ b. b == 44) (in_braces word))

-- a hexadecimal digit
abbrev pub is_hex_digit : ℕ → Bool
is_hex_digit b = is_digit b || (nat_le 97 b && nat_le b 102)

-- The rules for bytes.
abbrev pub bytes_rules : List ℕ → List Rule
bytes_rules word =
    (not (begins_with 120 word), codes "bytes are x and two digits for each, as in x0aff")
    ∷ (not (list_all is_hex_digit (drop 1 word)), codes "a digit of a byte is 0 to 9 or a to f")
    ∷ (length (drop 1 word) % 2 == 1, codes "the last byte has one digit, and a byte has two") ∷ []

-- the rule that a word breaks that is no gate's entry
abbrev pub entry_form : List Rule
entry_form = (true, codes "an entry is login:USER or mark:NUMBER") ∷ []

-- The rules for a gate's entry: a name, a colon and a number.
abbrev pub entry_rules : List ℕ → List Rule
entry_rules word =
    if is_none (behind_colon word) then entry_form
    else (if bytes_eq (before_colon word) (codes "login")
    then positive_rules (codes "a user") 255 (text_behind word)
    else (if bytes_eq (before_colon word) (codes "mark")
    then number_rules (codes "a mark") 4294967295 (text_behind word)
    else entry_form))
