-- The rules for the words of a call.
use Rattle.std.specs.Prelude.{ℕ, Bool, true, false, ◌==◌, List, [], ◌∷◌, ◌++◌, codes, length, Option, None, Some, is_none, is_some, nat_eq}
use Rattle.std.specs.Prelude.{◌&&◌, map, not, if◌then◌else◌}
use Rattle.std.specs.Option.{option_map_or}
use Rattle.std.specs.Str.{bytes_eq}
use Rattle.strsim.specs.Edits.{levenshtein_row}
use Rattle.histar_flat.specs.Words.{name_of, password_of, path_of, process_of, status_of}
use Rattle.histar_flat.specs.Modes.{mode_of}
use Rattle.histar_script.specs.CallForms.{Argument, CallForm, a_path, a_mode, any_bytes, a_name, a_password, a_process, a_number, alone}
use Rattle.histar_script.specs.CallForms.{one, two, call_forms}
use Rattle.histar_script.specs.Reading.{call_of, form_word}
use Rattle.histar_lint.specs.declared.shapes.Kind.{Kind}
use Rattle.histar_lint.specs.declared.shapes.Kind.TheVariants as kinds
use Rattle.histar_lint.specs.declared.shapes.Shape.{Shape}
use Rattle.histar_lint.specs.declared.shapes.Shape.TheVariants.{Alone, One, Two}
use Rattle.histar_lint.specs.Lines.{Rule, after_word, rest_of, word_of}

-- the kind of an argument
abbrev pub kind_of : Argument → Kind
kind_of a_path = kinds.Path
kind_of a_mode = kinds.Mode
kind_of any_bytes = kinds.Bytes
kind_of a_name = kinds.Name
kind_of a_password = kinds.Password
kind_of a_process = kinds.Process
kind_of (a_number greatest) = kinds.Status

-- the kinds of the arguments of a call
abbrev pub shape_of : CallForm → Shape
shape_of (alone word call) = Alone
shape_of (one word a make) = One (kind_of a)
shape_of (two word a b make) = Two (kind_of a) (kind_of b)

-- the shape of the first of these calls that has this word
abbrev pub shape_among : List CallForm → List ℕ → Option Shape
shape_among [] word = None
shape_among (form ∷ forms) word = if bytes_eq word (form_word form) then Some (shape_of form) else shape_among forms word

-- the shape of the call that a word names
abbrev pub shape_named : List ℕ → Option Shape
shape_named = shape_among call_forms

-- the name of an argument in the form of a call
abbrev pub kind_name : Kind → List ℕ
kind_name kinds.Path = codes "PATH"
kind_name kinds.Mode = codes "MODE"
kind_name kinds.Bytes = codes "BYTES"
kind_name kinds.Name = codes "NAME"
kind_name kinds.Password = codes "PASSWORD"
kind_name kinds.Process = codes "PROC"
kind_name kinds.Status = codes "STATUS"

-- what an argument has to be
abbrev pub kind_text : Kind → List ℕ
kind_text kinds.Path = codes "a path is / or up to 8 names, each behind a slash and of 1 to 32 of a-z, 0-9, dot, underscore and hyphen"
kind_text kinds.Mode = codes "a mode is private, readable, open or group:NAME of a declared group"
kind_text kinds.Bytes = codes "bytes follow a space"
kind_text kinds.Name = codes "a name has 1 to 32 of a-z, 0-9, dot, underscore and hyphen"
kind_text kinds.Password = codes "a password has 1 to 32 printable bytes and no space"
kind_text kinds.Process = codes "a process is 0, or 0 and up to 7 numbers from 1 to 64 with a dot before each"
kind_text kinds.Status = codes "an exit status is a number from 0 to 255"

-- the text is a value of the kind
abbrev pub is_value : Kind → List ℕ → Bool
is_value kinds.Path text = is_some (path_of text)
is_value kinds.Mode text = is_some (mode_of text)
is_value kinds.Bytes text = true
is_value kinds.Name text = is_some (name_of text)
is_value kinds.Password text = is_some (password_of text)
is_value kinds.Process text = is_some (process_of text)
is_value kinds.Status text = is_some (status_of text)

-- the names of the arguments, with a space before each
abbrev pub arguments_text : Shape → List ℕ
arguments_text Alone = []
arguments_text (One a) = codes " " ++ kind_name a
arguments_text (Two a b) = codes " " ++ kind_name a ++ codes " " ++ kind_name b

-- the sentence with the form of a call
abbrev pub usage_text : List ℕ → Shape → List ℕ
usage_text word shape = codes "the call is `PROC " ++ word ++ arguments_text shape ++ codes "`"

-- an argument that is all the rest of its line
abbrev pub is_bytes : Kind → Bool
is_bytes kinds.Bytes = true
is_bytes kind = false

-- more words follow the last argument, which is of this kind and begins this text
abbrev pub goes_on : Kind → List ℕ → Bool
goes_on kind text = not (is_bytes kind) && is_some (after_word text)

-- more words follow than the call has arguments
abbrev pub has_too_much : List ℕ → Shape → Bool
has_too_much text Alone = is_some (after_word text)
has_too_much text (One a) = goes_on a (rest_of text)
has_too_much text (Two a b) = goes_on b (rest_of (rest_of text))

-- the call lacks an argument
abbrev pub has_too_little : List ℕ → Shape → Bool
has_too_little text Alone = false
has_too_little text (One a) = is_none (after_word text)
has_too_little text (Two a b) = is_none (after_word (rest_of text))

-- what the first argument that is not valid has to be
abbrev pub bad_argument : List ℕ → Shape → List ℕ
bad_argument text Alone = []
bad_argument text (One a) = kind_text a
bad_argument text (Two a b) = if is_value a (word_of (rest_of text)) then kind_text b else kind_text a

-- one insertion, deletion or substitution turns one word into the other
abbrev pub is_near : List ℕ → List ℕ → Bool
is_near word other = levenshtein_row nat_eq word other (length other) == 1

-- the first of these calls whose word is near to this one
unfoldable pub first_near : List ℕ → List (List ℕ) → Option (List ℕ)
first_near word [] = None
first_near word (call ∷ calls) = if is_near word call then Some call else first_near word calls

-- the first call whose word is near to this one
abbrev pub nearest : List ℕ → Option (List ℕ)
nearest word = first_near word (map form_word call_forms)

-- the question whether this call was meant
abbrev pub suggestion : List ℕ → List ℕ
suggestion call = codes " (did you mean " ++ call ++ codes "?)"

-- the sentence that there is no such call, with the one that may have been meant
abbrev pub unknown_text : List ℕ → List ℕ
unknown_text word = codes "there is no call " ++ word ++ option_map_or suggestion (nearest word) []

-- the rules for the arguments of a call of this shape
abbrev pub argument_rules : List ℕ → Shape → List Rule
argument_rules text shape =
    (has_too_much text shape, usage_text (word_of text) shape)
    ∷ (has_too_little text shape, usage_text (word_of text) shape)
    ∷ (is_none (call_of text), bad_argument text shape) ∷ []

-- the rules for a call of this shape, or for an unknown word
abbrev pub shape_rules : List ℕ → Option Shape → List Rule
shape_rules text None = (true, unknown_text (word_of text)) ∷ []
shape_rules text (Some shape) = argument_rules text shape

-- The rules for the words of a call line: its process, its call, and its arguments. The text is what follows the process.
abbrev pub call_word_rules : List ℕ → List ℕ → List Rule
call_word_rules process text = (is_none (process_of process), kind_text kinds.Process) ∷ shape_rules text (shape_named (word_of text))
