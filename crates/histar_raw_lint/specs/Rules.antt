-- The rules of a line of a raw session, each with the sentence that is written where a bad line breaks it.
use Rattle.std.specs.Prelude.{ℕ, Bool, true, false, not, List, [], ◌∷◌, ◌++◌, codes, Option, None, Some, is_none, map}
use Rattle.std.specs.Prelude.{if◌then◌else◌}
use Rattle.std.specs.List.{flat_map}
use Rattle.std.specs.Option.{option_map_or}
use Rattle.std.specs.Str.{bytes_eq}
use Rattle.histar_rules.specs.Rules.{greatest}
use Rattle.histar_lint.specs.Lines.{Rule, after_word, byte_rules, first_sentence, rest_of, space_rules, word_of}
use Rattle.histar_lint.specs.Calls.{first_near, suggestion}
use Rattle.histar_raw_lint.specs.declared.kinds.Kind.{Kind}
use Rattle.histar_raw_lint.specs.declared.kinds.Kind.TheVariants.{Container, Object, Segment, Gate, Keep, Label, Clearance, Verify, Bytes, Entry}
use Rattle.histar_raw_lint.specs.Values.{bytes_rules, are_digits, digit_rules, entry_rules, label_rules, number_rules}

-- the calls that change the labels of a thread or make objects, each with the kinds of its arguments
abbrev pub making_calls : List (List ℕ × List Kind)
making_calls =
    (codes "make_category", [])
    ∷ (codes "self", [])
    ∷ (codes "set_label", Label ∷ [])
    ∷ (codes "set_clearance", Clearance ∷ [])
    ∷ (codes "make_segment", Container ∷ Label ∷ Bytes ∷ [])
    ∷ (codes "make_container", Container ∷ Label ∷ [])
    ∷ (codes "make_thread", Container ∷ Label ∷ Clearance ∷ [])
    ∷ (codes "make_gate", Container ∷ Label ∷ Clearance ∷ Entry ∷ []) ∷ []

-- the calls on objects that are there
abbrev pub object_calls : List (List ℕ × List Kind)
object_calls =
    (codes "enter", Container ∷ Gate ∷ Label ∷ Clearance ∷ Verify ∷ [])
    ∷ (codes "read", Container ∷ Segment ∷ [])
    ∷ (codes "write", Container ∷ Segment ∷ Keep ∷ Bytes ∷ [])
    ∷ (codes "unlink", Container ∷ Object ∷ [])
    ∷ (codes "label", Container ∷ Object ∷ []) ∷ []

-- the raw calls
abbrev pub raw_calls : List (List ℕ × List Kind)
raw_calls = making_calls ++ object_calls

-- the kinds of the arguments of the first of these calls that has this name
abbrev pub kinds_among : List (List ℕ × List Kind) → List ℕ → Option (List Kind)
kinds_among [] name = None
kinds_among (call ∷ calls) name =
    if bytes_eq name call.0 then Some call.1 else kinds_among calls name

-- the name of an argument in the form of a call
abbrev pub kind_name : Kind → List ℕ
kind_name Container = codes "CONTAINER"
kind_name Object = codes "OBJECT"
kind_name Segment = codes "SEGMENT"
kind_name Gate = codes "GATE"
kind_name Keep = codes "KEEP"
kind_name Label = codes "LABEL"
kind_name Clearance = codes "CLEARANCE"
kind_name Verify = codes "VERIFY"
kind_name Bytes = codes "BYTES"
kind_name Entry = codes "ENTRY"

-- the form of a call
abbrev pub usage_text : List ℕ → List Kind → List ℕ
usage_text name kinds =
    codes "the call is `THREAD " ++ name
    ++ flat_map (λ k. codes " " ++ kind_name k) kinds ++ codes "`"

-- the first raw call whose name is near
abbrev pub nearest : List ℕ → Option (List ℕ)
nearest name = first_near name (map (λ (call : List ℕ × List Kind). call.0) raw_calls)

-- the sentence that there is no such call, with the one that may be meant
abbrev pub unknown_text : List ℕ → List ℕ
unknown_text name =
    codes "there is no raw call " ++ name ++ option_map_or suggestion (nearest name) []

-- there are as many further words as arguments
unfoldable pub fits : List Kind → Option (List ℕ) → Bool
fits [] None = true
fits [] (Some words) = false
fits (kind ∷ kinds) None = false
fits (kind ∷ kinds) (Some words) = fits kinds (after_word words)

-- The rules for a value of a kind.
abbrev pub value_rules : Kind → List ℕ → List Rule
value_rules Container word = number_rules (codes "a container") greatest word
value_rules Object word = number_rules (codes "an object") greatest word
value_rules Segment word = number_rules (codes "a segment") greatest word
value_rules Gate word = number_rules (codes "a gate") greatest word
value_rules Keep word = number_rules (codes "KEEP") 4294967295 word
value_rules Label word = label_rules word
value_rules Clearance word = label_rules word
value_rules Verify word = label_rules word
value_rules Bytes word = bytes_rules word
value_rules Entry word = entry_rules word

-- The rules for the arguments of a call, one after another.
abbrev pub argument_rules : List Kind → Option (List ℕ) → List Rule
argument_rules [] words = []
argument_rules (kind ∷ kinds) None = []
argument_rules (kind ∷ kinds) (Some words) =
    value_rules kind (word_of words) ++ argument_rules kinds (after_word words)

-- The rules for a call whose name has arguments of these kinds, or names none.
abbrev pub kinds_rules : List ℕ → Option (List Kind) → List Rule
kinds_rules text None = (true, unknown_text (word_of text)) ∷ []
kinds_rules text (Some kinds) =
    (not (fits kinds (after_word text)), usage_text (word_of text) kinds)
    ∷ argument_rules kinds (after_word text)

-- The rules for a call: its name, and its arguments.
abbrev pub call_rules : List ℕ → List Rule
call_rules text = kinds_rules text (kinds_among raw_calls (word_of text))

-- The rules for the number of a thread.
abbrev pub thread_rules : List ℕ → List Rule
thread_rules word =
    (not (are_digits word), codes "a thread is a number, as in `2 make_category`")
    ∷ digit_rules (codes "a thread") greatest word

-- The rule that a line has a second word.
abbrev pub second_word_rules : List ℕ → List Rule
second_word_rules line = (is_none (after_word line), codes "a line is `THREAD CALL`, as in `2 make_category`") ∷ []

-- The rules for the words of any line.
abbrev pub word_rules : List ℕ → List Rule
word_rules line = space_rules line None ++ second_word_rules line

-- The rules for a line of a raw session, in their order.
abbrev pub rules_for : List ℕ → List Rule
rules_for line =
    byte_rules line
    ++ (word_rules line ++ (thread_rules (word_of line) ++ call_rules (rest_of line)))

-- the sentence of the first rule that the line breaks
abbrev pub sentence : List ℕ → Option (List ℕ)
sentence line = first_sentence (rules_for line)
