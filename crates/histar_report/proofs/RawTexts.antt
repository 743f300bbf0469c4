-- The line of a raw call in a trace is one line, with the mark of a raw call and the number of its line.
use Rattle.std.proofs.Common.{◌≡◌, ℕ, ◌+◌, ◌/◌, ◌%◌, Bool, true, false, cond, eqb, ltb, List}
use Rattle.std.proofs.Common.{[], ◌∷◌, ◌++◌, Option, None, Some}
use Rattle.std.proofs.Common.{refl, sym, ap, ◌∙◌, arith, append_assoc}
use Rattle.std.specs.Prelude.{codes, decimal, map}
use Rattle.std.specs.List.{flat_map}
use Rattle.std.proofs.lemmas.Bool.{ne_eqb}
use Rattle.histar_level.specs.declared.level.Level.{Level}
use Rattle.histar_level.specs.declared.level.Level.TheVariants.{Star, L0, L1, L2, L3}
use Rattle.histar_level.specs.Levels.{Levels, default_of, exceptions_of}
use Rattle.histar_object.specs.declared.objects.Entry.{Entry}
use Rattle.histar_object.specs.declared.objects.Entry.TheVariants.{Login, Mark}
use Rattle.histar_rules.specs.declared.raw.Denied.{Denied}
use Rattle.histar_rules.specs.declared.raw.Denied.TheVariants.{Observe, Modify, Range, Gate, NoEntry, NoThread, BadKind, TooBig}
use Rattle.histar_rules.specs.declared.raw.RawCall.{RawCall}
use Rattle.histar_rules.specs.declared.raw.RawCall.TheVariants.{MakeCategory, OwnLabel, SetLabel, SetClearance, MakeSegment, MakeContainer}
use Rattle.histar_rules.specs.declared.raw.RawCall.TheVariants.{MakeThread, MakeGate, Enter, Read, Write, Unlink, LabelOf}
use Rattle.histar_trace.specs.declared.entries.TraceEntry.{TraceEntry}
use Rattle.histar_rawtext.specs.RawText.{byte_text, bytes_text, bytes_word, call_name, call_text, call_words, entry_word, exception_text}
use Rattle.histar_rawtext.specs.RawText.{gate_entry_text, hex_digit, label_text, label_word, level_text, number_word, outcome_text, thread_call_text}
use Rattle.histar_rawtext.specs.RawText.{trace_line, trace_text}
use Rattle.histar_report.proofs.OneLines.{IsOneLine, each_lined, joined, number_lined}
use Rattle.histar_report.proofs.TextLines.{with_ends}
use Rattle.histar_report.proofs.MarkedLines.{IsMarked}

-- ---- the words of a call

-- a level
pub level_lined : (l : Level) → IsOneLine (level_text l)
level_lined Star = refl
level_lined L0 = refl
level_lined L1 = refl
level_lined L2 = refl
level_lined L3 = refl

-- a category of a label
exception_lined : (e : ℕ × Level) → IsOneLine (exception_text e)
exception_lined e =
    joined ((decimal e.0 ++ codes ":") ++ level_text e.1) (codes ",")
    (joined (decimal e.0 ++ codes ":") (level_text e.1) (joined (decimal e.0) (codes ":") (number_lined e.0) refl) (level_lined e.1)) refl

-- a label
label_lined : (label : Levels) → IsOneLine (label_text label)
label_lined label =
    joined (flat_map exception_text (exceptions_of label) ++ level_text (default_of label)) (codes "}")
    (joined (flat_map exception_text (exceptions_of label)) (level_text (default_of label))
    (each_lined exception_text exception_lined (exceptions_of label)) (level_lined (default_of label))) refl

-- a digit of base sixteen
hex_other : (n : ℕ) → eqb (hex_digit n) 10 ≡ false
hex_other n = by (ltb n 10)
  where
    by : (t : Bool) → eqb (cond t (48 + n) (87 + n)) 10 ≡ false
    by true = ne_eqb (48 + n) 10 (λ e. omega arith)
    by false = ne_eqb (87 + n) 10 (λ e. omega arith)

-- bytes
bytes_lined : (bytes : List ℕ) → IsOneLine (bytes_text bytes)
bytes_lined bytes = each_lined byte_text (λ byte. rw (hex_other (byte / 16), hex_other (byte % 16)) refl) bytes

-- a gate's entry
entry_lined : (entry : Entry) → IsOneLine (gate_entry_text entry)
entry_lined (Login user) = number_lined user
entry_lined (Mark mark) = number_lined mark

-- ---- calls

-- the name of a call
call_name_lined : (call : RawCall) → IsOneLine (call_name call)
call_name_lined MakeCategory = refl
call_name_lined OwnLabel = refl
call_name_lined (SetLabel label) = refl
call_name_lined (SetClearance clearance) = refl
call_name_lined (MakeSegment container label bytes) = refl
call_name_lined (MakeContainer container label) = refl
call_name_lined (MakeThread container label clearance) = refl
call_name_lined (MakeGate container label clearance entry) = refl
call_name_lined (Enter container gate wanted clearance verify) = refl
call_name_lined (Read container segment) = refl
call_name_lined (Write container segment keep bytes) = refl
call_name_lined (Unlink container object) = refl
call_name_lined (LabelOf container object) = refl

-- the words after the name
words_lined : (call : RawCall) → IsOneLine (call_words call)
words_lined MakeCategory = refl
words_lined OwnLabel = refl
words_lined (SetLabel label) = label_lined label
words_lined (SetClearance clearance) = label_lined clearance
words_lined (MakeSegment container label bytes) =
    joined (number_word container ++ label_word label) (bytes_word bytes)
    (joined (number_word container) (label_word label) (number_lined container) (label_lined label)) (bytes_lined bytes)
words_lined (MakeContainer container label) = joined (number_word container) (label_word label) (number_lined container) (label_lined label)
words_lined (MakeThread container label clearance) =
    joined (number_word container ++ label_word label) (label_word clearance)
    (joined (number_word container) (label_word label) (number_lined container) (label_lined label)) (label_lined clearance)
words_lined (MakeGate container label clearance entry) =
    joined ((number_word container ++ label_word label) ++ label_word clearance) (entry_word entry)
    (joined (number_word container ++ label_word label) (label_word clearance)
    (joined (number_word container) (label_word label) (number_lined container) (label_lined label)) (label_lined clearance)) (entry_lined entry)
words_lined (Enter container gate wanted clearance verify) =
    joined (((number_word container ++ number_word gate) ++ label_word wanted) ++ label_word clearance) (label_word verify)
    (joined ((number_word container ++ number_word gate) ++ label_word wanted) (label_word clearance)
    (joined (number_word container ++ number_word gate) (label_word wanted)
    (joined (number_word container) (number_word gate) (number_lined container) (number_lined gate)) (label_lined wanted)) (label_lined clearance))
    (label_lined verify)
words_lined (Read container segment) = joined (number_word container) (number_word segment) (number_lined container) (number_lined segment)
words_lined (Write container segment keep bytes) =
    joined ((number_word container ++ number_word segment) ++ number_word keep) (bytes_word bytes)
    (joined (number_word container ++ number_word segment) (number_word keep)
    (joined (number_word container) (number_word segment) (number_lined container) (number_lined segment)) (number_lined keep)) (bytes_lined bytes)
words_lined (Unlink container object) = joined (number_word container) (number_word object) (number_lined container) (number_lined object)
words_lined (LabelOf container object) = joined (number_word container) (number_word object) (number_lined container) (number_lined object)

-- the outcome of a call
outcome_lined : (denied : Option Denied) → IsOneLine (outcome_text denied)
outcome_lined None = refl
outcome_lined (Some Observe) = refl
outcome_lined (Some Modify) = refl
outcome_lined (Some Range) = refl
outcome_lined (Some Gate) = refl
outcome_lined (Some NoEntry) = refl
outcome_lined (Some NoThread) = refl
outcome_lined (Some BadKind) = refl
outcome_lined (Some TooBig) = refl

-- ---- the line of an entry

-- what the line of an entry says after its number
abbrev said : TraceEntry → List ℕ
said entry = thread_call_text entry.thread entry.call ++ codes " = " ++ outcome_text entry.denied

-- the line of an entry, without its end
abbrev pub raw_line : TraceEntry → List ℕ
raw_line entry = codes "@" ++ (decimal entry.line ++ 32 ∷ said entry)

-- it is one line
pub raw_line_lined : (entry : TraceEntry) → IsOneLine (raw_line entry)
raw_line_lined entry =
    joined (decimal entry.line) (32 ∷ said entry) (number_lined entry.line)
    (joined (thread_call_text entry.thread entry.call ++ codes " = ") (outcome_text entry.denied)
    (joined (thread_call_text entry.thread entry.call) (codes " = ")
    (joined (decimal entry.thread ++ codes " ") (call_text entry.call) (joined (decimal entry.thread) (codes " ") (number_lined entry.thread) refl)
    (joined (call_name entry.call) (call_words entry.call) (call_name_lined entry.call) (words_lined entry.call)))
    refl) (outcome_lined entry.denied))

-- it has its mark and its number
pub raw_line_marked : (entry : TraceEntry) → IsMarked 64 entry.line (raw_line entry)
raw_line_marked entry = record { text = said entry; parts = refl }

-- texts behind a number and a space, put together from the right or from the left
parted : (n a b c : List ℕ) → (((n ++ codes " ") ++ a) ++ b) ++ c ≡ n ++ 32 ∷ ((a ++ b) ++ c)
parted n a b c =
    append_assoc ((n ++ codes " ") ++ a) b c ∙ append_assoc (n ++ codes " ") a (b ++ c) ∙ append_assoc n (codes " ") (a ++ (b ++ c))
    ∙ ap (λ (l : List ℕ). n ++ 32 ∷ l) (sym (append_assoc a b c))

-- a trace is made of these lines
pub trace_lines : (entries : List TraceEntry) → trace_text entries ≡ with_ends (map raw_line entries)
trace_lines [] = refl
trace_lines (entry ∷ entries) = λ i. same i ++ trace_lines entries i
  where
    same : trace_line entry ≡ raw_line entry ++ codes "\n"
    same =
        ap (λ (l : List ℕ). 64 ∷ (l ++ codes "\n"))
        (parted (decimal entry.line) (thread_call_text entry.thread entry.call) (codes " = ") (outcome_text entry.denied))
