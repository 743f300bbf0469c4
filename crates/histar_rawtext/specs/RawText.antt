-- The texts of raw calls, and of the entries of the trace.
use Rattle.std.specs.Prelude.{ℕ, ◌+◌, ◌/◌, ◌%◌, nat_lt, List, [], ◌∷◌, ◌++◌, Option, None, Some, codes, if◌then◌else◌}
use Rattle.std.specs.List.{flat_map}
use Rattle.std.specs.Fmt.{decimal}
use Rattle.histar_level.specs.declared.level.Level.{Level}
use Rattle.histar_level.specs.declared.level.Level.TheVariants.{Star, L0, L1, L2, L3}
use Rattle.histar_level.specs.Levels.{Levels, exceptions_of, default_of}
use Rattle.histar_object.specs.declared.objects.Entry.{Entry}
use Rattle.histar_object.specs.declared.objects.Entry.TheVariants.{Login, Mark}
use Rattle.histar_rules.specs.declared.raw.Denied.{Denied}
use Rattle.histar_rules.specs.declared.raw.Denied.TheVariants.{Observe, Modify, Range, Gate, NoEntry, NoThread, BadKind, TooBig}
use Rattle.histar_rules.specs.declared.raw.RawCall.{RawCall}
use Rattle.histar_rules.specs.declared.raw.RawCall.TheVariants.{MakeCategory, OwnLabel, SetLabel, SetClearance, MakeSegment, MakeContainer}
use Rattle.histar_rules.specs.declared.raw.RawCall.TheVariants.{MakeThread, MakeGate, Enter, Read, Write, Unlink, LabelOf}
use Rattle.histar_syscall.specs.declared.answers.Answer.{Answer}
use Rattle.histar_syscall.specs.declared.answers.Answer.TheVariants as answers
use Rattle.histar_trace.specs.declared.entries.TraceEntry.{TraceEntry}

-- the text of a level
abbrev pub level_text : Level → List ℕ
level_text Star = codes "*"
level_text L0 = codes "0"
level_text L1 = codes "1"
level_text L2 = codes "2"
level_text L3 = codes "3"

-- a category that has another level than the default: its number, a colon, its level, and a comma
abbrev pub exception_text : ℕ × Level → List ℕ
exception_text e = decimal e.0 ++ codes ":" ++ level_text e.1 ++ codes ","

-- a label: in braces its exceptions by rising categories, and then its default
abbrev pub label_text : Levels → List ℕ
label_text label = codes "{" ++ flat_map exception_text (exceptions_of label) ++ level_text (default_of label) ++ codes "}"

-- a digit of base sixteen: 0 to 9, and then a to f
abbrev pub hex_digit : ℕ → ℕ
hex_digit n = if nat_lt n 10 then 48 + n else 87 + n

-- a byte as its two digits of base sixteen
abbrev pub byte_text : ℕ → List ℕ
byte_text byte = hex_digit (byte / 16) ∷ hex_digit (byte % 16) ∷ []

-- bytes: an x, and then two digits a byte
abbrev pub bytes_text : List ℕ → List ℕ
bytes_text bytes = codes "x" ++ flat_map byte_text bytes

-- a gate's entry: the login gate of a user, or a mark
abbrev pub gate_entry_text : Entry → List ℕ
gate_entry_text (Login user) = codes "login:" ++ decimal user
gate_entry_text (Mark mark) = codes "mark:" ++ decimal mark

-- a further word of a call that is a number
abbrev pub number_word : ℕ → List ℕ
number_word n = codes " " ++ decimal n

-- a further word of a call that is a label
abbrev pub label_word : Levels → List ℕ
label_word label = codes " " ++ label_text label

-- a further word of a call that is bytes
abbrev pub bytes_word : List ℕ → List ℕ
bytes_word bytes = codes " " ++ bytes_text bytes

-- a further word of a call that is a gate's entry
abbrev pub entry_word : Entry → List ℕ
entry_word entry = codes " " ++ gate_entry_text entry

-- the name of a raw call
abbrev pub call_name : RawCall → List ℕ
call_name MakeCategory = codes "make_category"
call_name OwnLabel = codes "self"
call_name (SetLabel label) = codes "set_label"
call_name (SetClearance clearance) = codes "set_clearance"
call_name (MakeSegment container label bytes) = codes "make_segment"
call_name (MakeContainer container label) = codes "make_container"
call_name (MakeThread container label clearance) = codes "make_thread"
call_name (MakeGate container label clearance entry) = codes "make_gate"
call_name (Enter container gate wanted clearance verify) = codes "enter"
call_name (Read container segment) = codes "read"
call_name (Write container segment keep bytes) = codes "write"
call_name (Unlink container object) = codes "unlink"
call_name (LabelOf container object) = codes "label"

-- the words after the name, each with a space before it
abbrev pub call_words : RawCall → List ℕ
call_words MakeCategory = []
call_words OwnLabel = []
call_words (SetLabel label) = label_word label
call_words (SetClearance clearance) = label_word clearance
call_words (MakeSegment container label bytes) = number_word container ++ label_word label ++ bytes_word bytes
call_words (MakeContainer container label) = number_word container ++ label_word label
call_words (MakeThread container label clearance) = number_word container ++ label_word label ++ label_word clearance
call_words (MakeGate container label clearance entry) = number_word container ++ label_word label ++ label_word clearance ++ entry_word entry
call_words (Enter container gate wanted clearance verify) = number_word container ++ number_word gate ++ label_word wanted ++ label_word clearance ++ label_word verify
call_words (Read container segment) = number_word container ++ number_word segment
call_words (Write container segment keep bytes) = number_word container ++ number_word segment ++ number_word keep ++ bytes_word bytes
call_words (Unlink container object) = number_word container ++ number_word object
call_words (LabelOf container object) = number_word container ++ number_word object

-- a raw call: its name, and then its words
abbrev pub call_text : RawCall → List ℕ
call_text call = call_name call ++ call_words call

-- a raw call of a thread: the number of the thread, and then the call
abbrev pub thread_call_text : ℕ → RawCall → List ℕ
thread_call_text thread call = decimal thread ++ codes " " ++ call_text call

-- the name of a denial
abbrev pub denied_text : Denied → List ℕ
denied_text Observe = codes "Observe"
denied_text Modify = codes "Modify"
denied_text Range = codes "Range"
denied_text Gate = codes "Gate"
denied_text NoEntry = codes "NoEntry"
denied_text NoThread = codes "NoThread"
denied_text BadKind = codes "BadKind"
denied_text TooBig = codes "TooBig"

-- the outcome of a call: ok, or the name of its denial
abbrev pub outcome_text : Option Denied → List ℕ
outcome_text None = codes "ok"
outcome_text (Some denied) = denied_text denied

-- the line of an entry of the trace: the line of the script, the call of the thread, and its outcome
abbrev pub trace_line : TraceEntry → List ℕ
trace_line entry = codes "@" ++ decimal entry.line ++ codes " " ++ thread_call_text entry.thread entry.call ++ codes " = " ++ outcome_text entry.denied ++ codes "\n"

-- the trace: the lines of its entries
abbrev pub trace_text : List TraceEntry → List ℕ
trace_text entries = flat_map trace_line entries

-- the answer of a granted raw call: ok, the new category or object, the thread's label and clearance, the gate's entry, the bytes of the
-- segment, or the label of the object
abbrev pub answer_text : Answer → List ℕ
answer_text answers.Done = codes "ok"
answer_text (answers.Category category) = codes "cat " ++ decimal category
answer_text (answers.OwnLabel label clearance) = label_text label ++ codes " " ++ label_text clearance
answer_text (answers.Object object) = codes "obj " ++ decimal object
answer_text (answers.Entry entry) = gate_entry_text entry
answer_text (answers.Bytes bytes) = bytes_text bytes
answer_text (answers.Label label) = label_text label
