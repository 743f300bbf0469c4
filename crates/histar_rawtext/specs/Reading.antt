-- The raw call that a line is read as. Some lines are read that are no raw calls, for example with a zero before a number: the reader
-- compares each line with the text of the call that it was read as.
use Rattle.std.specs.Prelude.{ℕ, ◌==◌, nat_le, List, [], ◌∷◌, codes, Option, Some, None, option_and_then, Result, Ok, Err, if◌then◌else◌}
use Rattle.std.specs.List.{slice_split}
use Rattle.std.specs.Str.{bytes_eq}
use Rattle.hex.specs.declared.error.FromHexError.{FromHexError}
use Rattle.hex.specs.Hex.{decode_of}
use Rattle.histar_flat.specs.Words.{number_of, split_at_first}
use Rattle.histar_level.specs.declared.level.Level.{Level}
use Rattle.histar_level.specs.declared.level.Level.TheVariants.{Star, L0, L1, L2, L3}
use Rattle.histar_level.specs.Levels.{Levels}
use Rattle.histar_label.specs.Levels.{constant, with_level}
use Rattle.histar_object.specs.declared.objects.Entry.{Entry}
use Rattle.histar_object.specs.declared.objects.Entry.TheVariants.{Login, Mark}
use Rattle.histar_rules.specs.declared.raw.RawCall.{RawCall}
use Rattle.histar_rules.specs.declared.raw.RawCall.TheVariants.{MakeCategory, OwnLabel, SetLabel, SetClearance, MakeSegment, MakeContainer}
use Rattle.histar_rules.specs.declared.raw.RawCall.TheVariants.{MakeThread, MakeGate, Enter, Read, Write, Unlink, LabelOf}
use Rattle.histar_rules.specs.Rules.{greatest}

-- goes on with a value, if there is one
infixl 10 ◌>>=◌
abbrev pub ◌>>=◌ : {A B : Type 0} → Option A → (A → Option B) → Option B
o >>= f = option_and_then f o

-- a number between these two
abbrev pub between : ℕ → ℕ → ℕ → Option ℕ
between least most n = if nat_le least n then (if nat_le n most then Some n else None) else None

-- the number of 64 bits that a word spells
abbrev pub number_in : List ℕ → Option ℕ
number_in = number_of (λ n. nat_le n greatest)

-- the number of a category that a word spells: 1 or more
abbrev pub category_in : List ℕ → Option ℕ
category_in word = number_in word >>= between 1 greatest

-- the number of 32 bits that a word spells
abbrev pub short_number_in : List ℕ → Option ℕ
short_number_in word = number_in word >>= between 0 4294967295

-- the number of a user that a word spells: 1 to 255
abbrev pub user_in : List ℕ → Option ℕ
user_in word = number_in word >>= between 1 255

-- the level that a text begins with
abbrev pub level_in : List ℕ → Option Level
level_in [] = None
level_in (b ∷ bs) = if b == 42 then Some Star else (if b == 48 then Some L0 else (if b == 49 then Some L1 else (if b == 50 then Some L2 else (if b == 51 then Some L3 else None))))

-- the category and the level that a text names with a colon between
unfoldable pub exception_in : List ℕ → Option (ℕ × Level)
exception_in text = do
  category ← category_in (split_at_first 58 text).0
  rest ← (split_at_first 58 text).1
  level ← level_in rest
  Some (category, level)

-- a label, after the exception of a text is added
unfoldable pub with_exception : List ℕ → Option Levels → Option Levels
with_exception text label = do
  levels ← label
  exception ← exception_in text
  Some (with_level levels exception.0 exception.1)

-- the label of texts: the last one is the default, and the others are the exceptions
unfoldable pub label_of_texts : List (List ℕ) → Option Levels
label_of_texts [] = None
label_of_texts (text ∷ []) = level_in text >>= λ default. Some (constant default)
label_of_texts (text ∷ more ∷ texts) = with_exception text (label_of_texts (more ∷ texts))

-- the label of a word: after the first byte texts with commas between
abbrev pub label_in : List ℕ → Option Levels
label_in [] = None
label_in (b ∷ bs) = label_of_texts (slice_split (λ c. c == 44) bs)

-- the decoded bytes, if all were decoded
abbrev pub decoded : Result (List ℕ) FromHexError → Option (List ℕ)
decoded (Ok bytes) = Some bytes
decoded (Err e) = None

-- the bytes of a word: after the first byte two digits for each
abbrev pub bytes_in : List ℕ → Option (List ℕ)
bytes_in [] = None
bytes_in (b ∷ bs) = decoded (decode_of bs)

-- a gate's entry, by its name and its number
abbrev pub entry_named : List ℕ → List ℕ → Option Entry
entry_named name number =
    if bytes_eq name (codes "login") then (user_in number >>= λ user. Some (Login user))
    else (if bytes_eq name (codes "mark") then (short_number_in number >>= λ mark. Some (Mark mark))
    else None)

-- a gate's entry, from a word with a colon between its name and its number
abbrev pub entry_in : List ℕ → Option Entry
entry_in word = (split_at_first 58 word).1 >>= entry_named (split_at_first 58 word).0

-- the first of the words, which have a space between two, and those after it, if there are any
abbrev pub next_word : Option (List ℕ) → Option (List ℕ × Option (List ℕ))
next_word words = words >>= λ text. Some (split_at_first 32 text)

-- a container, the label of a segment in it, and bytes
unfoldable pub make_segment_in : Option (List ℕ) → Option RawCall
make_segment_in words = do
  a ← next_word words
  b ← next_word a.1
  c ← next_word b.1
  container ← number_in a.0
  label ← label_in b.0
  bytes ← bytes_in c.0
  Some (MakeSegment container label bytes)

-- a container, and the label of a container in it
unfoldable pub make_container_in : Option (List ℕ) → Option RawCall
make_container_in words = do
  a ← next_word words
  b ← next_word a.1
  container ← number_in a.0
  label ← label_in b.0
  Some (MakeContainer container label)

-- a container, and the label and the clearance of a thread in it
unfoldable pub make_thread_in : Option (List ℕ) → Option RawCall
make_thread_in words = do
  a ← next_word words
  b ← next_word a.1
  c ← next_word b.1
  container ← number_in a.0
  label ← label_in b.0
  clearance ← label_in c.0
  Some (MakeThread container label clearance)

-- a container, the label and the clearance of a gate in it, and the gate's entry
unfoldable pub make_gate_in : Option (List ℕ) → Option RawCall
make_gate_in words = do
  a ← next_word words
  b ← next_word a.1
  c ← next_word b.1
  d ← next_word c.1
  container ← number_in a.0
  label ← label_in b.0
  clearance ← label_in c.0
  entry ← entry_in d.0
  Some (MakeGate container label clearance entry)

-- a container, a gate in it, and three labels
unfoldable pub enter_in : Option (List ℕ) → Option RawCall
enter_in words = do
  a ← next_word words
  b ← next_word a.1
  c ← next_word b.1
  d ← next_word c.1
  e ← next_word d.1
  container ← number_in a.0
  gate ← number_in b.0
  wanted ← label_in c.0
  clearance ← label_in d.0
  verify ← label_in e.0
  Some (Enter container gate wanted clearance verify)

-- a container, a segment in it, the number of its bytes that are kept, and bytes
unfoldable pub write_in : Option (List ℕ) → Option RawCall
write_in words = do
  a ← next_word words
  b ← next_word a.1
  c ← next_word b.1
  d ← next_word c.1
  container ← number_in a.0
  segment ← number_in b.0
  keep ← short_number_in c.0
  bytes ← bytes_in d.0
  Some (Write container segment keep bytes)

-- a segment of the words for its container, its label and its bytes
abbrev pub make_segment_of : List ℕ → List ℕ → List ℕ → Option RawCall
make_segment_of a b c = do
  container ← number_in a
  label ← label_in b
  bytes ← bytes_in c
  Some (MakeSegment container label bytes)

-- a thread of the words for its container, its label and its clearance
abbrev pub make_thread_of : List ℕ → List ℕ → List ℕ → Option RawCall
make_thread_of a b c = do
  container ← number_in a
  label ← label_in b
  clearance ← label_in c
  Some (MakeThread container label clearance)

-- a gate of the words for its container, its label, its clearance and its entry
abbrev pub make_gate_of : List ℕ → List ℕ → List ℕ → List ℕ → Option RawCall
make_gate_of a b c d = do
  container ← number_in a
  label ← label_in b
  clearance ← label_in c
  entry ← entry_in d
  Some (MakeGate container label clearance entry)

-- an entering of a gate of the words for its container, the gate and its three labels
abbrev pub enter_of : List ℕ → List ℕ → List ℕ → List ℕ → List ℕ → Option RawCall
enter_of a b c d e = do
  container ← number_in a
  gate ← number_in b
  wanted ← label_in c
  clearance ← label_in d
  verify ← label_in e
  Some (Enter container gate wanted clearance verify)

-- a write of the words for its container, its segment, how many bytes are kept, and its bytes
abbrev pub write_of : List ℕ → List ℕ → List ℕ → List ℕ → Option RawCall
write_of a b c d = do
  container ← number_in a
  segment ← number_in b
  keep ← short_number_in c
  bytes ← bytes_in d
  Some (Write container segment keep bytes)

-- a container, and an object in it
unfoldable pub pair_in : Option (List ℕ) → Option (ℕ × ℕ)
pair_in words = do
  a ← next_word words
  b ← next_word a.1
  container ← number_in a.0
  object ← number_in b.0
  Some (container, object)

-- a label
unfoldable pub own_label_in : Option (List ℕ) → Option Levels
own_label_in words = do
  a ← next_word words
  label_in a.0

-- the call of this name on a container and an object in it
abbrev pub pair_named : List ℕ → Option (List ℕ) → Option RawCall
pair_named name words =
    if bytes_eq name (codes "read") then (pair_in words >>= λ pair. Some (Read pair.0 pair.1))
    else (if bytes_eq name (codes "unlink") then (pair_in words >>= λ pair. Some (Unlink pair.0 pair.1))
    else (if bytes_eq name (codes "label") then (pair_in words >>= λ pair. Some (LabelOf pair.0 pair.1))
    else None))

-- the call of this name that makes an object, enters a gate or writes
abbrev pub making_named : List ℕ → Option (List ℕ) → Option RawCall
making_named name words =
    if bytes_eq name (codes "make_segment") then make_segment_in words
    else (if bytes_eq name (codes "make_container") then make_container_in words
    else (if bytes_eq name (codes "make_thread") then make_thread_in words
    else (if bytes_eq name (codes "make_gate") then make_gate_in words
    else (if bytes_eq name (codes "enter") then enter_in words
    else (if bytes_eq name (codes "write") then write_in words
    else pair_named name words)))))

-- the call of this name, with the words after it
abbrev pub call_named : List ℕ → Option (List ℕ) → Option RawCall
call_named name words =
    if bytes_eq name (codes "make_category") then Some MakeCategory
    else (if bytes_eq name (codes "self") then Some OwnLabel
    else (if bytes_eq name (codes "set_label") then (own_label_in words >>= λ label. Some (SetLabel label))
    else (if bytes_eq name (codes "set_clearance") then (own_label_in words >>= λ clearance. Some (SetClearance clearance))
    else making_named name words)))

-- a thread and its call, as a line is read
unfoldable pub thread_call_in : List ℕ → Option (ℕ × RawCall)
thread_call_in line = do
  thread ← next_word (Some line)
  name ← next_word thread.1
  number ← number_in thread.0
  call ← call_named name.0 name.1
  Some (number, call)
