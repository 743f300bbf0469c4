-- The raw calls whose texts can be read.
use Rattle.std.specs.Prelude.{◌≡◌, ℕ, ◌<◌, ◌≤◌, ◌^◌, ⊤, List, Option, Some, None}
use Rattle.std.specs.List.{AllByRecursion}
use Rattle.histar_level.specs.Levels.{Levels}
use Rattle.histar_label.specs.Levels.{NamesOnlyMade}
use Rattle.histar_object.specs.declared.objects.Entry.{Entry}
use Rattle.histar_object.specs.declared.objects.Entry.TheVariants.{Login, Mark}
use Rattle.histar_rules.specs.declared.raw.RawCall.{RawCall}
use Rattle.histar_rules.specs.declared.raw.RawCall.TheVariants.{MakeCategory, OwnLabel, SetLabel, SetClearance, MakeSegment, MakeContainer}
use Rattle.histar_rules.specs.declared.raw.RawCall.TheVariants.{MakeThread, MakeGate, Enter, Read, Write, Unlink, LabelOf}
use Rattle.histar_rawtext.specs.RawText.{thread_call_text}
use Rattle.histar_rawtext.specs.RawTextLaws.{IsNumber}

-- each category that has another level than the default is a number of 64 bits, and is 1 or more
abbrev pub IsReadableLabel : Levels → Type 0
IsReadableLabel label = NamesOnlyMade (2 ^ 64) label

-- a user is 1 to 255, and a mark has 32 bits
abbrev pub IsReadableEntry : Entry → Type 0
IsReadableEntry (Login user) = (1 ≤ user) × (user < 2 ^ 8)
IsReadableEntry (Mark mark) = mark < 2 ^ 32

-- each byte is one
abbrev pub AreBytes : List ℕ → Type 0
AreBytes bytes = AllByRecursion (λ b. b < 2 ^ 8) bytes

-- each number in the call has 64 bits, that of the kept bytes 32, and its labels, its bytes and its gate's entry can be read
abbrev pub IsReadable : RawCall → Type 0
IsReadable MakeCategory = ⊤
IsReadable OwnLabel = ⊤
IsReadable (SetLabel label) = IsReadableLabel label
IsReadable (SetClearance clearance) = IsReadableLabel clearance
IsReadable (MakeSegment container label bytes) = IsNumber container × IsReadableLabel label × AreBytes bytes
IsReadable (MakeContainer container label) = IsNumber container × IsReadableLabel label
IsReadable (MakeThread container label clearance) = IsNumber container × IsReadableLabel label × IsReadableLabel clearance
IsReadable (MakeGate container label clearance entry) = IsNumber container × IsReadableLabel label × IsReadableLabel clearance × IsReadableEntry entry
IsReadable (Enter container gate wanted clearance verify) = IsNumber container × IsNumber gate × IsReadableLabel wanted × IsReadableLabel clearance × IsReadableLabel verify
IsReadable (Read container segment) = IsNumber container × IsNumber segment
IsReadable (Write container segment keep bytes) = IsNumber container × IsNumber segment × (keep < 2 ^ 32) × AreBytes bytes
IsReadable (Unlink container object) = IsNumber container × IsNumber object
IsReadable (LabelOf container object) = IsNumber container × IsNumber object

-- the line is a raw call line: the text of this call of this thread, and the call can be read
abbrev pub IsCallLine : List ℕ → ℕ → RawCall → Type 0
IsCallLine line thread call = (thread_call_text thread call ≡ line) × IsNumber thread × IsReadable call

-- a line is read as the call of a thread whose line it is, and as none where it is no raw call line
abbrev pub IsReadAs : List ℕ → Option (ℕ × RawCall) → Type 0
IsReadAs line (Some asked) = IsCallLine line asked.0 asked.1
IsReadAs line None = (thread : ℕ) (call : RawCall) → IsCallLine line thread call → ⊥
