-- What a raw call answers where it is granted, stated once: each call has its own type of answers.
use Rattle.std.specs.Prelude.{◌≡◌, ℕ, List, Some}
use Rattle.histar_level.specs.Levels.{Levels}
use Rattle.histar_object.specs.declared.objects.Entry.{Entry}
use Rattle.histar_object.specs.Objects.{bytes_in, label_there, clearance_there, entry_there}
use Rattle.histar_object.specs.State.{State}
use Rattle.histar_rules.specs.declared.raw.RawCall.{RawCall}
use Rattle.histar_rules.specs.declared.raw.RawCall.TheVariants.{MakeCategory, OwnLabel, SetLabel, SetClearance, MakeSegment, MakeContainer}
use Rattle.histar_rules.specs.declared.raw.RawCall.TheVariants.{MakeThread, MakeGate, Enter, Read, Write, Unlink, LabelOf}

-- the type of the answer of a raw call that is granted: a number, labels, an entry, bytes, or nothing
abbrev pub AnswerOf : RawCall → Type 0
AnswerOf MakeCategory = ℕ
AnswerOf OwnLabel = Levels × Levels
AnswerOf (SetLabel label) = Unit {0}
AnswerOf (SetClearance clearance) = Unit {0}
AnswerOf (MakeSegment d label bytes) = ℕ
AnswerOf (MakeContainer d label) = ℕ
AnswerOf (MakeThread d label clearance) = ℕ
AnswerOf (MakeGate d label clearance entry) = ℕ
AnswerOf (Enter d o wanted clearance verify) = Entry
AnswerOf (Read d o) = List ℕ
AnswerOf (Write d o keep bytes) = Unit {0}
AnswerOf (Unlink d o) = Unit {0}
AnswerOf (LabelOf d o) = Levels

-- the answer of a granted call is the one that the state before the call determines
abbrev pub IsAnswer : State → ℕ → (call : RawCall) → AnswerOf call → Type 0
IsAnswer s t MakeCategory category = category ≡ s.next_category
IsAnswer s t OwnLabel own = (Some own.0 ≡ label_there (s.objects t)) × (Some own.1 ≡ clearance_there (s.objects t))
IsAnswer s t (SetLabel label) done = Unit {0}
IsAnswer s t (SetClearance clearance) done = Unit {0}
IsAnswer s t (MakeSegment d label bytes) number = number ≡ s.next_object
IsAnswer s t (MakeContainer d label) number = number ≡ s.next_object
IsAnswer s t (MakeThread d label clearance) number = number ≡ s.next_object
IsAnswer s t (MakeGate d label clearance entry) number = number ≡ s.next_object
IsAnswer s t (Enter d o wanted clearance verify) entry = Some entry ≡ entry_there (s.objects o)
IsAnswer s t (Read d o) bytes = bytes ≡ bytes_in (s.objects o)
IsAnswer s t (Write d o keep bytes) done = Unit {0}
IsAnswer s t (Unlink d o) done = Unit {0}
IsAnswer s t (LabelOf d o) label = Some label ≡ label_there (s.objects o)
