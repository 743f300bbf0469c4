-- The raw calls that texts determine.
use Rattle.std.specs.Prelude.{◌≡◌, ℕ, ◌<◌, ◌^◌, ⊤}
use Rattle.std.specs.List.{AllByRecursion}
use Rattle.histar_level.specs.Levels.{Levels, exceptions_of}
use Rattle.histar_object.specs.declared.objects.Entry.{Entry}
use Rattle.histar_object.specs.declared.objects.Entry.TheVariants.{Login, Mark}
use Rattle.histar_rules.specs.declared.raw.RawCall.{RawCall}
use Rattle.histar_rules.specs.declared.raw.RawCall.TheVariants.{MakeCategory, OwnLabel, SetLabel, SetClearance, MakeSegment, MakeContainer}
use Rattle.histar_rules.specs.declared.raw.RawCall.TheVariants.{MakeThread, MakeGate, Enter, Read, Write, Unlink, LabelOf}
use Rattle.histar_rawtext.specs.RawText.{thread_call_text}

-- a number of 64 bits
abbrev pub IsNumber : ℕ → Type 0
IsNumber n = n < 2 ^ 64

-- each category that has another level than the default is a number of 64 bits
abbrev pub IsWritableLabel : Levels → Type 0
IsWritableLabel label = AllByRecursion (λ e. IsNumber e.0) (exceptions_of label)

-- a gate's entry has a number of 64 bits
abbrev pub IsWritableEntry : Entry → Type 0
IsWritableEntry (Login user) = IsNumber user
IsWritableEntry (Mark mark) = IsNumber mark

-- each number in the call has 64 bits, those of categories too
abbrev pub IsWritable : RawCall → Type 0
IsWritable MakeCategory = ⊤
IsWritable OwnLabel = ⊤
IsWritable (SetLabel label) = IsWritableLabel label
IsWritable (SetClearance clearance) = IsWritableLabel clearance
IsWritable (MakeSegment container label bytes) = IsNumber container × IsWritableLabel label
IsWritable (MakeContainer container label) = IsNumber container × IsWritableLabel label
IsWritable (MakeThread container label clearance) = IsNumber container × IsWritableLabel label × IsWritableLabel clearance
IsWritable (MakeGate container label clearance entry) = IsNumber container × IsWritableLabel label × IsWritableLabel clearance × IsWritableEntry entry
IsWritable (Enter container gate wanted clearance verify) = IsNumber container × IsNumber gate × IsWritableLabel wanted × IsWritableLabel clearance × IsWritableLabel verify
IsWritable (Read container segment) = IsNumber container × IsNumber segment
IsWritable (Write container segment keep bytes) = IsNumber container × IsNumber segment × IsNumber keep
IsWritable (Unlink container object) = IsNumber container × IsNumber object
IsWritable (LabelOf container object) = IsNumber container × IsNumber object

-- two raw calls of threads with the same text are the same call of the same thread
abbrev pub TextsDetermineCalls : Type 0
TextsDetermineCalls = (t u : ℕ) (a b : RawCall) → IsNumber t → IsNumber u → IsWritable a → IsWritable b → thread_call_text t a ≡ thread_call_text u b → (t ≡ u) × (a ≡ b)
