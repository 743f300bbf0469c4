-- Raw calls as a trace keeps them, and the raw calls that they stand for.
use Rattle.std.specs.Prelude.{ℕ, List, [], IsSome, slice_get, unwrap_or}
use Rattle.histar_level.specs.Levels.{Levels}
use Rattle.histar_label.specs.Store.{label_at}
use Rattle.histar_rules.specs.declared.raw.RawCall.{RawCall}
use Rattle.histar_rules.specs.declared.raw.RawCall.TheVariants as calls
use Rattle.histar_trace.specs.declared.entries.TraceEntry.{TraceEntry}
use Rattle.histar_trace.specs.declared.stored.StoredCall.{StoredCall}
use Rattle.histar_trace.specs.declared.stored.StoredCall.TheVariants.{MakeCategory, OwnLabel, SetLabel, SetClearance, MakeSegment}
use Rattle.histar_trace.specs.declared.stored.StoredCall.TheVariants.{MakeContainer, MakeThread, MakeGate, Enter, Read, Write, Unlink, LabelOf}
use Rattle.histar_trace.specs.declared.stored.StoredEntry.{StoredEntry}

-- the label that an Id stands for
abbrev pub label_of : List Levels → ℕ → Levels
label_of labels id = label_at (slice_get labels) id

-- the Id stands for a label
abbrev pub IsKept : List Levels → ℕ → Type 0
IsKept labels id = IsSome (slice_get labels id)

-- the bytes that an Id stands for
abbrev pub bytes_of : List (List ℕ) → ℕ → List ℕ
bytes_of bytes id = unwrap_or (slice_get bytes id) []

-- the Id stands for bytes
abbrev pub HasBytes : List (List ℕ) → ℕ → Type 0
HasBytes bytes id = IsSome (slice_get bytes id)

module _ (labels : List Levels) (bytes : List (List ℕ)) where
  -- the raw call that a stored call stands for
  abbrev pub call_of : StoredCall → RawCall
  call_of MakeCategory = calls.MakeCategory
  call_of OwnLabel = calls.OwnLabel
  call_of (SetLabel label) = calls.SetLabel (label_of labels label)
  call_of (SetClearance clearance) = calls.SetClearance (label_of labels clearance)
  call_of (MakeSegment d label id) = calls.MakeSegment d (label_of labels label) (bytes_of bytes id)
  call_of (MakeContainer d label) = calls.MakeContainer d (label_of labels label)
  call_of (MakeThread d label clearance) = calls.MakeThread d (label_of labels label) (label_of labels clearance)
  call_of (MakeGate d label clearance entry) = calls.MakeGate d (label_of labels label) (label_of labels clearance) entry
  call_of (Enter d o wanted clearance verify) = calls.Enter d o (label_of labels wanted) (label_of labels clearance) (label_of labels verify)
  call_of (Read d o) = calls.Read d o
  call_of (Write d o keep id) = calls.Write d o keep (bytes_of bytes id)
  call_of (Unlink d o) = calls.Unlink d o
  call_of (LabelOf d o) = calls.LabelOf d o

  -- all labels and all bytes of a stored call are there
  abbrev pub IsStored : StoredCall → Type 0
  IsStored MakeCategory = Unit {0}
  IsStored OwnLabel = Unit {0}
  IsStored (SetLabel label) = IsKept labels label
  IsStored (SetClearance clearance) = IsKept labels clearance
  IsStored (MakeSegment d label id) = IsKept labels label × HasBytes bytes id
  IsStored (MakeContainer d label) = IsKept labels label
  IsStored (MakeThread d label clearance) = IsKept labels label × IsKept labels clearance
  IsStored (MakeGate d label clearance entry) = IsKept labels label × IsKept labels clearance
  IsStored (Enter d o wanted clearance verify) = IsKept labels wanted × IsKept labels clearance × IsKept labels verify
  IsStored (Read d o) = Unit {0}
  IsStored (Write d o keep id) = HasBytes bytes id
  IsStored (Unlink d o) = Unit {0}
  IsStored (LabelOf d o) = Unit {0}

  -- the entry that a stored entry stands for
  abbrev pub entry_of : StoredEntry → TraceEntry
  entry_of e = record { line = e.line; thread = e.thread; call = call_of e.call; denied = e.denied }
