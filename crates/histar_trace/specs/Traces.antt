-- What a trace holds.
use Rattle.std.specs.Prelude.{◌≡◌, ℕ, List, [], ◌∷◌, ◌++◌, None, Some, Result, Ok, Err, refl}
use Rattle.std.specs.Coded.{Coded, code_by, coded×, coded_ℕ, coded_list}
use Rattle.histar_level.specs.Levels.{Levels}
use Rattle.histar_label.specs.Levels.{coded_levels}
use Rattle.histar_rules.specs.declared.raw.RawCall.{RawCall}
use Rattle.histar_rules.specs.declared.raw.Refusal.{Refusal}
use Rattle.histar_rules.specs.declared.raw.Refusal.TheVariants as refusals
use Rattle.histar_trace.specs.declared.entries.TraceEntry.{TraceEntry}
use Rattle.histar_trace.specs.declared.stored.StoredCall.{StoredCall}
use Rattle.histar_trace.specs.contracts.entries.TraceEntry as entry
use Rattle.histar_trace.specs.Stored.{IsStored, call_of}

-- the entries of a trace, the labels and the bytes that its stored calls name, and for how many more entries there is room
pub record TraceModel : Type 0 where
  pub entries : List TraceEntry
  pub labels : List Levels
  pub bytes : List (List ℕ)
  pub room : ℕ

-- stored as the tuple of its parts
abbrev pub coded_trace : Coded TraceModel
coded_trace = code_by (List TraceEntry × (List Levels × (List (List ℕ) × ℕ))) (coded× (coded_list entry.the_row.coded) (coded× (coded_list coded_levels) (coded× (coded_list (coded_list coded_ℕ)) coded_ℕ))) (λ t. (t.entries, (t.labels, (t.bytes, t.room)))) (λ p. record { entries = p.0; labels = p.1.0; bytes = p.1.1.0; room = p.1.1.1 }) (λ _. refl)

-- a stored call is kept whole by the trace, and stands for this raw call
pub record StandsFor (t : TraceModel) (stored : StoredCall) (call : RawCall) : Type 0 where
  pub kept : IsStored t.labels t.bytes stored
  pub is : call_of t.labels t.bytes stored ≡ call

-- the entries after a call with this answer: one more, unless memory ran out
abbrev pub logged : {A : Type 0} → List TraceEntry → ℕ → ℕ → RawCall → Result A Refusal → List TraceEntry
logged trace line t call (Ok answer) = trace ++ record { line = line; thread = t; call = call; denied = None } ∷ []
logged trace line t call (Err (refusals.Denied denied)) = trace ++ record { line = line; thread = t; call = call; denied = Some denied } ∷ []
logged trace line t call (Err refusals.OutOfMemory) = trace
