-- What a stored call stands for stays, when a trace keeps more labels and more bytes.
use Rattle.std.proofs.Common.{◌≡◌, ℕ, zero, suc, List, [], ◌∷◌, ◌++◌, Option, Some, None, IsSome, map, unwrap_or, refl, sym, ap, ◌∙◌}
use Rattle.std.specs.Prelude.{is_some, option_map}
use Rattle.std.proofs.lemmas.Option.{slice_get-map}
use Rattle.std.specs.List.{All, slice_get}
use Rattle.std.proofs.lemmas.List.Elements.{All-head, All-tail, All-weaker}
use Rattle.histar_level.specs.Levels.{Levels}
use Rattle.histar_label.specs.Store.{Keeps}
use Rattle.histar_label.proofs.Stands.{label_at-Keeps}
use Rattle.histar_rules.specs.declared.raw.RawCall.{RawCall}
use Rattle.histar_rules.specs.declared.raw.RawCall.TheVariants as calls
use Rattle.histar_trace.specs.declared.stored.StoredCall.{StoredCall}
use Rattle.histar_trace.specs.declared.stored.StoredCall.TheVariants.{MakeCategory, OwnLabel, SetLabel, SetClearance, MakeSegment}
use Rattle.histar_trace.specs.declared.stored.StoredCall.TheVariants.{MakeContainer, MakeThread, MakeGate, Enter, Read, Write, Unlink, LabelOf}
use Rattle.histar_trace.specs.declared.stored.StoredEntry.{StoredEntry}
use Rattle.histar_trace.specs.Stored.{HasBytes, IsKept, IsStored, bytes_of, call_of, entry_of, label_of}

-- labels and bytes are kept under their Ids
pub record IsKeptIn (labels : List Levels) (bytes : List (List ℕ)) (labels' : List Levels) (bytes' : List (List ℕ)) : Type 0 where
  pub labels_stay : Keeps (slice_get labels) (slice_get labels')
  pub bytes_stay : (id : ℕ) (b : List ℕ) → slice_get bytes id ≡ Some b → slice_get bytes' id ≡ Some b

-- an element stays at its place when another one is added behind
pub slice_get-push : {A : Type 0} → (xs : List A) (x y : A) (i : ℕ) → slice_get xs i ≡ Some y → slice_get (xs ++ x ∷ []) i ≡ Some y
slice_get-push [] x y i is = cc
slice_get-push (z ∷ xs) x y zero is = is
slice_get-push (z ∷ xs) x y (suc i) is = slice_get-push xs x y i is

-- labels may be added
pub more_labels : (labels : List Levels) (bytes : List (List ℕ)) (labels' : List Levels) → Keeps (slice_get labels) (slice_get labels')
    → IsKeptIn labels bytes labels' bytes
more_labels labels bytes labels' keeps = record { labels_stay = keeps; bytes_stay = λ id b is. is }

-- bytes may be added
pub more_bytes : (labels : List Levels) (bytes bytes' : List (List ℕ)) (b : List ℕ) → bytes' ≡ bytes ++ b ∷ []
    → IsKeptIn labels bytes labels bytes'
more_bytes labels bytes bytes' b is = record {
  labels_stay = λ id L there. there;
  bytes_stay = λ id c there. ap (λ bs. slice_get bs id) is ∙ slice_get-push bytes b c id there;
}

-- the entry at a place is the one that the stored entry there stands for
pub entry_at : (labels : List Levels) (bytes : List (List ℕ)) (es : List StoredEntry) (at : ℕ) (e : StoredEntry) (call : RawCall)
    → slice_get es at ≡ Some e → call ≡ call_of labels bytes e.call
    → slice_get (map (entry_of labels bytes) es) at ≡ Some (record { line = e.line; thread = e.thread; call = call; denied = e.denied })
entry_at labels bytes es at e call there is =
    slice_get-map (entry_of labels bytes) es at
    ∙ ap (option_map (entry_of labels bytes)) there
    ∙ (λ i. Some (record { line = e.line; thread = e.thread; call = sym is i; denied = e.denied }))

module _ (labels : List Levels) (bytes : List (List ℕ)) (labels' : List Levels) (bytes' : List (List ℕ))
    (k : IsKeptIn labels bytes labels' bytes') where
  some_label : (x y : Option Levels) → ((L : Levels) → x ≡ Some L → y ≡ Some L) → IsSome x → IsSome y
  some_label None y keeps s = cc
  some_label (Some L) y keeps s = ap is_some (keeps L refl)

  id_stays : (id : ℕ) → IsKept labels id → IsKept labels' id
  id_stays id s = some_label (slice_get labels id) (slice_get labels' id) (k.labels_stay id) s

  same : (id : ℕ) → IsKept labels id → label_of labels' id ≡ label_of labels id
  same id s = label_at-Keeps (slice_get labels) (slice_get labels') k.labels_stay id s

  some_bytes : (x y : Option (List ℕ)) → ((b : List ℕ) → x ≡ Some b → y ≡ Some b) → IsSome x
      → IsSome y × (unwrap_or y [] ≡ unwrap_or x [])
  some_bytes None y keeps s = cc
  some_bytes (Some b) y keeps s = (ap is_some (keeps b refl), ap (λ o. unwrap_or o []) (keeps b refl))

  bytes_same : (id : ℕ) → HasBytes bytes id → HasBytes bytes' id × (bytes_of bytes' id ≡ bytes_of bytes id)
  bytes_same id s = some_bytes (slice_get bytes id) (slice_get bytes' id) (k.bytes_stay id) s

  -- a stored call is kept still
  pub call_stays : (c : StoredCall) → IsStored labels bytes c → IsStored labels' bytes' c
  call_stays MakeCategory s = tt
  call_stays OwnLabel s = tt
  call_stays (SetLabel label) s = id_stays label s
  call_stays (SetClearance clearance) s = id_stays clearance s
  call_stays (MakeSegment d label id) s = (id_stays label s.0, (bytes_same id s.1).0)
  call_stays (MakeContainer d label) s = id_stays label s
  call_stays (MakeThread d label clearance) s = (id_stays label s.0, id_stays clearance s.1)
  call_stays (MakeGate d label clearance entry) s = (id_stays label s.0, id_stays clearance s.1)
  call_stays (Enter d o wanted clearance verify) s = (id_stays wanted s.0, id_stays clearance s.1, id_stays verify s.2)
  call_stays (Read d o) s = tt
  call_stays (Write d o keep id) s = (bytes_same id s).0
  call_stays (Unlink d o) s = tt
  call_stays (LabelOf d o) s = tt

  -- a stored call stands for the same raw call
  pub same_call : (c : StoredCall) → IsStored labels bytes c → call_of labels' bytes' c ≡ call_of labels bytes c
  same_call MakeCategory s = refl
  same_call OwnLabel s = refl
  same_call (SetLabel label) s = ap calls.SetLabel (same label s)
  same_call (SetClearance clearance) s = ap calls.SetClearance (same clearance s)
  same_call (MakeSegment d label id) s = λ i. calls.MakeSegment d (same label s.0 i) ((bytes_same id s.1).1 i)
  same_call (MakeContainer d label) s = λ i. calls.MakeContainer d (same label s i)
  same_call (MakeThread d label clearance) s = λ i. calls.MakeThread d (same label s.0 i) (same clearance s.1 i)
  same_call (MakeGate d label clearance entry) s = λ i. calls.MakeGate d (same label s.0 i) (same clearance s.1 i) entry
  same_call (Enter d o wanted clearance verify) s = λ i. calls.Enter d o (same wanted s.0 i) (same clearance s.1 i) (same verify s.2 i)
  same_call (Read d o) s = refl
  same_call (Write d o keep id) s = λ i. calls.Write d o keep ((bytes_same id s).1 i)
  same_call (Unlink d o) s = refl
  same_call (LabelOf d o) s = refl

  abbrev IsIn : StoredEntry → Type 0
  IsIn e = IsStored labels bytes e.call

  same_entry : (e : StoredEntry) → IsIn e → entry_of labels' bytes' e ≡ entry_of labels bytes e
  same_entry e s i = record { line = e.line; thread = e.thread; call = same_call e.call s i; denied = e.denied }

  -- each entry stands for the same entry
  pub same_entries : (es : List StoredEntry) → All (λ e. IsStored labels bytes e.call) es
      → map (entry_of labels' bytes') es ≡ map (entry_of labels bytes) es
  same_entries [] all = refl
  same_entries (e ∷ es) all = λ i. same_entry e (All-head IsIn e es all) i ∷ same_entries es (All-tail IsIn e es all) i

  -- all entries are kept still
  pub all_stay : (es : List StoredEntry) → All IsIn es → All (λ e. IsStored labels' bytes' e.call) es
  all_stay es all = All-weaker IsIn (λ e. IsStored labels' bytes' e.call) (λ e s. call_stays e.call s) es all
