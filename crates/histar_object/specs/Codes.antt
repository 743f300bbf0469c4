-- How objects are stored as plain data, so that models may hold them.
use Rattle.std.specs.Prelude.{◌≡◌, ℕ, List, ◌⊎◌, refl}
use Rattle.std.specs.Ordering.{nat_cmp}
use Rattle.std.specs.FinSet as set
use Rattle.std.specs.Coded.{Coded, code_by, coded×, coded⊎, coded_ℕ, coded_list}
use Rattle.std.proofs.Common.{inl, inr}
use Rattle.histar_object.specs.declared.objects.Entry.{Entry}
use Rattle.histar_object.specs.declared.objects.Entry.TheVariants.{Login, Mark}
use Rattle.histar_object.specs.declared.objects.Kind.{Kind}
use Rattle.histar_object.specs.declared.objects.Kind.TheVariants.{Segment, Container, Thread, Gate}
use Rattle.histar_object.specs.declared.objects.Object.{Object}
use Rattle.histar_object.specs.Objects.{TableModel}

-- an entry as one of two numbers
abbrev pub split_entry : Entry → ℕ ⊎ ℕ
split_entry (Login n) = inl n
split_entry (Mark n) = inr n

-- the entry that was split
abbrev pub join_entry : ℕ ⊎ ℕ → Entry
join_entry (inl n) = Login n
join_entry (inr n) = Mark n

-- an entry is stored as its number; one that is split comes back
abbrev pub coded_entry : Coded Entry
coded_entry =
    code_by (ℕ ⊎ ℕ) (coded⊎ coded_ℕ coded_ℕ) split_entry join_entry
    (λ e. elim e as (λ f. join_entry (split_entry f) ≡ f) [ Login n ↦ refl | Mark n ↦ refl ])

module _ {L : Type 0} where
  -- a kind as one of four things
  abbrev pub split_kind : Kind L → (List ℕ ⊎ set.FinSet nat_cmp) ⊎ (L ⊎ (L × Entry))
  split_kind (Segment bytes) = inl (inl bytes)
  split_kind (Container links) = inl (inr links)
  split_kind (Thread clearance) = inr (inl clearance)
  split_kind (Gate clearance entry) = inr (inr (clearance, entry))

  -- the kind that was split
  abbrev pub join_kind : (List ℕ ⊎ set.FinSet nat_cmp) ⊎ (L ⊎ (L × Entry)) → Kind L
  join_kind (inl (inl bytes)) = Segment bytes
  join_kind (inl (inr links)) = Container links
  join_kind (inr (inl clearance)) = Thread clearance
  join_kind (inr (inr gate)) = Gate gate.0 gate.1

  -- a kind is stored as one of four things; one that is split comes back
  abbrev pub coded_kind : Coded L → Coded (Kind L)
  coded_kind l =
      code_by _ (coded⊎ (coded⊎ (coded_list coded_ℕ) (set.code coded_ℕ)) (coded⊎ l (coded× l coded_entry))) split_kind join_kind
      (λ k. elim k as (λ m. join_kind (split_kind m) ≡ m) [
        | Segment bytes ↦ refl
        | Container links ↦ refl
        | Thread clearance ↦ refl
        | Gate clearance entry ↦ refl
      ])

  -- an object is stored as its label and its kind
  abbrev pub coded_object : Coded L → Coded (Object L)
  coded_object l = code_by (L × Kind L) (coded× l (coded_kind l)) (λ o. (o.label, o.kind)) (λ p. record { label = p.0; kind = p.1 }) (λ _. refl)

  -- a table is stored as its objects, the slots of these, and its room
  abbrev pub coded_table : Coded L → Coded (TableModel L)
  coded_table l =
      code_by (List (ℕ × Object L) × (List (ℕ × ℕ) × ℕ))
      (coded× (coded_list (coded× coded_ℕ (coded_object l))) (coded× (coded_list (coded× coded_ℕ coded_ℕ)) coded_ℕ))
      (λ t. (t.objects, (t.slots, t.room))) (λ p. record { objects = p.0; slots = p.1.0; room = p.1.1 }) (λ _. refl)
