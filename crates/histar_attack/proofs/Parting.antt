-- The calls before the first raw call, and the others.
use Rattle.std.proofs.Common.{◌≡◌, List, [], ◌∷◌, ◌++◌, length, refl, sym, ap, ◌∙◌, arith, append_assoc, append-nil}
use Rattle.histar_flat.specs.declared.calls.CallLine.{CallLine}
use Rattle.histar_raw_session.specs.declared.read_session.RawLine.{RawLine}
use Rattle.histar_mixed.specs.declared.items.MixedItem.{MixedItem}
use Rattle.histar_mixed.specs.declared.items.MixedItem.TheVariants.{Raw, Unix}
use Rattle.histar_attack.specs.Attack.{first_unix, from_raw}

-- the first value where there are no items, and else the second
abbrev pub if_none : {A : Type 0} → List MixedItem → A → A → A
if_none [] x y = x
if_none (item ∷ items) x y = y

-- these calls come before the first raw call of some items, and these items from there on, whatever follows
pub record IsParted (before : List CallLine) (later seen : List MixedItem) : Type 0 where
  pub first : (more : List MixedItem) → first_unix (seen ++ more) ≡ before ++ if_none later (first_unix more) []
  pub others : (more : List MixedItem) → from_raw (seen ++ more) ≡ later ++ if_none later (from_raw more) more

pub parted_none : IsParted [] [] []
parted_none = record { first = λ more. refl; others = λ more. refl }

-- one more item behind some
behind : (seen : List MixedItem) (item : MixedItem) (more : List MixedItem) → (seen ++ item ∷ []) ++ more ≡ seen ++ item ∷ more
behind seen item more = append_assoc seen (item ∷ []) more

pushed : {A : Type 0} (later : List MixedItem) (item : MixedItem) (x y : A) → if_none (later ++ item ∷ []) x y ≡ y
pushed [] item x y = refl
pushed (i ∷ later) item x y = refl

either : {A : Type 0} (later : List MixedItem) (x : A) → if_none later x x ≡ x
either [] x = refl
either (i ∷ later) x = refl

pub parted_raw : (before : List CallLine) (later seen : List MixedItem) (asked : RawLine) → IsParted before later seen
    → IsParted before (later ++ Raw asked ∷ []) (seen ++ Raw asked ∷ [])
parted_raw before later seen asked parted = record {
  first = λ more.
      ap first_unix (behind seen (Raw asked) more) ∙ parted.first (Raw asked ∷ more)
      ∙ ap (λ (l : List CallLine). before ++ l) (either later [] ∙ sym (pushed later (Raw asked) (first_unix more) []));
  others = λ more.
      ap from_raw (behind seen (Raw asked) more) ∙ parted.others (Raw asked ∷ more)
      ∙ ap (λ (l : List MixedItem). later ++ l) (either later (Raw asked ∷ more))
      ∙ sym (behind later (Raw asked) more)
      ∙ ap (λ (l : List MixedItem). (later ++ Raw asked ∷ []) ++ l) (sym (pushed later (Raw asked) (from_raw more) more));
}

pub parted_first : (before : List CallLine) (later seen : List MixedItem) (call : CallLine) → length later ≡ 0 → IsParted before later seen
    → IsParted (before ++ call ∷ []) later (seen ++ Unix call ∷ [])
parted_first before [] seen call none parted = record {
  first = λ more.
      ap first_unix (behind seen (Unix call) more) ∙ parted.first (Unix call ∷ more)
      ∙ sym (append_assoc before (call ∷ []) (first_unix more));
  others = λ more. ap from_raw (behind seen (Unix call) more) ∙ parted.others (Unix call ∷ more);
}
parted_first before (item ∷ later) seen call none parted = absurd (omega (arith, none))

pub parted_unix : (before : List CallLine) (later seen : List MixedItem) (call : CallLine) → (length later ≡ 0 → ⊥)
    → IsParted before later seen
    → IsParted before (later ++ Unix call ∷ []) (seen ++ Unix call ∷ [])
parted_unix before [] seen call some parted = absurd (some refl)
parted_unix before (item ∷ later) seen call some parted = record {
  first = λ more. ap first_unix (behind seen (Unix call) more) ∙ parted.first (Unix call ∷ more);
  others = λ more.
      ap from_raw (behind seen (Unix call) more) ∙ parted.others (Unix call ∷ more) ∙ sym (behind (item ∷ later) (Unix call) more);
}

pub parted_all : (before : List CallLine) (later seen : List MixedItem) → IsParted before later seen
    → (before ≡ first_unix seen) × (later ≡ from_raw seen)
parted_all before later seen parted = (
  sym (append-nil before) ∙ ap (λ (l : List CallLine). before ++ l) (sym (either later [])) ∙ sym (parted.first [])
      ∙ ap first_unix (append-nil seen),
  sym (append-nil later) ∙ ap (λ (l : List MixedItem). later ++ l) (sym (either later [])) ∙ sym (parted.others [])
      ∙ ap from_raw (append-nil seen),
)
