-- What was noted of categories, one category after another.
use Rattle.std.proofs.Common.{◌≡◌, ℕ, zero, suc, ◌+◌, ◌-◌, ◌<◌, ◌≤◌, List, [], ◌∷◌, ◌++◌, length, Option, Some}
use Rattle.std.proofs.Common.{append_assoc, append-nil, arith, ap, refl, sym, ◌∙◌}
use Rattle.std.specs.Prelude.{slice_get}
use Rattle.std.proofs.lemmas.List.{length-append}
use Rattle.std.proofs.lemmas.Option.{none-some}
use Rattle.histar_names.specs.declared.purposes.Purpose.{Purpose}
use Rattle.histar_names.specs.Births.{Births, births_from, noted}

module _ (purpose : ℕ → Option Purpose) where
  -- the first of so many
  begun : (c n : ℕ) → 0 < n → births_from purpose c n ≡ purpose c ∷ births_from purpose (c + 1) (n - 1)
  begun c zero some = absurd (omega (arith, some))
  begun c (suc n) some =
      let less : n ≡ suc n - 1 = omega arith in
      ap (λ (m : ℕ). purpose c ∷ births_from purpose (c + 1) m) less

  -- a note was added to what was noted
  pub one_noted : (births : Births) (next : ℕ) (p : Option Purpose) → length births < next → p ≡ purpose (length births)
      → (births ++ p ∷ []) ++ births_from purpose (length (births ++ p ∷ [])) (next - length (births ++ p ∷ []))
      ≡ births ++ births_from purpose (length births) (next - length births)
  one_noted births next p below is =
      let more : length (births ++ p ∷ []) ≡ length births + 1 = length-append births (p ∷ []) in
      let one_less : next - (length births + 1) ≡ next - length births - 1 = omega (arith, below) in
      let some : 0 < next - length births = omega (arith, below) in
      ap (λ (n : ℕ). (births ++ p ∷ []) ++ births_from purpose n (next - n)) more
      ∙ append_assoc births (p ∷ []) (births_from purpose (length births + 1) (next - (length births + 1)))
      ∙ ap (λ (x : Option Purpose). births ++ x ∷ births_from purpose (length births + 1) (next - (length births + 1))) is
      ∙ ap (λ (n : ℕ). births ++ purpose (length births) ∷ births_from purpose (length births + 1) n) one_less
      ∙ ap (λ (later : Births). births ++ later) (sym (begun (length births) (next - length births) some))

  -- all was noted
  pub all_noted : (births : Births) (next : ℕ) → next ≤ length births
      → births ++ births_from purpose (length births) (next - length births) ≡ births
  all_noted births next above =
      let none : next - length births ≡ 0 = omega (arith, above) in
      ap (λ (n : ℕ). births ++ births_from purpose (length births) n) none ∙ append-nil births

  -- so many were noted
  pub so_many : (c n : ℕ) → length (births_from purpose c n) ≡ n
  so_many c zero = refl
  so_many c (suc n) = ap suc (so_many (c + 1) n)

  -- each of so many
  got_from : (c n i : ℕ) → i < n → slice_get (births_from purpose c n) i ≡ Some (purpose (c + i))
  got_from c zero i less = absurd (omega (arith, less))
  got_from c (suc n) zero less =
      let same : c ≡ c + 0 = omega arith in
      ap (λ (d : ℕ). Some (purpose d)) same
  got_from c (suc n) (suc i) less =
      let same : c + 1 + i ≡ c + suc i = omega arith in
      got_from (c + 1) n i (omega (arith, less)) ∙ ap (λ (d : ℕ). Some (purpose d)) same

  got_behind : (births : Births) (c n i : ℕ) → length births ≤ i → i < length births + n
      → slice_get (births ++ births_from purpose c n) i ≡ Some (purpose (c + (i - length births)))
  got_behind [] c n i least less =
      let same : i ≡ i - 0 = omega arith in
      got_from c n i (omega (arith, less)) ∙ ap (λ (d : ℕ). Some (purpose (c + d))) same
  got_behind (b ∷ births) c n zero least less = absurd (omega (arith, least))
  got_behind (b ∷ births) c n (suc i) least less =
      let same : i - length births ≡ suc i - suc (length births) = omega arith in
      got_behind births c n i (omega (arith, least)) (omega (arith, less)) ∙ ap (λ (d : ℕ). Some (purpose (c + d))) same

  -- each category that is new has a note
  pub got_new : (births : Births) (next i : ℕ) → length births ≤ i → i < next
      → slice_get (births ++ births_from purpose (length births) (next - length births)) i ≡ Some (purpose i)
  got_new births next i least less =
      let same : length births + (i - length births) ≡ i = omega (arith, least) in
      got_behind births (length births) (next - length births) i least (omega (arith, least, less))
      ∙ ap (λ (d : ℕ). Some (purpose d)) same

  -- what is noted of one of so many
  note_from : (c n i : ℕ) (p : Purpose) → noted (births_from purpose c n) i ≡ Some p → purpose (c + i) ≡ Some p
  note_from c zero i p e = absurd (none-some p e)
  note_from c (suc n) zero p e =
      let same : c + 0 ≡ c = omega arith in
      ap purpose same ∙ e
  note_from c (suc n) (suc i) p e =
      let same : c + suc i ≡ c + 1 + i = omega arith in
      ap purpose same ∙ note_from (c + 1) n i p e

  note_behind : (births : Births) (c n i : ℕ) (p : Purpose) → length births ≤ i → noted (births ++ births_from purpose c n) i ≡ Some p
      → purpose (c + (i - length births)) ≡ Some p
  note_behind [] c n i p least e =
      let same : i - 0 ≡ i = omega arith in
      ap (λ (d : ℕ). purpose (c + d)) same ∙ note_from c n i p e
  note_behind (b ∷ births) c n zero p least e = absurd (omega (arith, least))
  note_behind (b ∷ births) c n (suc i) p least e =
      let same : suc i - suc (length births) ≡ i - length births = omega arith in
      ap (λ (d : ℕ). purpose (c + d)) same ∙ note_behind births c n i p (omega (arith, least)) e

  -- what is noted of a category that is new is what it is for
  pub new_note : (births : Births) (n i : ℕ) (p : Purpose) → length births ≤ i
      → noted (births ++ births_from purpose (length births) n) i ≡ Some p → purpose i ≡ Some p
  new_note births n i p least e =
      let same : i ≡ length births + (i - length births) = omega (arith, least) in
      ap purpose same ∙ note_behind births (length births) n i p least e

-- what was noted of a category stays noted
pub got_before : (xs ys : Births) (i : ℕ) (x : Option Purpose) → slice_get xs i ≡ Some x → slice_get (xs ++ ys) i ≡ Some x
got_before [] ys i x e = absurd cc
got_before (y ∷ xs) ys zero x e = e
got_before (y ∷ xs) ys (suc i) x e = got_before xs ys i x e
