-- The place of a label in a list: what is found there, and that it is found if it is there.
use Rattle.std.proofs.Common.{◌≡◌, ℕ, ◌<◌, Bool, true, false, List, Option, Some, None, IsSome, cond, length, get_or}
use Rattle.std.proofs.Common.{refl, sym, ap, ◌∙◌, arith}
use Rattle.std.specs.Prelude.{position, nat_lt, is_some}
use Rattle.std.specs.List.{slice_get, position_or_len}
use mathlib.Core.Bool.{false≢true}
use Rattle.std.proofs.lemmas.Bool.Decides.{nat_tests}
use Rattle.std.proofs.lemmas.List.Quantifiers.{position-Some}
use Rattle.std.proofs.lemmas.List.Sums.{fails_before_first}
use Rattle.std.proofs.lemmas.Option.{slice_get-get_or, slice_get_within}
use Rattle.histar_level.specs.Levels.{Levels}
use Rattle.histar_level.specs.Same.{is_same}
use Rattle.histar_level.proofs.Equality.{same_label, own_label}

-- the label at the place that is found is the one that was looked for
pub found_label : (labels : List Levels) (L : Levels) (i : ℕ) → position (is_same L) labels ≡ Some i → slice_get labels i ≡ Some L
found_label labels L i found =
    let there = position-Some (is_same L) labels i L found in
    slice_get-get_or labels i L there.0 ∙ ap Some (sym (same_label L (get_or labels i L) there.1))

-- some place before the end is found of a label that is there
found_before : (labels : List Levels) (L : Levels) (i : ℕ) → slice_get labels i ≡ Some L
    → nat_lt (position_or_len (is_same L) labels) (length labels) ≡ false → ⊥
found_before labels L i is none =
    let within : i < length labels = slice_get_within labels i L is in
    let same : Some (get_or labels i L) ≡ Some L = sym (slice_get-get_or labels i L within) ∙ is in
    let label : get_or labels i L ≡ L = cc in
    let before : i < position_or_len (is_same L) labels = grind (arith, nat_tests) in
    false≢true (sym (fails_before_first (is_same L) labels i L before) ∙ own_label L (get_or labels i L) (sym label))

-- a label that is there is found
found_there : (labels : List Levels) (L : Levels) (i : ℕ) → slice_get labels i ≡ Some L → IsSome (position (is_same L) labels)
found_there labels L i is =
    let first = position_or_len (is_same L) labels in
    let decided : (b : Bool) → nat_lt first (length labels) ≡ b → IsSome (cond b (Some first) None) = λ b.
    elim b as (λ b. nat_lt first (length labels) ≡ b → IsSome (cond b (Some first) None)) [
      | true ↦ λ e. refl
      | false ↦ λ e. absurd (found_before labels L i is e)
    ] in
    decided (nat_lt first (length labels)) refl

-- so a search that finds nothing shows that no place has the label
pub nothing_found : (labels : List Levels) (L : Levels) (found : Option ℕ) → found ≡ position (is_same L) labels → found ≡ None
    → (i : ℕ) → slice_get labels i ≡ Some L → ⊥
nothing_found labels L found search_is none i is = false≢true (ap is_some (sym none ∙ search_is) ∙ found_there labels L i is)
