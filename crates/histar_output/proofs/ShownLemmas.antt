-- What a terminal shows of a text in colours.
use Rattle.std.proofs.Common.{◌≡◌, ℕ, Bool, true, false, List, [], ◌∷◌, ◌++◌, map, refl, sym, ap, ◌∙◌, append_assoc}
use Rattle.std.proofs.Common.{append-nil, inl, inr}
use Rattle.std.specs.Prelude.{◌==◌, not, if◌then◌else◌}
use Rattle.std.specs.List.{join_with_byte, list_all, onto_first, slice_split}
use Rattle.std.proofs.lemmas.Bool.{and_parts, cases_Bool, not-true}
use Rattle.std.proofs.lemmas.List.Splits.{join_with_byte-slice_split}
use Rattle.histar_output.specs.Colours.{coloured, coloured_line, is_line_feed, is_refusal, plain, red}
use Rattle.histar_output.specs.Laws.{has_no_escape, shown}

-- a line without escape bytes is shown as it is
shown_plain : (line rest : List ℕ) → has_no_escape line ≡ true → shown (line ++ rest) ≡ line ++ shown rest
shown_plain [] rest none = refl
shown_plain (b ∷ bs) rest none =
    let parts = and_parts (not (b == 27)) (has_no_escape bs) none in
    let other : (b == 27) ≡ false = not-true (b == 27) parts.0 in
    rw other (ap (λ (l : List ℕ). b ∷ l) (shown_plain bs rest parts.1))

-- so it is in colours
shown_line : (line rest : List ℕ) → has_no_escape line ≡ true → shown (coloured_line line ++ rest) ≡ line ++ shown rest
shown_line line rest none = by_colour (is_refusal line)
  where
    by_colour : (b : Bool) → shown ((if b then red ++ line ++ plain else line) ++ rest) ≡ line ++ shown rest
    by_colour true = ap shown (append_assoc line plain rest) ∙ shown_plain line (plain ++ rest) none
    by_colour false = shown_plain line rest none

-- no line has an escape byte
abbrev are_clean : List (List ℕ) → Bool
are_clean lines = list_all has_no_escape lines

-- so are lines with line feeds between them
shown_lines : (lines : List (List ℕ)) → are_clean lines ≡ true → shown (join_with_byte 10 (map coloured_line lines))
    ≡ join_with_byte 10 lines
shown_lines [] clean = refl
shown_lines (line ∷ []) clean =
    let own = (and_parts (has_no_escape line) true clean).0 in
    ap shown (sym (append-nil (coloured_line line))) ∙ shown_line line [] own ∙ append-nil line
shown_lines (line ∷ next ∷ lines) clean =
    let parts = and_parts (has_no_escape line) (are_clean (next ∷ lines)) clean in
    shown_line line (10 ∷ join_with_byte 10 (map coloured_line (next ∷ lines))) parts.0
    ∙ ap (λ (l : List ℕ). line ++ 10 ∷ l) (shown_lines (next ∷ lines) parts.1)

-- one more byte before the first line
onto_clean : (b : ℕ) (lines : List (List ℕ)) → (b == 27) ≡ false → are_clean lines ≡ true → are_clean (onto_first b lines) ≡ true
onto_clean b [] other clean = rw other refl
onto_clean b (line ∷ lines) other clean = rw other clean

-- the lines of a text without escape bytes have none
lines_clean : (text : List ℕ) → has_no_escape text ≡ true → are_clean (slice_split is_line_feed text) ≡ true
lines_clean [] none = refl
lines_clean (b ∷ bs) none =
    let parts = and_parts (not (b == 27)) (has_no_escape bs) none in
    let rest = lines_clean bs parts.1 in
    elim (cases_Bool (is_line_feed b)) [
      | inl ends ↦ rw ends rest
      | inr goes_on ↦ rw goes_on (onto_clean b (slice_split is_line_feed bs) (not-true (b == 27) parts.0) rest)
    ]

-- a text without escape bytes is shown as it was, in colours too
pub shown_text : (text : List ℕ) → has_no_escape text ≡ true → shown (coloured text) ≡ text
shown_text text none = shown_lines (slice_split is_line_feed text) (lines_clean text none) ∙ join_with_byte-slice_split 10 text
