-- Texts that are split at their first separator: where the part before it ends, and texts that lack it.
use Rattle.std.proofs.Common.{rules, ◌≡◌, ℕ, zero, suc, ◌<◌, ◌≤◌, Bool, true, false, not, cond, eqb, ltb, List}
use Rattle.std.proofs.Common.{[], ◌∷◌, ◌++◌, length, take, drop, Some, None, refl, arith}
use Rattle.std.specs.List.{list_all, position_or_len, slice_index}
use Rattle.std.specs.Prelude.{position}
use Rattle.std.proofs.lemmas.Bool.{false_from_ne_true, and_parts, not-true, both_ways, ltb-false}
use Rattle.std.proofs.lemmas.List.Sums.{fails_before_first}
use Rattle.std.proofs.lemmas.List.Quantifiers.{position-Some}
use Rattle.memchr.specs.Find.{Nowhere, Passes, is_byte}
use Rattle.histar_flat.specs.Words.{split_at_first}

-- the first byte is another one
pub head_fails : (a b : ℕ) (bs : List ℕ) (k : ℕ) → 0 < k → Nowhere (Passes (is_byte a) (b ∷ bs)) 0 k → eqb b a ≡ false
head_fails a b bs k lt none = false_from_ne_true (eqb b a) (λ h. none 0 (omega arith) lt h)

-- the byte is nowhere in the rest
pub tail_nowhere : (a b : ℕ) (bs : List ℕ) (k : ℕ) → Nowhere (Passes (is_byte a) (b ∷ bs)) 0 (suc k) → Nowhere (Passes (is_byte a) bs) 0 k
tail_nowhere a b bs k none i low high h = none (suc i) (omega arith) (omega arith) h

-- the first part ends at the first separator
pub split_found : (a : ℕ) (text : List ℕ) (k : ℕ) → k < length text → Nowhere (Passes (is_byte a) text) 0 k
    → Passes (is_byte a) text k → split_at_first a text ≡ (take k text, Some (drop (suc k) text))
unfolding split_at_first
split_found a [] k lt none here = absurd (omega arith)
split_found a (b ∷ bs) zero lt none here = rw here refl
split_found a (b ∷ bs) (suc k) lt none here =
    rw (head_fails a b bs (suc k) (omega arith) none, split_found a bs k (omega arith) (tail_nowhere a b bs k none) here) refl

-- without a separator the text is one part
pub split_whole : (a : ℕ) (text : List ℕ) → Nowhere (Passes (is_byte a) text) 0 (length text) → split_at_first a text ≡ (text, None)
unfolding split_at_first
split_whole a [] none = refl
split_whole a (b ∷ bs) none =
    rw (head_fails a b bs (suc (length bs)) (omega arith) none, split_whole a bs (tail_nowhere a b bs (length bs) none)) refl

-- where the separator is at its first place, the first part ends there
pub split_at_position : (a : ℕ) (text : List ℕ) (k : ℕ) → position (is_byte a) text ≡ Some k
    → split_at_first a text ≡ (take k text, Some (drop (suc k) text))
split_at_position a text k is =
    let found = position-Some (is_byte a) text k 0 is in
    split_found a text k found.0 (λ i low high h. both_ways (is_byte a (slice_index text i)) (found.2 i high) h) found.1

-- where the separator has no place, the text is one part
pub split_nowhere : (a : ℕ) (text : List ℕ) → position (is_byte a) text ≡ None → split_at_first a text ≡ (text, None)
split_nowhere a text is =
    split_whole a text (λ i low high h.
    both_ways (is_byte a (slice_index text i)) (fails_before_first (is_byte a) text i 0 (omega (arith, beyond))) h)
  where
    place : ℕ
    place = position_or_len (is_byte a) text

    by : (b : Bool) → ltb place (length text) ≡ b → cond b (Some place) None ≡ None → length text ≤ place
    by true e never = absurd cc
    by false e none = ltb-false place (length text) e

    beyond : length text ≤ place
    beyond = by (ltb place (length text)) refl is

-- no byte is the separator
abbrev pub lacks : ℕ → List ℕ → Bool
lacks separator text = list_all (λ b. not (eqb b separator)) text

-- bytes without a separator end at the separator after them
pub split_before : (a : ℕ) (text rest : List ℕ) → lacks a text ≡ true → split_at_first a (text ++ a ∷ rest) ≡ (text, Some rest)
unfolding split_at_first
split_before a [] rest h = rw (same a) refl
  where
    same : (s : ℕ) → eqb s s ≡ true
    same s = search rules
split_before a (b ∷ bs) rest h =
    let p = and_parts (not (eqb b a)) (lacks a bs) h in
    rw (not-true (eqb b a) p.0, split_before a bs rest p.1) refl

-- bytes without a separator are one part
pub split_alone : (a : ℕ) (text : List ℕ) → lacks a text ≡ true → split_at_first a text ≡ (text, None)
unfolding split_at_first
split_alone a [] h = refl
split_alone a (b ∷ bs) h =
    let p = and_parts (not (eqb b a)) (lacks a bs) h in
    rw (not-true (eqb b a) p.0, split_alone a bs p.1) refl
