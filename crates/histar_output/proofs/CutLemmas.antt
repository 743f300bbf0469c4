-- Where a text is cut at a mark, and the first words of a text.
use Rattle.std.proofs.Common.{◌≡◌, ◌≢◌, ℕ, zero, suc, ◌+◌, ◌<◌, ◌≤◌, Bool, true, false, List, [], ◌∷◌}
use Rattle.std.proofs.Common.{◌++◌, length, take, drop, refl, sym, ap, ◌∙◌, inl, inr, arith, codes}
use Rattle.std.proofs.Math.Seq.{drop-nil}
use Rattle.std.specs.Prelude.{◌==◌, ◌||◌, Option, None, Some, unwrap_or}
use Rattle.std.specs.Option.{option_copied}
use Rattle.std.proofs.Common.{Bor}
use Rattle.std.specs.Str.Pattern.{LacksTextAt}
use Rattle.std.proofs.lemmas.Bool.{cases_Bool}
use Rattle.std.proofs.lemmas.Bool.Decides.{Decides-eqb, eqb_tells}
use Rattle.std.proofs.lemmas.Slice.Eq.{starts_is}
use Rattle.histar_script.specs.Lines.{onto_line}
use Rattle.histar_output.specs.Colours.{after_mark, ends_refused, is_last_refusal}
use Rattle.histar_output.specs.Cuts.{begins, behind, cut_at, cut_last, is_marked, unmarked, words_of}

-- a text that begins with a mark is the mark and the rest
begun : (mark text : List ℕ) → begins mark text ≡ true → text ≡ mark ++ drop (length mark) text
begun mark text is = (starts_is Decides-eqb text mark (begins mark text) refl).0 is

-- a text that is the mark and a rest begins with it
begins_so : (mark text rest : List ℕ) → text ≡ mark ++ rest → begins mark text ≡ true
begins_so mark text rest is = (starts_is Decides-eqb text mark (begins mark text) refl).1 rest is

-- a text that isn't the mark and a rest doesn't begin with it
pub not_begun : (mark text : List ℕ) → ((rest : List ℕ) → text ≢ mark ++ rest) → begins mark text ≡ false
not_begun mark text lacks =
    elim (cases_Bool (begins mark text)) [
      | inl is ↦ absurd (lacks (drop (length mark) text) (begun mark text is))
      | inr is ↦ is
    ]

-- a text without the mark is not cut
pub uncut : (mark text : List ℕ) → ((i : ℕ) → i ≤ length text → LacksTextAt mark text i) → cut_at mark text ≡ (text, None)
unfolding cut_at
uncut mark [] lacks = rw (not_begun mark [] (lacks 0 (omega arith))) refl
uncut mark (b ∷ bs) lacks =
    let further = uncut mark bs (λ i fits. lacks (suc i) (omega arith)) in
    rw (not_begun mark (b ∷ bs) (lacks 0 (omega arith)), further) refl

-- a text is cut at the first place of the mark
pub cut : (mark text : List ℕ) (i : ℕ) → i ≤ length text → ((k : ℕ) → k < i → LacksTextAt mark text k)
    → drop i text ≡ mark ++ drop (i + length mark) text → cut_at mark text ≡ (take i text, Some (drop (i + length mark) text))
unfolding cut_at
cut mark [] zero fits lacks is = rw (begins_so mark [] _ is) (ap (λ (rest : List ℕ). ([], Some rest)) (sym (drop-nil (0 + length mark))))
cut mark (b ∷ bs) zero fits lacks is =
    let none : 0 + length mark ≡ length mark = omega arith in
    rw (begins_so mark (b ∷ bs) _ is, none) refl
cut mark [] (suc i) fits lacks is = absurd (omega arith)
cut mark (b ∷ bs) (suc i) fits lacks is =
    let next : suc i + length mark ≡ suc (i + length mark) = omega arith in
    let is' : drop i bs ≡ mark ++ drop (i + length mark) bs = is ∙ ap (λ k. mark ++ drop k (b ∷ bs)) next in
    let further = cut mark bs i (omega arith) (λ k low. lacks (suc k) (omega arith)) is' in
    rw (not_begun mark (b ∷ bs) (lacks 0 (omega arith)), further, next) refl

-- a text without the mark is not cut at its last place
pub uncut_last : (mark text : List ℕ) → ((i : ℕ) → i ≤ length text → LacksTextAt mark text i) → cut_last mark text ≡ (text, None)
unfolding cut_last
uncut_last mark [] lacks = rw (not_begun mark [] (lacks 0 (omega arith))) refl
uncut_last mark (b ∷ bs) lacks =
    let further = uncut_last mark bs (λ i fits. lacks (suc i) (omega arith)) in
    rw (further, not_begun mark (b ∷ bs) (lacks 0 (omega arith))) refl

-- a text is cut at the last place of the mark
pub last_cut : (mark text : List ℕ) (i : ℕ) → i ≤ length text → ((k : ℕ) → i < k → k ≤ length text → LacksTextAt mark text k)
    → drop i text ≡ mark ++ drop (i + length mark) text → cut_last mark text ≡ (take i text, Some (drop (i + length mark) text))
unfolding cut_last
last_cut mark [] zero fits lacks is = rw (begins_so mark [] _ is) (ap (λ (rest : List ℕ). ([], Some rest)) (sym (drop-nil (0 + length mark))))
last_cut mark (b ∷ bs) zero fits lacks is =
    let none : 0 + length mark ≡ length mark = omega arith in
    let further = uncut_last mark bs (λ k fits'. lacks (suc k) (omega arith) (omega arith)) in
    rw (further, begins_so mark (b ∷ bs) _ is, none) refl
last_cut mark [] (suc i) fits lacks is = absurd (omega arith)
last_cut mark (b ∷ bs) (suc i) fits lacks is =
    let next : suc i + length mark ≡ suc (i + length mark) = omega arith in
    let is' : drop i bs ≡ mark ++ drop (i + length mark) bs = is ∙ ap (λ k. mark ++ drop k (b ∷ bs)) next in
    let further = last_cut mark bs i (omega arith) (λ k high fits'. lacks (suc k) (omega arith) (omega arith)) is' in
    rw (further, next) refl

-- a text begins with one space where its first byte is one
pub spaced : (b : ℕ) (bs : List ℕ) → begins (codes " ") (b ∷ bs) ≡ (b == 32)
spaced b bs =
    elim (eqb_tells b 32) [
      | inl is ↦ rw is.1 refl
      | inr is ↦ not_begun (codes " ") (b ∷ bs) (λ rest same. is.1 (cc)) ∙ sym is.0
    ]

-- the words of a text behind a byte are its first word and those behind that
after_byte : (b : ℕ) (text : List ℕ) (test : Bool) → (b == 32) ≡ test → words_of text ≡ (cut_at (codes " ") text).0
    ∷ words_of (behind (codes " ") text)
    → words_of (b ∷ text) ≡ (cut_at (codes " ") (b ∷ text)).0 ∷ words_of (behind (codes " ") (b ∷ text))
unfolding cut_at words_of
after_byte b text true e h = rw (spaced b text, e) refl
after_byte b text false e h = rw (spaced b text, e) (ap (onto_line b) h)

-- the words of a text that is not empty are its first word and those behind that
pub first_of : (text : List ℕ) → 0 < length text → words_of text ≡ (cut_at (codes " ") text).0 ∷ words_of (behind (codes " ") text)
unfolding cut_at words_of
first_of [] h = absurd (omega arith)
first_of (b ∷ []) h = elim (eqb_tells b 32) [ inl e ↦ rw (spaced b [], e.0) refl | inr e ↦ rw (spaced b [], e.0) refl ]
first_of (b ∷ c ∷ cs) h = after_byte b (c ∷ cs) (b == 32) refl (first_of (c ∷ cs) (omega arith))

-- no word is left of an empty text
pub no_words : (text : List ℕ) → length text ≡ 0 → words_of text ≡ []
unfolding words_of
no_words [] none = refl
no_words (b ∷ bs) none = absurd (omega arith)

-- what follows the first word is shorter than a text that is not empty
pub behind_shorter : (text : List ℕ) → 0 < length text → length (behind (codes " ") text) < length text
unfolding cut_at
behind_shorter [] h = absurd (omega arith)
behind_shorter (b ∷ []) h = elim (eqb_tells b 32) [ inl e ↦ rw (spaced b [], e.0) (omega arith) | inr e ↦ rw (spaced b [], e.0) (omega arith) ]
behind_shorter (b ∷ c ∷ cs) h =
    elim (eqb_tells b 32) [
      | inl e ↦ rw (spaced b (c ∷ cs), e.0) (omega arith)
      | inr e ↦ rw (spaced b (c ∷ cs), e.0) (omega (arith, behind_shorter (c ∷ cs) (omega arith)))
    ]

-- a word behind a byte of a word that is not empty is marked as that word
pub unmarked_end : (front : List ℕ) → (unmarked (front ++ 33 ∷ []) ≡ front) × (is_marked (front ++ 33 ∷ []) ≡ true)
unmarked_end [] = (refl, refl)
unmarked_end (b ∷ []) = (refl, refl)
unmarked_end (b ∷ c ∷ bs) = (ap (λ l. b ∷ l) (unmarked_end (c ∷ bs)).0, (unmarked_end (c ∷ bs)).1)

-- a word that doesn't end with `!` stays
pub unmarked_stays : (word : List ℕ) → ((front : List ℕ) → word ≢ front ++ 33 ∷ []) → (unmarked word ≡ word)
    × (is_marked word ≡ false)
unmarked_stays [] other = (refl, refl)
unmarked_stays (b ∷ []) other =
    elim (eqb_tells b 33) [
      | inl is ↦ absurd (other [] (ap (λ x. x ∷ []) is.1))
      | inr is ↦ (rw is.0 refl, is.0)
    ]
unmarked_stays (b ∷ c ∷ bs) other =
    let rest = unmarked_stays (c ∷ bs) (λ front is. other (b ∷ front) (ap (λ l. b ∷ l) is)) in
    (ap (λ l. b ∷ l) rest.0, rest.1)

-- behind the first mark in a text: what follows it here, or what is behind the first mark in the rest
pub behind_found : (mark text after : List ℕ) (x : ℕ) (o : Option (List ℕ)) → text ≡ x ∷ after → o ≡ after_mark mark text
    → behind mark text ≡ unwrap_or o (behind mark after)
unfolding cut_at
behind_found mark text after x o is found =
    ap (behind mark) is ∙ here (begins mark (x ∷ after)) refl
    ∙ sym (ap (λ p. unwrap_or p (behind mark after)) (found ∙ ap (after_mark mark) is))
  where
    here : (r : Bool) → begins mark (x ∷ after) ≡ r → behind mark (x ∷ after)
        ≡ unwrap_or (after_mark mark (x ∷ after)) (behind mark after)
    here true so = rw so refl
    here false so = rw so refl

-- nothing is behind a mark in a text without bytes
pub behind_none : (mark text : List ℕ) → length text ≡ 0 → behind mark text ≡ text
unfolding cut_at
behind_none mark [] none = elim (cases_Bool (begins mark [])) [ inl is ↦ rw is refl | inr is ↦ rw is refl ]
behind_none mark (b ∷ bs) none = absurd (omega arith)

-- a text ends with a refusal if it is one, or the rest ends so
pub ends_on : (text after : List ℕ) (x : ℕ) → text ≡ x ∷ after → ends_refused text ≡ (is_last_refusal text || ends_refused after)
unfolding ends_refused
ends_on text after x is = ap ends_refused is ∙ ap (λ t. is_last_refusal t || ends_refused after) (sym is)

-- no refusal is at the end of a text without bytes
pub ends_none : (text : List ℕ) → length text ≡ 0 → ends_refused text ≡ false
unfolding ends_refused
ends_none [] none = refl
ends_none (b ∷ bs) none = absurd (omega arith)

-- the bytes of what is borrowed, or these
pub copied_or : (o : Option (Bor (List ℕ))) (other : Bor (List ℕ)) → (unwrap_or o other).now ≡ unwrap_or (option_copied o) other.now
copied_or None other = refl
copied_or (Some b) other = refl
