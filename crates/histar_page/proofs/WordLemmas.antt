-- The words of a line, one after another.
use Rattle.std.proofs.Common.{◌≡◌, ℕ, ◌<◌, List, [], ◌∷◌, length, refl, ap, true, false, inl, inr, arith}
use Rattle.std.specs.Prelude.{Bool, ◌==◌}
use Rattle.std.proofs.lemmas.Bool.Decides.{eqb_tells}
use Rattle.histar_flat.specs.Words.{split_at_first}
use Rattle.histar_script.specs.Lines.{onto_line, split_word}
use Rattle.histar_page.specs.Lines.{after_word, words_of}

-- a text without bytes has no word
pub no_words : (text : List ℕ) → length text ≡ 0 → words_of text ≡ []
unfolding words_of
no_words [] h = refl
no_words (b ∷ bs) h = absurd (omega arith)

-- the words of a text after a byte: the first, and then those after it
after_byte : (b : ℕ) (text : List ℕ) (test : Bool) → (b == 32) ≡ test
    → words_of text ≡ (split_word text).0 ∷ words_of (after_word text)
    → words_of (b ∷ text) ≡ (split_word (b ∷ text)).0 ∷ words_of (after_word (b ∷ text))
unfolding words_of split_at_first
after_byte b text true e h = rw e refl
after_byte b text false e h = rw e (ap (onto_line b) h)

-- the words of a text are the first and then those after it
pub words_split : (text : List ℕ) → 0 < length text → words_of text ≡ (split_word text).0 ∷ words_of (after_word text)
unfolding words_of split_at_first
words_split [] h = absurd (omega arith)
words_split (b ∷ []) h = elim (eqb_tells b 32) [ inl e ↦ rw e.1 refl | inr e ↦ rw e.0 refl ]
words_split (b ∷ c ∷ cs) h = after_byte b (c ∷ cs) (b == 32) refl (words_split (c ∷ cs) (omega arith))

-- the text after the first word is shorter
pub after_shorter : (text : List ℕ) → 0 < length text → length (after_word text) < length text
unfolding split_at_first
after_shorter [] h = absurd (omega arith)
after_shorter (b ∷ []) h = elim (eqb_tells b 32) [ inl e ↦ rw e.1 (omega arith) | inr e ↦ rw e.0 (omega arith) ]
after_shorter (b ∷ c ∷ cs) h =
    elim (eqb_tells b 32)
    [ inl e ↦ rw e.1 (omega arith) | inr e ↦ rw e.0 (omega (arith, after_shorter (c ∷ cs) (omega arith))) ]
