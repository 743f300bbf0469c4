-- Where a line ends, and the lines of the rest of the text.
use Rattle.std.proofs.Common.{◌≡◌, ℕ, zero, suc, ◌<◌, List, [], ◌∷◌, length, take, drop, refl, arith}
use Rattle.memchr.specs.Find.{Nowhere, Passes, is_byte}
use Rattle.histar_script.specs.Lines.{lines_of}
use Rattle.histar_flat.proofs.SplitLemmas.{head_fails, tail_nowhere}

-- the first line ends at the first byte 10
pub lines_at : (text : List ℕ) (k : ℕ) → k < length text → Nowhere (Passes (is_byte 10) text) 0 k
    → Passes (is_byte 10) text k → lines_of text ≡ take k text ∷ lines_of (drop (suc k) text)
unfolding lines_of
lines_at [] k lt none here = absurd (omega arith)
lines_at (b ∷ bs) zero lt none here = rw here refl
lines_at (b ∷ bs) (suc k) lt none here =
    rw (head_fails 10 b bs (suc k) (omega arith) none, lines_at bs k (omega arith) (tail_nowhere 10 b bs k none) here) refl

-- without a byte 10 the text is one line
pub lines_whole : (text : List ℕ) → 0 < length text → Nowhere (Passes (is_byte 10) text) 0 (length text) → lines_of text ≡ text ∷ lines_of []
unfolding lines_of
lines_whole [] lt none = absurd (omega arith)
lines_whole (b ∷ []) lt none = rw (head_fails 10 b [] 1 (omega arith) none) refl
lines_whole (b ∷ c ∷ bs) lt none =
    rw (
      head_fails 10 b (c ∷ bs) (suc (length (c ∷ bs))) (omega arith) none,
      lines_whole (c ∷ bs) (omega arith)
          (tail_nowhere 10 b (c ∷ bs) (length (c ∷ bs)) none),
    ) refl

-- a text without bytes has no line to count
pub lines-empty : (text : List ℕ) → length text ≡ 0 → length (lines_of text) ≡ 0
unfolding lines_of
lines-empty [] h = refl
lines-empty (b ∷ bs) h = absurd (omega arith)

-- a text without bytes has no line
pub no_lines : (text : List ℕ) → length text ≡ 0 → lines_of text ≡ []
unfolding lines_of
no_lines [] h = refl
no_lines (b ∷ bs) h = absurd (omega arith)
