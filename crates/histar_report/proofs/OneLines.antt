-- Texts without a line end, and texts that are made of lines.
use Rattle.std.proofs.Common.{◌≡◌, ℕ, zero, suc, ◌+◌, ◌/◌, ◌%◌, ◌<◌, Bool, true, false, not}
use Rattle.std.proofs.Common.{cond, eqb, ltb, List, [], ◌∷◌, ◌++◌}
use Rattle.std.proofs.Common.{refl, sym, ◌∙◌, arith}
use Rattle.std.specs.Prelude.{decimal}
use Rattle.std.specs.Fmt.{digits, digits_onto, digit_glyph}
use Rattle.std.specs.List.{flat_map}
use Rattle.std.proofs.lemmas.Bool.{and_parts, ne_eqb}
use Rattle.std.proofs.lemmas.List.Folds.{list_all-append}
use Rattle.histar_flat.proofs.SplitLemmas.{lacks}

-- the text has no line end
abbrev pub IsOneLine : List ℕ → Type 0
IsOneLine text = lacks 10 text ≡ true

-- ---- texts of one line

-- two texts are one line together
pub joined : (a b : List ℕ) → IsOneLine a → IsOneLine b → IsOneLine (a ++ b)
joined a b one two = list_all-append (λ d. not (eqb d 10)) a b ∙ rw (one, two) refl

-- the parts of a line are one line each
pub parts_lined : (a b : List ℕ) → IsOneLine (a ++ b) → IsOneLine a × IsOneLine b
parts_lined a b h = and_parts (lacks 10 a) (lacks 10 b) (sym (list_all-append (λ d. not (eqb d 10)) a b) ∙ h)

-- the texts of all elements are one line together
pub each_lined : {X : Type 0} (f : X → List ℕ) → ((x : X) → IsOneLine (f x)) → (xs : List X) → IsOneLine (flat_map f xs)
each_lined f h [] = refl
each_lined f h (x ∷ xs) = joined (f x) (flat_map f xs) (h x) (each_lined f h xs)

-- ---- numbers

-- a digit is no byte below 48
glyph_lacks : (c d : ℕ) → c < 48 → eqb (digit_glyph false d) c ≡ false
glyph_lacks c d low = by (ltb d 10)
  where
    by : (t : Bool) → eqb (cond t (48 + d) (87 + d)) c ≡ false
    by true = ne_eqb (48 + d) c (λ e. omega arith)
    by false = ne_eqb (87 + d) c (λ e. omega arith)

-- digits have no such byte
digits_lack : (c k n : ℕ) (after : List ℕ) → c < 48 → lacks c after ≡ true → lacks c (digits_onto k 10 false n after) ≡ true
digits_lack c zero n after low h = h
digits_lack c (suc k) n after low h = by (eqb (n / 10) 0) more (digits_lack c k (n / 10) longer low more)
  where
    longer : List ℕ
    longer = digit_glyph false (n % 10) ∷ after

    more : lacks c longer ≡ true
    more = rw (glyph_lacks c (n % 10) low, h) refl

    by : (t : Bool) → lacks c longer ≡ true → lacks c (digits_onto k 10 false (n / 10) longer) ≡ true
        → lacks c (cond t longer (digits_onto k 10 false (n / 10) longer)) ≡ true
    by true one all = one
    by false one all = all

-- nor has a number
pub number_lacks : (c n : ℕ) → c < 48 → lacks c (decimal n) ≡ true
unfolding digits
number_lacks c n low = digits_lack c 64 n [] low refl

-- so a number is one line
pub number_lined : (n : ℕ) → IsOneLine (decimal n)
number_lined n = number_lacks 10 n (omega arith)
