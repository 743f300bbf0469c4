-- Rising numbers.
use Rattle.std.proofs.Common.{◌≡◌, ℕ, ◌+◌, ◌<◌, ◌≤◌, ◌==◌, inl, inr, Bool, true, false, ◌||◌, List, [], ◌∷◌, arith, refl, sym, ap, ◌∙◌}
use Rattle.std.proofs.lemmas.Bool.Decides.{eqb_tells}
use Rattle.std.proofs.lemmas.Bool.{or_left}
use mathlib.Core.Bool.{true≢false}
use Rattle.histar_layout.specs.ClassLabels.{IsRisingFrom}
use Rattle.histar_layout.proofs.Members.{is_in, equal_itself}

-- a number among rising ones is no smaller than the first
pub not_smaller : (n : ℕ) (xs : List ℕ) (q : ℕ) → IsRisingFrom n xs → is_in xs q ≡ true → n ≤ q
not_smaller n [] q rising e = absurd (true≢false (sym e))
not_smaller n (x ∷ xs) q rising e = elim (eqb_tells q x) [
  | inl k ↦ let low = rising.0 in let same = k.1 in omega (arith, low, same)
  | inr k ↦ let low = rising.0 in let more = not_smaller (x + 1) xs q rising.1 (sym (ap (λ b. b || is_in xs q) k.0) ∙ e) in omega (arith, low, more)
]

pub not_among : (n : ℕ) (xs : List ℕ) (q : ℕ) → IsRisingFrom n xs → q < n → is_in xs q ≡ false
not_among n xs q rising below = by (is_in xs q) refl
  where
    by : (b : Bool) → is_in xs q ≡ b → b ≡ false
    by true e = let low = not_smaller n xs q rising e in absurd (omega (arith, low, below))
    by false e = refl

-- rising lists with the same members are the same
pub one_rising : (n m : ℕ) (xs ys : List ℕ) → IsRisingFrom n xs → IsRisingFrom m ys → ((q : ℕ) → is_in xs q ≡ is_in ys q) → xs ≡ ys
one_rising n m [] [] a b alike = refl
one_rising n m [] (y ∷ ys) a b alike = absurd (true≢false (sym (or_left (y == y) (is_in ys y) (equal_itself y)) ∙ sym (alike y)))
one_rising n m (x ∷ xs) [] a b alike = absurd (true≢false (sym (or_left (x == x) (is_in xs x) (equal_itself x)) ∙ alike x))
one_rising n m (x ∷ xs) (y ∷ ys) a b alike = (λ i. same i ∷ one_rising (x + 1) (y + 1) xs ys a.1 b.1 rest i)
  where
    x_there : y ≤ x
    x_there = not_smaller y (y ∷ ys) x (omega arith, b.1) (sym (alike x) ∙ or_left (x == x) (is_in xs x) (equal_itself x))

    y_there : x ≤ y
    y_there = not_smaller x (x ∷ xs) y (omega arith, a.1) (alike y ∙ or_left (y == y) (is_in ys y) (equal_itself y))

    same : x ≡ y
    same = let low = x_there in let high = y_there in omega (arith, low, high)

    rest : (q : ℕ) → is_in xs q ≡ is_in ys q
    rest q = elim (eqb_tells q x) [
      | inl e ↦
          let here = e.1 in
          let there = same in
          not_among (x + 1) xs q a.1 (omega (arith, here)) ∙ sym (not_among (y + 1) ys q b.1 (omega (arith, here, there)))
      | inr e ↦ sym (ap (λ b. b || is_in xs q) e.0) ∙ alike q ∙ ap (λ z. (q == z) || is_in ys q) (sym same) ∙ ap (λ b. b || is_in ys q) e.0
    ]

-- rising numbers of which none is smaller than m
pub rises_above : (n m : ℕ) (xs : List ℕ) → IsRisingFrom n xs → ((q : ℕ) → is_in xs q ≡ true → m ≤ q) → IsRisingFrom m xs
rises_above n m [] rising least = tt
rises_above n m (x ∷ xs) rising least = (least x (or_left (x == x) (is_in xs x) (equal_itself x)), rising.1)
