-- The numbers of children have one digit or two.
use Rattle.std.proofs.Common.{◌≡◌, ℕ, ◌+◌, ◌-◌, ◌*◌, ◌/◌, ◌%◌, ◌<◌, ◌≤◌, Bool, true, false, ltb, leb}
use Rattle.std.proofs.Common.{List, [], ◌∷◌, ◌++◌, length, Some, None, refl, sym, ap, ◌∙◌, arith}
use Rattle.std.specs.Fmt.{decimal}
use Rattle.std.proofs.lemmas.Bool.{and_parts, leb-true, le-leb, ltb-true, ltb-false}
use Rattle.std.proofs.lemmas.Fmt.{decimal_digit, decimal_step}
use Rattle.std.specs.List.{slice_index}
use Rattle.histar_flat.specs.Words.{number_of, is_child_number, most_children}
use Rattle.histar_flat.proofs.Numbers.{none_of, number_again}

-- a child's number is 1 to 64
child_range : (n : ℕ) → is_child_number n ≡ true → (1 ≤ n) × (n ≤ 64)
child_range n h = let p = and_parts (leb 1 n) (leb n most_children) h in (leb-true 1 n p.0, leb-true n most_children p.1)

-- a number from 1 to 64 is a child's
is_child : (n : ℕ) → 1 ≤ n → n ≤ 64 → is_child_number n ≡ true
is_child n low high = rw (le-leb 1 n low, le-leb n most_children high) refl

-- a number from 10 to 64 has two digits
two_digits : (n : ℕ) → 10 ≤ n → n ≤ 64 → decimal n ≡ (48 + n / 10) ∷ (48 + n % 10) ∷ []
two_digits n low high =
    decimal_step n low (omega arith) ∙ ap (λ ds. ds ++ (48 + n % 10) ∷ []) (decimal_digit (n / 10) (omega arith))

-- what holds of the numbers of one digit and of those of two holds of every child's number
each_child : {A : Type 0} (n : ℕ) (text : List ℕ) → is_child_number n ≡ true → text ≡ decimal n
    → (1 ≤ n → n < 10 → text ≡ (48 + n) ∷ [] → A)
    → (10 ≤ n → n ≤ 64 → text ≡ (48 + n / 10) ∷ (48 + n % 10) ∷ [] → A) → A
each_child {A} n text child is one two = by (ltb n 10) refl
  where
    by : (b : Bool) → ltb n 10 ≡ b → A
    by true below = one (child_range n child).0 (ltb-true n 10 below) (is ∙ decimal_digit n (ltb-true n 10 below))
    by false above =
        let low : 10 ≤ n = omega (arith, ltb-false n 10 above) in
        let high = (child_range n child).1 in
        two low high (is ∙ two_digits n low high)

-- the byte at a place of texts that are equal
byte_at : (k : ℕ) {s t : List ℕ} → s ≡ t → slice_index s k ≡ slice_index t k
byte_at k e = ap (λ t. slice_index t k) e

-- ---- one byte

-- a digit from 1 to 9 spells a child's number
pub one_digit_spells : (a : ℕ) → 49 ≤ a → a ≤ 57 → Some (a - 48) ≡ number_of is_child_number (a ∷ [])
one_digit_spells a low high =
    let n : ℕ = a - 48 in
    let back : 48 + n ≡ a = omega arith in
    let spelled : decimal n ≡ a ∷ [] = decimal_digit n (omega arith) ∙ ap (λ b. b ∷ []) back in
    sym (ap (number_of is_child_number) (sym spelled) ∙ number_again is_child_number n (omega arith) (is_child n (omega arith) (omega arith)))

-- another byte alone spells none
pub one_byte_spells_none : (a : ℕ) → (49 ≤ a → a ≤ 57 → ⊥) → None ≡ number_of is_child_number (a ∷ [])
one_byte_spells_none a never = sym (none_of is_child_number (a ∷ []) (λ n child is. each_child n (a ∷ []) child is
    (λ low high e. let b : a ≡ 48 + n = byte_at 0 e in never (omega (arith, b)) (omega (arith, b)))
    (λ low high e. let l : 1 ≡ 2 = ap length e in absurd (omega (arith, l)))))

-- ---- two bytes

-- two digits, the first of which is no 0, spell a number from 10 to 64
pub two_digits_spell : (a b : ℕ) → 49 ≤ a → a ≤ 57 → 48 ≤ b → b ≤ 57 → 10 * (a - 48) + (b - 48) ≤ 64
    → Some (10 * (a - 48) + (b - 48)) ≡ number_of is_child_number (a ∷ b ∷ [])
two_digits_spell a b la ha lb hb most =
    let n : ℕ = 10 * (a - 48) + (b - 48) in
    let tens : 48 + n / 10 ≡ a = omega arith in
    let ones : 48 + n % 10 ≡ b = omega arith in
    let spelled : decimal n ≡ a ∷ b ∷ [] = two_digits n (omega arith) most ∙ (λ i. tens i ∷ ones i ∷ []) in
    sym (ap (number_of is_child_number) (sym spelled) ∙ number_again is_child_number n (omega arith) (is_child n (omega arith) most))

-- two other bytes spell none
pub two_bytes_spell_none : (a b : ℕ) → (49 ≤ a → a ≤ 57 → 48 ≤ b → b ≤ 57 → 10 * (a - 48) + (b - 48) ≤ 64 → ⊥)
    → None ≡ number_of is_child_number (a ∷ b ∷ [])
two_bytes_spell_none a b never = sym (none_of is_child_number (a ∷ b ∷ []) (λ n child is. each_child n (a ∷ b ∷ []) child is
    (λ low high e. let l : 2 ≡ 1 = ap length e in absurd (omega (arith, l)))
    (λ low high e.
    let tens : a ≡ 48 + n / 10 = byte_at 0 e in
    let ones : b ≡ 48 + n % 10 = byte_at 1 e in
    never (omega (arith, tens)) (omega (arith, tens)) (omega (arith, ones)) (omega (arith, ones)) (omega (arith, tens, ones)))))

-- ---- texts of other lengths

-- a text of no byte, or of three or more, spells none
pub length_spells_none : (text : List ℕ) → (length text ≡ 1 → ⊥) → (length text ≡ 2 → ⊥) → None ≡ number_of is_child_number text
length_spells_none text not_one not_two = sym (none_of is_child_number text (λ n child is. each_child n text child is
    (λ low high e. not_one (ap length e))
    (λ low high e. not_two (ap length e))))
