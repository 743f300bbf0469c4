-- The texts of numbers, bytes and entries determine them, and have no space.
use Rattle.std.proofs.Common.{◌≡◌, ℕ, ◌+◌, ◌/◌, ◌%◌, ◌<◌, ◌≤◌, true, not, eqb, List, [], ◌∷◌, ◌++◌, get_or, refl, ap, ◌∙◌, arith}
use Rattle.std.specs.List.{flat_map}
use Rattle.std.specs.Fmt.{decimal}
use Rattle.std.proofs.lemmas.Fmt.{decimal_by_steps, decimal_injective}
use Rattle.std.proofs.lemmas.Bool.Decides.{nat_tests}
use Rattle.std.proofs.lemmas.List.Folds.{list_all-append}
use Rattle.histar_flat.proofs.SplitLemmas.{lacks}
use Rattle.histar_object.specs.declared.objects.Entry.{Entry}
use Rattle.histar_object.specs.declared.objects.Entry.TheVariants.{Login, Mark}
use Rattle.histar_rawtext.specs.RawText.{hex_digit, byte_text, bytes_text, gate_entry_text}
use Rattle.histar_rawtext.specs.RawTextLaws.{IsNumber, IsWritableEntry}

-- the byte s is no decimal digit
abbrev pub IsNoDigit : ℕ → Type 0
IsNoDigit s = (d : ℕ) → d < 10 → not (eqb (48 + d) s) ≡ true

-- a text lacks a byte that both its parts lack
pub lacks-append : (s : ℕ) (v w : List ℕ) → lacks s v ≡ true → lacks s w ≡ true → lacks s (v ++ w) ≡ true
lacks-append s v w hv hw = list_all-append (λ b. not (eqb b s)) v w ∙ rw (hv, hw) refl

-- a number has digits alone
pub lacks-decimal : (s n : ℕ) → IsNoDigit s → IsNumber n → lacks s (decimal n) ≡ true
lacks-decimal s n none small = decimal_by_steps (λ m ds. lacks s ds ≡ true) one more n small
  where
    one : (m : ℕ) → m < 10 → lacks s ((48 + m) ∷ []) ≡ true
    one m h = rw (none m h) refl

    more : (m : ℕ) (ds : List ℕ) → 10 ≤ m → lacks s ds ≡ true → lacks s (ds ++ (48 + m % 10) ∷ []) ≡ true
    more m ds h all = lacks-append s ds ((48 + m % 10) ∷ []) all (one (m % 10) (omega arith))

-- a space is no digit
pub space_is_no_digit : IsNoDigit 32
space_is_no_digit d h = grind (arith, nat_tests)

-- nor is a colon
pub colon_is_no_digit : IsNoDigit 58
colon_is_no_digit d h = grind (arith, nat_tests)

-- the byte of a digit of base sixteen determines the digit
same_digit : (m n : ℕ) → hex_digit m ≡ hex_digit n → m ≡ n
same_digit m n e = grind (arith, nat_tests)

-- and the byte is no space
digit_apart : (n : ℕ) → not (eqb (hex_digit n) 32) ≡ true
digit_apart n = grind (arith, nat_tests)

-- the two digits of a byte determine it
same_byte : (b c : ℕ) → hex_digit (b / 16) ≡ hex_digit (c / 16) → hex_digit (b % 16) ≡ hex_digit (c % 16) → b ≡ c
same_byte b c high low =
    let tops = same_digit (b / 16) (c / 16) high in
    let ends = same_digit (b % 16) (c % 16) low in
    omega (arith, tops, ends)

-- the digits of bytes determine them
same_digits : (bs cs : List ℕ) → flat_map byte_text bs ≡ flat_map byte_text cs → bs ≡ cs
same_digits [] [] e = refl
same_digits [] (c ∷ cs) e = absurd cc
same_digits (b ∷ bs) [] e = absurd cc
same_digits (b ∷ bs) (c ∷ cs) e =
    let high : hex_digit (b / 16) ≡ hex_digit (c / 16) = cc in
    let low : hex_digit (b % 16) ≡ hex_digit (c % 16) = cc in
    let rest : flat_map byte_text bs ≡ flat_map byte_text cs = cc in
    let first = same_byte b c high low in
    let others = same_digits bs cs rest in
    λ i. first i ∷ others i

-- the text of bytes determines them
pub same_bytes : (bs cs : List ℕ) → bytes_text bs ≡ bytes_text cs → bs ≡ cs
same_bytes bs cs e = let digits : flat_map byte_text bs ≡ flat_map byte_text cs = cc in same_digits bs cs digits

-- digits have no space
lacks-digits : (bs : List ℕ) → lacks 32 (flat_map byte_text bs) ≡ true
lacks-digits [] = refl
lacks-digits (b ∷ bs) = rw (digit_apart (b / 16), digit_apart (b % 16)) (lacks-digits bs)

-- the text of bytes has no space
pub lacks-bytes : (bs : List ℕ) → lacks 32 (bytes_text bs) ≡ true
lacks-bytes bs = lacks-digits bs

-- the text of a gate's entry determines it
pub same_entry : (a b : Entry) → IsWritableEntry a → IsWritableEntry b → gate_entry_text a ≡ gate_entry_text b → a ≡ b
same_entry (Login m) (Login n) p q e = let digits : decimal m ≡ decimal n = cc in ap Login (decimal_injective m n p q digits)
same_entry (Login m) (Mark n) p q e = absurd (omega (arith, ap (λ (text : List ℕ). get_or text 0 0) e))
same_entry (Mark m) (Login n) p q e = absurd (omega (arith, ap (λ (text : List ℕ). get_or text 0 0) e))
same_entry (Mark m) (Mark n) p q e = let digits : decimal m ≡ decimal n = cc in ap Mark (decimal_injective m n p q digits)

-- the text of a gate's entry has no space
pub lacks-entry : (entry : Entry) → IsWritableEntry entry → lacks 32 (gate_entry_text entry) ≡ true
lacks-entry (Login n) small = lacks-decimal 32 n space_is_no_digit small
lacks-entry (Mark n) small = lacks-decimal 32 n space_is_no_digit small
