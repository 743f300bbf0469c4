-- Numbers are read from the texts in which they are written, and from no others.
use Rattle.std.proofs.Common.{◌≡◌, ℕ, zero, suc, ◌+◌, ◌%◌, ◌^◌, ◌<◌, ◌≤◌, Bool, true, false, cond, ltb, leb, ◌&&◌, List, [], ◌∷◌, ◌++◌, Option, Some}
use Rattle.std.proofs.Common.{None, Result, Ok, Err, refl, sym, ap, subst, ◌∙◌, arith}
use Rattle.std.specs.List.{list_all}
use Rattle.std.specs.Result.{result_ok}
use Rattle.std.specs.Fmt.{decimal}
use Rattle.std.specs.Str.{bytes_eq, IsUtf8}
use Rattle.std.specs.Str.Parse.{AllDigits, ParsesUnsigned, digits_value}
use Rattle.std.proofs.lemmas.Slice.Eq.{bytes_eq-Decides}
use Rattle.std.proofs.lemmas.Fmt.{decimal_is_IsNumeral, decimal_digit, decimal_by_steps, first_decimal, IsAscii-decimal, parse-decimal}
use Rattle.std.proofs.lemmas.Fmt.{decimal-digits_value}
use Rattle.std.proofs.lemmas.Str.{IsUtf8-from_ascii}
use Rattle.std.proofs.lemmas.Str.Parse.{IsNumeralModel, parse_plain}
use Rattle.std.proofs.lemmas.Bool.{and_parts, ltb-true, leb-true, lt-ltb, le-leb}
use Rattle.std.proofs.lemmas.List.Folds.{list_all-append}
use Rattle.std.proofs.lemmas.Option.{cond_some}
use Rattle.std.proofs.Math.Bool.{and-true}
use Rattle.histar_flat.specs.Words.{BeginsPlainly, number_of, is_child_number, most_children}

-- ---- digits

-- a digit: 0 to 9
abbrev pub is_digit : ℕ → Bool
is_digit b = leb 48 b && leb b 57

-- a byte from 0 to 9 is a digit
is_a_digit : (b : ℕ) → 48 ≤ b → b ≤ 57 → is_digit b ≡ true
is_a_digit b low high = rw (le-leb 48 b low, le-leb b 57 high) refl

-- the text of a number consists of digits
pub decimal_digits : (n : ℕ) → n < 2 ^ 64 → list_all is_digit (decimal n) ≡ true
decimal_digits n small = decimal_by_steps (λ m ds. list_all is_digit ds ≡ true) one more n small
  where
    one : (m : ℕ) → m < 10 → list_all is_digit ((48 + m) ∷ []) ≡ true
    one m l = rw (is_a_digit (48 + m) (omega arith) (omega arith)) refl

    more : (m : ℕ) (ds : List ℕ) → 10 ≤ m → list_all is_digit ds ≡ true → list_all is_digit (ds ++ (48 + m % 10) ∷ []) ≡ true
    more m ds l h = list_all-append is_digit ds ((48 + m % 10) ∷ []) ∙ rw (h, is_a_digit (48 + m % 10) (omega arith) (omega arith)) refl

-- the text of a number begins with its first digit, which is 0 for 0 alone
decimal_begins : (n : ℕ) → n < 2 ^ 64 → BeginsPlainly (decimal n)
decimal_begins zero small = let e = decimal_digit 0 (omega arith) in rw e (λ h. absurd (omega arith), λ h. refl)
decimal_begins (suc n) small = let first = first_decimal (suc n) (omega arith) small in (λ h. absurd (omega arith), λ h. absurd (omega arith))

-- ---- numbers that pass a test

-- a text that is read as a number is the text of that number, which passes the test
pub number_takes : (test : ℕ → Bool) (text : List ℕ) (n : ℕ) → number_of test text ≡ Some n → (text ≡ decimal n) × (test n ≡ true)
unfolding number_of
number_takes test text n e =
    let m : ℕ = digits_value 10 text in
    let g = cond_some (test m && bytes_eq text (decimal m)) m n e in
    let p = and_parts (test m) (bytes_eq text (decimal m)) g.0 in
    ((bytes_eq-Decides text (decimal m)).0 p.1 ∙ ap decimal g.1, ap test (sym g.1) ∙ p.0)

-- the text of a number that passes the test is read as that number
pub number_again : (test : ℕ → Bool) (n : ℕ) → n < 2 ^ 64 → test n ≡ true → number_of test (decimal n) ≡ Some n
unfolding number_of
number_again test n small passes =
    let same : digits_value 10 (decimal n) ≡ n = (decimal_is_IsNumeral n small).1 in
    ap (λ m. cond (test m && bytes_eq (decimal n) (decimal m)) (Some m) None) same
    ∙ ap (λ b. cond (test n && b) (Some n) None) ((bytes_eq-Decides (decimal n) (decimal n)).1 refl)
    ∙ ap (λ b. cond b (Some n) None) (and-true (test n) ∙ passes)

-- the number, if it passes the test
abbrev pub if_passes : (ℕ → Bool) → Option ℕ → Option ℕ
if_passes test None = None
if_passes test (Some n) = cond (test n) (Some n) None

-- a number that passes a narrower test is read by a wider one, and then tested
pub narrowed : (narrow wide : ℕ → Bool) (text : List ℕ) → ((n : ℕ) → narrow n ≡ true → wide n ≡ true)
    → number_of narrow text ≡ if_passes narrow (number_of wide text)
unfolding number_of
narrowed narrow wide text wider = let m : ℕ = digits_value 10 text in by (narrow m) (wide m) (bytes_eq text (decimal m)) m refl (wider m)
  where
    by : (n w same : Bool) (m : ℕ) → narrow m ≡ n → (n ≡ true → w ≡ true)
        → cond (n && same) (Some m) None ≡ if_passes narrow (cond (w && same) (Some m) None)
    by true true true m is h = rw is refl
    by true true false m is h = refl
    by true false same m is h = let never : false ≡ true = h refl in absurd cc
    by false true true m is h = rw is refl
    by false true false m is h = refl
    by false false same m is h = refl

-- a text that is not the text of a number that passes is read as none
pub none_of : (test : ℕ → Bool) (text : List ℕ) → ((n : ℕ) → test n ≡ true → text ≡ decimal n → ⊥) → number_of test text ≡ None
none_of test text none = by (number_of test text) refl
  where
    by : (o : Option ℕ) → number_of test text ≡ o → number_of test text ≡ None
    by None e = e
    by (Some n) e = let is = number_takes test text n e in absurd (none n is.1 is.0)

-- ---- the numbers of 64 bits

-- the number that the bytes spell, if it has 64 bits
abbrev pub number_of_64_bits : List ℕ → Option ℕ
number_of_64_bits = number_of (λ n. ltb n (2 ^ 64))

-- a text that is no number of 64 bits is read as none
no_number : (text : List ℕ) → ((n : ℕ) → n < 2 ^ 64 → text ≡ decimal n → ⊥) → number_of_64_bits text ≡ None
no_number text none = none_of (λ n. ltb n (2 ^ 64)) text (λ n passes is. none n (ltb-true n (2 ^ 64) passes) is)

-- a text that begins with a plus, or with a zero before other digits, is no number
pub none_unless_plain : (text : List ℕ) → (BeginsPlainly text → ⊥) → number_of_64_bits text ≡ None
none_unless_plain text h = no_number text (λ n small is. h (subst BeginsPlainly (sym is) (decimal_begins n small)))

-- bytes that are not UTF-8 are no number
pub none_unless_text : (text : List ℕ) → (IsUtf8 text → ⊥) → number_of_64_bits text ≡ None
none_unless_text text h = no_number text (λ n small is. h (subst IsUtf8 (sym is) (IsUtf8-from_ascii (decimal n) (IsAscii-decimal n small))))

-- digits have their value
digits_model : IsNumeralModel (AllDigits 10) (digits_value 10)
digits_model = record { to = λ ds h. h; from = λ ds h. h; same = λ ds h. refl }

-- on other texts `parse` returns the number
pub parsed : {E : Type 0} (text : List ℕ) (r : Result ℕ E) → BeginsPlainly text → ParsesUnsigned 64 10 text r
    → result_ok r ≡ number_of_64_bits text
parsed {E} text (Ok x) plain h =
    let read = parse_plain digits_model {E = E} 64 text (Ok x) h plain.0 in
    let n : ℕ = digits_value 10 text in
    let written : decimal n ≡ text = decimal-digits_value digits_model text read.0.0 read.0.1 plain.1 read.0.2 in
    ap (λ (m : ℕ). Some m) read.1
    ∙ sym (number_again (λ m. ltb m (2 ^ 64)) n read.0.2 (lt-ltb n (2 ^ 64) read.0.2))
    ∙ ap number_of_64_bits written
parsed {E} text (Err e) plain h = sym (no_number text (λ n small is. let read = parse-decimal 64 n text (Err e) small small is h in absurd cc))

-- ---- numbers up to a greatest one, statuses and numbers of children

-- a number up to a greatest one of 64 bits is read among those of 64 bits
pub number_within : (greatest : ℕ) (text : List ℕ) → greatest < 2 ^ 64
    → number_of (λ n. leb n greatest) text ≡ if_passes (λ n. leb n greatest) (number_of_64_bits text)
number_within greatest text fits =
    narrowed (λ n. leb n greatest) (λ n. ltb n (2 ^ 64)) text (λ n h. lt-ltb n (2 ^ 64) (omega (arith, leb-true n greatest h)))

-- a child's number is one of 64 bits
pub child_number_small : (n : ℕ) → is_child_number n ≡ true → n < 2 ^ 64
child_number_small n h = let most = leb-true n most_children (and_parts (leb 1 n) (leb n most_children) h).1 in omega (arith, most)
