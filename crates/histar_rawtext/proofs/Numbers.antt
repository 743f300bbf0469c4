-- Numbers of 64 bits are read from their texts, and from no others.
use Rattle.std.proofs.Common.{◌≡◌, ℕ, cond, leb, ◌&&◌, List, Option, Some, None, refl, ap, ◌∙◌, arith}
use Rattle.std.specs.Fmt.{decimal}
use Rattle.std.specs.Str.{bytes_eq, IsUtf8}
use Rattle.std.specs.Str.Parse.{digits_value}
use Rattle.std.proofs.lemmas.Str.{IsUtf8-from_ascii}
use Rattle.std.proofs.lemmas.Slice.Eq.{bytes_eq-Decides}
use Rattle.std.proofs.lemmas.Fmt.{decimal_is_IsNumeral, IsAscii-decimal}
use Rattle.std.proofs.lemmas.Bool.{leb-true, le-leb}
use Rattle.histar_flat.specs.Words.{number_of}
use Rattle.histar_flat.proofs.Numbers.{number_takes}
use Rattle.histar_rawtext.specs.RawTextLaws.{IsNumber}
use Rattle.histar_rawtext.specs.Reading.{number_in}

-- a number is read from its text
pub number_again : (n : ℕ) → IsNumber n → number_in (decimal n) ≡ Some n
unfolding number_of
number_again n small =
    let same : digits_value 10 (decimal n) ≡ n = (decimal_is_IsNumeral n small).1 in
    ap (λ m. cond (leb m 18446744073709551615 && bytes_eq (decimal n) (decimal m)) (Some m) None) same
    ∙ rw (le-leb n 18446744073709551615 (omega arith), (bytes_eq-Decides (decimal n) (decimal n)).1 refl) refl

-- a word that is read as a number is its text, and has 64 bits
pub number_is : (word : List ℕ) (n : ℕ) → number_in word ≡ Some n → (word ≡ decimal n) × IsNumber n
number_is word n e =
    let takes = number_takes (λ m. leb m 18446744073709551615) word n e in
    let most = leb-true n 18446744073709551615 takes.1 in
    (takes.0, omega (arith, most))

-- a word that is no text of a number is read as none
pub no_number : (word : List ℕ) → ((n : ℕ) → IsNumber n → word ≡ decimal n → ⊥) → number_in word ≡ None
no_number word none = by (number_in word) refl
  where
    by : (o : Option ℕ) → number_in word ≡ o → number_in word ≡ None
    by None e = e
    by (Some n) e = let is = number_is word n e in absurd (none n is.1 is.0)

-- the text of a number is in UTF-8
pub utf8_number : (n : ℕ) → IsNumber n → IsUtf8 (decimal n)
utf8_number n small = IsUtf8-from_ascii (decimal n) (IsAscii-decimal n small)
