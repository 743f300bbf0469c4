-- Words that keep the rules for numbers spell them.
use Rattle.std.proofs.Common.{◌≡◌, ℕ, ◌≤◌, Bool, true, false, cond, leb, ◌&&◌, not, List, codes, Option, Some, None, refl, ap, ◌∙◌, arith}
use Rattle.std.specs.Prelude.{zero, suc, is_none, nat_le}
use Rattle.std.specs.Fmt.{decimal}
use Rattle.std.specs.Option.{option_map_or}
use Rattle.std.specs.Str.{bytes_eq}
use Rattle.std.specs.Str.Parse.{digits_value}
use Rattle.std.proofs.lemmas.Bool.{leb-true, le-leb}
use Rattle.std.proofs.lemmas.Fmt.{decimal_digit}
use Rattle.histar_flat.specs.Words.{number_of}
use Rattle.histar_flat.proofs.Numbers.{number_takes}
use Rattle.histar_rules.specs.Rules.{greatest}
use Rattle.histar_rawtext.specs.Reading.{number_in}
use Rattle.histar_raw_lint.specs.Values.{are_digits, digit_rules, has_zero, number_rules, positive_rules}
use Rattle.histar_lint.proofs.Rules.{AreKept, first_kept}

-- a value is there that is not missing
pub is_there : {A : Type 0} (o : Option A) → is_none o ≡ false → (x : A) × (o ≡ Some x)
is_there None e = absurd cc
is_there (Some x) e = (x, refl)

-- a word that keeps the rules for digits spells a number up to a greatest one
pub number_by_digits : (noun word : List ℕ) (most : ℕ) → AreKept (digit_rules noun most word) → (n : ℕ) × (word ≡ decimal n) × (n ≤ most)
number_by_digits noun word most kept =
    let first = first_kept (has_zero word) _ _ kept in
    let second = first_kept (is_none (number_of (λ n. nat_le n most) word)) _ _ first.1 in
    let there = is_there (number_of (λ n. nat_le n most) word) second.0 in
    let takes = number_takes (λ n. nat_le n most) word there.0 there.1 in
    (there.0, takes.0, leb-true there.0 most takes.1)

-- so does one that keeps the rules for numbers
pub number_by_rules : (noun word : List ℕ) (most : ℕ) → AreKept (number_rules noun most word) → (n : ℕ) × (word ≡ decimal n) × (n ≤ most)
number_by_rules noun word most kept = number_by_digits noun word most (first_kept (not (are_digits word)) _ _ kept).1

-- a number that is not 0
not_zero : (n : ℕ) (word : List ℕ) → word ≡ decimal n → bytes_eq word (codes "0") ≡ false → 1 ≤ n
not_zero zero word is other = let wrong : bytes_eq word (codes "0") ≡ true =
    ap (λ w. bytes_eq w (codes "0")) (is ∙ decimal_digit 0 (omega arith)) in absurd cc
not_zero (suc n) word is other = omega arith

-- a word that keeps the rules for positive numbers spells a number from 1 on
pub positive_by_rules : (noun word : List ℕ) (most : ℕ) → AreKept (positive_rules noun most word)
    → (n : ℕ) × (word ≡ decimal n) × (1 ≤ n) × (n ≤ most)
positive_by_rules noun word most kept =
    let first = first_kept (bytes_eq word (codes "0")) _ _ kept in
    let number = number_by_rules noun word most first.1 in
    (number.0, number.1, not_zero number.0 word number.1 first.0, number.2)

beyond_by : (n : ℕ) (small great same : Bool) → (small ≡ true → great ≡ true) → (p : ℕ → Bool) → p n ≡ small
    → is_none (cond (small && same) (Some n) None) ≡ not (option_map_or p (cond (great && same) (Some n) None) false)
beyond_by n true true true up p at = rw at refl
beyond_by n true true false up p at = refl
beyond_by n true false same up p at = let wrong = up refl in absurd cc
beyond_by n false true true up p at = rw at refl
beyond_by n false true false up p at = refl
beyond_by n false false same up p at = refl

-- whether a word spells no number up to this one is decided by the number of 64 bits that it spells, if any
pub beyond_is : (most : ℕ) (word : List ℕ) → most ≤ greatest
    → is_none (number_of (λ n. nat_le n most) word) ≡ not (option_map_or (λ n. nat_le n most) (number_in word) false)
unfolding number_of
beyond_is most word small =
    let n : ℕ = digits_value 10 word in
    beyond_by n (leb n most) (leb n greatest) (bytes_eq word (decimal n))
    (λ e. le-leb n greatest (let le = leb-true n most e in omega arith)) (λ m. leb m most) refl
