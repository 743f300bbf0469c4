-- Lines that begin with a number, or with a mark and a number.
use Rattle.std.proofs.Common.{◌≡◌, ℕ, ◌<◌, ◌≤◌, ◌^◌, Bool, true, false, eqb, List}
use Rattle.std.proofs.Common.{[], ◌∷◌, ◌++◌, length, Option, Some}
use Rattle.std.proofs.Common.{refl, sym, ap, subst, ◌∙◌, arith}
use Rattle.std.specs.Prelude.{decimal, is_some, nat_le}
use Rattle.std.specs.List.{list_all}
use Rattle.std.specs.Str.{bytes_eq}
use Rattle.std.proofs.lemmas.Bool.{and_parts, eqb-true, false≢true, false_from_ne_true, le-leb, leb-true}
use Rattle.std.proofs.lemmas.Fmt.{decimal_nonempty}
use Rattle.std.proofs.lemmas.Slice.Eq.{bytes_eq-Decides}
use Rattle.histar_flat.specs.Words.{number_of, split_at_first}
use Rattle.histar_flat.proofs.Numbers.{decimal_digits, is_digit, none_of, number_again}
use Rattle.histar_flat.proofs.SplitLemmas.{split_before}
use Rattle.histar_script.specs.Lines.{most_script_lines, split_word}
use Rattle.histar_page.specs.Lines.{has_mark, is_explanation, is_own, is_raw_call, is_reply}
use Rattle.histar_report.proofs.OneLines.{IsOneLine, joined, number_lacks, number_lined}

-- One line, which is a reply or not, a raw call or not, and an explanation or not.
pub record HasKind (reply raw why : Bool) (line : List ℕ) : Type 0 where
  pub one : IsOneLine line
  pub replies : is_reply line ≡ reply
  pub calls : is_raw_call line ≡ raw
  pub explains : is_explanation line ≡ why

-- a mark, and then a number, a space and a text
pub record IsMarked (mark n : ℕ) (line : List ℕ) : Type 0 where
  pub text : List ℕ
  pub parts : line ≡ mark ∷ (decimal n ++ 32 ∷ text)

-- a line with a number has this number
pub has_number : (mark n : ℕ) (line : List ℕ) → IsMarked mark n line → is_own (decimal n) line ≡ true
has_number mark n line marked =
    ap (is_own (decimal n)) marked.parts
    ∙ ap (λ (word : List ℕ × Option (List ℕ)). bytes_eq word.0 (decimal n))
    (split_before 32 (decimal n) marked.text (number_lacks 32 n (omega arith)))
    ∙ (bytes_eq-Decides (decimal n) (decimal n)).1 refl

-- a byte that is no space begins the first word
word_first : (b : ℕ) (bs : List ℕ) → eqb b 32 ≡ false → (split_word (b ∷ bs)).0 ≡ b ∷ (split_word bs).0
unfolding split_at_first
word_first b bs other = rw other refl

-- what begins with a byte that is neither a space nor a digit is no reply
no_reply : (b : ℕ) (bs : List ℕ) → eqb b 32 ≡ false → is_digit b ≡ false → is_reply (b ∷ bs) ≡ false
no_reply b bs other none =
    ap (λ (o : Option ℕ). is_some o)
    (none_of (λ n. nat_le n most_script_lines) (split_word (b ∷ bs)).0
    (λ n few is.
    let most = leb-true n most_script_lines few in
    let all : list_all is_digit (b ∷ (split_word bs).0) ≡ true =
    ap (list_all is_digit) (sym (word_first b bs other) ∙ is) ∙ decimal_digits n (omega (arith, most)) in
    false≢true (sym none ∙ (and_parts (is_digit b) (list_all is_digit (split_word bs).0) all).0)))

-- a line with the mark of a raw call
pub raw_kind : (n : ℕ) (line : List ℕ) → IsOneLine line → IsMarked 64 n line → HasKind false true false line
raw_kind n line one marked =
    subst (HasKind false true false) (sym marked.parts) (record {
      one = subst IsOneLine marked.parts one;
      replies = no_reply 64 (decimal n ++ 32 ∷ marked.text) refl refl;
      calls = refl;
      explains = refl;
    })

-- a line with the mark of an explanation
pub why_kind : (n : ℕ) (line : List ℕ) → IsOneLine line → IsMarked 63 n line → HasKind false false true line
why_kind n line one marked =
    subst (HasKind false false true) (sym marked.parts) (record {
      one = subst IsOneLine marked.parts one;
      replies = no_reply 63 (decimal n ++ 32 ∷ marked.text) refl refl;
      calls = refl;
      explains = refl;
    })

-- what begins with a digit begins with no mark
digit_mark : (mark : ℕ) (digits rest : List ℕ) → is_digit mark ≡ false → 0 < length digits → list_all is_digit digits ≡ true
    → has_mark mark (digits ++ rest) ≡ false
digit_mark mark [] rest other some all = absurd (omega arith)
digit_mark mark (b ∷ bs) rest other some all =
    false_from_ne_true (eqb b mark)
    (λ e. false≢true (sym other ∙ ap is_digit (sym (eqb-true b mark e)) ∙ (and_parts (is_digit b) (list_all is_digit bs) all).0))

-- a small number is before a reply
module _ (n : ℕ) (text : List ℕ) (few : n ≤ most_script_lines) where
  small : n < 2 ^ 64
  small = omega (arith, few)

  -- the first word is the number
  pub first_word : split_word (decimal n ++ 32 ∷ text) ≡ (decimal n, Some text)
  first_word = split_before 32 (decimal n) text (number_lacks 32 n (omega arith))

  -- such a line is a reply
  pub reply_kind : IsOneLine text → HasKind true false false (decimal n ++ 32 ∷ text)
  reply_kind one = record {
    one = joined (decimal n) (32 ∷ text) (number_lined n) one;
    replies =
        ap (λ (word : List ℕ × Option (List ℕ)). is_some (number_of (λ n. nat_le n most_script_lines) word.0)) first_word
        ∙ ap (λ (o : Option ℕ). is_some o) (number_again (λ n. nat_le n most_script_lines) n small (le-leb n most_script_lines few));
    calls = digit_mark 64 (decimal n) (32 ∷ text) refl (decimal_nonempty n small) (decimal_digits n small);
    explains = digit_mark 63 (decimal n) (32 ∷ text) refl (decimal_nonempty n small) (decimal_digits n small);
  }
