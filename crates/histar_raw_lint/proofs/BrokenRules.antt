-- Each bad line breaks a rule.
use Rattle.std.proofs.Common.{◌≡◌, ℕ, ◌+◌, Bool, true, false, cond, ◌&&◌, not, List, [], ◌∷◌, ◌++◌, length, codes, Option, Some, None, refl}
use Rattle.std.proofs.Common.{sym, ap, ◌∙◌, arith}
use Rattle.std.specs.Prelude.{IsTrue, is_none, is_some, nat_le, nat_lt, unwrap_or}
use Rattle.std.specs.List.{list_all}
use Rattle.std.specs.Fmt.{decimal}
use Rattle.std.proofs.lemmas.Bool.Decides.{nat_tests}
use Rattle.std.proofs.lemmas.List.{append_assoc}
use Rattle.histar_rules.specs.Rules.{greatest}
use Rattle.histar_rules.specs.declared.raw.RawCall.{RawCall}
use Rattle.histar_rawtext.specs.RawText.{call_text}
use Rattle.histar_rawtext.specs.Readable.{IsCallLine}
use Rattle.histar_script.specs.Lines.{is_plain, is_plain_byte, most_line_bytes}
use Rattle.histar_lint.specs.Lines.{after_word, byte_rules, ends_with, rest_of, space_rules, unprintable_from, word_of}
use Rattle.histar_raw_lint.specs.Laws.{EachBadRawLineBreaksOne}
use Rattle.histar_raw_lint.specs.Rules.{call_rules, second_word_rules, sentence, thread_rules, word_rules}
use Rattle.histar_raw_lint.specs.Values.{are_digits}
use Rattle.histar_lint.proofs.Rules.{AreKept, both_kept, first_kept}
use Rattle.histar_raw_lint.proofs.NumbersKept.{is_there, number_by_digits}
use Rattle.histar_raw_lint.proofs.CallsKept.{by_first_word, call_by_rules, tail_of}

-- where no unprintable byte is found, each byte is printable
all_printable : (n : ℕ) (line : List ℕ) → is_some (unprintable_from n line) ≡ false → list_all is_plain_byte line ≡ true
all_printable n [] none = refl
all_printable n (b ∷ line) none = by n line (is_plain_byte b) b none (all_printable (n + 1) line)
  where
    by : (n : ℕ) (line : List ℕ) (plain : Bool) (b : ℕ) → is_some (cond plain (unprintable_from (n + 1) line) (Some (n, b))) ≡ false
        → (is_some (unprintable_from (n + 1) line) ≡ false → list_all is_plain_byte line ≡ true) → (plain && list_all is_plain_byte line) ≡ true
    by n line true b none go_on = go_on none
    by n line false b none go_on = absurd cc

-- a line that keeps the rules for bytes is plain
plain_by_rules : (line : List ℕ) → AreKept (byte_rules line) → is_plain line ≡ true
unfolding is_plain
plain_by_rules line kept =
    let first = first_kept (nat_lt most_line_bytes (length line)) _ _ kept in
    let second = first_kept (ends_with 13 line) _ _ first.1 in
    let third = first_kept (is_some (unprintable_from 1 line)) _ _ second.1 in
    let long = first.0 in
    let short : nat_le (length line) most_line_bytes ≡ true = grind (arith, nat_tests, long) in
    rw (short, all_printable 1 line third.0) refl

-- a line that keeps the rules for words has a second one
second_word : (line : List ℕ) → AreKept (word_rules line) → (rest : List ℕ) × (after_word line ≡ Some rest)
second_word line kept =
    let last = both_kept (space_rules line None) (second_word_rules line) kept in
    is_there (after_word line) (first_kept (is_none (after_word line)) _ _ last.1).0

-- a line that keeps all rules is plain, and contains a call
says_call : (line : List ℕ) → sentence line ≡ None → IsTrue (is_plain line) × (thread : ℕ) × (call : RawCall) × IsCallLine line thread call
says_call line kept =
    let last = thread_rules (word_of line) ++ call_rules (rest_of line) in
    let one = both_kept (byte_rules line) (word_rules line ++ last) kept in
    let two = both_kept (word_rules line) last one.1 in
    let three = both_kept (thread_rules (word_of line)) (call_rules (rest_of line)) two.1 in
    let digits = first_kept (not (are_digits (word_of line))) _ _ three.0 in
    let thread = number_by_digits (codes "a thread") (word_of line) greatest digits.1 in
    let call = call_by_rules (rest_of line) three.1 in
    let rest = second_word line two.0 in
    let same : rest_of line ≡ rest.0 = ap (λ (o : Option (List ℕ)). unwrap_or o []) rest.1 in
    let words : line ≡ word_of line ++ 32 ∷ rest.0 = by_first_word line ∙ ap (λ (o : Option (List ℕ)). word_of line ++ tail_of o) rest.1 in
    let parts : line ≡ decimal thread.0 ++ 32 ∷ call_text call.0 = words ∙ (λ i. thread.1 i ++ 32 ∷ (sym same ∙ call.1) i) in
    let most = thread.2 in (
      plain_by_rules line one.0,
      thread.0,
      call.0,
      (append_assoc (decimal thread.0) (codes " ") (call_text call.0) ∙ sym parts, omega (arith, most), call.2),
    )

pub each_bad_raw_line_breaks_one : EachBadRawLineBreaksOne
each_bad_raw_line_breaks_one line bad = by (sentence line) refl
  where
    by : (o : Option (List ℕ)) → sentence line ≡ o → is_some o ≡ true
    by (Some said) is = refl
    by None is = let says = says_call line is in absurd (bad.no_call says.1 says.2 says.0 says.3)
