-- No right line breaks a rule.
use Rattle.std.proofs.Common.{◌≡◌, ℕ, true, not, List, [], ◌∷◌, ◌++◌, codes}
use Rattle.std.proofs.Common.{Option, Some, None, refl, sym, ap, subst, ◌∙◌, arith}
use Rattle.std.specs.Prelude.{is_none, unwrap_or}
use Rattle.std.specs.Fmt.{decimal}
use Rattle.std.proofs.lemmas.List.{append_assoc}
use Rattle.histar_flat.proofs.SplitLemmas.{split_before}
use Rattle.histar_rules.specs.Rules.{greatest}
use Rattle.histar_rules.specs.declared.raw.RawCall.{RawCall}
use Rattle.histar_rawtext.specs.RawText.{call_name, call_words}
use Rattle.histar_rawtext.specs.RawTextLaws.{IsNumber}
use Rattle.histar_rawtext.specs.Readable.{IsReadable}
use Rattle.histar_rawtext.proofs.CallTexts.{words_of}
use Rattle.histar_rawtext.proofs.Parting.{spaced}
use Rattle.histar_rawtext.proofs.WordTexts.{lacks-decimal, space_is_no_digit}
use Rattle.histar_script.specs.Lines.{is_plain}
use Rattle.histar_lint.specs.Lines.{Rule, after_word, byte_rules, rest_of, space_rules, word_of}
use Rattle.histar_lint.proofs.ArgumentsRight.{number_word}
use Rattle.histar_lint.proofs.BytesKept.{plain_kept}
use Rattle.histar_raw_lint.specs.declared.kinds.Kind.{Kind}
use Rattle.histar_raw_lint.specs.Laws.{NoRightRawLineBreaksOne}
use Rattle.histar_raw_lint.specs.Rules.{call_rules, second_word_rules, sentence, thread_rules, word_rules}
use Rattle.histar_raw_lint.specs.Values.{are_digits}
use Rattle.histar_raw_lint.proofs.CallsRight.{AreRight, call_kept, kinds_of, name_word, words_right, words_spelled}
use Rattle.histar_lint.proofs.Rules.{AreKept, keep, keep_both}
use Rattle.histar_lint.proofs.SpacesRight.{AreWords, IsWord, spaces_kept, words_alone}
use Rattle.histar_raw_lint.proofs.ValuesRight.{are_digits_right, digits_kept}

-- ---- the words of a line

are_words : (kinds : List Kind) (words : List (List ℕ)) → AreRight kinds words → AreWords words
are_words [] [] right = tt
are_words [] (w ∷ ws) right = absurd right
are_words (k ∷ ks) [] right = absurd right
are_words (k ∷ ks) (w ∷ ws) right = (right.0.is_word, are_words ks ws right.1)

-- words with a space between two, at least two of them, keep the rules for words
words_kept : (word next : List ℕ) (words : List (List ℕ)) → IsWord word → IsWord next → AreWords words
    → AreKept (word_rules (word ++ spaced (next ∷ words)))
words_kept word next words w v ws =
    let text : List ℕ = word ++ spaced (next ∷ words) in
    let second = split_before 32 word (next ++ spaced words) w.plain in
    keep_both (space_rules text None) (second_word_rules text)
    (spaces_kept text None (words_alone word (next ∷ words) w (v, ws)))
    (keep (is_none (after_word text)) _ _ (ap (λ (p : List ℕ × Option (List ℕ)). is_none p.1) second) refl)

-- ---- a line

-- the rules for a thread and its call
abbrev thread_call_at : List ℕ × Option (List ℕ) → List Rule
thread_call_at parts = thread_rules parts.0 ++ call_rules (unwrap_or parts.1 [])

thread_call_kept : (thread : ℕ) (call : RawCall) → IsNumber thread → IsReadable call
    → AreKept (thread_call_at (decimal thread, Some (call_name call ++ spaced (words_of call))))
thread_call_kept thread call small p =
    keep_both (thread_rules (decimal thread)) (call_rules (call_name call ++ spaced (words_of call)))
    (keep (not (are_digits (decimal thread))) _ _ (ap not (are_digits_right thread small))
    (digits_kept (codes "a thread") greatest thread small (omega (arith, small))))
    (call_kept call p)

line_kept : (thread : ℕ) (call : RawCall) → IsNumber thread → IsReadable call
    → is_plain (decimal thread ++ spaced (call_name call ∷ words_of call)) ≡ true
    → sentence (decimal thread ++ spaced (call_name call ∷ words_of call)) ≡ None
line_kept thread call small p plain =
    let rest : List ℕ = call_name call ++ spaced (words_of call) in
    let line : List ℕ = decimal thread ++ spaced (call_name call ∷ words_of call) in
    let split = split_before 32 (decimal thread) rest (lacks-decimal 32 thread space_is_no_digit small) in
    let last = subst (λ (q : List ℕ × Option (List ℕ)). AreKept (thread_call_at q)) (sym split) (thread_call_kept thread call small p) in
    let words = are_words (kinds_of call) (words_of call) (words_right call p) in
    keep_both (byte_rules line) (word_rules line ++ (thread_rules (word_of line) ++ call_rules (rest_of line))) (plain_kept line plain)
    (keep_both (word_rules line) (thread_rules (word_of line) ++ call_rules (rest_of line))
    (words_kept (decimal thread) (call_name call) (words_of call) (number_word thread small) (name_word call) words) last)

pub no_right_raw_line_breaks_one : NoRightRawLineBreaksOne
no_right_raw_line_breaks_one n line asked says =
    let call = says.call in
    let parts : decimal asked.thread ++ spaced (call_name asked.call ∷ words_of asked.call) ≡ line =
    ap (λ (text : List ℕ). decimal asked.thread ++ 32 ∷ (call_name asked.call ++ text)) (sym (words_spelled asked.call))
    ∙ sym (append_assoc (decimal asked.thread) (codes " ") (call_name asked.call ++ call_words asked.call)) ∙ call.0 in
    subst (λ (text : List ℕ). sentence text ≡ None) parts
    (line_kept asked.thread asked.call call.1 call.2 (ap is_plain parts ∙ says.plain))
