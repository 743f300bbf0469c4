-- The texts of values that can be read keep their rules.
use Rattle.std.proofs.Common.{◌≡◌, ◌≢◌, ℕ, zero, suc, ◌+◌, ◌-◌, ◌*◌, ◌/◌, ◌%◌, ◌<◌, ◌≤◌, Bool, true, false, cond, eqb, ltb, ◌&&◌, not, List}
use Rattle.std.proofs.Common.{[], ◌∷◌, ◌++◌}
use Rattle.std.proofs.Common.{codes, length, map, take, get_or, Contains, Option, Some, refl, sym, ap, subst, ◌∙◌, arith}
use Rattle.std.specs.Prelude.{is_none, nat_le, slice_get, unwrap_or, ◌==◌}
use Rattle.std.specs.Fmt.{decimal}
use Rattle.std.specs.List.{flat_map, list_all, slice_split, AllByRecursion}
use Rattle.std.specs.Option.{option_map_or}
use Rattle.std.specs.Str.{bytes_eq}
use Rattle.std.proofs.lemmas.Bool.{false_from_ne_true, le-leb}
use Rattle.std.proofs.lemmas.Bool.Decides.{nat_tests}
use Rattle.std.proofs.lemmas.Fmt.{decimal_digit, decimal_nonempty, first_decimal}
use Rattle.std.proofs.lemmas.List.{append_assoc, length-append}
use Rattle.std.proofs.lemmas.Slice.Eq.{bytes_eq-Decides}
use Rattle.histar_flat.specs.Words.{number_of, split_at_first}
use Rattle.histar_flat.proofs.Numbers.{decimal_digits, number_again}
use Rattle.histar_flat.proofs.SplitLemmas.{split_before}
use Rattle.histar_level.specs.declared.level.Level.{Level}
use Rattle.histar_level.specs.declared.level.Level.TheVariants.{Star, L0, L1, L2, L3}
use Rattle.histar_label.specs.Exceptions.{Exceptions, IsRising, category_at}
use Rattle.histar_level.specs.Levels.{Levels, default_of, exceptions_of}
use Rattle.histar_label.proofs.Canonical.{rising_tail}
use Rattle.histar_label.proofs.Listed.{IsRising-exceptions_of, ListsExceptions-exceptions_of}
use Rattle.histar_object.specs.declared.objects.Entry.{Entry}
use Rattle.histar_object.specs.declared.objects.Entry.TheVariants.{Login, Mark}
use Rattle.histar_rules.specs.Rules.{greatest}
use Rattle.histar_rawtext.specs.RawText.{byte_text, bytes_text, exception_text, gate_entry_text, hex_digit, label_text, level_text}
use Rattle.histar_rawtext.specs.RawTextLaws.{IsNumber}
use Rattle.histar_rawtext.specs.Readable.{AreBytes, IsReadableEntry, IsReadableLabel}
use Rattle.histar_rawtext.specs.Reading.{level_in}
use Rattle.histar_rawtext.proofs.LabelTexts.{lacks-level_comma}
use Rattle.histar_rawtext.proofs.Numbers.{number_again as number_in_again}
use Rattle.histar_rawtext.proofs.Splits.{part_alone, part_before}
use Rattle.histar_rawtext.proofs.WordTexts.{IsNoDigit, colon_is_no_digit, lacks-append, lacks-decimal}
use Rattle.histar_rawtext.proofs.WordsRead.{right_label}
use Rattle.histar_lint.specs.Lines.{Rule, begins_with, ends_with, first_sentence}
use Rattle.histar_raw_lint.specs.Values.{are_digits, bytes_rules, category_of_part, category_rules, digit_rules, entry_form, entry_rules}
use Rattle.histar_raw_lint.specs.Values.{exception_rules}
use Rattle.histar_raw_lint.specs.Values.{exceptions_rules, has_zero, in_braces, is_braced, is_hex_digit, is_late, is_level, label_rules}
use Rattle.histar_raw_lint.specs.Values.{lacks_default, level_sentence}
use Rattle.histar_raw_lint.specs.Values.{list_rules, number_rules, part_rules, positive_rules}
use Rattle.histar_raw_lint.proofs.LabelsKept.{AreNext, IsNext, category_is, part}
use Rattle.histar_lint.proofs.Rules.{AreKept, keep, keep_both}
use Rattle.histar_raw_lint.proofs.Steps.{front_is, last_is}

-- ---- numbers

-- a text whose first byte is greater doesn't begin with this one
apart : (b : ℕ) (text : List ℕ) → b < get_or text 0 0 → begins_with b text ≡ false
apart b [] lt = refl
apart b (c ∷ text) lt = grind (arith, nat_tests, lt)

no_zero : (n : ℕ) → IsNumber n → has_zero (decimal n) ≡ false
no_zero zero small = ap has_zero (decimal_digit 0 (omega arith))
no_zero (suc n) small = ap (λ b. b && ltb 1 (length (decimal (suc n)))) (apart 48 (decimal (suc n)) (first_decimal (suc n) (omega arith) small))

pub digits_kept : (noun : List ℕ) (most n : ℕ) → IsNumber n → n ≤ most → AreKept (digit_rules noun most (decimal n))
digits_kept noun most n small le =
    keep (has_zero (decimal n)) _ _ (no_zero n small)
    (keep (is_none (number_of (λ m. nat_le m most) (decimal n))) _ _ (ap is_none (number_again (λ m. nat_le m most) n small (le-leb n most le))) refl)

pub are_digits_right : (n : ℕ) → IsNumber n → are_digits (decimal n) ≡ true
are_digits_right n small =
    let some = decimal_nonempty n small in
    let nonempty : eqb (length (decimal n)) 0 ≡ false = grind (arith, nat_tests, some) in
    λ i. not (nonempty i) && decimal_digits n small i

pub number_kept : (noun : List ℕ) (most n : ℕ) → IsNumber n → n ≤ most → AreKept (number_rules noun most (decimal n))
number_kept noun most n small le = keep (not (are_digits (decimal n))) _ _ (ap not (are_digits_right n small)) (digits_kept noun most n small le)

not_zero : (n : ℕ) → IsNumber n → 1 ≤ n → bytes_eq (decimal n) (codes "0") ≡ false
not_zero n small low = false_from_ne_true _ (λ h.
    let same = (bytes_eq-Decides (decimal n) (codes "0")).0 h in
    let first = first_decimal n low small in
    omega (arith, first, ap (λ (text : List ℕ). get_or text 0 0) same))

positive_kept : (noun : List ℕ) (most n : ℕ) → IsNumber n → 1 ≤ n → n ≤ most → AreKept (positive_rules noun most (decimal n))
positive_kept noun most n small low le = keep (bytes_eq (decimal n) (codes "0")) _ _ (not_zero n small low) (number_kept noun most n small le)

-- ---- bytes

hex_right : (n : ℕ) → n < 16 → is_hex_digit (hex_digit n) ≡ true
hex_right n lt = by (ltb n 10) refl
  where
    by : (low : Bool) → ltb n 10 ≡ low → is_hex_digit (cond low (48 + n) (87 + n)) ≡ true
    by true is = grind (arith, nat_tests, lt)
    by false is = grind (arith, nat_tests, lt)

digits_right : (bs : List ℕ) → AreBytes bs → list_all is_hex_digit (flat_map byte_text bs) ≡ true
digits_right [] p = refl
digits_right (b ∷ bs) p =
    let small = p.0 in
    rw (hex_right (b / 16) (omega (arith, small)), hex_right (b % 16) (omega arith)) (digits_right bs p.1)

even_digits : (bs : List ℕ) → length (flat_map byte_text bs) ≡ 2 * length bs
even_digits [] = refl
even_digits (b ∷ bs) = let rest = even_digits bs in omega (arith, rest)

pub bytes_kept : (bs : List ℕ) → AreBytes bs → AreKept (bytes_rules (bytes_text bs))
bytes_kept bs p =
    let digits = flat_map byte_text bs in
    let twice = even_digits bs in
    let rest : length digits % 2 ≡ 0 = omega (arith, twice) in
    keep (not (list_all is_hex_digit digits)) _ _ (ap not (digits_right bs p)) (keep (length digits % 2 == 1) _ _ (ap (λ n. n == 1) rest) refl)

-- ---- a gate's entry

-- the rules for a gate's entry, by its name and its number
abbrev entry_at : List ℕ × Option (List ℕ) → List Rule
entry_at parts =
    cond (is_none parts.1) entry_form
    (cond (bytes_eq parts.0 (codes "login")) (positive_rules (codes "a user") 255 (unwrap_or parts.1 []))
    (cond (bytes_eq parts.0 (codes "mark")) (number_rules (codes "a mark") 4294967295 (unwrap_or parts.1 [])) entry_form))

pub entry_kept : (e : Entry) → IsReadableEntry e → AreKept (entry_rules (gate_entry_text e))
entry_kept (Login n) p =
    let small = p.1 in
    subst (λ parts. AreKept (entry_at parts)) (sym (split_before 58 (codes "login") (decimal n) refl))
    (positive_kept (codes "a user") 255 n (omega (arith, small)) p.0 (omega (arith, small)))
entry_kept (Mark n) p =
    subst (λ parts. AreKept (entry_at parts)) (sym (split_before 58 (codes "mark") (decimal n) refl))
    (number_kept (codes "a mark") 4294967295 n (omega (arith, p)) (omega (arith, p)))

-- ---- the categories of labels

is_level_right : (l : Level) → is_level (level_text l) ≡ true
is_level_right Star = refl
is_level_right L0 = refl
is_level_right L1 = refl
is_level_right L2 = refl
is_level_right L3 = refl

level_again : (l : Level) → level_in (level_text l) ≡ Some l
level_again Star = refl
level_again L0 = refl
level_again L1 = refl
level_again L2 = refl
level_again L3 = refl

other_level : (l d : Level) → l ≢ d → bytes_eq (level_text l) (level_text d) ≡ false
other_level l d differ = false_from_ne_true _ (λ h.
    let same = (bytes_eq-Decides (level_text l) (level_text d)).0 h in
    differ (ap (λ (o : Option Level). unwrap_or o l) (sym (level_again l) ∙ ap level_in same ∙ level_again d)))

not_late : (before c : ℕ) → IsNumber c → before < c → is_late before (decimal c) ≡ false
not_late before c small above =
    let test : nat_le c before ≡ false = grind (arith, nat_tests, above) in
    ap (λ (o : Option ℕ). option_map_or (λ n. nat_le n before) o false) (number_in_again c small) ∙ test

category_kept : (before c : ℕ) → IsNumber c → before < c → AreKept (category_rules before (decimal c))
category_kept before c small above =
    keep (bytes_eq (decimal c) (codes "0")) _ _ (not_zero c small (omega (arith, above)))
    (keep (is_late before (decimal c)) _ _ (not_late before c small above) (number_kept (codes "a category") greatest c small (omega (arith, small))))

-- the rules for a category with its level
abbrev exception_at : List ℕ → ℕ → List ℕ × Option (List ℕ) → List Rule
exception_at default before parts =
    (is_none parts.1, codes "a category has its level behind a colon, as in {4:3,1}")
    ∷ (not (is_level (unwrap_or parts.1 [])), level_sentence)
    ∷ (bytes_eq (unwrap_or parts.1 []) default, codes "a category with the default level is left out")
    ∷ category_rules before parts.0

exception_kept : (d : Level) (before : ℕ) (e : ℕ × Level) → IsNext d before e → AreKept (exception_rules (level_text d) before (part e))
exception_kept d before e next =
    let split = split_before 58 (decimal e.0) (level_text e.1) (lacks-decimal 58 e.0 colon_is_no_digit next.number) in
    subst (λ parts. AreKept (exception_at (level_text d) before parts)) (sym split)
    (keep (not (is_level (level_text e.1))) _ _ (ap not (is_level_right e.1))
    (keep (bytes_eq (level_text e.1) (level_text d)) _ _ (other_level e.1 d next.differs) (category_kept before e.0 next.number next.above)))

exceptions_kept : (d : Level) (before : ℕ) (es : Exceptions) → AreNext d before es → AreKept (exceptions_rules (level_text d) before (map part es))
exceptions_kept d before [] next = refl
exceptions_kept d before (e ∷ es) next =
    let category = category_is e (part e) refl next.0.number in
    keep_both (exception_rules (level_text d) before (part e)) (exceptions_rules (level_text d) (category_of_part (part e)) (map part es))
    (exception_kept d before e next.0)
    (subst (λ c. AreKept (exceptions_rules (level_text d) c (map part es))) (sym category) (exceptions_kept d e.0 es next.1))

next_by : (d : Level) (before : ℕ) (es : Exceptions) → AllByRecursion (λ (e : ℕ × Level). (1 ≤ e.0) × IsNumber e.0) es → IsRising es
    → (0 < length es → before < category_at es 0) → ((e : ℕ × Level) → Contains es e → e.1 ≢ d) → AreNext d before es
next_by d before [] numbers rising above differ = tt
next_by d before (e ∷ es) numbers rising above differ = (
  record { number = numbers.0.1; above = above (omega arith); differs = differ e (zero, omega arith, refl) },
  next_by d e.0 es numbers.1 (rising_tail e es rising) (λ some. rising 0 1 (omega arith) (omega (arith, some)))
      (λ f there. let lt = there.1 in differ f (suc there.0, omega (arith, lt), there.2)),
)

next_of_label : (L : Levels) → IsReadableLabel L → AreNext (default_of L) 0 (exceptions_of L)
next_of_label L p =
    let numbers = right_label L p in
    next_by (default_of L) 0 (exceptions_of L) numbers (IsRising-exceptions_of L) (first_above (exceptions_of L) numbers)
    (λ e there. ((ListsExceptions-exceptions_of L e.0 e.1).0 there).1)
  where
    first_above : (es : Exceptions) → AllByRecursion (λ (e : ℕ × Level). (1 ≤ e.0) × IsNumber e.0) es → 0 < length es → 0 < category_at es 0
    first_above [] numbers some = absurd (omega (arith, some))
    first_above (e ∷ es) numbers some = numbers.0.0

-- ---- labels

comma_is_no_digit : IsNoDigit 44
comma_is_no_digit d h = grind (arith, nat_tests)

parts_again : (d : Level) (before : ℕ) (es : Exceptions) (c : Level) → AreNext d before es
    → slice_split (λ b. b == 44) (flat_map exception_text es ++ level_text c) ≡ map part es ++ level_text c ∷ []
parts_again d before [] c next = part_alone (level_text c) (lacks-level_comma c)
parts_again d before (e ∷ es) c next =
    let front : flat_map exception_text (e ∷ es) ++ level_text c ≡ part e ++ 44 ∷ (flat_map exception_text es ++ level_text c) = simp append_assoc in
    let alone = lacks-append 44 (decimal e.0) (58 ∷ level_text e.1) (lacks-decimal 44 e.0 comma_is_no_digit next.0.number) (lacks-level_comma e.1) in
    ap (slice_split (λ b. b == 44)) front ∙ part_before (part e) (flat_map exception_text es ++ level_text c) alone
    ∙ ap (λ texts. part e ∷ texts) (parts_again d e.0 es c next.1)

last_byte : (b : ℕ) (text : List ℕ) → slice_get (text ++ b ∷ []) (length text) ≡ Some b
last_byte b [] = refl
last_byte b (c ∷ text) = last_byte b text

ends_right : (b : ℕ) (text : List ℕ) → ends_with b (text ++ b ∷ []) ≡ true
ends_right b text =
    let long = length-append text (b ∷ []) in
    let less : length (text ++ b ∷ []) - 1 ≡ length text = omega (arith, long) in
    let same : eqb b b ≡ true = grind (arith, nat_tests) in
    ap (λ n. option_map_or (λ c. c == b) (slice_get (text ++ b ∷ []) n) false) less
    ∙ ap (λ (o : Option ℕ). option_map_or (λ c. c == b) o false) (last_byte b text) ∙ same

front_of : (text rest : List ℕ) → take (length text) (text ++ rest) ≡ text
front_of [] rest = refl
front_of (b ∷ text) rest = ap (λ t. b ∷ t) (front_of text rest)

in_braces_is : (text : List ℕ) → in_braces (123 ∷ (text ++ 125 ∷ [])) ≡ text
in_braces_is text =
    let long = length-append text (125 ∷ []) in
    let less : suc (length (text ++ 125 ∷ [])) - 2 ≡ length text = omega (arith, long) in
    ap (λ n. take n (text ++ 125 ∷ [])) less ∙ front_of text (125 ∷ [])

has_default : (d : Level) → lacks_default (level_text d) ≡ false
unfolding split_at_first
has_default Star = refl
has_default L0 = refl
has_default L1 = refl
has_default L2 = refl
has_default L3 = refl

pub label_kept : (L : Levels) → IsReadableLabel L → AreKept (label_rules (label_text L))
label_kept L p =
    let es = exceptions_of L in
    let d = default_of L in
    let next = next_of_label L p in
    let inside : List ℕ = flat_map exception_text es ++ level_text d in
    let texts = map part es in
    let list = keep (lacks_default (level_text d)) _ _ (has_default d)
    (keep (not (is_level (level_text d))) _ _ (ap not (is_level_right d)) (exceptions_kept d 0 es next)) in
    let rules_are : part_rules (slice_split (λ b. b == 44) (in_braces (label_text L))) ≡ list_rules (level_text d) texts =
    ap (λ (text : List ℕ). part_rules (slice_split (λ b. b == 44) text)) (in_braces_is inside) ∙ ap part_rules (parts_again d 0 es d next)
    ∙ (λ i. list_rules (last_is texts (level_text d) i) (front_is texts (level_text d) i)) in
    keep (not (is_braced (label_text L))) _ _ (ap not (ends_right 125 (123 ∷ inside))) (ap first_sentence rules_are ∙ list)
