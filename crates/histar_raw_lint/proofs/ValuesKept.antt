-- Words that keep the rules for a value of a kind spell one.
use Rattle.std.proofs.Common.{◌≡◌, ℕ, ◌+◌, ◌-◌, ◌*◌, ◌/◌, ◌%◌, ◌^◌, ◌<◌, ◌≤◌, Bool, true, false, cond, eqb, ltb, ◌&&◌, not, List, [], ◌∷◌, ◌++◌}
use Rattle.std.proofs.Common.{codes, length, Option, Some, None, refl, sym, ap, ◌∙◌, arith}
use Rattle.std.specs.Prelude.{is_none, unwrap_or, ◌==◌}
use Rattle.std.specs.Fmt.{decimal}
use Rattle.std.specs.List.{flat_map, list_all}
use Rattle.std.specs.Str.{bytes_eq}
use Rattle.std.proofs.lemmas.Bool.{and_parts}
use Rattle.std.proofs.lemmas.Bool.Decides.{nat_tests}
use Rattle.std.proofs.lemmas.Slice.Eq.{bytes_eq-Decides}
use Rattle.histar_level.specs.Levels.{Levels}
use Rattle.histar_object.specs.declared.objects.Entry.{Entry}
use Rattle.histar_object.specs.declared.objects.Entry.TheVariants.{Login, Mark}
use Rattle.histar_rules.specs.Rules.{greatest}
use Rattle.histar_rawtext.specs.RawText.{byte_text, bytes_text, gate_entry_text, hex_digit, label_text}
use Rattle.histar_rawtext.specs.Readable.{AreBytes, IsReadableEntry, IsReadableLabel}
use Rattle.histar_lint.specs.Lines.{begins_with}
use Rattle.histar_raw_lint.specs.declared.kinds.Kind.{Kind}
use Rattle.histar_raw_lint.specs.declared.kinds.Kind.TheVariants as kinds
use Rattle.histar_raw_lint.specs.Rules.{value_rules}
use Rattle.histar_raw_lint.specs.Values.{before_colon, behind_colon, bytes_rules, entry_form, entry_rules, is_hex_digit, number_rules, positive_rules}
use Rattle.histar_lint.proofs.Rules.{AreKept, first_kept}
use Rattle.histar_raw_lint.proofs.Parts.{split_back}
use Rattle.histar_raw_lint.proofs.NumbersKept.{number_by_rules, positive_by_rules}
use Rattle.histar_raw_lint.proofs.LabelsKept.{label_by_rules, not_so}

-- ---- bytes

-- the number of a hexadecimal digit
digit_number : ℕ → ℕ
digit_number b = cond (ltb b 97) (b - 48) (b - 87)

digit_back : (b : ℕ) → is_hex_digit b ≡ true → (hex_digit (digit_number b) ≡ b) × (digit_number b < 16)
unfolding digit_number
digit_back b h = by (ltb b 97) refl
  where
    by : (low : Bool) → ltb b 97 ≡ low → (hex_digit (cond low (b - 48) (b - 87)) ≡ b) × (cond low (b - 48) (b - 87) < 16)
    by true is = (grind (arith, nat_tests, h), grind (arith, nat_tests, h))
    by false is = (grind (arith, nat_tests, h), grind (arith, nat_tests, h))

-- two digits are those of a byte
byte_back : (a b : ℕ) → is_hex_digit a ≡ true → is_hex_digit b ≡ true → (c : ℕ) × (byte_text c ≡ a ∷ b ∷ []) × (c < 2 ^ 8)
byte_back a b ha hb =
    let high = digit_back a ha in
    let low = digit_back b hb in
    let x = digit_number a in
    let y = digit_number b in
    let small = high.1 in
    let little = low.1 in
    let c = 16 * x + y in
    let top : c / 16 ≡ x = omega (arith, small, little) in
    let end : c % 16 ≡ y = omega (arith, small, little) in
    (c, (λ i. (ap hex_digit top ∙ high.0) i ∷ (ap hex_digit end ∙ low.0) i ∷ []), omega (arith, small, little))

-- an even number of digits are those of bytes
digits_back : (digits : List ℕ) → list_all is_hex_digit digits ≡ true → length digits % 2 == 1 ≡ false
    → (bs : List ℕ) × (flat_map byte_text bs ≡ digits) × AreBytes bs
digits_back [] all even = ([], refl, tt)
digits_back (a ∷ []) all even = absurd cc
digits_back (a ∷ b ∷ digits) all even =
    let first = and_parts (is_hex_digit a) (is_hex_digit b && list_all is_hex_digit digits) all in
    let second = and_parts (is_hex_digit b) (list_all is_hex_digit digits) first.1 in
    let byte = byte_back a b first.0 second.0 in
    let same : length (a ∷ b ∷ digits) % 2 ≡ length digits % 2 = omega arith in
    let rest = digits_back digits second.1 (ap (λ (n : ℕ). n == 1) (sym same) ∙ even) in
    (byte.0 ∷ rest.0, (λ i. byte.1 i ++ rest.1 i), (byte.2, rest.2))

bytes_by_rules : (word : List ℕ) → AreKept (bytes_rules word) → (bs : List ℕ) × (word ≡ bytes_text bs) × AreBytes bs
bytes_by_rules [] kept = absurd cc
bytes_by_rules (b ∷ digits) kept =
    let first = first_kept (not (begins_with 120 (b ∷ digits))) _ _ kept in
    let second = first_kept (not (list_all is_hex_digit digits)) _ _ first.1 in
    let third = first_kept (length digits % 2 == 1) _ _ second.1 in
    let back = digits_back digits (not_so (list_all is_hex_digit digits) second.0) third.0 in
    let begins : eqb b 120 ≡ true = not_so (eqb b 120) first.0 in
    let head : b ≡ 120 = grind (arith, nat_tests) in
    (back.0, (λ i. head i ∷ sym back.1 i), back.2)

-- ---- a gate's entry

named_entry : (word name number : List ℕ) → word ≡ name ++ 58 ∷ number
    → AreKept (cond (bytes_eq name (codes "login")) (positive_rules (codes "a user") 255 number)
    (cond (bytes_eq name (codes "mark")) (number_rules (codes "a mark") 4294967295 number) entry_form))
    → (e : Entry) × (word ≡ gate_entry_text e) × IsReadableEntry e
named_entry word name number parts kept = by (bytes_eq name (codes "login")) (bytes_eq name (codes "mark")) refl refl kept
  where
    by : (login mark : Bool) → bytes_eq name (codes "login") ≡ login → bytes_eq name (codes "mark") ≡ mark
        → AreKept (cond login (positive_rules (codes "a user") 255 number) (cond mark (number_rules (codes "a mark") 4294967295 number) entry_form))
        → (e : Entry) × (word ≡ gate_entry_text e) × IsReadableEntry e
    by true mark is other kept =
        let user = positive_by_rules (codes "a user") number 255 kept in
        let same = (bytes_eq-Decides name (codes "login")).0 is in
        (Login user.0, parts ∙ (λ i. same i ++ 58 ∷ user.1 i), (user.2, omega (arith, user.3)))
    by false true is other kept =
        let mark = number_by_rules (codes "a mark") number 4294967295 kept in
        let same = (bytes_eq-Decides name (codes "mark")).0 other in
        (Mark mark.0, parts ∙ (λ i. same i ++ 58 ∷ mark.1 i), omega (arith, mark.2))
    by false false is other kept = absurd cc

entry_by_rules : (word : List ℕ) → AreKept (entry_rules word) → (e : Entry) × (word ≡ gate_entry_text e) × IsReadableEntry e
entry_by_rules word kept = by (behind_colon word) refl kept
  where
    by : (o : Option (List ℕ)) → behind_colon word ≡ o
        → AreKept (cond (is_none o) entry_form (cond (bytes_eq (before_colon word) (codes "login"))
        (positive_rules (codes "a user") 255 (unwrap_or o []))
        (cond (bytes_eq (before_colon word) (codes "mark")) (number_rules (codes "a mark") 4294967295 (unwrap_or o [])) entry_form)))
        → (e : Entry) × (word ≡ gate_entry_text e) × IsReadableEntry e
    by None is kept = absurd cc
    by (Some number) is kept = named_entry word (before_colon word) number (split_back 58 word number is) kept

-- ---- values of all kinds

-- the word spells a number up to this one
abbrev pub IsNumberWord : ℕ → List ℕ → Type 0
IsNumberWord most word = (n : ℕ) × (word ≡ decimal n) × (n ≤ most)

-- the word is a label
abbrev pub IsLabelWord : List ℕ → Type 0
IsLabelWord word = (L : Levels) × (word ≡ label_text L) × IsReadableLabel L

-- the word spells a value of the kind
abbrev pub IsValue : Kind → List ℕ → Type 0
IsValue kinds.Container word = IsNumberWord greatest word
IsValue kinds.Object word = IsNumberWord greatest word
IsValue kinds.Segment word = IsNumberWord greatest word
IsValue kinds.Gate word = IsNumberWord greatest word
IsValue kinds.Keep word = IsNumberWord 4294967295 word
IsValue kinds.Label word = IsLabelWord word
IsValue kinds.Clearance word = IsLabelWord word
IsValue kinds.Verify word = IsLabelWord word
IsValue kinds.Bytes word = (bs : List ℕ) × (word ≡ bytes_text bs) × AreBytes bs
IsValue kinds.Entry word = (e : Entry) × (word ≡ gate_entry_text e) × IsReadableEntry e

-- a word that keeps the rules of its kind spells a value of it
pub value_by_rules : (kind : Kind) (word : List ℕ) → AreKept (value_rules kind word) → IsValue kind word
value_by_rules kinds.Container word kept = number_by_rules (codes "a container") word greatest kept
value_by_rules kinds.Object word kept = number_by_rules (codes "an object") word greatest kept
value_by_rules kinds.Segment word kept = number_by_rules (codes "a segment") word greatest kept
value_by_rules kinds.Gate word kept = number_by_rules (codes "a gate") word greatest kept
value_by_rules kinds.Keep word kept = number_by_rules (codes "KEEP") word 4294967295 kept
value_by_rules kinds.Label word kept = label_by_rules word kept
value_by_rules kinds.Clearance word kept = label_by_rules word kept
value_by_rules kinds.Verify word kept = label_by_rules word kept
value_by_rules kinds.Bytes word kept = bytes_by_rules word kept
value_by_rules kinds.Entry word kept = entry_by_rules word kept
