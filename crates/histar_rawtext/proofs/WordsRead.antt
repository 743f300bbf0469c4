-- Labels, bytes and entries are read from their texts.
use Rattle.std.proofs.Common.{◌≡◌, ℕ, ◌+◌, ◌*◌, ◌/◌, ◌%◌, ◌<◌, ◌≤◌, ◌^◌, true, nat_lt, ◌&&◌, List, [], ◌∷◌, ◌++◌, map, length, codes, Some, Ok, refl}
use Rattle.std.proofs.Common.{ap, ◌∙◌, arith}
use Rattle.std.specs.Prelude.{◌==◌}
use Rattle.std.specs.List.{flat_map, slice_split, AllByRecursion, list_all}
use Rattle.std.specs.Fmt.{decimal}
use Rattle.std.proofs.lemmas.Bool.{and_parts, le-leb}
use Rattle.std.proofs.lemmas.Bool.Decides.{nat_tests}
use Rattle.std.proofs.lemmas.List.{append_assoc}
use Rattle.histar_flat.proofs.SplitLemmas.{lacks, split_before}
use Rattle.hex.specs.Hex.{decode_pairs, hex_digit_value}
use Rattle.hex.proofs.HexLemmas.{decode_of-even}
use Rattle.histar_level.specs.declared.level.Level.{Level}
use Rattle.histar_level.specs.declared.level.Level.TheVariants.{Star, L0, L1, L2, L3}
use Rattle.histar_level.specs.Levels.{Levels, exceptions_of, default_of}
use Rattle.histar_label.specs.Levels.{constant, from_exceptions, is_made}
use Rattle.histar_label.proofs.Floors.{from_exceptions-of}
use Rattle.histar_label.proofs.Made.{is_made-law}
use Rattle.histar_object.specs.declared.objects.Entry.{Entry}
use Rattle.histar_object.specs.declared.objects.Entry.TheVariants.{Login, Mark}
use Rattle.histar_rawtext.specs.RawText.{hex_digit, byte_text, bytes_text, gate_entry_text, level_text, exception_text, label_text}
use Rattle.histar_rawtext.specs.RawTextLaws.{IsNumber, IsWritableLabel, IsWritableEntry}
use Rattle.histar_rawtext.specs.Readable.{IsReadableLabel, IsReadableEntry, AreBytes}
use Rattle.histar_rawtext.specs.Reading.{category_in, short_number_in, user_in, level_in, exception_in, label_of_texts, label_in, bytes_in, entry_in}
use Rattle.histar_rawtext.proofs.WordTexts.{lacks-append, lacks-decimal, colon_is_no_digit, IsNoDigit}
use Rattle.histar_rawtext.proofs.LabelTexts.{ending, lacks-level_comma}
use Rattle.histar_rawtext.proofs.Numbers.{number_again}
use Rattle.histar_rawtext.proofs.Splits.{part_before, part_alone}
use Rattle.histar_rawtext.proofs.LabelsRead.{with_exceptions, last_is_default, one_added}

-- ---- labels

-- each exception of a label that can be read has a category of 64 bits, from 1 on
abbrev IsRight : ℕ × Level → Type 0
IsRight e = (1 ≤ e.0) × IsNumber e.0

-- a category that passes the test is right
right_category : (c : ℕ) → (nat_lt 0 c && nat_lt c (2 ^ 64)) ≡ true → (1 ≤ c) × IsNumber c
right_category c h = let parts = and_parts (nat_lt 0 c) (nat_lt c (2 ^ 64)) h in (grind (arith, nat_tests), grind (arith, nat_tests))

-- exceptions that pass the test are right
right_exceptions : (es : List (ℕ × Level)) → list_all (λ e. nat_lt 0 e.0 && nat_lt e.0 (2 ^ 64)) es ≡ true → AllByRecursion IsRight es
right_exceptions [] h = tt
right_exceptions (e ∷ es) h =
    let parts = and_parts (nat_lt 0 e.0 && nat_lt e.0 (2 ^ 64)) (list_all (λ (f : ℕ × Level). nat_lt 0 f.0 && nat_lt f.0 (2 ^ 64)) es) h in
    (right_category e.0 parts.0, right_exceptions es parts.1)

-- the exceptions of a label that can be read are right
pub right_label : (L : Levels) → IsReadableLabel L → AllByRecursion IsRight (exceptions_of L)
unfolding is_made
right_label L p = right_exceptions (exceptions_of L) ((is_made-law (2 ^ 64) L).1 p)

-- and their categories have 64 bits
pub writable_label : (L : Levels) → IsReadableLabel L → IsWritableLabel L
writable_label L p = numbers (exceptions_of L) (right_label L p)
  where
    numbers : (es : List (ℕ × Level)) → AllByRecursion IsRight es → AllByRecursion (λ (e : ℕ × Level). IsNumber e.0) es
    numbers [] p = tt
    numbers (e ∷ es) p = (p.0.1, numbers es p.1)

-- the text of an exception, without its comma
abbrev part : ℕ × Level → List ℕ
part e = decimal e.0 ++ 58 ∷ level_text e.1

-- a level is read from its text
level_again : (l : Level) → level_in (level_text l) ≡ Some l
level_again Star = refl
level_again L0 = refl
level_again L1 = refl
level_again L2 = refl
level_again L3 = refl

-- a category is read from its text
category_again : (c : ℕ) → 1 ≤ c → IsNumber c → category_in (decimal c) ≡ Some c
category_again c low small = rw (number_again c small, le-leb 1 c low, le-leb c 18446744073709551615 (omega arith)) refl

-- an exception is read from its text
exception_again : (e : ℕ × Level) → IsRight e → exception_in (part e) ≡ Some e
unfolding exception_in
exception_again e p =
    rw (
      split_before 58 (decimal e.0) (level_text e.1) (lacks-decimal 58 e.0 colon_is_no_digit p.1),
      category_again e.0
          p.0 p.1,
      level_again e.1,
    ) refl

-- a comma is no digit
comma_is_no_digit : IsNoDigit 44
comma_is_no_digit d h = grind (arith, nat_tests)

-- the text of an exception without its comma has no comma
part_lacks : (e : ℕ × Level) → IsRight e → lacks 44 (part e) ≡ true
part_lacks e p = lacks-append 44 (decimal e.0) (58 ∷ level_text e.1) (lacks-decimal 44 e.0 comma_is_no_digit p.1) (lacks-level_comma e.1)

-- nor has the default with its brace
ending_lacks : (d : Level) → lacks 44 (ending d) ≡ true
ending_lacks Star = refl
ending_lacks L0 = refl
ending_lacks L1 = refl
ending_lacks L2 = refl
ending_lacks L3 = refl

-- the parts of a label are between commas
parts_again : (es : List (ℕ × Level)) (d : Level) → AllByRecursion IsRight es
    → slice_split (λ c. c == 44) (flat_map exception_text es ++ ending d) ≡ map part es ++ ending d ∷ []
parts_again [] d p = part_alone (ending d) (ending_lacks d)
parts_again (e ∷ es) d p =
    let front : flat_map exception_text (e ∷ es) ++ ending d ≡ part e ++ 44 ∷ (flat_map exception_text es ++ ending d) = simp append_assoc in
    ap (slice_split (λ c. c == 44)) front
    ∙ part_before (part e) (flat_map exception_text es ++ ending d) (part_lacks e p.0)
    ∙ ap (λ texts. part e ∷ texts) (parts_again es d p.1)

-- the default is read from the last part
default_again : (d : Level) → level_in (ending d) ≡ Some d
default_again Star = refl
default_again L0 = refl
default_again L1 = refl
default_again L2 = refl
default_again L3 = refl

-- the exceptions are added to the default
exceptions_again : (es : List (ℕ × Level)) (d : Level) → AllByRecursion IsRight es
    → with_exceptions (map part es) (Some (constant d)) ≡ Some (from_exceptions d es)
exceptions_again [] d p = refl
exceptions_again (e ∷ es) d p =
    ap (with_exceptions (part e ∷ [])) (exceptions_again es d p.1) ∙ one_added (part e) (from_exceptions d es) e.0 e.1 (exception_again e p.0)

-- a label is read from its text
pub label_again : (L : Levels) → IsReadableLabel L → label_in (label_text L) ≡ Some L
label_again L p =
    let es = exceptions_of L in
    let d = default_of L in
    let right = right_label L p in
    let text : label_text L ≡ 123 ∷ (flat_map exception_text es ++ ending d) = simp append_assoc in
    ap label_in text
    ∙ ap label_of_texts (parts_again es d right)
    ∙ last_is_default (map part es) (ending d)
    ∙ rw (default_again d) (exceptions_again es d right)
    ∙ ap (λ (M : Levels). Some M) (from_exceptions-of L)

-- ---- bytes

-- a digit of base sixteen is read from its text
digit_again : (v : ℕ) → v < 16 → hex_digit_value (hex_digit v) ≡ Some v
digit_again v small = grind (arith, nat_tests)

-- bytes are read from their digits
digits_again : (i : ℕ) (bs : List ℕ) → AreBytes bs → decode_pairs i (flat_map byte_text bs) ≡ Ok bs
unfolding decode_pairs
digits_again i [] p = refl
digits_again i (b ∷ bs) p =
    let back : b / 16 * 16 + b % 16 ≡ b = omega arith in
    rw (digit_again (b / 16) (omega (arith, p.0)), digit_again (b % 16) (omega arith), digits_again (i + 2) bs p.1, back) refl

-- they have two digits each
even_digits : (bs : List ℕ) → length (flat_map byte_text bs) ≡ 2 * length bs
even_digits [] = refl
even_digits (b ∷ bs) = let rest = even_digits bs in omega (arith, rest)

-- bytes are read from their text
pub bytes_again : (bs : List ℕ) → AreBytes bs → bytes_in (bytes_text bs) ≡ Some bs
bytes_again bs p =
    let twice = even_digits bs in
    rw (decode_of-even (flat_map byte_text bs) (omega (arith, twice)) ∙ digits_again 0 bs p) refl

-- ---- a gate's entry

-- a number of 32 bits is read from its text
pub short_number_again : (n : ℕ) → n < 2 ^ 32 → short_number_in (decimal n) ≡ Some n
short_number_again n small = rw (number_again n (omega arith), le-leb 0 n (omega arith), le-leb n 4294967295 (omega arith)) refl

-- the number of a user is read from its text
user_again : (n : ℕ) → 1 ≤ n → n < 2 ^ 8 → user_in (decimal n) ≡ Some n
user_again n low small = rw (number_again n (omega arith), le-leb 1 n low, le-leb n 255 (omega arith)) refl

-- the number of a gate's entry has 64 bits
pub writable_entry : (e : Entry) → IsReadableEntry e → IsWritableEntry e
writable_entry (Login n) p = omega (arith, p.1)
writable_entry (Mark n) p = omega (arith, p)

-- a gate's entry is read from its text
pub entry_again : (e : Entry) → IsReadableEntry e → entry_in (gate_entry_text e) ≡ Some e
entry_again (Login n) p = rw (split_before 58 (codes "login") (decimal n) refl, user_again n p.0 p.1) refl
entry_again (Mark n) p = rw (split_before 58 (codes "mark") (decimal n) refl, short_number_again n p) refl
