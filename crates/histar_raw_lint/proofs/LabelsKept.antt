-- A word that keeps the rules for labels is the text of one.
use Rattle.std.proofs.Common.{◌≡◌, ◌≢◌, ℕ, suc, ◌-◌, ◌^◌, ◌<◌, ◌≤◌, Bool, true, false, eqb, leb, ◌&&◌, ◌||◌, not, List, [], ◌∷◌, ◌++◌}
use Rattle.std.proofs.Common.{codes, length, map, take, All, Option, Some, refl, sym, ap, subst, ◌∙◌, arith}
use Rattle.std.specs.Prelude.{zero, is_none, nat_le, nat_lt, slice_get, unwrap_or, ⊤, ◌==◌}
use Rattle.std.specs.Fmt.{decimal}
use Rattle.std.specs.List.{flat_map, join_with_byte, list_all, slice_split}
use Rattle.std.specs.Option.{option_map_or}
use Rattle.std.specs.Str.{bytes_eq}
use Rattle.std.proofs.lemmas.Bool.{and_parts}
use Rattle.std.proofs.lemmas.Bool.Decides.{nat_tests}
use Rattle.std.proofs.lemmas.List.{append_assoc, append-nil}
use Rattle.std.proofs.lemmas.List.Elements.{All-nil, All-cons}
use Rattle.std.proofs.lemmas.List.Splits.{join_with_byte-slice_split, length-slice_split}
use Rattle.std.proofs.lemmas.Slice.Eq.{bytes_eq-Decides}
use Rattle.histar_level.specs.declared.level.Level.{Level}
use Rattle.histar_level.specs.declared.level.Level.TheVariants.{Star, L0, L1, L2, L3}
use Rattle.histar_label.specs.Exceptions.{Exceptions, IsRising, category_at}
use Rattle.histar_level.specs.Levels.{Levels, default_of, exceptions_of}
use Rattle.histar_label.specs.Levels.{from_exceptions, is_made}
use Rattle.histar_label.proofs.Readers.{default_of-from_exceptions}
use Rattle.histar_label.proofs.Canonical.{exceptions_of-from_exceptions}
use Rattle.histar_label.proofs.Made.{is_made-law}
use Rattle.histar_rules.specs.Rules.{greatest}
use Rattle.histar_rawtext.specs.RawText.{exception_text, label_text, level_text}
use Rattle.histar_rawtext.specs.RawTextLaws.{IsNumber}
use Rattle.histar_rawtext.specs.Readable.{IsReadableLabel}
use Rattle.histar_rawtext.specs.Reading.{number_in}
use Rattle.histar_flat.proofs.SplitLemmas.{split_before}
use Rattle.histar_rawtext.proofs.Numbers.{number_again}
use Rattle.histar_rawtext.proofs.WordTexts.{colon_is_no_digit, lacks-decimal}
use Rattle.histar_lint.specs.Lines.{ends_with}
use Rattle.histar_raw_lint.specs.Values.{before_colon, before_last, behind_colon, category_of_part, category_rules, exception_rules}
use Rattle.histar_raw_lint.specs.Values.{exceptions_rules, in_braces}
use Rattle.histar_raw_lint.specs.Values.{is_braced, is_late, is_level, label_rules, lacks_default, last_of, part_rules, text_behind}
use Rattle.histar_lint.proofs.Rules.{AreKept, both_kept, first_kept}
use Rattle.histar_raw_lint.proofs.NumbersKept.{is_there, number_by_rules}
use Rattle.histar_raw_lint.proofs.Parts.{split_back}

-- a test whose negation fails holds
pub not_so : (b : Bool) → not b ≡ false → b ≡ true
not_so true e = refl
not_so false e = absurd cc

-- ---- levels

-- a byte is the text of a level
abbrev IsLevelByte : ℕ → Type 0
IsLevelByte b = (l : Level) × (level_text l ≡ b ∷ [])

-- it is the text of this level, or of another one
this_level : (b n : ℕ) (l : Level) → level_text l ≡ n ∷ [] → (eqb b n ≡ false → IsLevelByte b) → IsLevelByte b
this_level b n l is other = by (eqb b n) refl
  where
    by : (same : Bool) → eqb b n ≡ same → IsLevelByte b
    by true e = let same : n ≡ b = grind (arith, nat_tests) in (l, is ∙ ap (λ (c : ℕ). c ∷ []) same)
    by false e = other e

level_of_byte : (b : ℕ) → (eqb b 42 || (leb 48 b && leb b 51)) ≡ true → IsLevelByte b
level_of_byte b h =
    this_level b 42 Star refl (λ e0. this_level b 48 L0 refl (λ e1. this_level b 49 L1 refl (λ e2. this_level b 50 L2 refl (λ e3.
    this_level b 51 L3 refl (λ e4. absurd (grind (arith, nat_tests, h, e0, e1, e2, e3, e4)))))))

-- a text that is a level is the text of one
level_of_text : (text : List ℕ) → is_level text ≡ true → (l : Level) × (level_text l ≡ text)
level_of_text [] e = absurd cc
level_of_text (b ∷ []) e = level_of_byte b e
level_of_text (b ∷ c ∷ text) e = absurd cc

-- ---- the categories and their levels

-- the text of an exception, without its comma
abbrev pub part : ℕ × Level → List ℕ
part e = decimal e.0 ++ 58 ∷ level_text e.1

-- an exception that may come after this category, in a label with this default
pub record IsNext (default : Level) (before : ℕ) (e : ℕ × Level) : Type 0 where
  pub number : IsNumber e.0
  pub above : before < e.0
  pub differs : e.1 ≢ default

-- exceptions that may come after this category
abbrev pub AreNext : Level → ℕ → Exceptions → Type 0
AreNext default before [] = ⊤
AreNext default before (e ∷ es) = IsNext default before e × AreNext default e.0 es

late_by : (before c : ℕ) (word : List ℕ) → word ≡ decimal c → c ≤ greatest → is_late before word ≡ false → before < c
late_by before c word is small late =
    let read : number_in word ≡ Some c = ap number_in is ∙ number_again c (omega arith) in
    let test : nat_le c before ≡ false = sym (ap (λ (o : Option ℕ). option_map_or (λ n. nat_le n before) o false) read) ∙ late in
    grind (arith, nat_tests)

-- a word that keeps the rules for a category spells one
category_by_rules : (before : ℕ) (word : List ℕ) → AreKept (category_rules before word) → (c : ℕ) × (word ≡ decimal c) × IsNumber c × (before < c)
category_by_rules before word kept =
    let first = first_kept (bytes_eq word (codes "0")) _ _ kept in
    let second = first_kept (is_late before word) _ _ first.1 in
    let number = number_by_rules (codes "a category") word greatest second.1 in
    (number.0, number.1, omega (arith, number.2), late_by before number.0 word number.1 number.2 second.0)

differ_by : (l d : Level) (text default : List ℕ) → level_text l ≡ text → level_text d ≡ default → bytes_eq text default ≡ false → l ≢ d
differ_by l d text default is own other same =
    let wrong : bytes_eq text default ≡ true = (bytes_eq-Decides text default).1 (sym is ∙ ap level_text same ∙ own) in
    absurd cc

-- a part of a label that keeps its rules is the text of an exception
exception_by_rules : (d : Level) (default part_text : List ℕ) (before : ℕ) → level_text d ≡ default
    → AreKept (exception_rules default before part_text)
    → (e : ℕ × Level) × (part_text ≡ part e) × IsNext d before e
exception_by_rules d default text before own kept =
    let first = first_kept (is_none (behind_colon text)) _ _ kept in
    let second = first_kept (not (is_level (text_behind text))) _ _ first.1 in
    let third = first_kept (bytes_eq (text_behind text) default) _ _ second.1 in
    let behind = is_there (behind_colon text) first.0 in
    let same : text_behind text ≡ behind.0 = ap (λ (o : Option (List ℕ)). unwrap_or o []) behind.1 in
    let level = level_of_text (text_behind text) (not_so (is_level (text_behind text)) second.0) in
    let category = category_by_rules before (before_colon text) third.1 in
    let parts : text ≡ before_colon text ++ 58 ∷ behind.0 = split_back 58 text behind.0 behind.1 in (
      (category.0, level.0),
      parts ∙ ap (λ (t : List ℕ). before_colon text ++ 58 ∷ t) (sym same ∙ sym level.1)
          ∙ ap (λ (t : List ℕ). t ++ 58 ∷ level_text level.0) category.1,
      record { number = category.2; above = category.3; differs = differ_by level.0 d (text_behind text) default level.1 own third.0 },
    )

-- the category of the text of an exception
pub category_is : (e : ℕ × Level) (text : List ℕ) → text ≡ part e → IsNumber e.0 → category_of_part text ≡ e.0
category_is e text is small =
    let split : before_colon text ≡ decimal e.0 =
    ap before_colon is ∙ ap (λ (p : List ℕ × Option (List ℕ)). p.0)
    (split_before 58 (decimal e.0) (level_text e.1) (lacks-decimal 58 e.0 colon_is_no_digit small)) in
    ap (λ (o : Option ℕ). unwrap_or o 0) (ap number_in split ∙ number_again e.0 small)

-- parts that keep their rules are the texts of exceptions
exceptions_by_rules : (d : Level) (default : List ℕ) (before : ℕ) (parts : List (List ℕ)) → level_text d ≡ default
    → AreKept (exceptions_rules default before parts)
    → (es : Exceptions) × (parts ≡ map part es) × AreNext d before es
exceptions_by_rules d default before [] own kept = ([], refl, tt)
exceptions_by_rules d default before (text ∷ parts) own kept =
    let both = both_kept (exception_rules default before text) (exceptions_rules default (category_of_part text) parts) kept in
    let one = exception_by_rules d default text before own both.0 in
    let rest = exceptions_by_rules d default (category_of_part text) parts own both.1 in
    let category = category_is one.0 text one.1 one.2.number in
    (one.0 ∷ rest.0, (λ i. one.1 i ∷ rest.1 i), (one.2, subst (λ c. AreNext d c rest.0) category rest.2))

-- ---- labels

next_above : (d : Level) (before : ℕ) (es : Exceptions) → AreNext d before es → (j : ℕ) → j < length es → before < category_at es j
next_above d before [] next j lt = absurd (omega arith)
next_above d before (e ∷ es) next zero lt = next.0.above
next_above d before (e ∷ es) next (suc j) lt = let first = next.0.above in let rest =
    next_above d e.0 es next.1 j (omega arith) in omega (arith, first, rest)

next_rise : (d : Level) (before : ℕ) (es : Exceptions) → AreNext d before es → IsRising es
next_rise d before [] next i j lt in_range = absurd (omega arith)
next_rise d before (e ∷ es) next i zero lt in_range = absurd (omega arith)
next_rise d before (e ∷ es) next zero (suc j) lt in_range = next_above d e.0 es next.1 j (omega arith)
next_rise d before (e ∷ es) next (suc i) (suc j) lt in_range = next_rise d e.0 es next.1 i j (omega arith) (omega arith)

next_differ : (d : Level) (before : ℕ) (es : Exceptions) → AreNext d before es → All (λ (e : ℕ × Level). e.1 ≢ d) es
next_differ d before [] next = All-nil (λ (e : ℕ × Level). e.1 ≢ d)
next_differ d before (e ∷ es) next = All-cons (λ (f : ℕ × Level). f.1 ≢ d) e es next.0.differs (next_differ d e.0 es next.1)

next_made : (d : Level) (before : ℕ) (es : Exceptions) → AreNext d before es
    → list_all (λ (e : ℕ × Level). nat_lt 0 e.0 && nat_lt e.0 (2 ^ 64)) es ≡ true
next_made d before [] next = refl
next_made d before (e ∷ es) next =
    let above = next.0.above in
    let small = next.0.number in
    let low : nat_lt 0 e.0 ≡ true = grind (arith, nat_tests, above) in
    let high : nat_lt e.0 (2 ^ 64) ≡ true = grind (arith, nat_tests, small) in
    rw (low, high) (next_made d e.0 es next.1)

-- a label is made of its exceptions
pub record IsLabelOf (d : Level) (es : Exceptions) (L : Levels) : Type 0 where
  pub default : default_of L ≡ d
  pub exceptions : exceptions_of L ≡ es
  pub readable : IsReadableLabel L

label_of_next : (d : Level) (es : Exceptions) → AreNext d 0 es → (L : Levels) × IsLabelOf d es L
unfolding is_made
label_of_next d es next =
    let L : Levels = from_exceptions d es in
    let listed : exceptions_of L ≡ es = exceptions_of-from_exceptions d es
    (record { rising = next_rise d 0 es next; differ = next_differ d 0 es next }) in
    let made : is_made (2 ^ 64) L ≡ true = ap (λ (fs : Exceptions). list_all
    (λ (e : ℕ × Level). nat_lt 0 e.0 && nat_lt e.0 (2 ^ 64)) fs) listed ∙ next_made d 0 es next in
    (L, record { default = default_of-from_exceptions d es; exceptions = listed; readable = (is_made-law (2 ^ 64) L).0 made })

-- parts with commas between them
joined_back : (es : Exceptions) (default : List ℕ) → join_with_byte 44 (map part es ++ default ∷ []) ≡ flat_map exception_text es ++ default
joined_back [] default = refl
joined_back (e ∷ []) default = let whole : exception_text e ++ [] ++ default ≡ part e ++ 44 ∷ default = simp (append_assoc, append-nil) in sym whole
joined_back (e ∷ f ∷ es) default =
    let whole : flat_map exception_text (e ∷ f ∷ es) ++ default ≡ part e ++ 44 ∷ (flat_map exception_text (f ∷ es) ++ default) = simp append_assoc in
    ap (λ (rest : List ℕ). part e ++ 44 ∷ rest) (joined_back (f ∷ es) default) ∙ sym whole

last_back : (text : List ℕ) (texts : List (List ℕ)) → text ∷ texts ≡ before_last (text ∷ texts) ++ last_of (text ∷ texts) ∷ []
last_back text [] = refl
last_back text (more ∷ texts) = ap (λ rest. text ∷ rest) (last_back more texts)

parts_back : (parts : List (List ℕ)) → 1 ≤ length parts → parts ≡ before_last parts ++ last_of parts ∷ []
parts_back [] some = absurd (omega arith)
parts_back (text ∷ texts) some = last_back text texts

-- a text whose last byte is this one ends with it
ended_at : (b c : ℕ) (text : List ℕ) → option_map_or (λ d. d == b) (slice_get (c ∷ text) (length text)) false ≡ true
    → c ∷ text ≡ take (length text) (c ∷ text) ++ b ∷ []
ended_at b c [] e = let same : c ≡ b = grind (arith, nat_tests) in ap (λ (d : ℕ). d ∷ []) same
ended_at b c (d ∷ text) e = ap (λ (rest : List ℕ). c ∷ rest) (ended_at b d text e)

-- a text in braces consists of the braces and the text between
braced_back : (word : List ℕ) → is_braced word ≡ true → word ≡ 123 ∷ (in_braces word ++ 125 ∷ [])
braced_back [] e = absurd cc
braced_back (b ∷ []) e = let both = and_parts (eqb b 123) (eqb b 125) e in absurd (grind (arith, nat_tests))
braced_back (b ∷ c ∷ text) e =
    let both = and_parts (eqb b 123) (ends_with 125 (b ∷ c ∷ text)) e in
    let less : suc (suc (length text)) - 1 ≡ suc (length text) = omega arith in
    let fewer : length text ≡ suc (suc (length text)) - 2 = omega arith in
    let last = ap (λ n. option_map_or (λ d. d == 125) (slice_get (b ∷ c ∷ text) n) false) (sym less) ∙ both.1 in
    let begins = both.0 in
    let head : b ≡ 123 = grind (arith, nat_tests, begins) in
    let tail : c ∷ text ≡ in_braces (b ∷ c ∷ text) ++ 125 ∷ [] = ended_at 125 c text last ∙ ap (λ n. take n (c ∷ text) ++ 125 ∷ []) fewer in
    λ i. head i ∷ tail i

-- parts that keep the rules for a label are those of one
label_of_parts : (parts : List (List ℕ)) → 1 ≤ length parts → AreKept (part_rules parts)
    → (L : Levels) × (join_with_byte 44 parts ≡ flat_map exception_text (exceptions_of L) ++ level_text (default_of L)) × IsReadableLabel L
label_of_parts parts some kept =
    let first = first_kept (lacks_default (last_of parts)) _ _ kept in
    let second = first_kept (not (is_level (last_of parts))) _ _ first.1 in
    let default = level_of_text (last_of parts) (not_so (is_level (last_of parts)) second.0) in
    let exceptions = exceptions_by_rules default.0 (last_of parts) 0 (before_last parts) default.1 second.1 in
    let label = label_of_next default.0 exceptions.0 exceptions.2 in
    let both : parts ≡ map part exceptions.0 ++ last_of parts ∷ [] = parts_back parts some
    ∙ ap (λ (front : List (List ℕ)). front ++ last_of parts ∷ []) exceptions.1 in
    let listed = label.1.exceptions in
    let own : level_text (default_of label.0) ≡ last_of parts = ap level_text label.1.default ∙ default.1 in
    let joined : join_with_byte 44 parts ≡ flat_map exception_text exceptions.0 ++ last_of parts =
    ap (join_with_byte 44) both ∙ joined_back exceptions.0 (last_of parts) in
    let text : flat_map exception_text exceptions.0 ++ last_of parts
    ≡ flat_map exception_text (exceptions_of label.0) ++ level_text (default_of label.0) =
    λ i. flat_map exception_text (sym listed i) ++ sym own i in
    (label.0, joined ∙ text, label.1.readable)

-- a word that keeps the rules for labels is a label's text
pub label_by_rules : (word : List ℕ) → AreKept (label_rules word) → (L : Levels) × (word ≡ label_text L) × IsReadableLabel L
label_by_rules word kept =
    let first = first_kept (not (is_braced word)) _ _ kept in
    let inside = in_braces word in
    let parts = slice_split (λ b. b == 44) inside in
    let label = label_of_parts parts (let many = length-slice_split (λ b. b == 44) inside in omega (arith, many)) first.1 in
    let joined : inside ≡ flat_map exception_text (exceptions_of label.0) ++ level_text (default_of label.0) =
    sym (join_with_byte-slice_split 44 inside) ∙ label.1 in
    (label.0, braced_back word (not_so (is_braced word) first.0) ∙ ap (λ (text : List ℕ). 123 ∷ (text ++ 125 ∷ [])) joined, label.2)
