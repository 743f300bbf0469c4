-- The text of a thread's raw call determines it.
use Rattle.std.proofs.Common.{◌≡◌, ℕ, ◌+◌, true, List, [], ◌∷◌, ◌++◌, refl, sym, ap, ◌∙◌, arith}
use Rattle.std.specs.Fmt.{decimal}
use Rattle.std.proofs.lemmas.Fmt.{decimal_injective}
use Rattle.std.proofs.lemmas.List.{append_assoc, append-nil}
use Rattle.histar_flat.proofs.SplitLemmas.{lacks}
use Rattle.histar_rules.specs.declared.raw.RawCall.{RawCall}
use Rattle.histar_rules.specs.declared.raw.RawCall.TheVariants.{MakeCategory, OwnLabel, SetLabel, SetClearance, MakeSegment, MakeContainer}
use Rattle.histar_rules.specs.declared.raw.RawCall.TheVariants.{MakeThread, MakeGate, Enter, Read, Write, Unlink, LabelOf}
use Rattle.histar_rawtext.specs.RawText.{label_text, bytes_text, gate_entry_text, call_name, call_words, call_text, thread_call_text}
use Rattle.histar_rawtext.specs.RawTextLaws.{IsWritable, TextsDetermineCalls}
use Rattle.histar_rawtext.proofs.Parting.{same_parts, spaced, AreWords, same_words, same_fronts}
use Rattle.histar_rawtext.proofs.WordTexts.{lacks-decimal, space_is_no_digit, lacks-bytes, lacks-entry, same_bytes, same_entry}
use Rattle.histar_rawtext.proofs.LabelTexts.{lacks-label, same_label}

-- the words of a call after its name
abbrev pub words_of : RawCall → List (List ℕ)
words_of MakeCategory = []
words_of OwnLabel = []
words_of (SetLabel label) = label_text label ∷ []
words_of (SetClearance clearance) = label_text clearance ∷ []
words_of (MakeSegment container label bytes) = decimal container ∷ label_text label ∷ bytes_text bytes ∷ []
words_of (MakeContainer container label) = decimal container ∷ label_text label ∷ []
words_of (MakeThread container label clearance) = decimal container ∷ label_text label ∷ label_text clearance ∷ []
words_of (MakeGate container label clearance entry) = decimal container ∷ label_text label ∷ label_text clearance ∷ gate_entry_text entry ∷ []
words_of (Enter container gate wanted clearance verify) =
    decimal container ∷ decimal gate ∷ label_text wanted ∷ label_text clearance ∷ label_text verify ∷ []
words_of (Read container segment) = decimal container ∷ decimal segment ∷ []
words_of (Write container segment keep bytes) = decimal container ∷ decimal segment ∷ decimal keep ∷ bytes_text bytes ∷ []
words_of (Unlink container object) = decimal container ∷ decimal object ∷ []
words_of (LabelOf container object) = decimal container ∷ decimal object ∷ []

-- two words, three, four and five, each after a space
two_words : (a b : List ℕ) → (32 ∷ a) ++ (32 ∷ b) ≡ spaced (a ∷ b ∷ [])
two_words a b = simp append-nil

three_words : (a b c : List ℕ) → (32 ∷ a) ++ (32 ∷ b) ++ (32 ∷ c) ≡ spaced (a ∷ b ∷ c ∷ [])
three_words a b c = simp (append_assoc, append-nil)

four_words : (a b c d : List ℕ) → (32 ∷ a) ++ (32 ∷ b) ++ (32 ∷ c) ++ (32 ∷ d) ≡ spaced (a ∷ b ∷ c ∷ d ∷ [])
four_words a b c d = simp (append_assoc, append-nil)

five_words : (a b c d e : List ℕ) → (32 ∷ a) ++ (32 ∷ b) ++ (32 ∷ c) ++ (32 ∷ d) ++ (32 ∷ e) ≡ spaced (a ∷ b ∷ c ∷ d ∷ e ∷ [])
five_words a b c d e = simp (append_assoc, append-nil)

-- one word after a space
one_word : (a : List ℕ) → 32 ∷ a ≡ spaced (a ∷ [])
one_word a = simp append-nil

-- the text after the name of a call consists of its words
words_spelled : (a : RawCall) → call_words a ≡ spaced (words_of a)
words_spelled MakeCategory = refl
words_spelled OwnLabel = refl
words_spelled (SetLabel label) = one_word (label_text label)
words_spelled (SetClearance clearance) = one_word (label_text clearance)
words_spelled (MakeSegment container label bytes) = three_words (decimal container) (label_text label) (bytes_text bytes)
words_spelled (MakeContainer container label) = two_words (decimal container) (label_text label)
words_spelled (MakeThread container label clearance) = three_words (decimal container) (label_text label) (label_text clearance)
words_spelled (MakeGate container label clearance entry) =
    four_words (decimal container) (label_text label) (label_text clearance) (gate_entry_text entry)
words_spelled (Enter container gate wanted clearance verify) =
    five_words (decimal container) (decimal gate) (label_text wanted) (label_text clearance) (label_text verify)
words_spelled (Read container segment) = two_words (decimal container) (decimal segment)
words_spelled (Write container segment keep bytes) = four_words (decimal container) (decimal segment) (decimal keep) (bytes_text bytes)
words_spelled (Unlink container object) = two_words (decimal container) (decimal object)
words_spelled (LabelOf container object) = two_words (decimal container) (decimal object)

-- the words of a call have no space
pub are_words : (a : RawCall) → IsWritable a → AreWords (words_of a)
are_words MakeCategory p = tt
are_words OwnLabel p = tt
are_words (SetLabel label) p = (lacks-label label p, tt)
are_words (SetClearance clearance) p = (lacks-label clearance p, tt)
are_words (MakeSegment container label bytes) p = (lacks-decimal 32 container space_is_no_digit p.0, (lacks-label label p.1, (lacks-bytes bytes, tt)))
are_words (MakeContainer container label) p = (lacks-decimal 32 container space_is_no_digit p.0, (lacks-label label p.1, tt))
are_words (MakeThread container label clearance) p =
    (lacks-decimal 32 container space_is_no_digit p.0, (lacks-label label p.1, (lacks-label clearance p.2, tt)))
are_words (MakeGate container label clearance entry) p = (
  lacks-decimal 32 container space_is_no_digit p.0,
  (lacks-label label p.1, (lacks-label clearance p.2, (lacks-entry entry p.3, tt))),
)
are_words (Enter container gate wanted clearance verify) p = (
  lacks-decimal 32 container space_is_no_digit p.0,
  (
    lacks-decimal 32 gate space_is_no_digit p.1,
    (lacks-label wanted p.2, (lacks-label clearance p.3, (lacks-label verify p.4, tt))),
  ),
)
are_words (Read container segment) p = (lacks-decimal 32 container space_is_no_digit p.0, (lacks-decimal 32 segment space_is_no_digit p.1, tt))
are_words (Write container segment keep bytes) p = (
  lacks-decimal 32 container space_is_no_digit p.0,
  (
    lacks-decimal 32 segment space_is_no_digit p.1,
    (lacks-decimal 32 keep space_is_no_digit p.2, (lacks-bytes bytes, tt)),
  ),
)
are_words (Unlink container object) p = (lacks-decimal 32 container space_is_no_digit p.0, (lacks-decimal 32 object space_is_no_digit p.1, tt))
are_words (LabelOf container object) p = (lacks-decimal 32 container space_is_no_digit p.0, (lacks-decimal 32 object space_is_no_digit p.1, tt))

-- nor has its name
pub name_is_word : (a : RawCall) → lacks 32 (call_name a) ≡ true
name_is_word MakeCategory = refl
name_is_word OwnLabel = refl
name_is_word (SetLabel label) = refl
name_is_word (SetClearance clearance) = refl
name_is_word (MakeSegment container label bytes) = refl
name_is_word (MakeContainer container label) = refl
name_is_word (MakeThread container label clearance) = refl
name_is_word (MakeGate container label clearance entry) = refl
name_is_word (Enter container gate wanted clearance verify) = refl
name_is_word (Read container segment) = refl
name_is_word (Write container segment keep bytes) = refl
name_is_word (Unlink container object) = refl
name_is_word (LabelOf container object) = refl

-- the sum of a name's bytes, in which no two names of calls agree
weight : List ℕ → ℕ
weight [] = 0
weight (b ∷ bs) = b + weight bs

-- the name and the words of a call determine it
same_call : (a b : RawCall) → IsWritable a → IsWritable b → call_name a ≡ call_name b → words_of a ≡ words_of b → a ≡ b
unfolding weight
same_call MakeCategory MakeCategory p q names words = refl
same_call MakeCategory b p q names words = absurd (omega (arith, ap weight names))
same_call OwnLabel OwnLabel p q names words = refl
same_call OwnLabel b p q names words = absurd (omega (arith, ap weight names))
same_call (SetLabel label) (SetLabel label') p q names words =
    let w0 = same_fronts words in
    let e0 = same_label label label' p q w0.0 in
    λ i. SetLabel (e0 i)
same_call (SetLabel label) b p q names words = absurd (omega (arith, ap weight names))
same_call (SetClearance clearance) (SetClearance clearance') p q names words =
    let w0 = same_fronts words in
    let e0 = same_label clearance clearance' p q w0.0 in
    λ i. SetClearance (e0 i)
same_call (SetClearance clearance) b p q names words = absurd (omega (arith, ap weight names))
same_call (MakeSegment container label bytes) (MakeSegment container' label' bytes') p q names words =
    let w0 = same_fronts words in
    let e0 = decimal_injective container container' p.0 q.0 w0.0 in
    let w1 = same_fronts w0.1 in
    let e1 = same_label label label' p.1 q.1 w1.0 in
    let w2 = same_fronts w1.1 in
    let e2 = same_bytes bytes bytes' w2.0 in
    λ i. MakeSegment (e0 i) (e1 i) (e2 i)
same_call (MakeSegment container label bytes) b p q names words = absurd (omega (arith, ap weight names))
same_call (MakeContainer container label) (MakeContainer container' label') p q names words =
    let w0 = same_fronts words in
    let e0 = decimal_injective container container' p.0 q.0 w0.0 in
    let w1 = same_fronts w0.1 in
    let e1 = same_label label label' p.1 q.1 w1.0 in
    λ i. MakeContainer (e0 i) (e1 i)
same_call (MakeContainer container label) b p q names words = absurd (omega (arith, ap weight names))
same_call (MakeThread container label clearance) (MakeThread container' label' clearance') p q names words =
    let w0 = same_fronts words in
    let e0 = decimal_injective container container' p.0 q.0 w0.0 in
    let w1 = same_fronts w0.1 in
    let e1 = same_label label label' p.1 q.1 w1.0 in
    let w2 = same_fronts w1.1 in
    let e2 = same_label clearance clearance' p.2 q.2 w2.0 in
    λ i. MakeThread (e0 i) (e1 i) (e2 i)
same_call (MakeThread container label clearance) b p q names words = absurd (omega (arith, ap weight names))
same_call (MakeGate container label clearance entry) (MakeGate container' label' clearance' entry') p q names words =
    let w0 = same_fronts words in
    let e0 = decimal_injective container container' p.0 q.0 w0.0 in
    let w1 = same_fronts w0.1 in
    let e1 = same_label label label' p.1 q.1 w1.0 in
    let w2 = same_fronts w1.1 in
    let e2 = same_label clearance clearance' p.2 q.2 w2.0 in
    let w3 = same_fronts w2.1 in
    let e3 = same_entry entry entry' p.3 q.3 w3.0 in
    λ i. MakeGate (e0 i) (e1 i) (e2 i) (e3 i)
same_call (MakeGate container label clearance entry) b p q names words = absurd (omega (arith, ap weight names))
same_call (Enter container gate wanted clearance verify) (Enter container' gate' wanted' clearance' verify') p q names words =
    let w0 = same_fronts words in
    let e0 = decimal_injective container container' p.0 q.0 w0.0 in
    let w1 = same_fronts w0.1 in
    let e1 = decimal_injective gate gate' p.1 q.1 w1.0 in
    let w2 = same_fronts w1.1 in
    let e2 = same_label wanted wanted' p.2 q.2 w2.0 in
    let w3 = same_fronts w2.1 in
    let e3 = same_label clearance clearance' p.3 q.3 w3.0 in
    let w4 = same_fronts w3.1 in
    let e4 = same_label verify verify' p.4 q.4 w4.0 in
    λ i. Enter (e0 i) (e1 i) (e2 i) (e3 i) (e4 i)
same_call (Enter container gate wanted clearance verify) b p q names words = absurd (omega (arith, ap weight names))
same_call (Read container segment) (Read container' segment') p q names words =
    let w0 = same_fronts words in
    let e0 = decimal_injective container container' p.0 q.0 w0.0 in
    let w1 = same_fronts w0.1 in
    let e1 = decimal_injective segment segment' p.1 q.1 w1.0 in
    λ i. Read (e0 i) (e1 i)
same_call (Read container segment) b p q names words = absurd (omega (arith, ap weight names))
same_call (Write container segment keep bytes) (Write container' segment' keep' bytes') p q names words =
    let w0 = same_fronts words in
    let e0 = decimal_injective container container' p.0 q.0 w0.0 in
    let w1 = same_fronts w0.1 in
    let e1 = decimal_injective segment segment' p.1 q.1 w1.0 in
    let w2 = same_fronts w1.1 in
    let e2 = decimal_injective keep keep' p.2 q.2 w2.0 in
    let w3 = same_fronts w2.1 in
    let e3 = same_bytes bytes bytes' w3.0 in
    λ i. Write (e0 i) (e1 i) (e2 i) (e3 i)
same_call (Write container segment keep bytes) b p q names words = absurd (omega (arith, ap weight names))
same_call (Unlink container object) (Unlink container' object') p q names words =
    let w0 = same_fronts words in
    let e0 = decimal_injective container container' p.0 q.0 w0.0 in
    let w1 = same_fronts w0.1 in
    let e1 = decimal_injective object object' p.1 q.1 w1.0 in
    λ i. Unlink (e0 i) (e1 i)
same_call (Unlink container object) b p q names words = absurd (omega (arith, ap weight names))
same_call (LabelOf container object) (LabelOf container' object') p q names words =
    let w0 = same_fronts words in
    let e0 = decimal_injective container container' p.0 q.0 w0.0 in
    let w1 = same_fronts w0.1 in
    let e1 = decimal_injective object object' p.1 q.1 w1.0 in
    λ i. LabelOf (e0 i) (e1 i)
same_call (LabelOf container object) b p q names words = absurd (omega (arith, ap weight names))

-- a thread's call is the number of the thread, and then words
pub call_spelled : (t : ℕ) (a : RawCall) → thread_call_text t a ≡ decimal t ++ spaced (call_name a ∷ words_of a)
call_spelled t a = append_assoc (decimal t) (32 ∷ []) (call_text a) ∙ ap (λ text. decimal t ++ 32 ∷ (call_name a ++ text)) (words_spelled a)

-- the text of a thread's call determines it
pub texts_determine_calls : TextsDetermineCalls
texts_determine_calls t u a b small_t small_u p q e =
    let whole = sym (call_spelled t a) ∙ e ∙ call_spelled u b in
    let parts =
    same_parts 32 (decimal t) (decimal u) (spaced (call_name a ∷ words_of a)) (spaced (call_name b ∷ words_of b))
    (lacks-decimal 32 t space_is_no_digit small_t) (lacks-decimal 32 u space_is_no_digit small_u) refl refl
    whole in
    let words =
    same_words (call_name a ∷ words_of a) (call_name b ∷ words_of b) (name_is_word a, are_words a p)
    (name_is_word b, are_words b q) parts.1 in
    let fronts = same_fronts words in
    (decimal_injective t u small_t small_u parts.0, same_call a b p q fronts.0 fronts.1)
