-- The text of a call that can be read keeps its rules.
use Rattle.std.proofs.Common.{◌≡◌, ℕ, ◌^◌, ◌<◌, true, false, eqb, not, List, [], ◌∷◌, ◌++◌, codes, drop}
use Rattle.std.proofs.Common.{Option, Some, None, refl, sym, ap, subst, ◌∙◌, arith}
use Rattle.std.specs.Prelude.{⊤}
use Rattle.std.specs.Fmt.{decimal}
use Rattle.std.proofs.lemmas.List.{append_assoc, append-nil}
use Rattle.histar_level.specs.Levels.{Levels}
use Rattle.histar_object.specs.declared.objects.Entry.{Entry}
use Rattle.histar_object.specs.declared.objects.Entry.TheVariants.{Login, Mark}
use Rattle.histar_rules.specs.Rules.{greatest}
use Rattle.histar_rules.specs.declared.raw.RawCall.{RawCall}
use Rattle.histar_rules.specs.declared.raw.RawCall.TheVariants as calls
use Rattle.histar_rawtext.specs.RawText.{bytes_text, call_name, call_words, gate_entry_text, label_text}
use Rattle.histar_rawtext.specs.RawTextLaws.{IsNumber}
use Rattle.histar_rawtext.specs.Readable.{AreBytes, IsReadable, IsReadableEntry, IsReadableLabel}
use Rattle.histar_rawtext.proofs.CallTexts.{name_is_word, words_of}
use Rattle.histar_rawtext.proofs.LabelTexts.{lacks-label}
use Rattle.histar_rawtext.proofs.Parting.{spaced}
use Rattle.histar_rawtext.proofs.Splits.{joined, split_spaced}
use Rattle.histar_rawtext.proofs.WordTexts.{lacks-bytes, lacks-entry}
use Rattle.histar_rawtext.proofs.WordsRead.{writable_entry, writable_label}
use Rattle.histar_lint.specs.Lines.{Rule}
use Rattle.histar_lint.proofs.ArgumentsRight.{number_word}
use Rattle.histar_lint.proofs.SpacesRight.{IsWord}
use Rattle.histar_raw_lint.specs.declared.kinds.Kind.{Kind}
use Rattle.histar_raw_lint.specs.declared.kinds.Kind.TheVariants.{Container, Object, Segment, Gate, Keep, Label, Clearance, Verify, Bytes}
use Rattle.histar_raw_lint.specs.declared.kinds.Kind.TheVariants.{Entry as AnEntry}
use Rattle.histar_raw_lint.specs.Rules.{argument_rules, call_rules, fits, kinds_among, raw_calls, unknown_text, usage_text, value_rules}
use Rattle.histar_lint.proofs.Rules.{AreKept, keep, keep_both}
use Rattle.histar_raw_lint.proofs.ValuesRight.{bytes_kept, entry_kept, label_kept, number_kept}

-- ---- words

label_is_word : (L : Levels) → IsReadableLabel L → IsWord (label_text L)
label_is_word L p = record { first = 123; rest = drop 1 (label_text L); parts = refl; plain = lacks-label L (writable_label L p); no_sign = refl }

bytes_are_word : (bs : List ℕ) → IsWord (bytes_text bs)
bytes_are_word bs = record { first = 120; rest = drop 1 (bytes_text bs); parts = refl; plain = lacks-bytes bs; no_sign = refl }

entry_is_word : (e : Entry) → IsReadableEntry e → IsWord (gate_entry_text e)
entry_is_word (Login n) p =
    record {
      first = 108;
      rest = drop 1 (gate_entry_text (Login n));
      parts = refl;
      plain =
          lacks-entry (Login n) (writable_entry (Login n) p);
      no_sign = refl;
    }
entry_is_word (Mark n) p =
    record {
      first = 109;
      rest = drop 1 (gate_entry_text (Mark n));
      parts = refl;
      plain =
          lacks-entry (Mark n) (writable_entry (Mark n) p);
      no_sign = refl;
    }

name_begins : (c : RawCall) → (b : ℕ) × (rest : List ℕ) × (call_name c ≡ b ∷ rest) × (eqb b 35 ≡ false)
name_begins calls.MakeCategory = (109, drop 1 (codes "make_category"), refl, refl)
name_begins calls.OwnLabel = (115, drop 1 (codes "self"), refl, refl)
name_begins (calls.SetLabel a) = (115, drop 1 (codes "set_label"), refl, refl)
name_begins (calls.SetClearance a) = (115, drop 1 (codes "set_clearance"), refl, refl)
name_begins (calls.MakeSegment a b c) = (109, drop 1 (codes "make_segment"), refl, refl)
name_begins (calls.MakeContainer a b) = (109, drop 1 (codes "make_container"), refl, refl)
name_begins (calls.MakeThread a b c) = (109, drop 1 (codes "make_thread"), refl, refl)
name_begins (calls.MakeGate a b c d) = (109, drop 1 (codes "make_gate"), refl, refl)
name_begins (calls.Enter a b c d e) = (101, drop 1 (codes "enter"), refl, refl)
name_begins (calls.Read a b) = (114, drop 1 (codes "read"), refl, refl)
name_begins (calls.Write a b c d) = (119, drop 1 (codes "write"), refl, refl)
name_begins (calls.Unlink a b) = (117, drop 1 (codes "unlink"), refl, refl)
name_begins (calls.LabelOf a b) = (108, drop 1 (codes "label"), refl, refl)

pub name_word : (c : RawCall) → IsWord (call_name c)
name_word c = let begins = name_begins c in record { first = begins.0; rest = begins.1; parts = begins.2; plain = name_is_word c; no_sign = begins.3 }

-- ---- the words of a call

-- a word that keeps the rules of its kind
pub record IsRight (kind : Kind) (word : List ℕ) : Type 0 where
  pub is_word : IsWord word
  pub kept : AreKept (value_rules kind word)

-- words that keep the rules of their kinds
abbrev pub AreRight : List Kind → List (List ℕ) → Type 0
AreRight [] [] = ⊤
AreRight [] (w ∷ ws) = ⊥
AreRight (k ∷ ks) [] = ⊥
AreRight (k ∷ ks) (w ∷ ws) = IsRight k w × AreRight ks ws

fits_right : (kinds : List Kind) (words : List (List ℕ)) → AreRight kinds words → fits kinds (joined words) ≡ true
unfolding fits
fits_right [] [] right = refl
fits_right [] (w ∷ ws) right = absurd right
fits_right (k ∷ ks) [] right = absurd right
fits_right (k ∷ ks) (w ∷ ws) right =
    ap (λ (p : List ℕ × Option (List ℕ)). fits ks p.1) (split_spaced w ws right.0.is_word.plain) ∙ fits_right ks ws right.1

arguments_right : (kinds : List Kind) (words : List (List ℕ)) → AreRight kinds words → AreKept (argument_rules kinds (joined words))
arguments_right [] [] right = refl
arguments_right [] (w ∷ ws) right = absurd right
arguments_right (k ∷ ks) [] right = absurd right
arguments_right (k ∷ ks) (w ∷ ws) right =
    subst (λ (p : List ℕ × Option (List ℕ)). AreKept (value_rules k p.0 ++ argument_rules ks p.1)) (sym (split_spaced w ws right.0.is_word.plain))
    (keep_both (value_rules k w) (argument_rules ks (joined ws)) right.0.kept (arguments_right ks ws right.1))

-- the kinds of the arguments of a call
abbrev pub kinds_of : RawCall → List Kind
kinds_of calls.MakeCategory = []
kinds_of calls.OwnLabel = []
kinds_of (calls.SetLabel a) = Label ∷ []
kinds_of (calls.SetClearance a) = Clearance ∷ []
kinds_of (calls.MakeSegment a b c) = Container ∷ Label ∷ Bytes ∷ []
kinds_of (calls.MakeContainer a b) = Container ∷ Label ∷ []
kinds_of (calls.MakeThread a b c) = Container ∷ Label ∷ Clearance ∷ []
kinds_of (calls.MakeGate a b c d) = Container ∷ Label ∷ Clearance ∷ AnEntry ∷ []
kinds_of (calls.Enter a b c d e) = Container ∷ Gate ∷ Label ∷ Clearance ∷ Verify ∷ []
kinds_of (calls.Read a b) = Container ∷ Segment ∷ []
kinds_of (calls.Write a b c d) = Container ∷ Segment ∷ Keep ∷ Bytes ∷ []
kinds_of (calls.Unlink a b) = Container ∷ Object ∷ []
kinds_of (calls.LabelOf a b) = Container ∷ Object ∷ []

is_named : (c : RawCall) → kinds_among raw_calls (call_name c) ≡ Some (kinds_of c)
is_named calls.MakeCategory = refl
is_named calls.OwnLabel = refl
is_named (calls.SetLabel a) = refl
is_named (calls.SetClearance a) = refl
is_named (calls.MakeSegment a b c) = refl
is_named (calls.MakeContainer a b) = refl
is_named (calls.MakeThread a b c) = refl
is_named (calls.MakeGate a b c d) = refl
is_named (calls.Enter a b c d e) = refl
is_named (calls.Read a b) = refl
is_named (calls.Write a b c d) = refl
is_named (calls.Unlink a b) = refl
is_named (calls.LabelOf a b) = refl

container : (n : ℕ) → IsNumber n → IsRight Container (decimal n)
container n p = record { is_word = number_word n p; kept = number_kept (codes "a container") greatest n p (omega (arith, p)) }

object : (n : ℕ) → IsNumber n → IsRight Object (decimal n)
object n p = record { is_word = number_word n p; kept = number_kept (codes "an object") greatest n p (omega (arith, p)) }

segment : (n : ℕ) → IsNumber n → IsRight Segment (decimal n)
segment n p = record { is_word = number_word n p; kept = number_kept (codes "a segment") greatest n p (omega (arith, p)) }

gate : (n : ℕ) → IsNumber n → IsRight Gate (decimal n)
gate n p = record { is_word = number_word n p; kept = number_kept (codes "a gate") greatest n p (omega (arith, p)) }

keep_word : (n : ℕ) → n < 2 ^ 32 → IsRight Keep (decimal n)
keep_word n p = record {
  is_word = number_word n (omega (arith, p));
  kept =
      number_kept (codes "KEEP") 4294967295 n (omega (arith, p)) (omega (arith, p));
}

label : (L : Levels) → IsReadableLabel L → IsRight Label (label_text L)
label L p = record { is_word = label_is_word L p; kept = label_kept L p }

clearance : (L : Levels) → IsReadableLabel L → IsRight Clearance (label_text L)
clearance L p = record { is_word = label_is_word L p; kept = label_kept L p }

verify : (L : Levels) → IsReadableLabel L → IsRight Verify (label_text L)
verify L p = record { is_word = label_is_word L p; kept = label_kept L p }

bytes : (bs : List ℕ) → AreBytes bs → IsRight Bytes (bytes_text bs)
bytes bs p = record { is_word = bytes_are_word bs; kept = bytes_kept bs p }

entry : (e : Entry) → IsReadableEntry e → IsRight AnEntry (gate_entry_text e)
entry e p = record { is_word = entry_is_word e p; kept = entry_kept e p }

-- the words of a call keep the rules of their kinds
pub words_right : (c : RawCall) → IsReadable c → AreRight (kinds_of c) (words_of c)
words_right calls.MakeCategory p = tt
words_right calls.OwnLabel p = tt
words_right (calls.SetLabel a) p = (label a p, tt)
words_right (calls.SetClearance a) p = (clearance a p, tt)
words_right (calls.MakeSegment a b c) p = (container a p.0, (label b p.1, (bytes c p.2, tt)))
words_right (calls.MakeContainer a b) p = (container a p.0, (label b p.1, tt))
words_right (calls.MakeThread a b c) p = (container a p.0, (label b p.1, (clearance c p.2, tt)))
words_right (calls.MakeGate a b c d) p = (container a p.0, (label b p.1, (clearance c p.2, (entry d p.3, tt))))
words_right (calls.Enter a b c d e) p = (container a p.0, (gate b p.1, (label c p.2, (clearance d p.3, (verify e p.4, tt)))))
words_right (calls.Read a b) p = (container a p.0, (segment b p.1, tt))
words_right (calls.Write a b c d) p = (container a p.0, (segment b p.1, (keep_word c p.2, (bytes d p.3, tt))))
words_right (calls.Unlink a b) p = (container a p.0, (object b p.1, tt))
words_right (calls.LabelOf a b) p = (container a p.0, (object b p.1, tt))

-- words one after another, each after a space
one_spaced : (a : List ℕ) → 32 ∷ a ≡ spaced (a ∷ [])
one_spaced a = simp append-nil

two_spaced : (a b : List ℕ) → (32 ∷ a) ++ (32 ∷ b) ≡ spaced (a ∷ b ∷ [])
two_spaced a b = simp append-nil

three_spaced : (a b c : List ℕ) → (32 ∷ a) ++ (32 ∷ b) ++ (32 ∷ c) ≡ spaced (a ∷ b ∷ c ∷ [])
three_spaced a b c = simp (append_assoc, append-nil)

four_spaced : (a b c d : List ℕ) → (32 ∷ a) ++ (32 ∷ b) ++ (32 ∷ c) ++ (32 ∷ d) ≡ spaced (a ∷ b ∷ c ∷ d ∷ [])
four_spaced a b c d = simp (append_assoc, append-nil)

five_spaced : (a b c d e : List ℕ) → (32 ∷ a) ++ (32 ∷ b) ++ (32 ∷ c) ++ (32 ∷ d) ++ (32 ∷ e) ≡ spaced (a ∷ b ∷ c ∷ d ∷ e ∷ [])
five_spaced a b c d e = simp (append_assoc, append-nil)

pub words_spelled : (c : RawCall) → call_words c ≡ spaced (words_of c)
words_spelled calls.MakeCategory = refl
words_spelled calls.OwnLabel = refl
words_spelled (calls.SetLabel a) = one_spaced (label_text a)
words_spelled (calls.SetClearance a) = one_spaced (label_text a)
words_spelled (calls.MakeSegment a b c) = three_spaced (decimal a) (label_text b) (bytes_text c)
words_spelled (calls.MakeContainer a b) = two_spaced (decimal a) (label_text b)
words_spelled (calls.MakeThread a b c) = three_spaced (decimal a) (label_text b) (label_text c)
words_spelled (calls.MakeGate a b c d) = four_spaced (decimal a) (label_text b) (label_text c) (gate_entry_text d)
words_spelled (calls.Enter a b c d e) = five_spaced (decimal a) (decimal b) (label_text c) (label_text d) (label_text e)
words_spelled (calls.Read a b) = two_spaced (decimal a) (decimal b)
words_spelled (calls.Write a b c d) = four_spaced (decimal a) (decimal b) (decimal c) (bytes_text d)
words_spelled (calls.Unlink a b) = two_spaced (decimal a) (decimal b)
words_spelled (calls.LabelOf a b) = two_spaced (decimal a) (decimal b)

-- the rules for a call, by its name, its kinds and the words after it
abbrev call_at : List ℕ × Option (List ℕ) → Option (List Kind) → List Rule
call_at parts None = (true, unknown_text parts.0) ∷ []
call_at parts (Some kinds) = (not (fits kinds parts.1), usage_text parts.0 kinds) ∷ argument_rules kinds parts.1

-- the text of a call keeps the rules for calls
pub call_kept : (c : RawCall) → IsReadable c → AreKept (call_rules (call_name c ++ spaced (words_of c)))
call_kept c p =
    let right = words_right c p in
    let parts : List ℕ × Option (List ℕ) = (call_name c, joined (words_of c)) in
    let known = subst (λ (o : Option (List Kind)). AreKept (call_at parts o)) (sym (is_named c))
    (keep (not (fits (kinds_of c) (joined (words_of c)))) _ _ (ap not (fits_right (kinds_of c) (words_of c) right))
    (arguments_right (kinds_of c) (words_of c) right)) in
    subst (λ (q : List ℕ × Option (List ℕ)). AreKept (call_at q (kinds_among raw_calls q.0)))
    (sym (split_spaced (call_name c) (words_of c) (name_is_word c))) known
