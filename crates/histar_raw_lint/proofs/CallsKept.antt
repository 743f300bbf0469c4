-- Words that keep the rules for a call are the text of one.
use Rattle.std.proofs.Common.{◌≡◌, ℕ, ◌≤◌, Bool, true, false, cond, not, List, [], ◌∷◌, ◌++◌, codes, Option, Some, None, refl, sym, ap}
use Rattle.std.proofs.Common.{subst, ◌∙◌, arith}
use Rattle.std.specs.Str.{bytes_eq}
use Rattle.std.proofs.lemmas.List.{append_assoc, append-nil}
use Rattle.std.proofs.lemmas.Slice.Eq.{bytes_eq-Decides}
use Rattle.histar_rules.specs.Rules.{greatest}
use Rattle.histar_rules.specs.declared.raw.RawCall.{RawCall}
use Rattle.histar_rules.specs.declared.raw.RawCall.TheVariants as calls
use Rattle.histar_rawtext.specs.RawText.{bytes_word, call_text, entry_word, label_word, number_word}
use Rattle.histar_rawtext.specs.RawTextLaws.{IsNumber}
use Rattle.histar_rawtext.specs.Readable.{IsReadable}
use Rattle.histar_lint.specs.Lines.{after_word, word_of}
use Rattle.histar_raw_lint.specs.declared.kinds.Kind.{Kind}
use Rattle.histar_raw_lint.specs.declared.kinds.Kind.TheVariants.{Container, Object, Segment, Gate, Keep, Label, Clearance, Verify, Bytes, Entry}
use Rattle.histar_raw_lint.specs.Rules.{argument_rules, call_rules, fits, kinds_among, kinds_rules, raw_calls, value_rules}
use Rattle.histar_lint.proofs.Rules.{AreKept, both_kept, first_kept}
use Rattle.histar_raw_lint.proofs.Parts.{split_back, whole_back}
use Rattle.histar_raw_lint.proofs.LabelsKept.{not_so}
use Rattle.histar_raw_lint.proofs.ValuesKept.{IsValue, value_by_rules}

-- the text after a name: nothing, or a space and words
abbrev pub tail_of : Option (List ℕ) → List ℕ
tail_of None = []
tail_of (Some words) = 32 ∷ words

-- a text is a value of this kind, after a space, and then more
pub record SpellsOne (kind : Kind) (More : List ℕ → Type 0) (tail : List ℕ) : Type 0 where
  pub word : List ℕ
  pub rest : List ℕ
  pub parts : tail ≡ (32 ∷ word) ++ rest
  pub value : IsValue kind word
  pub next : More rest

-- a text is values of these kinds, each after a space
abbrev Spells : List Kind → List ℕ → Type 0
Spells [] tail = tail ≡ []
Spells (kind ∷ kinds) tail = SpellsOne kind (Spells kinds) tail

-- a text consists of its first word and the rest
pub by_first_word : (text : List ℕ) → text ≡ word_of text ++ tail_of (after_word text)
by_first_word text = by (after_word text) refl
  where
    by : (o : Option (List ℕ)) → after_word text ≡ o → text ≡ word_of text ++ tail_of o
    by None is = whole_back 32 text is ∙ sym (append-nil (word_of text))
    by (Some rest) is = split_back 32 text rest is

-- words that fit the kinds and keep their rules are values of them
spelled : (kinds : List Kind) (words : Option (List ℕ)) → fits kinds words ≡ true → AreKept (argument_rules kinds words)
    → Spells kinds (tail_of words)
unfolding fits
spelled [] None fit kept = refl
spelled [] (Some words) fit kept = absurd cc
spelled (kind ∷ kinds) None fit kept = absurd cc
spelled (kind ∷ kinds) (Some words) fit kept =
    let both = both_kept (value_rules kind (word_of words)) (argument_rules kinds (after_word words)) kept in
    record {
      word = word_of words;
      rest = tail_of (after_word words);
      parts = ap (λ (text : List ℕ). 32 ∷ text) (by_first_word words);
      value = value_by_rules kind (word_of words) both.0;
      next = spelled kinds (after_word words) fit both.1;
    }

-- a name and the text after it are the text of a call that can be read
abbrev IsCallText : List ℕ → List ℕ → Type 0
IsCallText name tail = (call : RawCall) × (name ++ tail ≡ call_text call) × IsReadable call

-- with values of these kinds a name makes a call
abbrev MakesCall : List ℕ → List Kind → Type 0
MakesCall name kinds = (tail : List ℕ) → Spells kinds tail → IsCallText name tail

-- a number up to the greatest one has 64 bits
small : (n : ℕ) → n ≤ greatest → IsNumber n
small n le = omega arith

-- the texts are equal if a word after a space is this one and the rest is that one
step : {tail word own rest more : List ℕ} → tail ≡ (32 ∷ word) ++ rest → word ≡ own → rest ≡ more → tail ≡ (32 ∷ own) ++ more
step parts same rest = parts ∙ (λ i. (32 ∷ same i) ++ rest i)

-- so they are where it is the last word
last : {tail word own rest : List ℕ} → tail ≡ (32 ∷ word) ++ rest → word ≡ own → rest ≡ [] → tail ≡ 32 ∷ own
last {own = own} parts same end = step parts same end ∙ append-nil (32 ∷ own)

-- so they are with a name before them
named : {tail words : List ℕ} (name : List ℕ) → tail ≡ words → name ++ tail ≡ name ++ words
named name is = ap (λ (t : List ℕ). name ++ t) is

-- so they are with three words
three : {text : List ℕ} (a b c : List ℕ) → text ≡ a ++ (b ++ c) → text ≡ a ++ b ++ c
three a b c is = is ∙ sym (append_assoc a b c)

four : {text : List ℕ} (a b c d : List ℕ) → text ≡ a ++ (b ++ (c ++ d)) → text ≡ a ++ b ++ c ++ d
four a b c d is = three (a ++ b) c d (three a b (c ++ d) is)

five : {text : List ℕ} (a b c d e : List ℕ) → text ≡ a ++ (b ++ (c ++ (d ++ e))) → text ≡ a ++ b ++ c ++ d ++ e
five a b c d e is = three (a ++ b ++ c) d e (four a b c (d ++ e) is)

make_category : MakesCall (codes "make_category") []
make_category tail s = (calls.MakeCategory, named (codes "make_category") s, tt)

own_label : MakesCall (codes "self") []
own_label tail s = (calls.OwnLabel, named (codes "self") s, tt)

set_label : MakesCall (codes "set_label") (Label ∷ [])
set_label tail s = (calls.SetLabel s.value.0, named (codes "set_label") (last s.parts s.value.1 s.next), s.value.2)

set_clearance : MakesCall (codes "set_clearance") (Clearance ∷ [])
set_clearance tail s = (calls.SetClearance s.value.0, named (codes "set_clearance") (last s.parts s.value.1 s.next), s.value.2)

make_segment : MakesCall (codes "make_segment") (Container ∷ Label ∷ Bytes ∷ [])
make_segment tail s =
    let t = s.next in
    let u = t.next in (
      calls.MakeSegment s.value.0 t.value.0 u.value.0,
      named (codes "make_segment") (three (number_word s.value.0) (label_word t.value.0) (bytes_word u.value.0)
          (step s.parts s.value.1 (step t.parts t.value.1 (last u.parts u.value.1 u.next)))),
      (small s.value.0 s.value.2, t.value.2, u.value.2),
    )

make_container : MakesCall (codes "make_container") (Container ∷ Label ∷ [])
make_container tail s =
    let t = s.next in (
      calls.MakeContainer s.value.0 t.value.0,
      named (codes "make_container") (step s.parts s.value.1 (last t.parts t.value.1 t.next)),
      (small s.value.0 s.value.2, t.value.2),
    )

make_thread : MakesCall (codes "make_thread") (Container ∷ Label ∷ Clearance ∷ [])
make_thread tail s =
    let t = s.next in
    let u = t.next in (
      calls.MakeThread s.value.0 t.value.0 u.value.0,
      named (codes "make_thread") (three (number_word s.value.0) (label_word t.value.0) (label_word u.value.0)
          (step s.parts s.value.1 (step t.parts t.value.1 (last u.parts u.value.1 u.next)))),
      (small s.value.0 s.value.2, t.value.2, u.value.2),
    )

make_gate : MakesCall (codes "make_gate") (Container ∷ Label ∷ Clearance ∷ Entry ∷ [])
make_gate tail s =
    let t = s.next in
    let u = t.next in
    let v = u.next in (
      calls.MakeGate s.value.0 t.value.0 u.value.0 v.value.0,
      named (codes "make_gate") (four (number_word s.value.0) (label_word t.value.0) (label_word u.value.0) (entry_word v.value.0)
          (step s.parts s.value.1 (step t.parts t.value.1 (step u.parts u.value.1 (last v.parts v.value.1 v.next))))),
      (small s.value.0 s.value.2, t.value.2, u.value.2, v.value.2),
    )

enter : MakesCall (codes "enter") (Container ∷ Gate ∷ Label ∷ Clearance ∷ Verify ∷ [])
enter tail s =
    let t = s.next in
    let u = t.next in
    let v = u.next in
    let w = v.next in (
      calls.Enter s.value.0 t.value.0 u.value.0 v.value.0 w.value.0,
      named (codes "enter") (five (number_word s.value.0) (number_word t.value.0) (label_word u.value.0) (label_word v.value.0)
          (label_word w.value.0) (step s.parts s.value.1
          (step t.parts t.value.1 (step u.parts u.value.1 (step v.parts v.value.1 (last w.parts w.value.1 w.next)))))),
      (small s.value.0 s.value.2, small t.value.0 t.value.2, u.value.2, v.value.2, w.value.2),
    )

read : MakesCall (codes "read") (Container ∷ Segment ∷ [])
read tail s =
    let t = s.next in (
      calls.Read s.value.0 t.value.0,
      named (codes "read") (step s.parts s.value.1 (last t.parts t.value.1 t.next)),
      (small s.value.0 s.value.2, small t.value.0 t.value.2),
    )

write : MakesCall (codes "write") (Container ∷ Segment ∷ Keep ∷ Bytes ∷ [])
write tail s =
    let t = s.next in
    let u = t.next in
    let v = u.next in
    let kept = u.value.2 in (
      calls.Write s.value.0 t.value.0 u.value.0 v.value.0,
      named (codes "write") (four (number_word s.value.0) (number_word t.value.0) (number_word u.value.0) (bytes_word v.value.0)
          (step s.parts s.value.1 (step t.parts t.value.1 (step u.parts u.value.1 (last v.parts v.value.1 v.next))))),
      (small s.value.0 s.value.2, small t.value.0 t.value.2, omega (arith, kept), v.value.2),
    )

unlink : MakesCall (codes "unlink") (Container ∷ Object ∷ [])
unlink tail s =
    let t = s.next in (
      calls.Unlink s.value.0 t.value.0,
      named (codes "unlink") (step s.parts s.value.1 (last t.parts t.value.1 t.next)),
      (small s.value.0 s.value.2, small t.value.0 t.value.2),
    )

label_of : MakesCall (codes "label") (Container ∷ Object ∷ [])
label_of tail s =
    let t = s.next in (
      calls.LabelOf s.value.0 t.value.0,
      named (codes "label") (step s.parts s.value.1 (last t.parts t.value.1 t.next)),
      (small s.value.0 s.value.2, small t.value.0 t.value.2),
    )

-- the kinds of a name are those of the call that it names, or of a later one
chosen : (name other : List ℕ) (own kinds : List Kind) {rest : Option (List Kind)} → MakesCall other own → (rest ≡ Some kinds → MakesCall name kinds)
    → cond (bytes_eq name other) (Some own) rest ≡ Some kinds → MakesCall name kinds
chosen name other own kinds {rest} makes go_on e = by (bytes_eq name other) refl e
  where
    by : (same : Bool) → bytes_eq name other ≡ same → cond same (Some own) rest ≡ Some kinds → MakesCall name kinds
    by true is e =
        let names : other ≡ name = sym ((bytes_eq-Decides name other).0 is) in
        let lists : own ≡ kinds = cc in
        subst (MakesCall name) lists (subst (λ (n : List ℕ). MakesCall n own) names makes)
    by false is e = go_on e

-- a name that has kinds makes a call with values of them
makes_call : (name : List ℕ) (kinds : List Kind) → kinds_among raw_calls name ≡ Some kinds → MakesCall name kinds
makes_call name kinds e =
    chosen name (codes "make_category") [] kinds make_category
    (chosen name (codes "self") [] kinds own_label
    (chosen name (codes "set_label") (Label ∷ []) kinds set_label
    (chosen name (codes "set_clearance") (Clearance ∷ []) kinds set_clearance
    (chosen name (codes "make_segment") (Container ∷ Label ∷ Bytes ∷ []) kinds make_segment
    (chosen name (codes "make_container") (Container ∷ Label ∷ []) kinds make_container
    (chosen name (codes "make_thread") (Container ∷ Label ∷ Clearance ∷ []) kinds make_thread
    (chosen name (codes "make_gate") (Container ∷ Label ∷ Clearance ∷ Entry ∷ []) kinds make_gate
    (chosen name (codes "enter") (Container ∷ Gate ∷ Label ∷ Clearance ∷ Verify ∷ []) kinds enter
    (chosen name (codes "read") (Container ∷ Segment ∷ []) kinds read
    (chosen name (codes "write") (Container ∷ Segment ∷ Keep ∷ Bytes ∷ []) kinds write
    (chosen name (codes "unlink") (Container ∷ Object ∷ []) kinds unlink
    (chosen name (codes "label") (Container ∷ Object ∷ []) kinds label_of (λ none. absurd cc))))))))))))) e

-- a text that keeps the rules for a call is that of a call that can be read
pub call_by_rules : (text : List ℕ) → AreKept (call_rules text) → (call : RawCall) × (text ≡ call_text call) × IsReadable call
call_by_rules text kept = by (kinds_among raw_calls (word_of text)) refl kept
  where
    by : (o : Option (List Kind)) → kinds_among raw_calls (word_of text) ≡ o → AreKept (kinds_rules text o)
        → (call : RawCall) × (text ≡ call_text call) × IsReadable call
    by None is kept = absurd cc
    by (Some kinds) is kept =
        let first = first_kept (not (fits kinds (after_word text))) _ _ kept in
        let tail = tail_of (after_word text) in
        let values = spelled kinds (after_word text) (not_so (fits kinds (after_word text)) first.0) first.1 in
        let made = makes_call (word_of text) kinds is tail values in
        (made.0, by_first_word text ∙ made.1, made.2)
