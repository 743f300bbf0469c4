-- Writing a text piece by piece.
use Rattle.std.proofs.Common.{◌≡◌, ℕ, ◌-◌, List, [], ◌++◌, length, take, drop, Option, refl, sym, ap, subst, ◌∙◌, append_assoc, append-nil}
use Rattle.std.proofs.Common.{take-append-drop}
use Rattle.std.proofs.lemmas.List.{take_rest, nil_from_length}
use Rattle.std.specs.Io.KnownBytes.{Appends, Keeps}
use Rattle.std.proofs.KnownBytes.{Appends-nil, Appends-trans, Appends-kept}
use Rattle.histar_io.specs.Writing.{AppendsUpTo, AppendsFront}

-- before the first write the whole text is left
pub sent_none : (a : Option (List ℕ)) (text : List ℕ) → AppendsUpTo a a text text
sent_none a text = record { front = []; parts = refl; appended = Appends-nil a }

-- a write takes n more bytes from the front of what is left
pub sent_more : (a b c : Option (List ℕ)) (text rest : List ℕ) (n : ℕ) → AppendsUpTo a b text rest
    → Appends b c (take n rest) → AppendsUpTo a c text (take (length rest - n) (drop n rest))
sent_more a b c text rest n sent more = record {
  front = sent.front ++ take n rest;
  parts =
      sent.parts ∙ ap (λ (l : List ℕ). sent.front ++ l) (sym (take-append-drop n rest))
      ∙ sym (append_assoc sent.front (take n rest) (drop n rest))
      ∙ ap (λ (l : List ℕ). (sent.front ++ take n rest) ++ l) (sym (take_rest rest n));
  appended = Appends-trans a b c sent.front (take n rest) sent.appended more;
}

-- a failed write takes nothing
pub sent_kept : (a b c : Option (List ℕ)) (text rest : List ℕ) → AppendsUpTo a b text rest → Keeps b c → AppendsUpTo a c text rest
sent_kept a b c text rest sent keeps = record { front = sent.front; parts = sent.parts; appended = Appends-kept a b c sent.front sent.appended keeps }

-- if nothing is left, the whole text was written
pub sent_all : (a b : Option (List ℕ)) (text rest : List ℕ) → AppendsUpTo a b text rest → length rest ≡ 0 → Appends a b text
sent_all a b text rest sent none =
    subst (Appends a b) (sym (sent.parts ∙ ap (λ (l : List ℕ). sent.front ++ l) (nil_from_length rest none) ∙ append-nil sent.front)) sent.appended

-- a text that is written is a beginning of itself that is written
pub whole_front : (a b : Option (List ℕ)) (text : List ℕ) → Appends a b text → AppendsFront a b text
whole_front a b text whole = ([], record { front = text; parts = sym (append-nil text); appended = whole })
