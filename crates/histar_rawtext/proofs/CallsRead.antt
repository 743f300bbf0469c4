-- Raw calls that can be read are read from their texts.
use Rattle.std.proofs.Common.{◌≡◌, ℕ, [], ◌∷◌, Some, refl, ap, ◌∙◌, arith}
use Rattle.std.specs.Fmt.{decimal}
use Rattle.histar_rules.specs.declared.raw.RawCall.{RawCall}
use Rattle.histar_rules.specs.declared.raw.RawCall.TheVariants.{MakeCategory, OwnLabel, SetLabel, SetClearance, MakeSegment, MakeContainer}
use Rattle.histar_rules.specs.declared.raw.RawCall.TheVariants.{MakeThread, MakeGate, Enter, Read, Write, Unlink, LabelOf}
use Rattle.histar_rawtext.specs.RawText.{label_text, bytes_text, gate_entry_text, call_name, thread_call_text}
use Rattle.histar_rawtext.specs.RawTextLaws.{IsNumber, IsWritable}
use Rattle.histar_rawtext.specs.Readable.{IsReadable}
use Rattle.histar_rawtext.specs.Reading.{make_segment_in, make_container_in, make_thread_in, make_gate_in, enter_in, write_in, pair_in, own_label_in}
use Rattle.histar_rawtext.specs.Reading.{call_named, thread_call_in}
use Rattle.histar_rawtext.proofs.Parting.{AreWords}
use Rattle.histar_rawtext.proofs.WordTexts.{lacks-decimal, space_is_no_digit}
use Rattle.histar_rawtext.proofs.CallTexts.{words_of, call_spelled, are_words, name_is_word}
use Rattle.histar_rawtext.proofs.Numbers.{number_again}
use Rattle.histar_rawtext.proofs.Splits.{joined, split_spaced}
use Rattle.histar_rawtext.proofs.WordsRead.{label_again, bytes_again, entry_again, short_number_again, writable_label, writable_entry}

-- a call that can be read can be written
writable : (a : RawCall) → IsReadable a → IsWritable a
writable MakeCategory p = tt
writable OwnLabel p = tt
writable (SetLabel label) p = writable_label label p
writable (SetClearance clearance) p = writable_label clearance p
writable (MakeSegment container label bytes) p = (p.0, writable_label label p.1)
writable (MakeContainer container label) p = (p.0, writable_label label p.1)
writable (MakeThread container label clearance) p = (p.0, writable_label label p.1, writable_label clearance p.2)
writable (MakeGate container label clearance entry) p = (p.0, writable_label label p.1, writable_label clearance p.2, writable_entry entry p.3)
writable (Enter container gate wanted clearance verify) p =
    (p.0, p.1, writable_label wanted p.2, writable_label clearance p.3, writable_label verify p.4)
writable (Read container segment) p = p
writable (Write container segment keep bytes) p = (p.0, p.1, omega (arith, p.2))
writable (Unlink container object) p = p
writable (LabelOf container object) p = p

-- a call is read from its name and its words
call_again : (a : RawCall) → IsReadable a → AreWords (words_of a) → call_named (call_name a) (joined (words_of a)) ≡ Some a
unfolding make_segment_in make_container_in make_thread_in make_gate_in enter_in write_in pair_in own_label_in
call_again MakeCategory p w = refl
call_again OwnLabel p w = refl
call_again (SetLabel label) p w = rw (split_spaced (label_text label) [] w.0, label_again label p) refl
call_again (SetClearance clearance) p w = rw (split_spaced (label_text clearance) [] w.0, label_again clearance p) refl
call_again (MakeSegment container label bytes) p w =
    rw (
      split_spaced (decimal container) (label_text label ∷ bytes_text bytes ∷ []) w.0,
      split_spaced (label_text label) (bytes_text bytes ∷ []) w.1.0,
      split_spaced (bytes_text bytes) [] w.1.1.0,
      number_again container p.0,
      label_again label p.1,
      bytes_again bytes p.2,
    ) refl
call_again (MakeContainer container label) p w =
    rw (
      split_spaced (decimal container) (label_text label ∷ []) w.0,
      split_spaced (label_text label) [] w.1.0,
      number_again container p.0,
      label_again label p.1,
    ) refl
call_again (MakeThread container label clearance) p w =
    rw (
      split_spaced (decimal container) (label_text label ∷ label_text clearance ∷ []) w.0,
      split_spaced (label_text label) (label_text clearance ∷ []) w.1.0,
      split_spaced (label_text clearance) [] w.1.1.0,
      number_again container p.0,
      label_again label p.1,
      label_again clearance p.2,
    ) refl
call_again (MakeGate container label clearance entry) p w =
    rw (
      split_spaced (decimal container) (label_text label ∷ label_text clearance ∷ gate_entry_text entry ∷ []) w.0,
      split_spaced (label_text label) (label_text clearance ∷ gate_entry_text entry ∷ []) w.1.0,
      split_spaced (label_text clearance) (gate_entry_text entry ∷ []) w.1.1.0,
      split_spaced (gate_entry_text entry) [] w.1.1.1.0,
      number_again container p.0,
      label_again label p.1,
      label_again clearance p.2,
      entry_again entry p.3,
    ) refl
call_again (Enter container gate wanted clearance verify) p w =
    rw (
      split_spaced (decimal container) (decimal gate ∷ label_text wanted ∷ label_text clearance ∷ label_text verify ∷ []) w.0,
      split_spaced (decimal gate) (label_text wanted ∷ label_text clearance ∷ label_text verify ∷ []) w.1.0,
      split_spaced (label_text wanted) (label_text clearance ∷ label_text verify ∷ []) w.1.1.0,
      split_spaced (label_text clearance) (label_text verify ∷ []) w.1.1.1.0,
      split_spaced (label_text verify) [] w.1.1.1.1.0,
      number_again container p.0,
      number_again gate p.1,
      label_again wanted p.2,
      label_again clearance p.3,
      label_again verify p.4,
    ) refl
call_again (Read container segment) p w =
    rw (
      split_spaced (decimal container) (decimal segment ∷ []) w.0,
      split_spaced (decimal segment) [] w.1.0,
      number_again container p.0,
      number_again segment p.1,
    ) refl
call_again (Write container segment keep bytes) p w =
    rw (
      split_spaced (decimal container) (decimal segment ∷ decimal keep ∷ bytes_text bytes ∷ []) w.0,
      split_spaced (decimal segment) (decimal keep ∷ bytes_text bytes ∷ []) w.1.0,
      split_spaced (decimal keep) (bytes_text bytes ∷ []) w.1.1.0,
      split_spaced (bytes_text bytes) [] w.1.1.1.0,
      number_again container p.0,
      number_again segment p.1,
      short_number_again keep p.2,
      bytes_again bytes p.3,
    ) refl
call_again (Unlink container object) p w =
    rw (
      split_spaced (decimal container) (decimal object ∷ []) w.0,
      split_spaced (decimal object) [] w.1.0,
      number_again container p.0,
      number_again object p.1,
    ) refl
call_again (LabelOf container object) p w =
    rw (
      split_spaced (decimal container) (decimal object ∷ []) w.0,
      split_spaced (decimal object) [] w.1.0,
      number_again container p.0,
      number_again object p.1,
    ) refl

-- a thread's call is read from its text
pub thread_call_again : (t : ℕ) (a : RawCall) → IsNumber t → IsReadable a → thread_call_in (thread_call_text t a) ≡ Some (t, a)
unfolding thread_call_in
thread_call_again t a small p =
    let words = are_words a (writable a p) in
    ap thread_call_in (call_spelled t a)
    ∙ rw (
      split_spaced (decimal t) (call_name a ∷ words_of a) (lacks-decimal 32 t space_is_no_digit small),
      split_spaced (call_name a) (words_of a) (name_is_word a),
      number_again t small,
      call_again a p words,
    ) refl
