-- A transcript with notes is one without them, and the notes.
use Rattle.std.proofs.Common.{◌≡◌, ℕ, zero, suc, ◌-◌, ◌<◌, ◌^◌, Bool, true, false, not, eqb, ◌||◌}
use Rattle.std.proofs.Common.{leb, List, [], ◌∷◌, ◌++◌, length, Option, None, Some, codes}
use Rattle.std.proofs.Common.{refl, sym, ap, ap₂, subst, ◌∙◌, arith, append_assoc, append-nil}
use Rattle.std.specs.Prelude.{decimal, slice_index_or, unwrap_or, if◌then◌else◌}
use Rattle.std.specs.List.{AllByRecursion, filter, flat_map}
use Rattle.std.proofs.lemmas.Bool.{and_parts, leb-true}
use Rattle.std.proofs.lemmas.Fmt.{decimal_nonempty}
use Rattle.std.proofs.lemmas.List.Folds.{list_all-append}
use Rattle.histar_flat.proofs.Numbers.{decimal_digits, is_digit, number_takes}
use Rattle.histar_script.specs.Lines.{lines_of, most_script_lines, onto_line, split_word}
use Rattle.histar_script.proofs.Beginnings.{line_back}
use Rattle.histar_script.proofs.FormsBack.{rest_makes, word_and}
use Rattle.histar_script.proofs.WordsBack.{bytes_lack}
use Rattle.histar_transcript.specs.Extended.{ended_lines}
use Rattle.histar_transcript.specs.Noted.{denials_after, denials_behind, is_about, is_denial, is_marked, is_note, is_reason}
use Rattle.histar_transcript.specs.Noted.{notes_behind, reason_behind, reasons_after, with_notes}
use Rattle.histar_transcript.specs.NotesLaws.{NotesAreAdded, without_notes}
use Rattle.histar_transcript.specs.Transcript.{call_and_reply, reply_number, with_call}
use Rattle.histar_transcript.proofs.BadCalls.{IsOneLine, lines_back}

-- ---- lines

-- each of these is one line
abbrev AreLines : List (List ℕ) → Type 0
AreLines lines = AllByRecursion IsOneLine lines

-- a byte that ends no line is before a line
onto_one : (b : ℕ) (line : List ℕ) → eqb b 10 ≡ false → IsOneLine line → IsOneLine (b ∷ line)
onto_one b line other one = rw (other, one) refl

-- the lines of a text are lines
lines_are : (text : List ℕ) → AreLines (lines_of text)
unfolding lines_of
lines_are [] = tt
lines_are (b ∷ bs) = by (eqb b 10) refl (lines_are bs)
  where
    onto : eqb b 10 ≡ false → (lines : List (List ℕ)) → AreLines lines → AreLines (onto_line b lines)
    onto other [] each = (onto_one b [] other refl, tt)
    onto other (line ∷ lines) each = (onto_one b line other each.0, each.1)

    by : (t : Bool) → eqb b 10 ≡ t → AreLines (lines_of bs)
        → AreLines (if t then [] ∷ lines_of bs else onto_line b (lines_of bs))
    by true is each = (refl, each)
    by false other each = onto other (lines_of bs) each

-- no bytes have no line
nothing : lines_of [] ≡ []
unfolding lines_of
nothing = refl

-- so are those that pass a test
some_are : (test : List ℕ → Bool) (lines : List (List ℕ)) → AreLines lines → AreLines (filter test lines)
some_are test [] each = tt
some_are test (line ∷ lines) each = by (test line) (some_are test lines each.1)
  where
    by : (t : Bool) → AreLines (filter test lines)
        → AreLines (let l : List (List ℕ) = if t then line ∷ filter test lines else filter test lines in l)
    by true rest = (each.0, rest)
    by false rest = rest

-- so is each of them, and the empty one
any_is : (lines : List (List ℕ)) (k : ℕ) → AreLines lines → IsOneLine (slice_index_or lines k [])
any_is [] k each = refl
any_is (line ∷ lines) zero each = each.0
any_is (line ∷ lines) (suc k) each = any_is lines k each.1

-- two parts of a line are lines, and are one if they are
parts_are : (a b : List ℕ) → IsOneLine (a ++ b) → IsOneLine a × IsOneLine b
parts_are a b one = and_parts _ _ (sym (list_all-append (λ c. not (eqb c 10)) a b) ∙ one)

joined_is : (a b : List ℕ) → IsOneLine a → IsOneLine b → IsOneLine (a ++ b)
joined_is a b one two = list_all-append (λ c. not (eqb c 10)) a b ∙ rw (one, two) refl

-- what is behind the first word of a line is a line
rest_is : (line : List ℕ) → IsOneLine line → IsOneLine (unwrap_or (split_word line).1 [])
rest_is line one = by (split_word line).1 (rest_makes line (split_word line).1 refl)
  where
    by : (o : Option (List ℕ)) → line ≡ word_and (split_word line).0 o → IsOneLine (unwrap_or o [])
    by None is = refl
    by (Some rest) is =
        (parts_are (32 ∷ []) rest (parts_are (split_word line).0 (32 ∷ rest) (subst IsOneLine is one)).1).1

-- ---- a line with its call

-- the number of a reply is a small one, and the line begins with it
record BeginsWith (line : List ℕ) (n : ℕ) : Type 0 where
  small : n < 2 ^ 64
  rest : List ℕ
  parts : line ≡ decimal n ++ rest

begins_so : (line : List ℕ) (n : ℕ) → reply_number line ≡ Some n → BeginsWith line n
begins_so line n is =
    let takes = number_takes (λ (m : ℕ). leb m most_script_lines) (split_word line).0 n is in
    let most = leb-true n most_script_lines takes.1 in
    by (split_word line).1 (rest_makes line (split_word line).1 refl) takes.0 (omega (arith, most))
  where
    by : (o : Option (List ℕ)) → line ≡ word_and (split_word line).0 o → (split_word line).0 ≡ decimal n → n < 2 ^ 64
        → BeginsWith line n
    by None makes word few = record { small = few; rest = []; parts = makes ∙ word ∙ sym (append-nil (decimal n)) }
    by (Some rest) makes word few = record { small = few; rest = 32 ∷ rest; parts = makes ∙ ap (λ (w : List ℕ). w ++ 32 ∷ rest) word }

-- texts that begin with the same word have the same mark
same_mark : (mark : ℕ) (word a b : List ℕ) → 0 < length word → is_marked mark (word ++ a) ≡ is_marked mark (word ++ b)
same_mark mark [] a b some = absurd (omega arith)
same_mark mark (c ∷ word) a b some = refl

same_note : (word a b : List ℕ) → 0 < length word → is_note (word ++ a) ≡ is_note (word ++ b)
same_note word a b some = ap₂ (λ (s t : Bool). s || t) (same_mark 33 word a b some) (same_mark 63 word a b some)

module _ (script : List (List ℕ)) (each : AreLines script) where
  -- a line with its call is a line, and no note if it was none
  record IsPlain (line shown : List ℕ) : Type 0 where
    one : IsOneLine shown
    same : is_note shown ≡ is_note line

  shown_so : (line : List ℕ) → IsOneLine line → IsPlain line (with_call script line)
  shown_so line one = by (reply_number line) refl
    where
      by : (o : Option ℕ) → reply_number line ≡ o → IsPlain line (elim o [
        | None ↦ line
        | Some n ↦ call_and_reply script n (unwrap_or (split_word line).1 [])
      ])
      by None is = record { one = one; same = refl }
      by (Some n) is = record {
        one = joined_is (((decimal n ++ spaces) ++ call n) ++ spaces) reply
            (joined_is ((decimal n ++ spaces) ++ call n) spaces
            (joined_is (decimal n ++ spaces) (call n) (joined_is (decimal n) spaces digits refl) (any_is script (n - 1) each)) refl)
            (rest_is line one);
        same =
            ap is_note (append_assoc ((decimal n ++ spaces) ++ call n) spaces reply ∙ append_assoc (decimal n ++ spaces) (call n) (spaces ++ reply)
            ∙ append_assoc (decimal n) spaces (call n ++ (spaces ++ reply)))
            ∙ same_note (decimal n) (spaces ++ (call n ++ (spaces ++ reply))) begins.rest (decimal_nonempty n begins.small)
            ∙ ap is_note (sym begins.parts);
      }
        where
          spaces : List ℕ
          spaces = codes "  "

          reply : List ℕ
          reply = unwrap_or (split_word line).1 []

          call : ℕ → List ℕ
          call k = slice_index_or script (k - 1) []

          begins : BeginsWith line n
          begins = begins_so line n is

          digits : IsOneLine (decimal n)
          digits = bytes_lack is_digit 10 (decimal n) refl (decimal_digits n begins.small)

-- ---- notes

-- each of these is a line, and a note
abbrev AreNotes : List (List ℕ) → Type 0
AreNotes notes = AllByRecursion (λ (note : List ℕ). IsOneLine note × (is_note note ≡ true)) notes

-- a line that is a note is left out, and another one stays
note_out : (note rest : List ℕ) → IsOneLine note → is_note note ≡ true → without_notes (note ++ 10 ∷ rest) ≡ without_notes rest
note_out note rest one is =
    ap (λ (ls : List (List ℕ)). ended_lines (filter (λ line. not (is_note line)) ls)) (line_back note rest one) ∙ rw is refl

plain_stays : (line rest : List ℕ) → IsOneLine line → is_note line ≡ false
    → without_notes (line ++ 10 ∷ rest) ≡ (line ++ 10 ∷ []) ++ without_notes rest
plain_stays line rest one plain =
    ap (λ (ls : List (List ℕ)). ended_lines (filter (λ line. not (is_note line)) ls)) (line_back line rest one) ∙ rw plain refl

-- notes are left out
reason_out : (line rest : List ℕ) (reasons : List (List ℕ)) → AreNotes reasons
    → without_notes (reason_behind line reasons ++ rest) ≡ without_notes rest
reason_out line rest [] each = refl
reason_out line rest (reason ∷ reasons) each = by (is_about reason line)
  where
    by : (t : Bool) → without_notes ((let l : List ℕ = if t then reason ++ codes "\n" else [] in l) ++ rest) ≡ without_notes rest
    by true = ap without_notes (append_assoc reason (codes "\n") rest) ∙ note_out reason rest each.0.0 each.0.1
    by false = refl

denials_out : (line rest : List ℕ) (denials : List (List ℕ)) → AreNotes denials
    → without_notes (denials_behind line denials ++ rest) ≡ without_notes rest
denials_out line rest [] each = refl
denials_out line rest (denial ∷ denials) each = by (is_about denial line) (denials_out line rest denials each.1)
  where
    by : (t : Bool) → without_notes (denials_behind line denials ++ rest) ≡ without_notes rest
        → without_notes ((let l : List ℕ = if t then (denial ++ codes "\n") ++ denials_behind line denials else [] in l) ++ rest)
        ≡ without_notes rest
    by true later =
        ap without_notes (append_assoc (denial ++ codes "\n") (denials_behind line denials) rest
        ∙ append_assoc denial (codes "\n") (denials_behind line denials ++ rest))
        ∙ note_out denial (denials_behind line denials ++ rest) each.0.0 each.0.1 ∙ later
    by false later = refl

-- what is left of notes are notes
reasons_left : (line : List ℕ) (reasons : List (List ℕ)) → AreNotes reasons → AreNotes (reasons_after line reasons)
reasons_left line [] each = tt
reasons_left line (reason ∷ reasons) each = by (is_about reason line)
  where
    by : (t : Bool) → AreNotes (let l : List (List ℕ) = if t then reasons else reason ∷ reasons in l)
    by true = each.1
    by false = each

denials_left : (line : List ℕ) (denials : List (List ℕ)) → AreNotes denials → AreNotes (denials_after line denials)
denials_left line [] each = tt
denials_left line (denial ∷ denials) each = by (is_about denial line) (denials_left line denials each.1)
  where
    by : (t : Bool) → AreNotes (denials_after line denials)
        → AreNotes (let l : List (List ℕ) = if t then denials_after line denials else denial ∷ denials in l)
    by true later = later
    by false later = each

-- the reasons of an output are notes, and so are its denials
reasons_are : (lines : List (List ℕ)) → AreLines lines → AreNotes (filter is_reason lines)
reasons_are [] each = tt
reasons_are (line ∷ lines) each = by (is_reason line) refl (reasons_are lines each.1)
  where
    by : (t : Bool) → is_reason line ≡ t → AreNotes (filter is_reason lines)
        → AreNotes (let l : List (List ℕ) = if t then line ∷ filter is_reason lines else filter is_reason lines in l)
    by true is rest = ((each.0, rw is refl), rest)
    by false is rest = rest

denials_are : (lines : List (List ℕ)) → AreLines lines → AreNotes (filter is_denial lines)
denials_are [] each = tt
denials_are (line ∷ lines) each = by (is_denial line) refl (denials_are lines each.1)
  where
    or : (t : Bool) → (t || true) ≡ true
    or true = refl
    or false = refl

    by : (t : Bool) → is_denial line ≡ t → AreNotes (filter is_denial lines)
        → AreNotes (let l : List (List ℕ) = if t then line ∷ filter is_denial lines else filter is_denial lines in l)
    by true is rest = ((each.0, ap (λ (t : Bool). is_reason line || t) is ∙ or (is_reason line)), rest)
    by false is rest = rest

-- ---- all lines

-- the lines of a transcript
abbrev shown_lines : List (List ℕ) → List (List ℕ) → List ℕ
shown_lines script lines = flat_map (λ line. with_call script line ++ codes "\n") lines

module _ (script : List (List ℕ)) (are : AreLines script) where
  plain_left : (reasons denials lines : List (List ℕ)) → AreNotes reasons → AreNotes denials → AreLines lines
      → without_notes (with_notes script reasons denials lines) ≡ shown_lines script (filter (λ line. not (is_note line)) lines)
  plain_left reasons denials [] why deny each = ap (λ (ls : List (List ℕ)). ended_lines (filter (λ line. not (is_note line)) ls)) nothing
  plain_left reasons denials (line ∷ lines) why deny each =
      by (is_note line) refl (plain_left reasons denials lines why deny each.1)
      (plain_left (reasons_after line reasons) (denials_after line denials) lines (reasons_left line reasons why)
      (denials_left line denials deny) each.1)
    where
      rest : List ℕ
      rest = with_notes script (reasons_after line reasons) (denials_after line denials) lines

      shown : List ℕ
      shown = shown_lines script (filter (λ line. not (is_note line)) lines)

      by : (t : Bool) → is_note line ≡ t → without_notes (with_notes script reasons denials lines) ≡ shown → without_notes rest ≡ shown
          → without_notes (let l : List ℕ = if t then with_notes script reasons denials lines
          else (((with_call script line ++ codes "\n") ++ notes_behind line reasons denials) ++ rest) in l)
          ≡ shown_lines script (let l : List (List ℕ) = if not t then line ∷ filter (λ line. not (is_note line)) lines
          else filter (λ line. not (is_note line)) lines in l)
      by true is same later = same
      by false plain same later =
          let one = shown_so script are line each.0 in
          let why_here = reason_behind line reasons in
          let deny_here = denials_behind line denials in
          ap without_notes (append_assoc (with_call script line ++ codes "\n") (notes_behind line reasons denials) rest
          ∙ append_assoc (with_call script line) (codes "\n") (notes_behind line reasons denials ++ rest))
          ∙ plain_stays (with_call script line) (notes_behind line reasons denials ++ rest) one.one (one.same ∙ plain)
          ∙ ap (λ (l : List ℕ). (with_call script line ++ codes "\n") ++ l)
          (ap without_notes (append_assoc why_here deny_here rest) ∙ reason_out line (deny_here ++ rest) reasons why
          ∙ denials_out line rest denials deny ∙ later)

-- lines that end are the lines of their text
lines_again : (lines : List (List ℕ)) → AreLines lines → lines_of (ended_lines lines) ≡ lines
lines_again lines each =
    ap lines_of (sym (append-nil (ended_lines lines))) ∙ lines_back lines [] each
    ∙ ap (λ (ls : List (List ℕ)). lines ++ ls) nothing ∙ append-nil lines

pub notes_are_added : NotesAreAdded
notes_are_added text output =
    plain_left (lines_of text) (lines_are text) (filter is_reason (lines_of output)) (filter is_denial (lines_of output)) (lines_of output)
    (reasons_are (lines_of output) (lines_are output)) (denials_are (lines_of output) (lines_are output)) (lines_are output)
    ∙ ap (shown_lines (lines_of text)) (sym (lines_again (filter (λ line. not (is_note line)) (lines_of output))
    (some_are (λ line. not (is_note line)) (lines_of output) (lines_are output))))
