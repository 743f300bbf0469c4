-- Reading the lines before a bad one once more.
use Rattle.std.proofs.Common.{◌≡◌, ℕ, ◌+◌, ◌<◌, ◌≤◌, List, [], ◌∷◌, ◌++◌, length, map, Option, Some, None}
use Rattle.std.proofs.Common.{refl, sym, ap, ◌∙◌, subst, true, arith, ◌≢◌, inl, inr}
use Rattle.std.specs.Prelude.{is_some}
use Rattle.std.proofs.lemmas.List.{length-append, length-map, map-append}
use Rattle.histar_script.specs.Lines.{lines_of}
use Rattle.histar_script.specs.Script.{ScriptModel, nothing_read}
use Rattle.histar_script.specs.Reading.{with_line, with_lines}
use Rattle.histar_script.specs.Grammar.{TakesLines}
use Rattle.histar_script.proofs.ScriptsBack.{line_takes}
use Rattle.histar_script.proofs.FirstBad.{failed, later_bad}
use Rattle.histar_script.proofs.Beginnings.{takes_on}
use Rattle.histar_mixed.specs.Mixed.{AreRawBefore, IsFirstBad, raw_part, unix_line, unix_reading}
use Rattle.histar_mixed.specs.Taking.{IsBadPart}
use Rattle.histar_mixed.proofs.LinesRead.{empty_line, length_push, line_more, lines_step, unix_if_none, unix_if_some}
use Rattle.histar_attack_lint.specs.Session.{IsFinding, said_of}
use Rattle.histar_attack_lint.proofs.MixedLines.{each_bad_mixed_line_breaks_one}

-- this many lines of a text with this first bad line were read, and this is the rest of the text
pub record IsAt (text rest : List ℕ) (s : ScriptModel) (count bad : ℕ) : Type 0 where
  pub first : IsFirstBad text bad
  pub before : List (List ℕ)
  pub parts : lines_of text ≡ before ++ lines_of rest
  pub counted : count ≡ length before
  pub taken : TakesLines nothing_read 0 (map unix_line before) s
  pub left : with_lines s count (map unix_line (lines_of rest)) ≡ unix_reading text
  pub ahead : count < bad

-- ---- the place of the first bad line

-- the raw lines before it
raw_before : (text : List ℕ) (bad : ℕ) → IsFirstBad text bad → AreRawBefore text bad
raw_before text bad (inl h) = h.1
raw_before text bad (inr h) = h.0.before

-- it is one of the lines, or comes right behind the last one
within : (text : List ℕ) (bad : ℕ) → IsFirstBad text bad → (0 < bad) × (bad ≤ length (lines_of text) + 1)
within text bad first =
    let raw = raw_before text bad first in
    let place = raw.place in
    let size : length (lines_of text) ≡ length raw.before + length raw.after = ap length raw.parts ∙ length-append raw.before raw.after in
    (omega (arith, place), omega (arith, place, size))

-- no line of the script is bad before it
not_earlier : (text : List ℕ) (bad : ℕ) → IsFirstBad text bad → (k : ℕ) → unix_reading text ≡ failed k → bad ≤ k
not_earlier text bad (inl h) k e =
    let both : failed bad ≡ failed k = sym h.0 ∙ e in
    let same : bad ≡ k = cc in
    omega (arith, same)
not_earlier text bad (inr h) k e = let less = h.1 k e in omega (arith, less)

-- this holds at the start
pub at_start : (text : List ℕ) (bad : ℕ) → IsFirstBad text bad → IsAt text text nothing_read 0 bad
at_start text bad first =
    record { first = first; before = []; parts = refl; counted = refl; taken = refl; left = refl; ahead = (within text bad first).0 }

module _ (text rest : List ℕ) (s : ScriptModel) (count bad : ℕ) (at : IsAt text rest s count bad) where
  -- ---- a line that comes before the bad one

  -- there is one
  pub has_line : count + 1 < bad → lines_of rest ≢ []
  has_line more none =
      let counted = at.counted in
      let size : length (lines_of text) ≡ length at.before + 0 =
      ap length (at.parts ∙ ap (λ (l : List (List ℕ)). at.before ++ l) none) ∙ length-append at.before [] in
      let most = (within text bad at.first).1 in
      omega (arith, size, most, more, counted)

  module _ (line behind : List ℕ) (is : lines_of rest ≡ line ∷ lines_of behind) where
    -- the rest of the script from this line on
    goes_on : with_lines s count (unix_line line ∷ map unix_line (lines_of behind)) ≡ unix_reading text
    goes_on = sym (ap (λ (l : List (List ℕ)). with_lines s count (map unix_line l)) is) ∙ at.left

    -- it is right
    pub is_right : count + 1 < bad → is_some (with_line s (count + 1) (unix_line line)) ≡ true
    is_right more = by (with_line s (count + 1) (unix_line line)) refl
      where
        by : (o : Option ScriptModel) → with_line s (count + 1) (unix_line line) ≡ o → is_some o ≡ true
        by (Some t) taken = refl
        by None lost =
            let early : unix_reading text ≡ failed (count + 1) =
            sym goes_on ∙ lines_step s count (unix_line line) (map unix_line (lines_of behind)) None lost in
            let later = not_earlier text bad at.first (count + 1) early in
            absurd (omega (arith, later, more))

    -- this holds after it
    pub went_on : (t : ScriptModel) → count + 1 < bad → with_line s (count + 1) (unix_line line) ≡ Some t → IsAt text behind t (count + 1) bad
    went_on t more taken =
        let counted = at.counted in
        let pushed = length_push at.before line in
        let mapped : map unix_line (at.before ++ line ∷ []) ≡ map unix_line at.before ++ unix_line line ∷ [] =
        map-append unix_line at.before (line ∷ []) in
        let number : count + 1 ≡ 0 + length (map unix_line at.before) + 1 =
        let size = length-map at.before unix_line in omega (arith, counted, size) in
        record {
          first = at.first;
          before = at.before ++ line ∷ [];
          parts = line_more text at.before line (lines_of rest) (lines_of behind) at.parts is;
          counted = omega (arith, counted, pushed);
          taken = subst (λ (l : List (List ℕ)). TakesLines nothing_read 0 l t) (sym mapped)
              (takes_on nothing_read 0 (count + 1) (map unix_line at.before) s (unix_line line) t at.taken number
              (line_takes s (count + 1) (unix_line line) t taken));
          left = sym (lines_step s count (unix_line line) (map unix_line (lines_of behind)) (Some t) taken) ∙ goes_on;
          ahead = more;
        }

-- ---- the bad line

-- what follows equally many lines of one list
same_rest : (xs ys us vs : List (List ℕ)) → xs ++ us ≡ ys ++ vs → length xs ≡ length ys → us ≡ vs
same_rest [] [] us vs e size = e
same_rest [] (y ∷ ys) us vs e size = absurd (omega (arith, size))
same_rest (x ∷ xs) [] us vs e size = absurd (omega (arith, size))
same_rest (x ∷ xs) (y ∷ ys) us vs e size = let tail : xs ++ us ≡ ys ++ vs = cc in same_rest xs ys us vs tail (omega (arith, size))

module _ (text rest : List ℕ) (s : ScriptModel) (count bad : ℕ) (at : IsAt text rest s count bad) (last : bad ≤ count + 1) where
  -- it is the next one
  is_next : bad ≡ count + 1
  is_next = let ahead = at.ahead in omega (arith, ahead, last)

  -- a line that can be taken is not the one at which reading the script fails
  not_taken : (line : List ℕ) (lines : List (List ℕ)) (t : ScriptModel)
      → with_lines s count (unix_line line ∷ lines) ≡ failed bad → with_line s (count + 1) (unix_line line) ≡ Some t → ⊥
  not_taken line lines t fails taken =
      let later = later_bad t (count + 1) lines bad (sym (lines_step s count (unix_line line) lines (Some t) taken) ∙ fails) in
      omega (arith, later, last)

  -- the next line is bad, as one of the script or as a raw line
  is_bad : (line : List ℕ) (lines : List (List ℕ)) → lines_of rest ≡ line ∷ lines → IsBadPart (raw_part line) bad line s
  is_bad line lines is = by_kind at.first
    where
      by_kind : IsFirstBad text bad → IsBadPart (raw_part line) bad line s
      by_kind (inl h) = by (raw_part line) refl
        where
          fails : with_lines s count (unix_line line ∷ map unix_line lines) ≡ failed bad
          fails = sym (ap (λ (l : List (List ℕ)). with_lines s count (map unix_line l)) is) ∙ at.left ∙ h.0

          by : (part : Option (List ℕ)) → raw_part line ≡ part → IsBadPart part bad line s
          by None none = lost (with_line s (count + 1) (unix_line line)) refl
            where
              lost : (o : Option ScriptModel) → with_line s (count + 1) (unix_line line) ≡ o → with_line s bad line ≡ None
              lost None e =
                  ap (λ (n : ℕ). with_line s n line) is_next ∙ ap (with_line s (count + 1)) (sym (unix_if_none line none)) ∙ e
              lost (Some t) e = absurd (not_taken line (map unix_line lines) t fails e)
          by (Some call) some =
              absurd (not_taken line (map unix_line lines) s fails
              (ap (with_line s (count + 1)) (unix_if_some line call some) ∙ empty_line s (count + 1)))
      by_kind (inr h) =
          let bad_raw = h.0 in
          let place = bad_raw.before.place in
          let counted = at.counted in
          let next = is_next in
          let size : length at.before ≡ length bad_raw.before.before = omega (arith, place, counted, next) in
          let both : line ∷ lines ≡ bad_raw.line ∷ bad_raw.rest =
          sym is ∙ same_rest at.before bad_raw.before.before (lines_of rest) bad_raw.before.after (sym at.parts ∙ bad_raw.before.parts) size
          ∙ bad_raw.here in
          let same : line ≡ bad_raw.line = cc in
          subst (λ part. IsBadPart part bad line s) (sym (ap raw_part same ∙ bad_raw.is_raw)) bad_raw.bad

  -- it has a sentence
  pub is_said_of : is_some (said_of (lines_of text) s (lines_of rest)) ≡ true
  is_said_of = by (lines_of rest) refl
    where
      by : (lines : List (List ℕ)) → lines_of rest ≡ lines → is_some (said_of (lines_of text) s lines) ≡ true
      by [] is = refl
      by (line ∷ lines) is = each_bad_mixed_line_breaks_one (lines_of text) s bad line (is_bad line lines is)

  -- this sentence is the one that is found
  pub is_finding : (said : List ℕ) → said_of (lines_of text) s (lines_of rest) ≡ Some said → IsFinding text bad said
  is_finding said is =
      let counted = at.counted in
      let next = is_next in
      record {
        first = at.first;
        before = at.before;
        rest = lines_of rest;
        parts = at.parts;
        place = omega (arith, counted, next);
        read = s;
        taken = at.taken;
        broken = is;
      }
