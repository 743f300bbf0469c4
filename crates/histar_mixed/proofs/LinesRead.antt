-- Reading the lines of a mixed session one by one.
use Rattle.std.proofs.Common.{◌≡◌, ℕ, ◌+◌, ◌<◌, Bool, true, false, eqb, List, [], ◌∷◌, ◌++◌, length}
use Rattle.std.proofs.Common.{map, Option, None, Some, Result, Ok, Err}
use Rattle.std.proofs.Common.{refl, sym, ap, ◌∙◌, subst, inl, inr, arith, append_assoc, append-nil}
use Rattle.std.specs.Prelude.{cond}
use Rattle.histar_flat.specs.declared.calls.CallLine.{CallLine}
use Rattle.histar_script.specs.declared.fault.Fault.{Fault}
use Rattle.histar_script.specs.declared.fault.Fault.TheVariants.{BadScript, TooLong, OutOfMemory, ReadFailed, WriteFailed}
use Rattle.histar_script.specs.Lines.{is_too_long, lines_of}
use Rattle.histar_script.specs.Grammar.{TakesLines}
use Rattle.histar_script.proofs.Beginnings.{line_back, said_is_one_line}
use Rattle.histar_script.proofs.Kept.{is_declared}
use Rattle.histar_script.proofs.LineLemmas.{no_lines}
use Rattle.histar_script.proofs.ScriptsBack.{lines_take}
use Rattle.histar_script.specs.Script.{IsDeclared, ScriptModel, nothing_read}
use Rattle.histar_script.specs.Reading.{item_of, with_item, with_line, with_lines}
use Rattle.histar_raw_session.specs.declared.read_session.RawLine.{RawLine}
use Rattle.histar_raw_session.specs.Session.{SaysCall}
use Rattle.histar_mixed.specs.declared.items.Mark.{Mark}
use Rattle.histar_mixed.specs.declared.items.Mark.TheVariants as marks
use Rattle.histar_mixed.specs.declared.items.MixedItem.{MixedItem}
use Rattle.histar_mixed.specs.declared.items.MixedItem.TheVariants.{Unix, Raw}
use Rattle.histar_mixed.specs.Mixed.{AddsRaw, AreRawBefore, IsFirstBad, IsLineFault, IsMixed, IsMixedFault, SayRaw, in_order, raw_of, raw_part}
use Rattle.histar_mixed.specs.Mixed.{unix_line, unix_reading}
use Rattle.histar_mixed.specs.Taking.{AddsCall, IsBadPart, TakesLine, TakesPart, marked}
use Rattle.histar_mixed.proofs.Marks.{RiseWithin, marks_more, raw_more, raws_apart, rise_all, rise_later, rise_more}
use Rattle.histar_mixed.proofs.Marks.{unix_kept, unix_marks, unix_more}

-- this many lines of the text were read, which leave this script and these marks, and the rest was not
pub record IsReadSoFar (text rest : List ℕ) (count : ℕ) (script : ScriptModel) (ms : List Mark) : Type 0 where
  pub before : List (List ℕ)
  pub parts : lines_of text ≡ before ++ lines_of rest
  pub counted : count ≡ length before
  pub unix : with_lines script count (map unix_line (lines_of rest)) ≡ unix_reading text
  pub says : SayRaw 0 before (raw_of (in_order script.calls ms))
  pub fits : unix_marks ms ≡ length script.calls
  pub rising : RiseWithin 0 (in_order script.calls ms) count

pub nothing_so_far : (text : List ℕ) → IsReadSoFar text text 0 nothing_read []
nothing_so_far text = record {
  before = [];
  parts = refl;
  counted = refl;
  unix = refl;
  says = refl;
  fits = refl;
  rising = omega arith;
}

-- one more line without a raw call
says_none : (n : ℕ) (before : List (List ℕ)) (line : List ℕ) (raws : List RawLine) → raw_part line ≡ None → SayRaw n before raws
    → SayRaw n (before ++ line ∷ []) raws
says_none n [] line raws none says = (raws, subst (λ p. AddsRaw p (n + 1) raws raws) (sym none) refl, says)
says_none n (first ∷ before) line raws none says = (says.0, says.1, says_none (n + 1) before line says.0 none says.2)

-- one more call in front
adds_more : (part : Option (List ℕ)) (n : ℕ) (more raws : List RawLine) (asked : RawLine) → AddsRaw part n more raws
    → AddsRaw part n (more ++ asked ∷ []) (raws ++ asked ∷ [])
adds_more None n more raws asked adds = ap (λ (l : List RawLine). l ++ asked ∷ []) adds
adds_more (Some text) n more raws asked adds = (adds.0, adds.1, ap (λ (l : List RawLine). l ++ asked ∷ []) adds.2)

-- one more line with a raw call
says_more : (n k : ℕ) (before : List (List ℕ)) (line text : List ℕ) (raws : List RawLine) (asked : RawLine) → raw_part line ≡ Some text
    → k ≡ n + length before + 1 → SaysCall k text asked → SayRaw n before raws → SayRaw n (before ++ line ∷ []) (raws ++ asked ∷ [])
says_more n k [] line text raws asked some place one says =
    let here : k ≡ n + 1 = omega (arith, place) in
    let of_none : raws ++ asked ∷ [] ≡ asked ∷ [] = ap (λ (l : List RawLine). l ++ asked ∷ []) says in
    ([], subst (λ p. AddsRaw p (n + 1) [] (raws ++ asked ∷ [])) (sym some) (asked, subst (λ j. SaysCall j text asked) here one, of_none), refl)
says_more n k (first ∷ before) line text raws asked some place one says = (
  says.0 ++ asked ∷ [],
  adds_more (raw_part first) (n + 1) says.0 raws asked says.1,
  says_more (n + 1) k before line text says.0 asked some (omega (arith, place)) one says.2,
)

-- the lines of the text, after one more was read
pub line_more : (text : List ℕ) (before : List (List ℕ)) (line : List ℕ) (lines rest : List (List ℕ)) → lines_of text ≡ before ++ lines
    → lines ≡ line ∷ rest → lines_of text ≡ (before ++ line ∷ []) ++ rest
line_more text before line lines rest parts is = parts ∙ ap (λ (l : List (List ℕ)). before ++ l) is
    ∙ sym (append_assoc before (line ∷ []) rest)

pub length_push : (lines : List (List ℕ)) (line : List ℕ) → length (lines ++ line ∷ []) ≡ length lines + 1
length_push [] line = refl
length_push (l ∷ lines) line = let rest = length_push lines line in omega (arith, rest)

-- a line of a script, by whether it can be taken
pub lines_step : (s : ScriptModel) (n : ℕ) (line : List ℕ) (lines : List (List ℕ)) (o : Option ScriptModel) → with_line s (n + 1) line ≡ o
    → with_lines s n (line ∷ lines) ≡ elim o [ None ↦ Err (BadScript (n + 1)) | Some t ↦ with_lines t (n + 1) lines ]
unfolding with_lines
lines_step s n line lines o is =
    ap (λ (x : Option ScriptModel). elim x as (λ _. Result ScriptModel Fault) [
      | None ↦ Err (BadScript (n + 1))
      | Some t ↦ with_lines t (n + 1) lines
    ]) is

-- an empty line is a comment
pub empty_line : (s : ScriptModel) (n : ℕ) → with_line s n [] ≡ Some s
unfolding with_line item_of with_item
empty_line s n = refl

-- the line as one of a script
pub unix_if_none : (line : List ℕ) → raw_part line ≡ None → unix_line line ≡ line
unix_if_none line none = ap (λ (o : Option (List ℕ)). elim o as (λ _. List ℕ) [ None ↦ line | Some text ↦ [] ]) none

pub unix_if_some : (line text : List ℕ) → raw_part line ≡ Some text → unix_line line ≡ []
unix_if_some line text some = ap (λ (o : Option (List ℕ)). elim o as (λ _. List ℕ) [ None ↦ line | Some text ↦ [] ]) some

-- two faults of one line
abbrev bad_at : ℕ → Result ScriptModel Fault
bad_at n = Err (BadScript n)

same_fault : (a b : ℕ) → bad_at a ≡ bad_at b → a ≡ b
same_fault a b e = cc

-- the first bad line of these comes after those before them
bad_later : (s : ScriptModel) (n : ℕ) (lines : List (List ℕ)) (k : ℕ) → with_lines s n lines ≡ Err (BadScript k) → n < k
unfolding with_lines
bad_later s n [] k e = at_end (eqb (length s.accounts.users) 0) e
  where
    at_end : (b : Bool) → cond b (Err (BadScript (n + 1))) (Ok s) ≡ Err (BadScript k) → n < k
    at_end true e = let same = same_fault (n + 1) k e in omega (arith, same)
    at_end false e = absurd cc
bad_later s n (line ∷ lines) k e = at_line (with_line s (n + 1) line) (λ t. bad_later t (n + 1) lines k) e
  where
    at_line : (o : Option ScriptModel) → ((t : ScriptModel) → with_lines t (n + 1) lines ≡ Err (BadScript k) → n + 1 < k)
        → elim o as (λ _. Result ScriptModel Fault) [ None ↦ Err (BadScript (n + 1)) | Some t ↦ with_lines t (n + 1) lines ]
        ≡ Err (BadScript k) → n < k
    at_line None later e = let same = same_fault (n + 1) k e in omega (arith, same)
    at_line (Some t) later e = let less = later t e in omega (arith, less)

-- no lines are left
nothing_left : (s : ScriptModel) (n : ℕ) → with_lines s n [] ≡ cond (eqb (length s.accounts.users) 0) (bad_at (n + 1)) (Ok s)
unfolding with_lines
nothing_left s n = refl

-- ---- a script that lines are read as has accounts that are declared

-- the text of lines
abbrev ended : List (List ℕ) → List ℕ
ended [] = []
ended (line ∷ lines) = line ++ 10 ∷ ended lines

-- its lines are these, where they were read
ended_back : (s : ScriptModel) (n : ℕ) (lines : List (List ℕ)) (t : ScriptModel) → TakesLines s n lines t → lines_of (ended lines) ≡ lines
ended_back s n [] t takes = no_lines [] refl
ended_back s n (line ∷ lines) t takes =
    line_back line (ended lines) (said_is_one_line line takes.1.0 takes.1.1)
    ∙ ap (λ (l : List (List ℕ)). line ∷ l) (ended_back takes.0 (n + 1) lines t takes.2)

declared_by : (lines : List (List ℕ)) (script : ScriptModel) → with_lines nothing_read 0 lines ≡ Ok script → IsDeclared script.accounts
declared_by lines script is =
    let takes = lines_take nothing_read 0 lines script is in
    is_declared (ended lines) script
    (subst (λ (l : List (List ℕ)). TakesLines nothing_read 0 l script) (sym (ended_back nothing_read 0 lines script takes.0)) takes.0, takes.1)

module _ (text rest after line : List ℕ) (count : ℕ) (old : ScriptModel) (ms : List Mark) (so : IsReadSoFar text rest count old ms)
    (is : lines_of rest ≡ line ∷ lines_of after) where
  counted_more : count + 1 ≡ length (so.before ++ line ∷ [])
  counted_more = let counted = so.counted in let longer = length_push so.before line in omega (arith, counted, longer)

  -- the rest of the reading, where the line is this one of a script
  abbrev reading_rest : Result ScriptModel Fault
  reading_rest = with_lines old count (unix_line line ∷ map unix_line (lines_of after))

  goes_on : reading_rest ≡ unix_reading text
  goes_on = ap (λ (l : List (List ℕ)). with_lines old count (map unix_line l)) (sym is) ∙ so.unix

  -- a line without a call leaves the calls, and one with a call adds it
  adds_items : (calls : Bool) (new : ScriptModel) → AddsCall calls (count + 1) old.calls new.calls
      → (unix_marks (marked calls ms) ≡ length new.calls)
      × RiseWithin 0 (in_order new.calls (marked calls ms)) (count + 1)
      × (raw_of (in_order new.calls (marked calls ms)) ≡ raw_of (in_order old.calls ms))
  adds_items false new same = (
    so.fits ∙ ap length (sym same),
    subst (λ (cs : List CallLine). RiseWithin 0 (in_order cs ms) (count + 1)) (sym same) (rise_later 0 count (count + 1) _ (omega arith) so.rising),
    ap (λ (cs : List CallLine). raw_of (in_order cs ms)) same,
  )
  adds_items true new adds =
      let items : in_order new.calls (ms ++ marks.Unix ∷ []) ≡ in_order old.calls ms ++ Unix adds.0 ∷ [] =
      ap (λ (cs : List CallLine). in_order cs (ms ++ marks.Unix ∷ [])) adds.2 ∙ unix_more old.calls ms adds.0 so.fits in
      let longer = ap length adds.2 ∙ push_call old.calls adds.0 in
      let marked_too = marks_more ms marks.Unix in
      let fits = so.fits in (
        omega (arith, longer, marked_too, fits),
        subst (λ (l : List MixedItem). RiseWithin 0 l (count + 1)) (sym items)
            (rise_more 0 count (in_order old.calls ms) (Unix adds.0) adds.1 so.rising),
        ap raw_of items ∙ raws_apart (in_order old.calls ms) (Unix adds.0 ∷ []) ∙ append-nil (raw_of (in_order old.calls ms)),
      )
    where
      push_call : (calls : List CallLine) (call : CallLine) → length (calls ++ call ∷ []) ≡ length calls + 1
      push_call [] call = refl
      push_call (c ∷ calls) call = let rest = push_call calls call in omega (arith, rest)

  -- a line of either kind was read
  pub line_read : (new : ScriptModel) (now : List Mark) → TakesLine (count + 1) line old ms new now (Ok tt)
      → IsReadSoFar text after (count + 1) new now
  line_read new now takes = by (raw_part line) refl takes
    where
      by : (part : Option (List ℕ)) → raw_part line ≡ part → TakesPart part (count + 1) line old ms new now
          → IsReadSoFar text after (count + 1) new now
      by None none read =
          let adds = adds_items read.calls new read.adds in
          subst (IsReadSoFar text after (count + 1) new) (sym read.marks_too)
          (record {
            before = so.before ++ line ∷ [];
            parts = line_more text so.before line (lines_of rest) (lines_of after) so.parts is;
            counted = counted_more;
            unix = sym (lines_step old count line (map unix_line (lines_of after)) (Some new) read.next)
                ∙ ap (λ (l : List ℕ). with_lines old count (l ∷ map unix_line (lines_of after))) (sym (unix_if_none line none)) ∙ goes_on;
            says = subst (SayRaw 0 (so.before ++ line ∷ [])) (sym adds.2) (says_none 0 so.before line _ none so.says);
            fits = adds.0;
            rising = adds.1;
          })
      by (Some call) some read =
          let items = raw_more old.calls ms read.asked in
          let asked = read.asked in
          let marked_too = marks_more ms (marks.Raw asked) in
          let fits = so.fits in
          let counted = so.counted in
          subst (λ (s : ScriptModel). IsReadSoFar text after (count + 1) s now) (sym read.same)
          (subst (IsReadSoFar text after (count + 1) old) (sym read.marks_too)
          (record {
            before = so.before ++ line ∷ [];
            parts = line_more text so.before line (lines_of rest) (lines_of after) so.parts is;
            counted = counted_more;
            unix = sym (lines_step old count [] (map unix_line (lines_of after)) (Some old) (empty_line old (count + 1)))
                ∙ ap (λ (l : List ℕ). with_lines old count (l ∷ map unix_line (lines_of after))) (sym (unix_if_some line call some))
                ∙ goes_on;
            says = subst (SayRaw 0 (so.before ++ line ∷ []))
                (sym (ap raw_of items ∙ raws_apart (in_order old.calls ms) (Raw asked ∷ [])))
                (says_more 0 (count + 1) so.before line call _ asked some (omega (arith, counted)) read.says so.says);
            fits = omega (arith, marked_too, fits);
            rising = subst (λ (l : List MixedItem). RiseWithin 0 l (count + 1)) (sym items)
                (rise_more 0 count (in_order old.calls ms) (Raw asked) read.says.number so.rising);
          }))

  abbrev raw_before : AreRawBefore text (count + 1)
  raw_before = record {
    before = so.before;
    after = lines_of rest;
    parts = so.parts;
    place = ap (λ k. k + 1) so.counted;
    raws = raw_of (in_order old.calls ms);
    right = so.says;
  }

  -- a bad line of either kind is the first one
  pub line_bad : is_too_long text ≡ false → (fault : Fault) → IsLineFault (count + 1) (IsBadPart (raw_part line) (count + 1) line old) fault
      → IsMixedFault text fault
  line_bad short (BadScript n) bad = (short, subst (IsFirstBad text) (sym bad.0) (by (raw_part line) refl bad.1))
    where
      by : (part : Option (List ℕ)) → raw_part line ≡ part → IsBadPart part (count + 1) line old → IsFirstBad text (count + 1)
      by None none not_taken =
          inl (
            sym (sym (lines_step old count line (map unix_line (lines_of after)) None not_taken)
                ∙ ap (λ (l : List ℕ). with_lines old count (l ∷ map unix_line (lines_of after))) (sym (unix_if_none line none)) ∙ goes_on),
            raw_before,
          )
      by (Some call) some not_said =
          inr (
            record { before = raw_before; line = line; rest = lines_of after; here = is; call = call; is_raw = some; bad = not_said },
            λ k faulty. bad_later old (count + 1) (map unix_line (lines_of after)) k
                (sym (lines_step old count [] (map unix_line (lines_of after)) (Some old) (empty_line old (count + 1)))
                ∙ ap (λ (l : List ℕ). with_lines old count (l ∷ map unix_line (lines_of after))) (sym (unix_if_some line call some))
                ∙ goes_on ∙ faulty),
          )
  line_bad short TooLong bad = absurd bad
  line_bad short OutOfMemory bad = tt
  line_bad short ReadFailed bad = absurd bad
  line_bad short WriteFailed bad = absurd bad

-- ---- the end of the text

module _ (text rest : List ℕ) (count : ℕ) (script : ScriptModel) (ms : List Mark) (none : length rest ≡ 0)
    (so : IsReadSoFar text rest count script ms) where
  no_more : lines_of rest ≡ []
  no_more = no_lines rest none

  at_end : unix_reading text ≡ cond (eqb (length script.accounts.users) 0) (bad_at (count + 1)) (Ok script)
  at_end = sym so.unix ∙ ap (λ (l : List (List ℕ)). with_lines script count (map unix_line l)) no_more ∙ nothing_left script count

  -- a text without users is bad behind its last line
  pub no_users : eqb (length script.accounts.users) 0 ≡ true → IsFirstBad text (count + 1)
  no_users empty = inl (
    at_end ∙ ap (λ b. cond b (bad_at (count + 1)) (Ok script)) empty,
    record {
      before = so.before;
      after = lines_of rest;
      parts = so.parts;
      place = ap (λ k. k + 1) so.counted;
      raws = raw_of (in_order script.calls ms);
      right = so.says;
    },
  )

  -- and one with users was read
  pub all_read : eqb (length script.accounts.users) 0 ≡ false → is_too_long text ≡ false
      → IsMixed text script.accounts (in_order script.calls ms)
  all_read some short =
      let is : unix_reading text ≡ Ok script = at_end ∙ ap (λ b. cond b (bad_at (count + 1)) (Ok script)) some in
      record {
        short = short;
        unix = is ∙ ap (λ (cs : List CallLine). Ok (record { accounts = script.accounts; calls = cs })) (sym (unix_kept script.calls ms so.fits));
        raw = subst (λ (l : List (List ℕ)). SayRaw 0 l (raw_of (in_order script.calls ms)))
            (sym (so.parts ∙ ap (λ (l : List (List ℕ)). so.before ++ l) no_more ∙ append-nil so.before)) so.says;
        rising = rise_all 0 count (in_order script.calls ms) so.rising;
        declared = declared_by (map unix_line (lines_of text)) script is;
      }
