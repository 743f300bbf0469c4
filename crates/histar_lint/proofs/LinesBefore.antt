-- Reading the lines before a bad one once more.
use Rattle.std.proofs.Common.{◌≡◌, ℕ, suc, ◌+◌, ◌-◌, ◌<◌, ◌≤◌, List, [], ◌∷◌, ◌++◌, length, take, drop, get_or, Option, Some, None}
use Rattle.std.proofs.Common.{Ok, Err, refl, sym, ap, subst, ◌∙◌, true, arith, ◌≢◌, inl, inr}
use Rattle.std.specs.Prelude.{is_some, ◌==◌}
use Rattle.histar_flat.proofs.Options.{either_chosen}
use Rattle.std.proofs.lemmas.List.{take_more, length-take-le, length-drop}
use Rattle.std.proofs.Math.Seq.{drop-cons}
use Rattle.histar_script.specs.declared.fault.Fault.TheVariants.{BadScript}
use Rattle.histar_script.specs.Lines.{lines_of}
use Rattle.histar_script.specs.Script.{ScriptModel, nothing_read}
use Rattle.histar_script.specs.Reading.{reading, with_line, with_lines}
use Rattle.histar_script.specs.Grammar.{TakesLines}
use Rattle.histar_script.proofs.ScriptsBack.{after, line_takes}
use Rattle.histar_script.proofs.FirstBad.{failed, later_bad}
use Rattle.histar_script.proofs.Beginnings.{takes_on}
use Rattle.histar_lint.specs.Session.{IsFinding, said_of}
use Rattle.histar_lint.proofs.BrokenRules.{each_bad_line_breaks_one}

-- this many lines of a text with this bad line were read, and this is the rest of the text
pub record IsAt (text rest : List ℕ) (s : ScriptModel) (count bad : ℕ) : Type 0 where
  pub read : TakesLines nothing_read 0 (take count (lines_of text)) s
  pub left : lines_of rest ≡ drop count (lines_of text)
  pub found : with_lines s count (lines_of rest) ≡ failed bad
  pub within : count ≤ length (lines_of text)

-- this holds at the start
pub at_start : (text : List ℕ) (bad : ℕ) → reading text ≡ Err (BadScript bad) → IsAt text text nothing_read 0 bad
unfolding reading
at_start text bad found = record { read = refl; left = refl; found = found; within = omega arith }

-- the bad line is still to come
pub is_ahead : (text rest : List ℕ) (s : ScriptModel) (count bad : ℕ) → IsAt text rest s count bad → count < bad
is_ahead text rest s count bad at = later_bad s count (lines_of rest) bad at.found

-- a line that comes before the bad one is right
right_by : (s : ScriptModel) (count bad : ℕ) (line : List ℕ) (lines : List (List ℕ))
    → with_lines s count (line ∷ lines) ≡ failed bad → count + 1 < bad
    → (t : ScriptModel) × (with_line s (count + 1) line ≡ Some t)
unfolding with_lines
right_by s count bad line lines found more = by (with_line s (count + 1) line) refl found
  where
    by : (o : Option ScriptModel) → with_line s (count + 1) line ≡ o
        → after (count + 1) (λ t. with_lines t (count + 1) lines) o ≡ failed bad
        → (t : ScriptModel) × (with_line s (count + 1) line ≡ Some t)
    by None is found = let same : count + 1 ≡ bad = cc in absurd (omega arith)
    by (Some t) is found = (t, is)

pub is_right : (text rest : List ℕ) (s : ScriptModel) (count bad : ℕ) (line behind : List ℕ)
    → IsAt text rest s count bad → lines_of rest ≡ line ∷ lines_of behind → count + 1 < bad
    → is_some (with_line s (count + 1) line) ≡ true
is_right text rest s count bad line behind at parts more =
    let found = subst (λ lines. with_lines s count lines ≡ failed bad) parts at.found in
    ap is_some (right_by s count bad line (lines_of behind) found more).1

-- there is a line before the bad one
pub has_line : (text rest : List ℕ) (s : ScriptModel) (count bad : ℕ) → IsAt text rest s count bad → count + 1 < bad → lines_of rest ≢ []
unfolding with_lines
has_line text rest s count bad at more none =
    let found = subst (λ lines. with_lines s count lines ≡ failed bad) none at.found in
    elim (either_chosen (length s.accounts.users == 0) (failed (count + 1)) (Ok s) (failed bad) found) [
      | inl h ↦ let same : count + 1 ≡ bad = cc in omega arith
      | inr h ↦ absurd cc
    ]

-- a line that is bad among all lines is bad in the step of the first of them
found_at : (s : ScriptModel) (count bad : ℕ) (line : List ℕ) (lines others : List (List ℕ)) → lines ≡ line ∷ others
    → with_lines s count lines ≡ failed bad
    → after (count + 1) (λ m. with_lines m (count + 1) others) (with_line s (count + 1) line) ≡ failed bad
unfolding with_lines
found_at s count bad line lines others parts found = subst (λ given. with_lines s count given ≡ failed bad) parts found

-- this holds after a right line
pub went_on : (text rest : List ℕ) (s t : ScriptModel) (count bad : ℕ) (line behind : List ℕ)
    → IsAt text rest s count bad → lines_of rest ≡ line ∷ lines_of behind
    → with_line s (count + 1) line ≡ Some t → IsAt text behind t (count + 1) bad
went_on text rest s t count bad line behind at parts taken =
    let lines = lines_of text in
    let left : drop count lines ≡ line ∷ lines_of behind = sym at.left ∙ parts in
    let some : length (drop count lines) ≡ length (lines_of behind) + 1 = ap length left ∙ omega arith in
    let more : count < length lines = grind (arith, some, length-drop count lines) in
    let split : drop count lines ≡ get_or lines count line ∷ drop (suc count) lines = drop-cons lines count line more in
    let both : line ∷ lines_of behind ≡ get_or lines count line ∷ drop (suc count) lines = sym left ∙ split in
    let first : get_or lines count line ≡ line = cc in
    let later : lines_of behind ≡ drop (suc count) lines = cc in
    let next : suc count ≡ count + 1 = omega arith in
    let size : length (take count lines) ≡ count = length-take-le count lines at.within in
    let front : take (count + 1) lines ≡ take count lines ++ line ∷ [] =
    take_more lines count line more ∙ ap (λ (l : List ℕ). take count lines ++ l ∷ []) first in
    let number : count + 1 ≡ 0 + length (take count lines) + 1 = ap (λ (n : ℕ). n + 1) (sym size) ∙ omega arith in
    record {
      read =
          subst (λ (given : List (List ℕ)). TakesLines nothing_read 0 given t) (sym front)
          (takes_on nothing_read 0 (count + 1) (take count lines) s line t at.read number (line_takes s (count + 1) line t taken));
      left = later ∙ ap (λ (n : ℕ). drop n lines) next;
      found = sym (ap (after (count + 1) (λ m. with_lines m (count + 1) (lines_of behind))) taken)
          ∙ found_at s count bad line (lines_of rest) (lines_of behind) parts at.found;
      within = omega (arith, more);
    }

-- a bad line is not right
said_by : (all : List (List ℕ)) (s : ScriptModel) (count bad : ℕ) (lines : List (List ℕ))
    → with_lines s count lines ≡ failed bad → bad ≤ count + 1 → is_some (said_of all s lines) ≡ true
unfolding with_lines
said_by all s count bad [] found last = refl
said_by all s count bad (line ∷ lines) found last = by all s count bad line lines (with_line s (count + 1) line) refl found last
  where
    by : (all : List (List ℕ)) (s : ScriptModel) (count bad : ℕ) (line : List ℕ) (lines : List (List ℕ))
        (o : Option ScriptModel) → with_line s (count + 1) line ≡ o
        → after (count + 1) (λ t. with_lines t (count + 1) lines) o ≡ failed bad → bad ≤ count + 1 → is_some (said_of all s (line ∷ lines)) ≡ true
    by all s count bad line lines None is found last = each_bad_line_breaks_one all s (count + 1) line is
    by all s count bad line lines (Some t) is found last = let late = later_bad t (count + 1) lines bad found in absurd (omega arith)

-- the bad line has a sentence
pub is_said_of : (text rest : List ℕ) (s : ScriptModel) (count bad : ℕ) → IsAt text rest s count bad → bad ≤ count + 1
    → is_some (said_of (lines_of text) s (lines_of rest)) ≡ true
is_said_of text rest s count bad at last = said_by (lines_of text) s count bad (lines_of rest) at.found last

-- this sentence is the one that is found
pub is_finding : (text rest : List ℕ) (s : ScriptModel) (count bad : ℕ) (said : List ℕ) → IsAt text rest s count bad
    → bad ≤ count + 1 → said_of (lines_of text) s (lines_of rest) ≡ Some said
    → IsFinding text bad said
is_finding text rest s count bad said at last is =
    let ahead = is_ahead text rest s count bad at in
    let same : count ≡ bad - 1 = omega arith in
    record {
      read = s;
      before = subst (λ (n : ℕ). TakesLines nothing_read 0 (take n (lines_of text)) s) same at.read;
      broken = ap (said_of (lines_of text) s) (ap (λ (n : ℕ). drop n (lines_of text)) (sym same) ∙ sym at.left) ∙ is;
    }
