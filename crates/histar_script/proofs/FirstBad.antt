-- The line that reading reports as bad is the first bad one.
use Rattle.std.proofs.Common.{◌≡◌, ℕ, zero, suc, ◌+◌, ◌-◌, ◌<◌, ◌≤◌, eqb, List, [], ◌∷◌, length, take, Option, Some, None, Result, Ok, Err, refl, sym}
use Rattle.std.proofs.Common.{ap, ◌∙◌, inl, inr, arith}
use Rattle.histar_flat.proofs.Options.{either_chosen}
use Rattle.histar_script.specs.declared.fault.Fault.{Fault}
use Rattle.histar_script.specs.declared.fault.Fault.TheVariants.{BadScript}
use Rattle.histar_script.specs.Lines.{lines_of}
use Rattle.histar_script.specs.Script.{ScriptModel, nothing_read}
use Rattle.histar_script.specs.Reading.{with_line, with_lines, reading}
use Rattle.histar_script.specs.Grammar.{TakesLines, BeginsNone, IsFirstBad}
use Rattle.histar_script.proofs.Chains.{none_left}
use Rattle.histar_script.proofs.ScriptsBack.{line_takes, after, taken, lines_again}
use Rattle.histar_script.proofs.Beginnings.{begun}

-- the result of reading lines
abbrev pub Answer : Type 0
Answer = Result ScriptModel Fault

-- the result that line n is bad
abbrev pub failed : ℕ → Answer
failed n = Err (BadScript n)

-- one result has one bad line
same_line : (n k : ℕ) → failed n ≡ failed k → n ≡ k
same_line n k e = cc

-- a bad line comes after those before it: one step
bad_step : (s : ScriptModel) (k n : ℕ) (lines : List (List ℕ)) (o : Option ScriptModel)
    → after (k + 1) (λ m. with_lines m (k + 1) lines) o ≡ failed n
    → ((m : ScriptModel) → with_lines m (k + 1) lines ≡ failed n → k + 1 < n) → k < n
bad_step s k n lines None e later = let same : k + 1 ≡ n = same_line (k + 1) n e in omega arith
bad_step s k n lines (Some m) e later = omega (arith, later m e)

-- a bad line comes after those before it
pub later_bad : (s : ScriptModel) (k : ℕ) (lines : List (List ℕ)) (n : ℕ) → with_lines s k lines ≡ failed n → k < n
unfolding with_lines
later_bad s k [] n e =
    elim (either_chosen (eqb (length s.accounts.users) 0) (failed (k + 1)) (Ok s) (failed n) e)
    [ inl h ↦ let same : k + 1 ≡ n = same_line (k + 1) n h.1 in omega arith | inr h ↦ absurd cc ]
later_bad s k (line ∷ lines) n e = bad_step s k n lines (with_line s (k + 1) line) e (λ m h. later_bad m (k + 1) lines n h)

-- a text that begins with the same lines as one whose line n is bad is no script
no_script : (s : ScriptModel) (k : ℕ) (lines others : List (List ℕ)) (n j : ℕ) (t : ScriptModel)
    → with_lines s k lines ≡ failed n → n ≡ k + j → j ≤ length lines → take j others ≡ take j lines
    → with_lines s k others ≡ Ok t → ⊥
unfolding with_lines
no_script s k [] others n j t bad is le same ok = let late = later_bad s k [] n bad in omega arith
no_script s k (line ∷ lines) others n zero t bad is le same ok = let late = later_bad s k (line ∷ lines) n bad in omega arith
no_script s k (line ∷ lines) [] n (suc j) t bad is le same ok = absurd cc
no_script s k (line ∷ lines) (other ∷ others) n (suc j) t bad is le same ok =
    let head : other ≡ line = cc in
    let tail : take j others ≡ take j lines = cc in
    let a = taken (with_line s (k + 1) other) (k + 1) (λ m. with_lines m (k + 1) others) t ok in
    let met : with_line s (k + 1) line ≡ Some a.0 = ap (with_line s (k + 1)) (sym head) ∙ a.1 in
    let rest : with_lines a.0 (k + 1) lines ≡ failed n = sym (ap (after (k + 1) (λ m. with_lines m (k + 1) lines)) met) ∙ bad in
    no_script a.0 (k + 1) lines others n j t rest (omega arith) (omega arith) tail a.2

-- no script begins with the lines up to a bad one
pub begins_none : (text : List ℕ) (n : ℕ) → reading text ≡ Err (BadScript n) → n ≤ length (lines_of text) → BeginsNone text n
unfolding reading
begins_none text n bad le other script same is =
    no_script nothing_read 0 (lines_of text) (lines_of other) n n script bad (omega arith) le same
    (lines_again nothing_read 0 (lines_of other) script is.0 is.1)

-- the lines before a bad line are right: one step
before_step : (s : ScriptModel) (k : ℕ) (line : List ℕ) (lines : List (List ℕ)) (n j : ℕ) (o : Option ScriptModel)
    → with_line s (k + 1) line ≡ o → after (k + 1) (λ m. with_lines m (k + 1) lines) o ≡ failed n → n ≡ k + suc (suc j)
    → ((m : ScriptModel) → with_lines m (k + 1) lines ≡ failed n
    → (t : ScriptModel) × TakesLines m (k + 1) (take j lines) t × (length lines ≤ j → t.accounts.users ≡ [])
    × (j ≤ length lines))
    → (t : ScriptModel) × TakesLines s k (take (suc j) (line ∷ lines)) t
    × (length (line ∷ lines) ≤ suc j → t.accounts.users ≡ []) × (suc j ≤ length (line ∷ lines))
before_step s k line lines n j None met bad is later = let same : k + 1 ≡ n = same_line (k + 1) n bad in absurd (omega arith)
before_step s k line lines n j (Some m) met bad is later =
    let r = later m bad in
    (r.0, (m, line_takes s (k + 1) line m met, r.1), (λ le. r.2 (omega arith)), omega (arith, r.3))

-- the lines before a bad line are right
before_bad : (s : ScriptModel) (k : ℕ) (lines : List (List ℕ)) (n j : ℕ) → with_lines s k lines ≡ failed n
    → n ≡ k + suc j
    → (t : ScriptModel) × TakesLines s k (take j lines) t × (length lines ≤ j → t.accounts.users ≡ [])
    × (j ≤ length lines)
unfolding with_lines
before_bad s k [] n zero bad is =
    elim (either_chosen (eqb (length s.accounts.users) 0) (failed (k + 1)) (Ok s) (failed n) bad)
    [ inl h ↦ (s, refl, (λ _. none_left s.accounts.users h.0), omega arith) | inr h ↦ absurd cc ]
before_bad s k [] n (suc j) bad is =
    elim (either_chosen (eqb (length s.accounts.users) 0) (failed (k + 1)) (Ok s) (failed n) bad)
    [ inl h ↦ let same : k + 1 ≡ n = same_line (k + 1) n h.1 in absurd (omega arith) | inr h ↦ absurd cc ]
before_bad s k (line ∷ lines) n zero bad is = (s, refl, (λ le. absurd (omega arith)), omega arith)
before_bad s k (line ∷ lines) n (suc j) bad is =
    before_step s k line lines n j (with_line s (k + 1) line) refl bad is
    (λ m h. before_bad m (k + 1) lines n j h (omega arith))

-- a line that is reported as bad is the first bad one
pub first_bad : (text : List ℕ) (n : ℕ) → reading text ≡ Err (BadScript n) → IsFirstBad text n
unfolding reading
first_bad text n bad =
    let late : 0 < n = later_bad nothing_read 0 (lines_of text) n bad in
    let b = before_bad nothing_read 0 (lines_of text) n (n - 1) bad (omega arith) in
    record {
      none = begins_none text n bad;
      some = begun (take (n - 1) (lines_of text)) b.0 b.1;
      before = (b.0, b.1, λ lt. b.2 (omega arith));
      close = (late, omega (arith, b.3));
    }
