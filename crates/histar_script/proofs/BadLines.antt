-- A first bad line by the grammar is the one that reading reports, and each text is a script or has one.
use Rattle.std.proofs.Common.{◌≡◌, ℕ, ◌+◌, ◌-◌, ◌<◌, ◌≤◌, ◌⊎◌, Bool, true, false, cond, eqb, List, [], ◌∷◌, length, take, Option, Some, None, Result}
use Rattle.std.proofs.Common.{Ok, Err, refl, sym, ap, subst, ◌∙◌, inl, inr, arith}
use Rattle.std.proofs.lemmas.Bool.{cases_lt}
use Rattle.std.proofs.lemmas.List.{length-take-le, take-take, take_all}
use Rattle.histar_script.specs.declared.fault.Fault.{Fault}
use Rattle.histar_script.specs.declared.fault.Fault.TheVariants.{BadScript}
use Rattle.histar_script.specs.Lines.{lines_of}
use Rattle.histar_script.specs.Script.{ScriptModel, nothing_read}
use Rattle.histar_script.specs.Reading.{with_line, with_lines, reading}
use Rattle.histar_script.specs.Grammar.{TakesLines, IsScript, IsFirstBad}
use Rattle.histar_script.proofs.ScriptsBack.{after, line_again, found_from}
use Rattle.histar_script.proofs.FirstBad.{first_bad}

-- reading has returned a script, or a bad line
abbrev IsAnswered : Result ScriptModel Fault → Type 0
IsAnswered r = ((t : ScriptModel) × (r ≡ Ok t)) ⊎ ((n : ℕ) × (r ≡ Err (BadScript n)))

-- the last result is one of the two
ended_so : (b : Bool) (n : ℕ) (s : ScriptModel) → IsAnswered (cond b (Err (BadScript n)) (Ok s))
ended_so true n s = inr (n, refl)
ended_so false n s = inl (s, refl)

-- the result after a line is one of the two
after_so : (n : ℕ) (rest : ScriptModel → Result ScriptModel Fault) (o : Option ScriptModel)
    → ((m : ScriptModel) → IsAnswered (rest m)) → IsAnswered (after n rest o)
after_so n rest None later = inr (n, refl)
after_so n rest (Some m) later = later m

-- lines are read as a script, or one of them is bad
lines_so : (s : ScriptModel) (n : ℕ) (lines : List (List ℕ)) → IsAnswered (with_lines s n lines)
unfolding with_lines
lines_so s n [] = ended_so (eqb (length s.accounts.users) 0) (n + 1) s
lines_so s n (line ∷ lines) = after_so (n + 1) (λ m. with_lines m (n + 1) lines) (with_line s (n + 1) line) (λ m. lines_so m (n + 1) lines)

-- a text is read as a script, or a line of it is bad
answered : (text : List ℕ) → IsAnswered (reading text)
unfolding reading
answered text = lines_so nothing_read 0 (lines_of text)

-- lines without a user are bad after the last one
userless : (s : ScriptModel) (n : ℕ) (lines : List (List ℕ)) (t : ScriptModel) → TakesLines s n lines t
    → t.accounts.users ≡ [] → with_lines s n lines ≡ Err (BadScript (n + length lines + 1))
unfolding with_lines
userless s n [] t taken none =
    let here : s.accounts.users ≡ [] = ap (λ (x : ScriptModel). x.accounts.users) (sym taken) ∙ none in
    let number : n + 1 ≡ n + 0 + 1 = omega arith in
    rw here (ap (λ (k : ℕ). Err (BadScript k)) number)
userless s n (line ∷ lines) t taken none =
    let number : n + 1 + length lines + 1 ≡ n + length (line ∷ lines) + 1 = omega arith in
    ap (after (n + 1) (λ m. with_lines m (n + 1) lines)) (line_again s (n + 1) line taken.0 taken.1)
    ∙ userless taken.0 (n + 1) lines t taken.2 none
    ∙ ap (λ (k : ℕ). Err (BadScript k)) number

-- no first bad line is less than another
not_before : (text : List ℕ) (n m : ℕ) → IsFirstBad text n → IsFirstBad text m → m < n → ⊥
not_before text n m later sooner lt =
    let front = take (n - 1) (lines_of text) in
    let bound = later.close.1 in
    let whole : length front ≡ n - 1 = length-take-le (n - 1) (lines_of text) (omega arith) in
    let begun : take (n - 1) (lines_of later.some.0) ≡ front = subst (λ (k : ℕ). take k (lines_of later.some.0) ≡ front) whole later.some.2 in
    let le : m ≤ n - 1 = omega arith in
    let same : take m (lines_of later.some.0) ≡ take m (lines_of text) =
    sym (take-take m (n - 1) (lines_of later.some.0) le) ∙ ap (take m) begun
    ∙ take-take m (n - 1) (lines_of text) le in
    sooner.none (omega arith) later.some.0 later.some.1 same later.some.3

-- a text has at most one first bad line
one_first_bad : (text : List ℕ) (n m : ℕ) → IsFirstBad text n → IsFirstBad text m → m ≡ n
one_first_bad text n m a b =
    elim (cases_lt m n) [
      | inl lt ↦ absurd (not_before text n m a b lt)
      | inr le ↦ elim (cases_lt n m) [ inl lt ↦ absurd (not_before text m n b a lt) | inr ge ↦ omega arith ]
    ]

-- a first bad line after the last line is reported
bad_at_end : (text : List ℕ) (n : ℕ) → IsFirstBad text n → length (lines_of text) < n → reading text ≡ Err (BadScript n)
unfolding reading
bad_at_end text n bad past =
    let bound = bad.close.1 in
    let all : take (n - 1) (lines_of text) ≡ lines_of text = take_all (n - 1) (lines_of text) (omega arith) in
    let taken = subst (λ (lines : List (List ℕ)). TakesLines nothing_read 0 lines bad.before.0) all bad.before.1 in
    let number : 0 + length (lines_of text) + 1 ≡ n = omega arith in
    userless nothing_read 0 (lines_of text) bad.before.0 taken (bad.before.2 past) ∙ ap (λ (k : ℕ). Err (BadScript k)) number

-- a script has no first bad line among its lines
bad_in_script : (text : List ℕ) (n : ℕ) (script : ScriptModel) → IsFirstBad text n → IsScript text script → length (lines_of text) < n
bad_in_script text n script bad is =
    elim (cases_lt (length (lines_of text)) n) [ inl lt ↦ lt | inr le ↦ absurd (bad.none (omega arith) text script refl is) ]

-- a first bad line is reported
pub bad_again : (text : List ℕ) (n : ℕ) → IsFirstBad text n → reading text ≡ Err (BadScript n)
bad_again text n bad =
    elim (answered text) [
      | inl read ↦ bad_at_end text n bad (bad_in_script text n read.0 bad (found_from text read.0 read.1))
      | inr found ↦ found.1 ∙ ap (λ (k : ℕ). Err (BadScript k)) (one_first_bad text n found.0 bad (first_bad text found.0 found.1))
    ]

-- each text is a script or has a first bad line
pub script_or_bad : (text : List ℕ) → ((s : ScriptModel) × IsScript text s) ⊎ ((n : ℕ) × IsFirstBad text n)
script_or_bad text =
    elim (answered text) [
      | inl read ↦ inl (read.0, found_from text read.0 read.1)
      | inr found ↦ inr (found.0, first_bad text found.0 found.1)
    ]
