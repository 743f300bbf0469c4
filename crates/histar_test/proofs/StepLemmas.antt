-- The steps of lines, one line after another.
use Rattle.std.proofs.Common.{◌≡◌, ℕ, ◌+◌, ◌<◌, Bool, true, ltb, List, [], ◌∷◌, ◌++◌, length, Option, Some, None, Result, Ok, Err}
use Rattle.std.proofs.Common.{refl, sym, ap, ◌∙◌, append-nil, append_assoc, rules, tests}
use Rattle.histar_flat.specs.Accounts.{Accounts}
use Rattle.histar_script.specs.declared.fault.Fault.{Fault}
use Rattle.histar_script.specs.declared.fault.Fault.TheVariants.{BadScript, TooLong, OutOfMemory, ReadFailed, WriteFailed}
use Rattle.histar_script.specs.Lines.{is_too_long, lines_of, most_script_bytes}
use Rattle.histar_script.proofs.LineLemmas.{no_lines}
use Rattle.histar_test.specs.declared.steps.Reading.{Reading}
use Rattle.histar_test.specs.declared.steps.Step.{Step}
use Rattle.histar_test.specs.Steps.{AddsLine, GivesStep, TakesLine, open_after, step_of, step_then, steps_before, steps_by}
use Rattle.histar_test.specs.Steps.{steps_from}

-- the result of reading steps
abbrev pub Read : Type 0
Read = Result (List Step) ℕ

-- no steps in front of others
pub none_before : (read : Read) → steps_before [] read ≡ read
none_before (Ok steps) = refl
none_before (Err n) = refl

-- steps in front of steps that are in front of others
pub before_before : (front more : List Step) (read : Read) → steps_before front (steps_before more read) ≡ steps_before (front ++ more) read
before_before front more (Ok steps) = ap (λ (all : List Step). let read : Read = Ok all in read) (sym (append_assoc front more steps))
before_before front more (Err n) = refl

module _ (accounts : Accounts) (n : ℕ) (is_open : Bool) (line : List ℕ) (lines : List (List ℕ)) where
  -- the steps of the line and of those after it, by its own step
  pub by_step : (step : Result (Option Step) ℕ) → step_of accounts n line ≡ step
      → steps_from accounts n is_open (line ∷ lines) ≡ steps_by n is_open step (λ opened. steps_from accounts (n + 1) opened lines)
  unfolding steps_from
  by_step step is = ap (λ (s : Result (Option Step) ℕ). steps_by n is_open s (λ opened. steps_from accounts (n + 1) opened lines)) is

  -- the same, by whether a call is open after it
  pub by_open : (step : Step) (opened : Option Bool) → step_of accounts n line ≡ Ok (Some step) → open_after is_open step ≡ opened
      → steps_from accounts n is_open (line ∷ lines) ≡ step_then n step opened (λ o. steps_from accounts (n + 1) o lines)
  by_open step opened is may =
      by_step (Ok (Some step)) is ∙ ap (λ (o : Option Bool). step_then n step o (λ o. steps_from accounts (n + 1) o lines)) may

module _ (accounts : Accounts) (n : ℕ) (line : List ℕ) where
  -- a line without a step was taken
  pub nothing_added : (old : Reading) → step_of accounts n line ≡ Ok None → AddsLine accounts n line old old
  nothing_added old none = record {
    added = [];
    steps = sym (append-nil old.steps.items);
    goes_on = λ lines. by_step accounts n old.is_open line lines (Ok None) none ∙ sym (none_before (steps_from accounts (n + 1) old.is_open lines));
  }

  -- a line with a step was taken
  pub step_added : (old new : Reading) (step : Step) → step_of accounts n line ≡ Ok (Some step)
      → open_after old.is_open step ≡ Some new.is_open → new.steps.items ≡ old.steps.items ++ step ∷ [] → AddsLine accounts n line old new
  step_added old new step is may more = record {
    added = step ∷ [];
    steps = more;
    goes_on = λ lines. by_open accounts n old.is_open line lines step (Some new.is_open) is may;
  }

  -- a step that may not be there is refused
  pub step_refused : (is_open : Bool) (step : Step) → step_of accounts n line ≡ Ok (Some step) → open_after is_open step ≡ None
      → (lines : List (List ℕ)) → steps_from accounts n is_open (line ∷ lines) ≡ Err n
  step_refused is_open step is may lines = by_open accounts n is_open line lines step None is may

  -- a bad line is refused
  pub line_refused : (fault : Fault) → GivesStep n (Err fault) (step_of accounts n line) → (old new : Reading)
      → TakesLine accounts n line old new (Err fault)
  line_refused (BadScript k) bad old new = (bad.0, λ lines. by_step accounts n old.is_open line lines (Err n) bad.1)
  line_refused TooLong bad old new = absurd bad
  line_refused OutOfMemory bad old new = tt
  line_refused ReadFailed bad old new = absurd bad
  line_refused WriteFailed bad old new = absurd bad

-- the step of a line that was read is this one
pub read_as : {read : Result (Option Step) ℕ} {a b : Option Step} → read ≡ Ok a → a ≡ b → read ≡ Ok b
read_as is same = is ∙ ap (λ (o : Option Step). let read : Result (Option Step) ℕ = Ok o in read) same

-- The steps so far, in front of those of the rest of the lines, are all steps.
pub record IsSoFar (accounts : Accounts) (all : Read) (n : ℕ) (lines : List (List ℕ)) (reading : Reading) : Type 0 where
  pub so_far : all ≡ steps_before reading.steps.items (steps_from accounts n reading.is_open lines)

-- this holds after a line was taken
pub went_on : {accounts : Accounts} {all : Read} {n : ℕ} {line : List ℕ} {lines : List (List ℕ)} {old new : Reading}
    → (rest : List (List ℕ)) → lines ≡ line ∷ rest → IsSoFar accounts all n lines old → AddsLine accounts n line old new
    → IsSoFar accounts all (n + 1) rest new
went_on {accounts = accounts} {n = n} {old = old} {new = new} rest parts is adds =
    let front = old.steps.items in
    let later = steps_from accounts (n + 1) new.is_open rest in
    record {
      so_far =
          is.so_far ∙ ap (λ (l : List (List ℕ)). steps_before front (steps_from accounts n old.is_open l)) parts
          ∙ ap (steps_before front) (adds.goes_on rest)
          ∙ before_before front adds.added later ∙ ap (λ (steps : List Step). steps_before steps later) (sym adds.steps);
    }

-- at the end all steps were read
pub all_read : {accounts : Accounts} {all : Read} {n : ℕ} {reading : Reading} → (rest : List ℕ) → length rest ≡ 0
    → IsSoFar accounts all n (lines_of rest) reading → all ≡ Ok reading.steps.items
unfolding steps_from
all_read {accounts = accounts} {n = n} {reading = reading} rest none is =
    is.so_far
    ∙ ap (λ (lines : List (List ℕ)). steps_before reading.steps.items (steps_from accounts n reading.is_open lines)) (no_lines rest none)
    ∙ ap (λ (all : List Step). let read : Read = Ok all in read) (append-nil reading.steps.items)

-- ---- a whole text

-- a text of more bytes than a script may have is too long
too_long : (text : List ℕ) → most_script_bytes < length text → is_too_long text ≡ true
too_long text lt = let e : ltb most_script_bytes (length text) ≡ true = search (rules, tests) in rw e refl
