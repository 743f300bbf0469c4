-- The lines of a source, one after another.
use Rattle.std.specs.Prelude.{◌≡◌, ℕ, ◌⊎◌, Bool, true, false, ◌==◌}
use Rattle.std.specs.Prelude.{List, [], ◌∷◌, ◌++◌, Option, None, Some, MatchOption}
use Rattle.std.specs.List.{list_any}
use Rattle.std.specs.Io.KnownBytes.{Consumes, IsAtEnd}
use Rattle.histar_flat.specs.Words.{split_at_first}
use Rattle.histar_script.specs.declared.fault.Fault.{Fault}
use Rattle.histar_script.specs.declared.fault.Fault.TheVariants.{OutOfMemory, ReadFailed}
use Rattle.histar_script.specs.Lines.{lines_of}
use Rattle.histar_dialogue.specs.declared.input.Input.{Input}
use Rattle.std.specs.Global.{Vec}

-- the text has a line end
abbrev pub has_feed : List ℕ → Bool
has_feed text = list_any (λ b. b == 10) text

-- nothing was read, and the source has not ended
abbrev pub IsEmptyInput : Input → Type 0
IsEmptyInput input = (input.waiting.items ≡ []) × (input.is_ended ≡ false)

-- These lines are the first ones of what was taken, and these bytes wait behind them: whatever more is taken comes behind what waits, and
-- nothing more is where the source has ended.
abbrev pub WaitsBehind : Bool → List ℕ → List (List ℕ) → List ℕ → Type 0
WaitsBehind false taken done waiting = (more : List ℕ) → lines_of (taken ++ more) ≡ done ++ lines_of (waiting ++ more)
WaitsBehind true taken done waiting = lines_of taken ≡ done ++ lines_of waiting

-- some bytes were taken from the front of the source
abbrev pub Pulls : Option (List ℕ) → Option (List ℕ) → Type 0
Pulls left rest = (taken : List ℕ) × Consumes left rest taken

-- a read failed or memory ran out, and some bytes were taken
abbrev pub FailsReading : Option (List ℕ) → Option (List ℕ) → Fault → Type 0
FailsReading left rest OutOfMemory = Pulls left rest
FailsReading left rest ReadFailed = Pulls left rest
FailsReading left rest fault = ⊥

-- Some bytes were taken, and wait behind the others. Then a whole line waits, or the source has ended; and it is at its end where that was
-- found now.
pub record Fills (left rest : Option (List ℕ)) (old new : Input) : Type 0 where
  pub taken : List ℕ
  pub consumed : Consumes left rest taken
  pub waits : new.waiting.items ≡ old.waiting.items ++ taken
  pub ready : (new.is_ended ≡ true) ⊎ (has_feed new.waiting.items ≡ true)
  pub ended : new.is_ended ≡ true → (old.is_ended ≡ true) ⊎ IsAtEnd rest
  pub still : old.is_ended ≡ true → (taken ≡ []) × (new.is_ended ≡ true) × (rest ≡ left)

-- the parts of a text before and behind its first line end, if it has one
abbrev pub SplitsLine : List ℕ → List ℕ → List ℕ → Type 0
SplitsLine text line rest =
    (split_at_first 10 text ≡ (line, Some rest)) ⊎ ((split_at_first 10 text ≡ (line, None)) × (rest ≡ []))

-- the first line was taken off what waits, or nothing waits
abbrev pub TakesLine : Input → Input → Option (Vec ℕ) → Type 0
TakesLine old new line =
    (new.is_ended ≡ old.is_ended)
    × MatchOption line ((old.waiting.items ≡ []) × (new ≡ old))
    (λ line. SplitsLine old.waiting.items line.items new.waiting.items × (old.waiting.items ≡ [] → ⊥))

-- whatever lines came before, the next one is this line, or there is none
abbrev pub ComesNext : List ℕ → Input → Input → Option (Vec ℕ) → Type 0
ComesNext taken old new line =
    (before : List ℕ) (done : List (List ℕ)) → WaitsBehind old.is_ended before done old.waiting.items
    → MatchOption line (lines_of (before ++ taken) ≡ done)
    (λ line. WaitsBehind new.is_ended (before ++ taken) (done ++ line.items ∷ []) new.waiting.items)

-- Some bytes were taken. The next line is that of what waited and of these; and where the source has ended, it is at its end.
pub record TakesNext (left rest : Option (List ℕ)) (old new : Input) (line : Option (Vec ℕ)) : Type 0 where
  pub taken : List ℕ
  pub consumed : Consumes left rest taken
  pub next : ComesNext taken old new line
  pub ended : (old.is_ended ≡ true → IsAtEnd left) → new.is_ended ≡ true → IsAtEnd rest
  pub last : MatchOption line (new.is_ended ≡ true) (λ _. Unit {0})
