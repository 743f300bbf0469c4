-- What reading one line adds to what was read.
use Rattle.std.specs.Prelude.{◌≡◌, ℕ, Bool, true, false, List, [], ◌∷◌, ◌++◌, Option, None, Some, Result, Ok, Err}
use Rattle.histar_flat.specs.declared.calls.CallLine.{CallLine}
use Rattle.histar_script.specs.declared.fault.Fault.{Fault}
use Rattle.histar_script.specs.Script.{ScriptModel}
use Rattle.histar_script.specs.Reading.{with_line}
use Rattle.histar_raw_session.specs.declared.read_session.RawLine.{RawLine}
use Rattle.histar_raw_session.specs.Session.{SaysCall}
use Rattle.histar_mixed.specs.declared.items.Mark.{Mark}
use Rattle.histar_mixed.specs.declared.items.Mark.TheVariants.{Unix, Raw}
use Rattle.histar_mixed.specs.Mixed.{raw_part, IsBadRaw, IsLineFault}

-- a call on line n is added, or none
abbrev pub AddsCall : Bool → ℕ → List CallLine → List CallLine → Type 0
AddsCall false n old new = new ≡ old
AddsCall true n old new = (call : CallLine) × (call.line ≡ n) × (new ≡ old ++ call ∷ [])

-- the script after a line that has a call, or has none; or the line is bad
abbrev pub TakesUnix : ℕ → List ℕ → ScriptModel → ScriptModel → Result Bool Fault → Type 0
TakesUnix n line old new (Ok calls) = (with_line old n line ≡ Some new) × AddsCall calls n old.calls new.calls
TakesUnix n line old new (Err fault) = IsLineFault n (with_line old n line ≡ None) fault

-- the marks with one more of a Unix call, or as they were
abbrev pub marked : Bool → List Mark → List Mark
marked true marks = marks ++ Unix ∷ []
marked false marks = marks

-- a line of the script was read
pub record ReadsUnix (n : ℕ) (line : List ℕ) (old : ScriptModel) (marks : List Mark) (new : ScriptModel)
    (after : List Mark) : Type 0 where
  pub calls : Bool
  pub next : with_line old n line ≡ Some new
  pub adds : AddsCall calls n old.calls new.calls
  pub marks_too : after ≡ marked calls marks

-- a raw line was read
pub record ReadsRaw (n : ℕ) (text : List ℕ) (old : ScriptModel) (marks : List Mark) (new : ScriptModel)
    (after : List Mark) : Type 0 where
  pub asked : RawLine
  pub says : SaysCall n text asked
  pub same : new ≡ old
  pub marks_too : after ≡ marks ++ Raw asked ∷ []

-- what is read of a line of either kind
abbrev pub TakesPart : Option (List ℕ) → ℕ → List ℕ → ScriptModel → List Mark → ScriptModel → List Mark → Type 0
TakesPart None n line old marks new after = ReadsUnix n line old marks new after
TakesPart (Some text) n line old marks new after = ReadsRaw n text old marks new after

-- a line of either kind is bad
abbrev pub IsBadPart : Option (List ℕ) → ℕ → List ℕ → ScriptModel → Type 0
IsBadPart None n line old = with_line old n line ≡ None
IsBadPart (Some text) n line old = IsBadRaw text

-- a line of either kind was read, or is bad
abbrev pub TakesLine : ℕ → List ℕ → ScriptModel → List Mark → ScriptModel → List Mark → Result (Unit {0}) Fault → Type 0
TakesLine n line old marks new after (Ok done) = TakesPart (raw_part line) n line old marks new after
TakesLine n line old marks new after (Err fault) = IsLineFault n (IsBadPart (raw_part line) n line old) fault
