-- What the rules amount to.
use Rattle.std.specs.Prelude.{◌≡◌, ℕ, true, List, Option, None, Some, is_some}
use Rattle.histar_script.specs.Script.{ScriptModel}
use Rattle.histar_script.specs.Reading.{with_line}
use Rattle.histar_raw_session.specs.declared.read_session.RawLine.{RawLine}
use Rattle.histar_raw_session.specs.Session.{SaysCall}
use Rattle.histar_mixed.specs.Mixed.{raw_part}
use Rattle.histar_mixed.specs.Taking.{IsBadPart}
use Rattle.histar_attack_lint.specs.Rules.{mixed_sentence}

-- each line that `attack` calls bad breaks a rule
abbrev pub EachBadMixedLineBreaksOne : Type 0
EachBadMixedLineBreaksOne = (lines : List (List ℕ)) (s : ScriptModel) (n : ℕ) (line : List ℕ)
    → IsBadPart (raw_part line) n line s → is_some (mixed_sentence lines s line) ≡ true

-- a line of either kind is right: it can be taken into the script, or contains a raw call
abbrev pub IsRightPart : Option (List ℕ) → ℕ → List ℕ → ScriptModel → Type 0
IsRightPart None n line s = (t : ScriptModel) × (with_line s n line ≡ Some t)
IsRightPart (Some text) n line s = (asked : RawLine) × SaysCall n text asked

-- no right line breaks a rule
abbrev pub NoRightMixedLineBreaksOne : Type 0
NoRightMixedLineBreaksOne = (lines : List (List ℕ)) (s : ScriptModel) (n : ℕ) (line : List ℕ)
    → IsRightPart (raw_part line) n line s → mixed_sentence lines s line ≡ None
