-- What the rules guarantee.
use Rattle.std.specs.Prelude.{◌≡◌, ℕ, true, List, None, Some, is_some}
use Rattle.histar_script.specs.Script.{ScriptModel}
use Rattle.histar_script.specs.Reading.{with_line}
use Rattle.histar_lint.specs.Rules.{sentence}

-- each bad line breaks a rule
abbrev pub EachBadLineBreaksOne : Type 0
EachBadLineBreaksOne =
    (lines : List (List ℕ)) (s : ScriptModel) (n : ℕ) (line : List ℕ)
    → with_line s n line ≡ None → is_some (sentence lines s line) ≡ true

-- no right line breaks a rule
abbrev pub NoRightLineBreaksOne : Type 0
NoRightLineBreaksOne =
    (lines : List (List ℕ)) (s : ScriptModel) (n : ℕ) (line : List ℕ) (t : ScriptModel)
    → with_line s n line ≡ Some t → sentence lines s line ≡ None
