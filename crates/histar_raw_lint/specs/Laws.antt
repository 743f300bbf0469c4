-- What the rules amount to.
use Rattle.std.specs.Prelude.{◌≡◌, ℕ, true, List, None, is_some}
use Rattle.histar_raw_session.specs.declared.read_session.RawLine.{RawLine}
use Rattle.histar_raw_session.specs.Session.{IsBadLine, SaysCall}
use Rattle.histar_raw_lint.specs.Rules.{sentence}

-- each bad line breaks a rule
abbrev pub EachBadRawLineBreaksOne : Type 0
EachBadRawLineBreaksOne = (line : List ℕ) → IsBadLine line → is_some (sentence line) ≡ true

-- no line that contains a call breaks a rule
abbrev pub NoRightRawLineBreaksOne : Type 0
NoRightRawLineBreaksOne =
    (n : ℕ) (line : List ℕ) (asked : RawLine) → SaysCall n line asked → sentence line ≡ None
