-- The finding of a raw session: none of a right one, and of a bad one its first bad line, with the sentence of the first broken rule.
use Rattle.std.specs.Prelude.{◌≡◌, ℕ, false, true, IsTrue, List, Option, Some, Result, Ok, Err, Bool}
use Rattle.std.specs.Io.KnownBytes.{Appends, Keeps}
use Rattle.histar_io.specs.Writing.{AppendsFront}
use Rattle.histar_script.specs.declared.fault.Fault.{Fault}
use Rattle.histar_script.specs.declared.fault.Fault.TheVariants.{BadScript, TooLong, OutOfMemory, ReadFailed, WriteFailed}
use Rattle.histar_script.specs.Lines.{is_too_long}
use Rattle.histar_raw_session.specs.declared.read_session.RawLine.{RawLine}
use Rattle.histar_raw_session.specs.Session.{IsFirstBadLine, IsSession}
use Rattle.histar_lint.specs.Session.{finding_text}
use Rattle.histar_raw_lint.specs.Rules.{sentence}

-- this is the first bad line of the text, and its number
abbrev pub IsFirstBad : List ℕ → ℕ → List ℕ → Type 0
IsFirstBad text n line = (first : IsFirstBadLine text n) × (first.line ≡ line)

-- this is the finding at line n: the lines before it are comments or contain calls, it is bad, and this is the first rule that it breaks
pub record IsFinding (text : List ℕ) (n : ℕ) (said : List ℕ) : Type 0 where
  pub line : List ℕ
  pub first : IsFirstBad text n line
  pub broken : sentence line ≡ Some said

-- the text is a raw session
abbrev pub IsRightSession : List ℕ → Type 0
IsRightSession text = (calls : List RawLine) × IsSession text calls

-- the text is not too long but bad, and the finding at its first bad line was written as far as `written` says
pub record Writes (written : List ℕ → Type 0) (file text : List ℕ) : Type 0 where
  pub short : is_too_long text ≡ false
  pub line : ℕ
  pub said : List ℕ
  pub found : IsFinding text line said
  pub appended : written (finding_text file line said)

-- For a right session the result is true, with no output; for a bad one it is false, with its finding; one that is too long has that fault.
abbrev pub LintsRaw :
    List ℕ → List ℕ → Option (List ℕ) → Option (List ℕ) → Result Bool Fault → Type 0
LintsRaw file text old new (Ok true) = IsRightSession text × Keeps old new
LintsRaw file text old new (Ok false) = Writes (Appends old new) file text
LintsRaw file text old new (Err TooLong) = IsTrue (is_too_long text) × Keeps old new
LintsRaw file text old new (Err OutOfMemory) = Keeps old new
LintsRaw file text old new (Err WriteFailed) = Writes (AppendsFront old new) file text
LintsRaw file text old new (Err (BadScript n)) = ⊥
LintsRaw file text old new (Err ReadFailed) = Keeps old new
