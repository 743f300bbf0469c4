-- The raw session that a text is, and its bad lines.
use Rattle.std.specs.Prelude.{◌≡◌, ℕ, ◌+◌, ◌⊎◌, ◌&&◌, Bool, true, false, ◌==◌, IsTrue, List, [], ◌∷◌, ◌++◌, length}
use Rattle.histar_rules.specs.declared.raw.RawCall.{RawCall}
use Rattle.histar_script.specs.declared.fault.Fault.{Fault}
use Rattle.histar_script.specs.declared.fault.Fault.TheVariants.{BadScript, TooLong, OutOfMemory, ReadFailed, WriteFailed}
use Rattle.histar_script.specs.Lines.{lines_of, is_plain, is_too_long}
use Rattle.histar_rawtext.specs.Readable.{IsCallLine}
use Rattle.histar_raw_session.specs.declared.read_session.RawLine.{RawLine}

-- a comment: an empty line, or one of printable bytes that begins with `#`
abbrev pub is_comment : List ℕ → Bool
is_comment [] = true
is_comment (b ∷ bs) = b == 35 && is_plain (b ∷ bs)

-- line n contains this call: it is no comment, is short enough and printable, and is the raw call line of the call
pub record SaysCall (n : ℕ) (line : List ℕ) (asked : RawLine) : Type 0 where
  pub no_comment : is_comment line ≡ false
  pub plain : IsTrue (is_plain line)
  pub call : IsCallLine line asked.thread asked.call
  pub number : asked.line ≡ n

-- the line is bad: it is no comment, and contains no call
pub record IsBadLine (line : List ℕ) : Type 0 where
  pub no_comment : is_comment line ≡ false
  pub no_call : (thread : ℕ) (call : RawCall) → IsTrue (is_plain line) → IsCallLine line thread call → ⊥

-- the lines after the first n are comments or contain these calls, one after another
abbrev pub SayCalls : ℕ → List (List ℕ) → List RawLine → Type 0
SayCalls n [] calls = calls ≡ []
SayCalls n (line ∷ lines) calls =
    (IsTrue (is_comment line) × SayCalls (n + 1) lines calls)
    ⊎ ((asked : RawLine) × (more : List RawLine) × (calls ≡ asked ∷ more) × SaysCall (n + 1) line asked × SayCalls (n + 1) lines more)

-- line n is the first bad one: those before it are comments or contain calls
pub record IsFirstBadLine (text : List ℕ) (n : ℕ) : Type 0 where
  pub before : List (List ℕ)
  pub line : List ℕ
  pub after : List (List ℕ)
  pub parts : lines_of text ≡ before ++ line ∷ after
  pub place : n ≡ length before + 1
  pub calls : List RawLine
  pub right : SayCalls 0 before calls
  pub bad : IsBadLine line

-- the text is the raw session of these calls
abbrev pub IsSession : List ℕ → List RawLine → Type 0
IsSession text calls = (is_too_long text ≡ false) × SayCalls 0 (lines_of text) calls

-- the fault is a bad line of this kind, or out of memory
abbrev pub IsBadLineOf : (ℕ → Type 0) → Fault → Type 0
IsBadLineOf IsBad (BadScript n) = IsBad n
IsBadLineOf IsBad TooLong = ⊥
IsBadLineOf IsBad OutOfMemory = Unit {0}
IsBadLineOf IsBad ReadFailed = ⊥
IsBadLineOf IsBad WriteFailed = ⊥

-- the fault is the text's: too many bytes or lines, or otherwise its first bad line; or memory ran out
abbrev pub IsFaultOf : List ℕ → Fault → Type 0
IsFaultOf text TooLong = IsTrue (is_too_long text)
IsFaultOf text fault = (is_too_long text ≡ false) × IsBadLineOf (IsFirstBadLine text) fault
