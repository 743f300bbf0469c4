-- The finding of a mixed session: of a bad one its first bad line, with the sentence of the first broken rule.
use Rattle.std.specs.Prelude.{◌≡◌, ℕ, ◌+◌, false, true, IsTrue, List, [], ◌∷◌}
use Rattle.std.specs.Prelude.{◌++◌, codes, length, map, Option, Some, Result, Ok, Err, Bool}
use Rattle.std.specs.Io.KnownBytes.{Appends, Keeps}
use Rattle.histar_flat.specs.Accounts.{Accounts}
use Rattle.histar_io.specs.Writing.{AppendsFront}
use Rattle.histar_script.specs.declared.fault.Fault.{Fault}
use Rattle.histar_script.specs.declared.fault.Fault.TheVariants.{BadScript, TooLong, OutOfMemory, ReadFailed, WriteFailed}
use Rattle.histar_script.specs.Lines.{is_too_long, lines_of}
use Rattle.histar_script.specs.Script.{ScriptModel, nothing_read}
use Rattle.histar_script.specs.Grammar.{TakesLines}
use Rattle.histar_lint.specs.Session.{finding_text}
use Rattle.histar_mixed.specs.declared.items.MixedItem.{MixedItem}
use Rattle.histar_mixed.specs.Mixed.{IsFirstBad, IsMixed, unix_line}
use Rattle.histar_attack_lint.specs.Rules.{mixed_sentence}

-- the sentence for the first of these lines, given the script of those above; if none is left, the text lacks a user
abbrev pub said_of : List (List ℕ) → ScriptModel → List (List ℕ) → Option (List ℕ)
said_of lines s [] = Some (codes "there is no user line")
said_of lines s (line ∷ after) = mixed_sentence lines s line

-- this is the finding at line n: it is the first bad line of the text, and this is the first rule that it breaks
pub record IsFinding (text : List ℕ) (n : ℕ) (said : List ℕ) : Type 0 where
  pub first : IsFirstBad text n
  pub before : List (List ℕ)
  pub rest : List (List ℕ)
  pub parts : lines_of text ≡ before ++ rest
  pub place : n ≡ length before + 1
  pub read : ScriptModel
  pub taken : TakesLines nothing_read 0 (map unix_line before) read
  pub broken : said_of (lines_of text) read rest ≡ Some said

-- the text is a mixed session
abbrev pub IsRightMixed : List ℕ → Type 0
IsRightMixed text = (accounts : Accounts) × (items : List MixedItem) × IsMixed text accounts items

-- the text is not too long but bad, and the finding at its first bad line was written as far as `written` says
pub record Writes (written : List ℕ → Type 0) (file text : List ℕ) : Type 0 where
  pub short : is_too_long text ≡ false
  pub line : ℕ
  pub said : List ℕ
  pub found : IsFinding text line said
  pub appended : written (finding_text file line said)

-- The result is true for a right session, and false for a bad one with its finding; one that is too long has that fault.
abbrev pub LintsMixed : List ℕ → List ℕ → Option (List ℕ) → Option (List ℕ) → Result Bool Fault → Type 0
LintsMixed file text old new (Ok true) = IsRightMixed text × Keeps old new
LintsMixed file text old new (Ok false) = Writes (Appends old new) file text
LintsMixed file text old new (Err TooLong) = IsTrue (is_too_long text) × Keeps old new
LintsMixed file text old new (Err OutOfMemory) = Keeps old new
LintsMixed file text old new (Err WriteFailed) = Writes (AppendsFront old new) file text
LintsMixed file text old new (Err (BadScript n)) = ⊥
LintsMixed file text old new (Err ReadFailed) = Keeps old new
