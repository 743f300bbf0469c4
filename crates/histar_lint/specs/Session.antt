-- The finding on a script: nothing for a right one, and for a bad one its first bad line, with the sentence of the first rule that it
-- breaks.
use Rattle.std.specs.Prelude.{◌≡◌, ℕ, ◌-◌, true, false, List, [], ◌∷◌, ◌++◌, codes, decimal, drop, take, Option, Some, Result, Ok, Err, IsOk, Bool}
use Rattle.std.specs.Io.KnownBytes.{Appends, Keeps}
use Rattle.histar_io.specs.Writing.{AppendsFront}
use Rattle.histar_script.specs.declared.fault.Fault.{Fault}
use Rattle.histar_script.specs.declared.fault.Fault.TheVariants.{BadScript, TooLong, OutOfMemory, ReadFailed, WriteFailed}
use Rattle.histar_script.specs.Lines.{lines_of}
use Rattle.histar_script.specs.Script.{ScriptModel, nothing_read}
use Rattle.histar_script.specs.Grammar.{TakesLines}
use Rattle.histar_script.specs.Reading.{script_of}
use Rattle.histar_lint.specs.Rules.{sentence}

-- the sentence for the first bad line of the rest of a text with these lines, given the script of the lines above; if nothing is left, the
-- text lacks a user
abbrev pub said_of : List (List ℕ) → ScriptModel → List (List ℕ) → Option (List ℕ)
said_of lines s [] = Some (codes "there is no user line")
said_of lines s (line ∷ after) = sentence lines s line

-- this sentence is for line n: the lines before it are right, and it breaks the rule
pub record IsFinding (text : List ℕ) (n : ℕ) (said : List ℕ) : Type 0 where
  pub read : ScriptModel
  pub before : TakesLines nothing_read 0 (take (n - 1) (lines_of text)) read
  pub broken : said_of (lines_of text) read (drop (n - 1) (lines_of text)) ≡ Some said

-- memory ran out
abbrev pub IsMemory : Fault → Type 0
IsMemory fault = fault ≡ OutOfMemory

-- the file, the number of the line, and its sentence
abbrev pub finding_text : List ℕ → ℕ → List ℕ → List ℕ
finding_text file n said = file ++ codes ":" ++ decimal n ++ codes ": " ++ said ++ codes "\n"

-- the text is a bad script at a line; its finding is made, and then written as far as the predicate says
pub record Writes (written : List ℕ → Type 0) (file text : List ℕ) : Type 0 where
  pub line : ℕ
  pub bad : script_of text ≡ Err (BadScript line)
  pub said : List ℕ
  pub found : IsFinding text line said
  pub appended : written (finding_text file line said)

-- For a right script the result is true, with nothing written; for a bad one false, with its finding; and one that is too long has that
-- fault.
abbrev pub Lints : List ℕ → List ℕ → Option (List ℕ) → Option (List ℕ) → Result Bool Fault → Type 0
Lints file text old new (Ok true) = IsOk (script_of text) × Keeps old new
Lints file text old new (Ok false) = Writes (Appends old new) file text
Lints file text old new (Err TooLong) = (script_of text ≡ Err TooLong) × Keeps old new
Lints file text old new (Err OutOfMemory) = Keeps old new
Lints file text old new (Err WriteFailed) = Writes (AppendsFront old new) file text
Lints file text old new (Err (BadScript n)) = ⊥
Lints file text old new (Err ReadFailed) = Keeps old new
