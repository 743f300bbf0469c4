-- What is found in a script: the sentence on its first bad line, or the warnings on a right one.
use Rattle.std.specs.Prelude.{◌≡◌, ℕ, ◌⊎◌, List, [], Option, Result, Ok, Err}
use Rattle.std.specs.Io.KnownBytes.{Appends, Keeps}
use Rattle.histar_io.specs.Writing.{AppendsFront}
use Rattle.histar_script.specs.declared.fault.Fault.{Fault}
use Rattle.histar_script.specs.declared.fault.Fault.TheVariants.{BadScript, TooLong, OutOfMemory, ReadFailed, WriteFailed}
use Rattle.histar_script.specs.Script.{ScriptModel}
use Rattle.histar_script.specs.Reading.{script_of}
use Rattle.histar_lint.specs.Session.{Writes}
use Rattle.histar_policy.specs.declared.session.Found.{Found}
use Rattle.histar_policy.specs.declared.session.Found.TheVariants.{Nothing, Warnings, BadLine}
use Rattle.histar_policy.specs.Notes.{notes_of}
use Rattle.histar_policy.specs.Warnings.{warnings_text}

-- the warnings on a script, by its meaning
abbrev pub policy_text : List ℕ → ScriptModel → List ℕ
policy_text file script = warnings_text file (notes_of script)

-- the text is a script, and its warnings were written as far as the predicate says
pub record Warned (written : List ℕ → Type 0) (file text : List ℕ) : Type 0 where
  pub script : ScriptModel
  pub is_read : script_of text ≡ Ok script
  pub appended : written (policy_text file script)

-- the text is a script without a warning
pub record IsClean (file text : List ℕ) : Type 0 where
  pub script : ScriptModel
  pub is_read : script_of text ≡ Ok script
  pub none : policy_text file script ≡ []

-- Of a right script the warnings are written, of a bad one what `lint` writes; one that is too long has that fault.
abbrev pub LintsPolicy : List ℕ → List ℕ → Option (List ℕ) → Option (List ℕ) → Result Found Fault → Type 0
LintsPolicy file text old new (Ok Nothing) = IsClean file text × Keeps old new
LintsPolicy file text old new (Ok Warnings) = Warned (Appends old new) file text
LintsPolicy file text old new (Ok BadLine) = Writes (Appends old new) file text
LintsPolicy file text old new (Err TooLong) = (script_of text ≡ Err TooLong) × Keeps old new
LintsPolicy file text old new (Err OutOfMemory) = Keeps old new
LintsPolicy file text old new (Err WriteFailed) =
    Warned (AppendsFront old new) file text ⊎ Writes (AppendsFront old new) file text
LintsPolicy file text old new (Err (BadScript n)) = ⊥
LintsPolicy file text old new (Err ReadFailed) = Keeps old new
