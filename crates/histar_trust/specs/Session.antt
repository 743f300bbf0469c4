-- The text that is written of a script: that of its flat state for one path before a line, or that of all files after all calls.
use Rattle.std.specs.Prelude.{◌≡◌, ℕ, List, Option, Result, Ok, MatchResult}
use Rattle.std.specs.Io.KnownBytes.{Appends, Keeps}
use Rattle.histar_io.specs.Writing.{AppendsFront}
use Rattle.histar_flat.specs.Words.{Path}
use Rattle.histar_script.specs.Script.{ScriptModel}
use Rattle.histar_script.specs.Reading.{script_of}
use Rattle.histar_script.specs.declared.fault.Fault.{Fault}
use Rattle.histar_script.specs.declared.fault.Fault.TheVariants.{WriteFailed}
use Rattle.histar_shell.specs.Outcome.{AgreesWith}
use Rattle.histar_prefix.specs.Prefix.{state_before}
use Rattle.histar_trust.specs.declared.session.TrustOptions.{TrustOptions}
use Rattle.histar_trust.specs.FlowsText.{flows_before}
use Rattle.histar_trust.specs.Secrets.{secrets_after}
use Rattle.histar_trust.specs.TrustText.{trust_text}

module _ (text_of : ScriptModel → List ℕ) (old new : Option (List ℕ)) where
  -- the text was read as a script, and the script's text was written
  pub record WritesText (read : Result ScriptModel Fault) : Type 0 where
    pub script : ScriptModel
    pub is_read : read ≡ Ok script
    pub written : Appends old new (text_of script)

  -- the text was read as a script, and a beginning of the script's text was written
  pub record BeginsText (read : Result ScriptModel Fault) : Type 0 where
    pub script : ScriptModel
    pub is_read : read ≡ Ok script
    pub written : AppendsFront old new (text_of script)

  -- at a failed write a beginning of the text was written, and at other faults nothing
  abbrev pub WritesAtFault : Result ScriptModel Fault → Fault → Type 0
  WritesAtFault read WriteFailed = BeginsText read
  WritesAtFault read fault = Keeps old new

-- A text was read as a script: its fault is returned, or exactly the text of the script was written.
pub record WritesOf (text_of : ScriptModel → List ℕ) (text : List ℕ) (old new : Option (List ℕ)) (result : Result (Unit {0}) Fault) : Type 0 where
  pub faults : AgreesWith (script_of text) result
  pub writes : MatchResult result (λ _. WritesText text_of old new (script_of text)) (WritesAtFault text_of old new (script_of text))

-- the text of the flat state of a script before the line of the options, for a path, with reasons if they ask for these
abbrev pub text_before : TrustOptions → Path → ScriptModel → List ℕ
text_before options path script = trust_text script.accounts (state_before options.at script) options.why path

-- The text was read as a script: its fault is returned, or exactly the text of its state for a path was written.
abbrev pub TrustText : TrustOptions → Path → List ℕ → Option (List ℕ) → Option (List ℕ) → Result (Unit {0}) Fault → Type 0
TrustText options path = WritesOf (text_before options path)

-- The text was read as a script: its fault is returned, or exactly the text on the files after all its calls was written.
abbrev pub SecretsText : List ℕ → Option (List ℕ) → Option (List ℕ) → Result (Unit {0}) Fault → Type 0
SecretsText = WritesOf secrets_after

-- The text was read as a script: its fault is returned, or exactly the text on the flows of its state before a line was written.
abbrev pub FlowsText : Option ℕ → List ℕ → Option (List ℕ) → Option (List ℕ) → Result (Unit {0}) Fault → Type 0
FlowsText at = WritesOf (flows_before at)
