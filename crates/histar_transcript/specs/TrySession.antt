-- What trying calls behind the lines of a script returns and writes.
use Rattle.std.specs.Prelude.{◌≡◌, ℕ, ◌-◌, ◌⊎◌, List, Option, Result, Ok, Err, IsOk}
use Rattle.std.specs.Io.KnownBytes.{Appends, Keeps}
use Rattle.histar_io.specs.Writing.{AppendsFront}
use Rattle.histar_script.specs.declared.fault.Fault.{Fault}
use Rattle.histar_script.specs.declared.fault.Fault.TheVariants.{BadScript, OutOfMemory, ReadFailed, TooLong}
use Rattle.histar_script.specs.declared.fault.Fault.TheVariants.{WriteFailed}
use Rattle.histar_script.specs.Lines.{lines_of}
use Rattle.histar_script.specs.Script.{ScriptModel}
use Rattle.histar_script.specs.Reading.{script_of}
use Rattle.histar_lint.specs.Session.{IsFinding}
use Rattle.histar_transcript.specs.declared.try_session.Tried.{Tried}
use Rattle.histar_transcript.specs.declared.try_session.Tried.TheVariants.{Made, BadCall}
use Rattle.histar_transcript.specs.Extended.{extended_text, kept_lines}
use Rattle.histar_transcript.specs.Tried.{tried_text}

module _ (extended : List ℕ) (first : ℕ) where
  -- The extended text is a script, and the replies of its meaning to the lines behind the first ones were written as
  -- far as the predicate says.
  pub record AnswersTried (Writes : List ℕ → Type 0) : Type 0 where
    pub script : ScriptModel
    pub is_read : script_of extended ≡ Ok script
    pub written : Writes (tried_text first (lines_of extended) script)

  -- The first bad line of the extended text is the one of this number behind the first ones, and breaks the rule of
  -- this sentence.
  pub record RefusesCall (number : ℕ) (sentence : List ℕ) : Type 0 where
    pub line : ℕ
    pub bad : script_of extended ≡ Err (BadScript line)
    pub found : IsFinding extended line sentence
    pub place : number ≡ line - first

  -- The replies to the lines behind the first ones are written, or the bad line is returned with its sentence.
  abbrev pub TriesExtended : Option (List ℕ) → Option (List ℕ) → Result Tried Fault → Type 0
  TriesExtended old new (Ok Made) = AnswersTried (Appends old new)
  TriesExtended old new (Ok (BadCall number sentence)) = RefusesCall number sentence.items × Keeps old new
  TriesExtended old new (Err WriteFailed) = AnswersTried (AppendsFront old new)
  TriesExtended old new (Err OutOfMemory) = Keeps old new
  TriesExtended old new (Err ReadFailed) = Keeps old new
  TriesExtended old new (Err TooLong) = (script_of extended ≡ Err TooLong) × Keeps old new
  TriesExtended old new (Err (BadScript n)) = ⊥

-- The fault of a script is returned, and nothing is written. Else the script with the calls behind the lines that are
-- kept is tried.
abbrev pub Tries : Option ℕ → List (List ℕ) → List ℕ → Option (List ℕ) → Option (List ℕ) → Result Tried Fault
    → Type 0
Tries at calls text old new (Ok tried) =
    IsOk (script_of text)
    × TriesExtended (extended_text at calls text) (kept_lines at (lines_of text)) old new (Ok tried)
Tries at calls text old new (Err WriteFailed) =
    IsOk (script_of text)
    × TriesExtended (extended_text at calls text) (kept_lines at (lines_of text)) old new (Err WriteFailed)
Tries at calls text old new (Err (BadScript n)) = (script_of text ≡ Err (BadScript n)) × Keeps old new
Tries at calls text old new (Err TooLong) =
    ((script_of text ≡ Err TooLong)
    ⊎ (IsOk (script_of text) × (script_of (extended_text at calls text) ≡ Err TooLong)))
    × Keeps old new
Tries at calls text old new (Err OutOfMemory) = Keeps old new
Tries at calls text old new (Err ReadFailed) = Keeps old new
