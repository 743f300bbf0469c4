-- What sets of names and of writes know of a script, and what is written by them.
use Rattle.std.specs.Prelude.{◌≡◌, ℕ, List, ◌++◌, Option}
use Rattle.histar_flat.specs.Accounts.{has}
use Rattle.histar_flat.specs.Words.{ProcName}
use Rattle.histar_policy.specs.declared.names.Names.{Names}
use Rattle.histar_policy.specs.declared.notes.Event.{Event}
use Rattle.histar_policy.specs.declared.notes.Note.{Note}
use Rattle.histar_policy.specs.declared.warnings.Known.{Known}
use Rattle.histar_policy.specs.Names.{AreNames}
use Rattle.histar_policy.specs.Warnings.{is_used, sentence_on, warning_lines, writing_sentence_on}
use Rattle.histar_policy.specs.Writes.{AreWrites}

-- a set has a job exactly where a call line is of a process of it
abbrev pub AreUsed : Names → List Note → Type 0
AreUsed set script = (job : ProcName) → has set.members.keys job ≡ is_used script job

-- the sets are those of a script and of the processes that were started so far
pub record Knows (known : Known) (script : List Note) (started : List ProcName) : Type 0 where
  pub begun : AreNames known.started started
  pub used : AreUsed known.used script
  pub written : AreWrites known.written script

-- the sentence on what a call line says, by sets
abbrev pub IsSentence : Known → ProcName → Event → Option (List ℕ) → Type 0
IsSentence known me event said =
    (script : List Note) (started : List ProcName) → Knows known script started
    → said ≡ sentence_on script started me event

-- the sentence on who may write what a call line made, by sets
abbrev pub IsWritingSentence : Known → Event → Option (List ℕ) → Type 0
IsWritingSentence known event said =
    (script : List Note) (started : List ProcName) → Knows known script started → said ≡ writing_sentence_on script event

-- the warnings on a call line were added to a text, by sets
abbrev pub Warns : Known → List ℕ → Note → List ℕ → List ℕ → Type 0
Warns known file note old new =
    (script : List Note) (started : List ProcName) → Knows known script started
    → new ≡ old ++ warning_lines file script started note
