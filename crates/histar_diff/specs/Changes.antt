-- What changed between two flat states: the processes that run in one only, and the letters of those that run in both.
use Rattle.std.specs.Prelude.{◌≡◌, ℕ, List, Option, Some}
use Rattle.histar_flat.specs.declared.calls.CallLine.{CallLine}
use Rattle.histar_flat.specs.Words.{Path, ProcName}
use Rattle.histar_flat.specs.Accounts.{Accounts}
use Rattle.histar_flat.specs.Files.{get}
use Rattle.histar_flat.specs.Classes.{Process}
use Rattle.histar_flat.specs.FlatState.{Flat, Node}
use Rattle.histar_flat.specs.FlatCalls.{running}
use Rattle.histar_flat.specs.Meaning.{boot, flat_end}
use Rattle.histar_rights.specs.declared.rights.Rights.{Rights}
use Rattle.histar_rights.specs.Laws.{LettersAre}
use Rattle.histar_diff.specs.declared.lone.Lone.{Lone}
use Rattle.histar_diff.specs.declared.differences.Difference.{Difference}
use Rattle.histar_diff.specs.Sides.{AreBetween}
use Rattle.histar_diff.specs.Shown.{flat_side}
use Rattle.histar_diff.specs.Tables.{no_rights}

-- these are exactly the processes that run in one of two flat states only, and the changes of those that run in both
abbrev pub AreChanges : Accounts → Flat → Accounts → Flat → List Lone → List Difference → Type 0
AreChanges accounts f later g lone cs = AreBetween (flat_side accounts f) (flat_side later g) lone cs

-- these letters are the answers of a process to the four questions at a path, after these calls of a script, whatever the number of the
-- line that asks, if the process runs and the path has a node; else there is no letter
abbrev pub AnswersAre : Accounts → List CallLine → ProcName → Path → Rights → Option Node → Option Process → Type 0
AnswersAre accounts calls me q letters (Some node) (Some process) = (number : ℕ) → LettersAre accounts calls me number q node letters
AnswersAre accounts calls me q letters _ _ = letters ≡ no_rights

-- the same, for the node and the process in the flat state after the calls
abbrev pub IsAnsweredBy : Accounts → List CallLine → ProcName → Path → Rights → Type 0
IsAnsweredBy accounts calls me q letters =
    AnswersAre accounts calls me q letters (get (flat_end accounts (boot accounts) calls).files q)
    (running (flat_end accounts (boot accounts) calls) me)

-- the same letters are the answers of a process at a path after each of two scripts
pub record IsAnsweredAlike (accounts : Accounts) (calls : List CallLine) (later : Accounts) (more : List CallLine) (me : ProcName)
    (q : Path) : Type 0 where
  pub letters : Rights
  pub before : IsAnsweredBy accounts calls me q letters
  pub after : IsAnsweredBy later more me q letters
