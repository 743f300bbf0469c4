-- In the explanations of a script each object and each category has its name: `object N` and `category N` are in none.
use Rattle.std.specs.Prelude.{◌≡◌, ◌≢◌, ℕ, true, List, [], ◌∷◌, length, Option, None, Some, is_some}
use Rattle.std.specs.List.{AllByRecursion}
use Rattle.histar_flat.specs.declared.calls.CallLine.{CallLine}
use Rattle.histar_flat.specs.Accounts.{Accounts}
use Rattle.histar_flat.specs.FlatState.{Flat}
use Rattle.histar_flat.specs.FlatCalls.{flat_after}
use Rattle.histar_flat.specs.Meaning.{boot}
use Rattle.histar_object.specs.State.{State}
use Rattle.histar_rules.specs.declared.raw.Denied.{Denied}
use Rattle.histar_trace.specs.declared.entries.TraceEntry.{TraceEntry}
use Rattle.histar_explain.specs.declared.explanations.Act.{Act}
use Rattle.histar_explain.specs.declared.explanations.Act.TheVariants as acts
use Rattle.histar_explain.specs.declared.explanations.Explanation.{Explanation}
use Rattle.histar_explain.specs.declared.explanations.Obstacle.TheVariants.{NotLinked}
use Rattle.histar_explain.specs.declared.reasons.Reason.{Reason}
use Rattle.histar_script.specs.Script.{ScriptModel}
use Rattle.histar_layout.specs.UserTable.{without_passwords}
use Rattle.histar_programs.specs.Start.{roots_of}
use Rattle.histar_refinement.specs.Categories.{CategoryName, IsUsed}
use Rattle.histar_raw_explain.specs.Texts.{Words}
use Rattle.histar_names.specs.Births.{Births, purpose_of}
use Rattle.histar_names.specs.Clues.{clue_of}
use Rattle.histar_names.specs.KnownBirths.{purpose_named}
use Rattle.histar_names.specs.Location.{location_of}
use Rattle.histar_run_explain.specs.Entries.{ExplainsOutcome, ExplainsEntries}
use Rattle.histar_run_explain.specs.Run.{ExplainsCallLines, ExplainsTrace, births_of, words_of}

-- the objects that an action names
abbrev pub objects_of : Act → List ℕ
objects_of (acts.Use q) = q ∷ []
objects_of (acts.Observe q) = q ∷ []
objects_of (acts.Modify q) = q ∷ []
objects_of (acts.Enter q) = q ∷ []
objects_of (acts.EnterWith q) = q ∷ []
objects_of (acts.Write q) = q ∷ []
objects_of act = []

-- in the state after a line the object has a location: `object N` isn't written for it
abbrev pub IsLocated : Accounts → State → CallLine → ℕ → Type 0
IsLocated accounts s asked q =
    is_some (location_of (without_passwords accounts) (roots_of (length accounts.users)) s (clue_of asked.process asked.call) q) ≡ true

-- by these births the category has a purpose: `category N` isn't written for it
abbrev pub HasPurpose : Accounts → Births → ℕ → Type 0
HasPurpose accounts births c = is_some (purpose_of (without_passwords accounts) births c) ≡ true

-- Each category that a reason lists has a purpose. Where neither label lists a category, the comparison doesn't fail.
pub record IsNamedReason (accounts : Accounts) (births : Births) (r : Reason) : Type 0 where
  pub listed : AllByRecursion (λ d. HasPurpose accounts births d.category) r.named.items
  pub elsewhere : r.elsewhere ≡ None

-- The object of an explanation has a location, and each category that its reasons list has a purpose. All categories of the call's labels
-- were made, and its obstacle is of no container, which would be named by its number.
pub record IsComplete (accounts : Accounts) (s : State) (asked : CallLine) (births : Births) (x : Explanation) : Type 0 where
  pub objects : AllByRecursion (IsLocated accounts s asked) (objects_of x.act)
  pub reasons : AllByRecursion (IsNamedReason accounts births) x.reasons.items
  pub made : x.unmade.items ≡ []
  pub linked : (d : ℕ) → x.obstacle ≢ Some (NotLinked d)

-- this holds of the explanation of an outcome, where the call was denied
abbrev pub OfOutcome : (Explanation → Type 0) → (words : Words) (s : State) (e : TraceEntry) (outcome : Option Denied) (lines : List ℕ)
    → ExplainsOutcome words s e outcome lines → Type 0
OfOutcome Holds words s e None lines explained = Unit {0}
OfOutcome Holds words s e (Some denied) lines explained = Holds explained.0

-- this holds of the explanation of each denied entry
abbrev pub OfEntries : (Explanation → Type 0) → (words : Words) (s : State) (entries : List TraceEntry) (text : List ℕ) (last : State)
    → ExplainsEntries words s entries text last → Type 0
OfEntries Holds words s [] text last explained = Unit {0}
OfEntries Holds words s (e ∷ entries) text last explained =
    OfOutcome Holds words s e e.denied explained.1 explained.3.explains
    × OfEntries Holds words explained.0 entries explained.2 last explained.5

-- along the lines of a script, each explanation is complete in the state after its line, with the births known then
abbrev pub CompleteAlong : (accounts : Accounts) (s : State) (f : Flat) (births : Births) (calls : List CallLine) (entries : List TraceEntry)
    (text : List ℕ) (end : State) → ExplainsCallLines accounts s f births calls entries text end → Type 0
CompleteAlong accounts s f births [] entries text end lines = Unit {0}
CompleteAlong accounts s f births (asked ∷ more) entries text end lines =
    let mid = lines.2 in
    let born = births_of accounts mid asked births in
    OfEntries (IsComplete accounts mid asked born) (words_of accounts mid asked born) s lines.0 lines.3 mid lines.8
    × CompleteAlong accounts mid (flat_after accounts f asked.process asked.call) born more lines.1 lines.4 end lines.9

-- Each explanation of a denied raw call of a script is complete.
abbrev pub ExplanationsAreComplete : Type 0
ExplanationsAreComplete =
    (script : ScriptModel) (trace : List TraceEntry) (text : List ℕ) (explains : ExplainsTrace script trace text)
    → CompleteAlong script.accounts explains.recorded.start (boot script.accounts) [] script.calls explains.recorded.of_lines text
    explains.recorded.end explains.refinements

-- No two categories that are used have one purpose.
abbrev pub PurposesDiffer : Type 0
PurposesDiffer =
    (accounts : Accounts) (f : Flat) (c d : CategoryName) → IsUsed accounts f c → IsUsed accounts f d
    → purpose_named accounts c ≡ purpose_named accounts d → c ≡ d
