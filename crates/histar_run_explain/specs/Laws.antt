-- The explained trace is the one that `run` returns, and each category that is used has its name.
use Rattle.std.specs.Prelude.{◌≡◌, ℕ, ◌≤◌, List, [], ◌∷◌, length, Option, Some, Ok}
use Rattle.histar_flat.specs.declared.calls.CallLine.{CallLine}
use Rattle.histar_flat.specs.Accounts.{Accounts}
use Rattle.histar_flat.specs.FlatState.{Flat}
use Rattle.histar_flat.specs.FlatCalls.{flat_after}
use Rattle.histar_flat.specs.Meaning.{boot}
use Rattle.histar_object.specs.State.{State}
use Rattle.histar_script.specs.Script.{ScriptModel}
use Rattle.histar_layout.specs.UserTable.{without_passwords}
use Rattle.histar_refinement.specs.Categories.{CategoryName, IsUsed}
use Rattle.histar_refinement.specs.KeptNames.{RepresentsStill}
use Rattle.histar_refinement.specs.Represents.{ObjectsMatch, Represents}
use Rattle.histar_raw_explain.specs.Texts.{Words}
use Rattle.histar_names.specs.Births.{Births, purpose_of}
use Rattle.histar_names.specs.KnownBirths.{purpose_named}
use Rattle.histar_names.specs.Laws.{IsPurposeOf}
use Rattle.histar_names.specs.Purposes.{purpose_text}
use Rattle.histar_names.specs.declared.purposes.Purpose.{Purpose}
use Rattle.histar_trace.specs.declared.entries.TraceEntry.{TraceEntry}
use Rattle.histar_shell.specs.Run.{RunsText}
use Rattle.histar_shell.specs.declared.session.Options.{Options}
use Rattle.histar_run_explain.specs.Run.{ExplainsCallLines, ExplainsText, ExplainsTrace, births_of, words_of}

-- where a text is run, and run and explained, whatever else is asked for and wherever it is written, both have one trace
abbrev pub ExplainsTheTrace : Type 0
ExplainsTheTrace = (running explaining : Options) (text : List ℕ) (old new before after : Option (List ℕ)) (trace : List TraceEntry)
    → RunsText running text old new (Ok trace) → (explained : ExplainsText explaining text before after (Ok tt))
    → explained.writes.explained.trace ≡ trace

-- each category that is used has, in these words, the name of what it is for
abbrev pub NamesUsed : (accounts : Accounts) (s : State) (f : Flat) → ObjectsMatch accounts s f → Words → Type 0
NamesUsed accounts s f l words =
    (name : CategoryName) → IsUsed accounts f name
    → (words.category (l.category name) ≡ purpose_text (without_passwords accounts) (purpose_named accounts name))
    × (words.listed (l.category name) ≡ purpose_text (without_passwords accounts) (purpose_named accounts name))

-- what the new births note of a category that the old ones don't have is the purpose of that category, and it is used
abbrev pub NewNamesAreRight : (accounts : Accounts) (s : State) (f : Flat) → ObjectsMatch accounts s f → Births → Births → Type 0
NewNamesAreRight accounts s f l old new =
    (c : ℕ) (purpose : Purpose) → length old ≤ c → purpose_of (without_passwords accounts) new c ≡ Some purpose
    → (name : CategoryName) × (l.category name ≡ c) × IsUsed accounts f name × IsPurposeOf accounts f name purpose

-- After each line, under names that keep their numbers, each category that is used has its name in what explains the line, and what was
-- noted at the line is right.
abbrev pub NamedAlong : (accounts : Accounts) (s : State) (f : Flat) (births : Births) (calls : List CallLine) (entries : List TraceEntry)
    (text : List ℕ) (end : State) → ExplainsCallLines accounts s f births calls entries text end → Represents accounts s f → Type 0
NamedAlong accounts s f births [] entries text end lines old = Unit {0}
NamedAlong accounts s f births (asked ∷ more) entries text end lines old =
    let mid = lines.2 in
    let born = births_of accounts mid asked births in
    let g = flat_after accounts f asked.process asked.call in
    (still : RepresentsStill old mid g)
    × NamesUsed accounts mid g still.represents.matched (words_of accounts mid asked born)
    × NewNamesAreRight accounts mid g still.represents.matched births born
    × NamedAlong accounts mid g born more lines.1 lines.4 end lines.9 still.represents

-- Along the lines of a script, each category that is used has the name of what it is for: also that of a job whose processes are gone. And each
-- name was right when it was noted.
abbrev pub UsedCategoriesAreNamed : Type 0
UsedCategoriesAreNamed =
    (script : ScriptModel) (trace : List TraceEntry) (text : List ℕ) (explains : ExplainsTrace script trace text)
    → NamedAlong script.accounts explains.recorded.start (boot script.accounts) [] script.calls explains.recorded.of_lines text
    explains.recorded.end explains.refinements explains.recorded.boot_represents
