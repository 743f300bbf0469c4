-- Along the lines of a script each category that is used has its name.
use Rattle.std.proofs.Common.{◌≡◌, ℕ, List, [], ◌∷◌, Some, ap, subst}
use Rattle.histar_flat.specs.declared.calls.CallLine.{CallLine}
use Rattle.histar_flat.specs.Accounts.{Accounts}
use Rattle.histar_flat.specs.FlatState.{Flat, IsTree}
use Rattle.histar_flat.specs.FlatCalls.{flat_after}
use Rattle.histar_flat.specs.Meaning.{boot}
use Rattle.histar_flat.proofs.Trees.{tree_after, tree_at_start}
use Rattle.histar_object.specs.State.{State}
use Rattle.histar_trace.specs.declared.entries.TraceEntry.{TraceEntry}
use Rattle.histar_layout.specs.UserTable.{without_passwords}
use Rattle.histar_refinement.specs.Represents.{Represents}
use Rattle.histar_names.specs.Births.{Births, purpose_of}
use Rattle.histar_names.specs.KnownBirths.{NamesBirths, purpose_named}
use Rattle.histar_names.specs.NamedWords.{category_text}
use Rattle.histar_names.proofs.NamedCategories.{purposes_are_right}
use Rattle.histar_names.proofs.KnownNames.{births_are_kept, births_at_start, categories_are_named, represented_at_start}
use Rattle.histar_shell.proofs.Counters.{run_counts}
use Rattle.histar_run_explain.specs.Run.{ExplainsCallLines, births_of, words_of}
use Rattle.histar_run_explain.specs.Laws.{NamedAlong, NamesUsed, UsedCategoriesAreNamed}

-- what was noted names what is used
used_named : (accounts : Accounts) (s : State) (f : Flat) (asked : CallLine) (births : Births) (known : NamesBirths births accounts s f)
    → NamesUsed accounts s f known.represents.matched (words_of accounts s asked births)
used_named accounts s f asked births known name used =
    let c = known.represents.matched.category name in
    let named : purpose_of (without_passwords accounts) births c ≡ Some (purpose_named accounts name) =
    categories_are_named births accounts s f known name used in
    let said = ap (category_text (without_passwords accounts) c) named in
    (said, said)

named_along : (accounts : Accounts) (s : State) (f : Flat) (births : Births) (calls : List CallLine) (entries : List TraceEntry)
    (text : List ℕ) (end : State) (lines : ExplainsCallLines accounts s f births calls entries text end) → IsTree f
    → (known : NamesBirths births accounts s f) → NamedAlong accounts s f births calls entries text end lines known.represents
named_along accounts s f births [] entries text end lines tree known = tt
named_along accounts s f births (asked ∷ more) entries text end lines tree known =
    let mid = lines.2 in
    let g = flat_after accounts f asked.process asked.call in
    let born = births_of accounts mid asked births in
    let still = lines.7.keeps known.represents in
    let up = (run_counts s lines.0 mid lines.7.line.run).categories in
    let kept = births_are_kept births accounts s mid f tree known asked.process asked.call still up in
    let named = used_named accounts mid g asked born kept.0 in
    let later = named_along accounts mid g born more lines.1 lines.4 end lines.9 (tree_after f tree accounts asked.process asked.call) kept.0 in (
      still,
      subst (λ (r : Represents accounts mid g). NamesUsed accounts mid g r.matched (words_of accounts mid asked born)) kept.1 named,
      λ c purpose new noted. purposes_are_right accounts mid g still.represents.matched asked.process births c purpose new noted,
      subst (NamedAlong accounts mid g born more lines.1 lines.4 end lines.9) kept.1 later,
    )

pub used_categories_are_named : UsedCategoriesAreNamed
used_categories_are_named script trace text explains =
    let recorded = explains.recorded in
    let known = births_at_start script.accounts recorded.start recorded.boot_represents in
    let along =
    named_along script.accounts recorded.start (boot script.accounts) [] script.calls recorded.of_lines text recorded.end
    explains.refinements (tree_at_start script.accounts) known in
    subst (NamedAlong script.accounts recorded.start (boot script.accounts) [] script.calls recorded.of_lines text recorded.end explains.refinements)
    (represented_at_start script.accounts recorded.start recorded.boot_represents) along
