-- What holds of the scripts that are compared.
use Rattle.std.specs.Prelude.{◌≡◌, ℕ, T, List, Ok}
use Rattle.std.specs.FinMap.{is_sorted}
use Rattle.histar_diff.specs.UserLaws.{by_place, placed_cmp}
use Rattle.histar_access.specs.declared.changes.DiffOptions.{DiffOptions}
use Rattle.histar_access.specs.Diff.{Scripts, scripts_of, user_changes_of}

-- the changes for users between two scripts rise by paths, and at each path by the places of users in the old script
abbrev pub UserChangesOfScriptsRise : Type 0
UserChangesOfScriptsRise =
    (options : DiffOptions) (a b : List ℕ) (scripts : Scripts) → scripts_of a b ≡ Ok scripts
    → T (is_sorted placed_cmp (by_place scripts.0.accounts (user_changes_of options scripts)))
