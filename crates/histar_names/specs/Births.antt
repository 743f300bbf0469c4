-- What each category was made for, noted as the calls of a script are made.
use Rattle.std.specs.Prelude.{ℕ, zero, suc, ◌+◌, ◌-◌, nat_lt, List, [], ◌∷◌, ◌++◌}
use Rattle.std.specs.Prelude.{length, Option, None, Some, slice_get, if◌then◌else◌}
use Rattle.histar_flat.specs.Words.{ProcName, most_numbers}
use Rattle.histar_flat.specs.Accounts.{Accounts}
use Rattle.histar_object.specs.State.{State}
use Rattle.histar_layout.specs.Reading.{◌>>=◌}
use Rattle.histar_programs.specs.declared.roots.Home.{Home}
use Rattle.histar_programs.specs.declared.roots.Roots.{Roots}
use Rattle.histar_programs.specs.Caller.{home_at, status_at}
use Rattle.histar_programs.specs.Start.{declared}
use Rattle.histar_names.specs.declared.purposes.Purpose.{Purpose}
use Rattle.histar_names.specs.Purposes.{boot_purpose, or_else, purpose_by}

-- for each category, in the order of their numbers, what it was made for, if that is known
abbrev pub Births : Type 0
Births = List (Option Purpose)

-- the child of a process that has the number, if a name has room for one number more
abbrev pub child_of : ProcName → ℕ → Option ProcName
child_of me n = if nat_lt (length me) most_numbers then Some (n ∷ me) else None

-- the last child that was born to a process
abbrev pub last_child : State → Home → ProcName → Option ProcName
last_child s first me = do
  home ← home_at s first me
  status ← status_at s home.segment
  child_of me status.born

-- what a category is for, if it is one of this process's
abbrev pub born_with : State → Home → Option ProcName → ℕ → Option Purpose
born_with s first child c = do
  born ← child
  purpose_by s first c born

-- what each of so many categories is for, from this number on
abbrev pub births_from : (ℕ → Option Purpose) → ℕ → ℕ → Births
births_from purpose c zero = []
births_from purpose c (suc n) = purpose c ∷ births_from purpose (c + 1) n

-- The births once a process has made a call: each category that is new is for what it is at the last child that was born to that process.
abbrev pub births_after : State → Roots → ProcName → Births → Births
births_after s roots me births =
    births ++ births_from (born_with s roots.home (last_child s roots.home me)) (length births) (s.next_category - length births)

-- what was noted of a category
abbrev pub noted : Births → ℕ → Option Purpose
noted births c = do
  birth ← slice_get births c
  birth

-- What a category is for: boot's are known by their numbers, and of others it was noted when they were made.
abbrev pub purpose_of : Accounts → Births → ℕ → Option Purpose
purpose_of accounts births c = or_else (boot_purpose (declared accounts) c) (noted births c)
