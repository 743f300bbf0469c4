-- Who may take away what a call made, and who may write it.
use Rattle.std.specs.Prelude.{Bool, not, ◌&&◌, List, [], Option, None, Some, filter, if◌then◌else◌}
use Rattle.std.specs.List.{list_all}
use Rattle.histar_base.specs.Paths.{same}
use Rattle.histar_flat.specs.Words.{Name, Path}
use Rattle.histar_flat.specs.Accounts.{Accounts}
use Rattle.histar_flat.specs.FlatState.{Flat}
use Rattle.histar_rights.specs.Users.{somebody}
use Rattle.histar_cells.specs.ByUser.{user_rights_at}
use Rattle.histar_policy.specs.declared.notes.Event.{Event}
use Rattle.histar_policy.specs.declared.notes.Event.TheVariants.{Nothing, Made, Wrote}
use Rattle.histar_policy.specs.declared.takers.Creation.{Creation}

-- everyone may read what is at a path: nobody, and each user of the script
abbrev pub is_for_everyone : Accounts → Flat → Path → Bool
is_for_everyone accounts f q = list_all (λ user. (user_rights_at accounts f q user).read) (somebody accounts)

-- a user other than the maker may remove what is at a path
abbrev pub is_taker : Accounts → Flat → Name → Path → Name → Bool
is_taker accounts f maker q user = not (same user maker) && (user_rights_at accounts f q user).remove

-- those that may take away what is at a path: of nobody and each user of the script those that may remove it and did not make it
abbrev pub takers : Accounts → Flat → Name → Path → List Name
takers accounts f maker q = filter (is_taker accounts f maker q) (somebody accounts)

-- a user other than the maker may write what is at a path
abbrev pub is_writer : Accounts → Flat → Name → Path → Name → Bool
is_writer accounts f maker q user = not (same user maker) && (user_rights_at accounts f q user).write

-- those that may write what is at a path: of nobody and each user of the script those that may write it and did not make it
abbrev pub writers : Accounts → Flat → Name → Path → List Name
writers accounts f maker q = filter (is_writer accounts f maker q) (somebody accounts)

-- what this user made at a path: who may take it away, unless it is for everyone, and who may write it, if it is a file for a group
abbrev pub creation : Accounts → Flat → Path → Bool → Name → Creation
creation accounts f q shared maker = record {
  path = q;
  maker = maker;
  takers = if is_for_everyone accounts f q then [] else takers accounts f maker q;
  writers = if shared then writers accounts f maker q else [];
}

-- what is said of what this user made at a path, if the process that made it runs
abbrev pub made_event : Accounts → Flat → Path → Bool → Option Name → Event
made_event accounts f q shared None = Nothing
made_event accounts f q shared (Some maker) = Made (creation accounts f q shared maker)

-- what is said of a write to the file at a path, if the process of this user runs
abbrev pub wrote_event : Path → Option Name → Event
wrote_event q None = Nothing
wrote_event q (Some user) = Wrote user q
