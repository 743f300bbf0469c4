-- What the differences of two tables mean.
use Rattle.std.specs.Prelude.{◌≡◌, ℕ, Bool, false, List, [], Option, None, Some, is_some, unwrap_or, refl}
use Rattle.std.proofs.lemmas.Bool.{true≢false}
use Rattle.histar_flat.specs.Words.{Path, ProcName}
use Rattle.histar_rights.specs.declared.rights.Rights.{Rights}
use Rattle.histar_diff.specs.declared.columns.Placed.{Placed}
use Rattle.histar_diff.specs.declared.table.Table.{Table}
use Rattle.histar_diff.specs.Differences.{table_side}
use Rattle.histar_diff.specs.Laws.{DifferencesAreListed, DifferencesAreOneList, GainsOfTablesAreListed, LoneOfTablesAreListed, NewOfTablesAreListed}
use Rattle.histar_diff.specs.Laws.{NoneIsTheSame}
use Rattle.histar_diff.specs.Sides.{letters}
use Rattle.histar_diff.specs.Tables.{letters_at, no_rights, place_of, process_in, rights_at, rights_in, row_in, user_at}
use Rattle.histar_diff.proofs.Sides.{Held, gain_listed, lone_listed, new_listed, nothing_listed, one_list, pair_listed, same_letters_of}
use Rattle.histar_diff.proofs.Sides.{same_processes}

-- a process of a table
abbrev has : Table → ProcName → Bool
has t p = is_some (process_in t p)

-- a table without a path has no rights there
no_place : (o : Option ℕ) → no_rights ≡ rights_at [] o
no_place None = refl
no_place (Some n) = refl

placed_user : (o : Option Placed) → is_some (user_at o) ≡ is_some o
placed_user None = refl
placed_user (Some at) = refl

-- the letters of a table are its rights
letters_held : (row : Option (List Rights)) (place : Option ℕ) → letters (letters_at row place) ≡ rights_at (unwrap_or row []) place
letters_held None place = no_place place
letters_held (Some row) place = refl

-- a process that a table lacks has no rights in it
blank : (t : Table) (q : Path) (p : ProcName) → has t p ≡ false → rights_in t q p ≡ no_rights
blank t q p e = by (process_in t p) e
  where
    by : (o : Option Placed) → is_some o ≡ false → rights_at (unwrap_or (row_in t q) []) (place_of o) ≡ no_rights
    by None e = refl
    by (Some at) e = absurd (true≢false e)

-- a table, as laws name its parts
abbrev held : Table → Held
held t = record {
  side = table_side t;
  runs = has t;
  rights = rights_in t;
  user = λ p. placed_user (process_in t p);
  letters = λ q p. letters_held (row_in t q) (place_of (process_in t p));
  blank = blank t;
}

pub differences_are_listed : DifferencesAreListed
differences_are_listed old new lone ds are q p = pair_listed (held old) (held new) lone ds are q p

pub lone_of_tables_are_listed : LoneOfTablesAreListed
lone_of_tables_are_listed old new lone ds are p = lone_listed (held old) (held new) lone ds are p

pub none_is_the_same : NoneIsTheSame
none_is_the_same old new = (
  λ none. record {
    processes = same_processes (held old) (held new) none;
    rights = same_letters_of (held old) (held new) none;
  },
  λ alike. nothing_listed (held old) (held new) alike.processes alike.rights,
)

pub differences_are_one_list : DifferencesAreOneList
differences_are_one_list old new lone others ds es a b = one_list (table_side old) (table_side new) lone others ds es a b

pub gains_of_tables_are_listed : GainsOfTablesAreListed
gains_of_tables_are_listed old new lone ds are q p = gain_listed (held old) (held new) lone ds are q p

pub new_of_tables_are_listed : NewOfTablesAreListed
new_of_tables_are_listed old new lone ds are p = new_listed (held old) (held new) lone ds are p
