-- Tables of rights: which processes run, and what each may do at each path.
use Rattle.std.specs.Prelude.{ℕ, ◌+◌, false, T, List, [], ◌∷◌, map, Option, None, Some, option_map, unwrap_or, slice_index_or}
use Rattle.std.specs.FinMap.{find, is_sorted}
use Rattle.histar_flat.specs.Words.{Name, Path, ProcName}
use Rattle.histar_base.specs.Paths.{path_cmp}
use Rattle.histar_rights.specs.declared.rights.Rights.{Rights}
use Rattle.histar_rights.specs.Running.{process_cmp}
use Rattle.histar_diff.specs.declared.columns.Placed.{Placed}
use Rattle.histar_diff.specs.declared.table.Runner.{Runner}
use Rattle.histar_diff.specs.declared.table.TableLine.{TableLine}
use Rattle.histar_diff.specs.declared.table.Table.{Table}

-- no right
abbrev pub no_rights : Rights
no_rights = record { stat = false; read = false; write = false; remove = false }

-- processes as entries by their names, with their places from this one on
abbrev pub by_process : ℕ → List Runner → List (ProcName × Placed)
by_process from [] = []
by_process from (r ∷ rs) = (r.process, record { place = from; user = r.user }) ∷ by_process (from + 1) rs

-- the lines as entries by their paths
abbrev pub by_path : List TableLine → List (Path × List Rights)
by_path lines = map (λ l. (l.path, l.rights.items)) lines

-- the paths of a table rise, and so do its processes, each at most once
pub record IsTable (t : Table) : Type 0 where
  pub paths : T (is_sorted path_cmp (by_path t.lines.items))
  pub processes : T (is_sorted process_cmp (by_process 0 t.processes.items))

-- the place of a process in a table, and its user
abbrev pub process_in : Table → ProcName → Option Placed
process_in t p = find process_cmp p (by_process 0 t.processes.items)

-- the user at a place
abbrev pub user_at : Option Placed → Option Name
user_at o = option_map (λ (at : Placed). at.user) o

-- the place itself
abbrev pub place_of : Option Placed → Option ℕ
place_of o = option_map (λ (at : Placed). at.place) o

-- the rights of the processes of a table at a path, if it has the path
abbrev pub row_in : Table → Path → Option (List Rights)
row_in t q = find path_cmp q (by_path t.lines.items)

-- the rights at this place of the list; none without a place
abbrev pub rights_at : List Rights → Option ℕ → Rights
rights_at rights None = no_rights
rights_at rights (Some place) = slice_index_or rights place no_rights

-- the rights of a process at a path; none if the table lacks the path or the process
abbrev pub rights_in : Table → Path → ProcName → Rights
rights_in t q p = rights_at (unwrap_or (row_in t q) []) (place_of (process_in t p))

-- the rights at this place of the list, if there is a list
abbrev pub letters_at : Option (List Rights) → Option ℕ → Option Rights
letters_at row place = option_map (λ rights. rights_at rights place) row

-- the rights of a process at a path, if the table has the path
abbrev pub letters_in : Table → Path → ProcName → Option Rights
letters_in t q p = letters_at (row_in t q) (place_of (process_in t p))
