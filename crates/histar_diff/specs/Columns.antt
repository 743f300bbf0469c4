-- The processes of two tables, each with its place in each that has it.
use Rattle.std.specs.Prelude.{ℕ, List, [], ◌∷◌, map, Option, None, Some, if◌then◌else◌}
use Rattle.std.specs.Ordering.{eq_by_cmp}
use Rattle.std.specs.FinMap.Entries.{by_order}
use Rattle.histar_flat.specs.Words.{ProcName}
use Rattle.histar_rights.specs.Running.{process_cmp}
use Rattle.histar_diff.specs.declared.table.Runner.{Runner}
use Rattle.histar_diff.specs.declared.columns.Column.{Column}
use Rattle.histar_diff.specs.declared.columns.Placed.{Placed}
use Rattle.histar_diff.specs.declared.lone.Lone.{Lone}
use Rattle.histar_diff.specs.Joining.{Joined, old_of, new_of, joined}
use Rattle.histar_diff.specs.Sides.{lone_of}
use Rattle.histar_diff.specs.Tables.{by_process, user_at}

-- a process of two tables, and its places
abbrev pub column : ProcName × Joined Placed Placed → Column
column e = record { process = e.0; old = old_of e.1; new = new_of e.1 }

-- the columns of the processes of two lists, from these places on
abbrev pub columns_from : ℕ → List Runner → ℕ → List Runner → List Column
columns_from i old j new = map column (joined process_cmp (by_process i old) (by_process j new))

-- the process that comes first in two lists
abbrev pub leading : List Runner → List Runner → Option ProcName
leading [] [] = None
leading [] (y ∷ ys) = Some y.process
leading (x ∷ xs) [] = Some x.process
leading (x ∷ xs) (y ∷ ys) = Some (by_order (process_cmp x.process y.process) x.process x.process y.process)

-- this place and the user of the process, if the list begins with it
abbrev pub place_at : ℕ → ProcName → List Runner → Option Placed
place_at i p [] = None
place_at i p (r ∷ rs) = if eq_by_cmp process_cmp p r.process then Some (record { place = i; user = r.user }) else None

-- the list after a process, if it begins with it
abbrev pub past_process : ProcName → List Runner → List Runner
past_process p [] = []
past_process p (r ∷ rs) = if eq_by_cmp process_cmp p r.process then rs else r ∷ rs

-- the process, if one of the tables lacks it
abbrev pub lone_at : Column → Option Lone
lone_at c = lone_of c.process (user_at c.old) (user_at c.new)
