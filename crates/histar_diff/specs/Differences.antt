-- The differences of two tables.
use Rattle.std.specs.Prelude.{List}
use Rattle.histar_diff.specs.declared.lone.Lone.{Lone}
use Rattle.histar_diff.specs.declared.table.Table.{Table}
use Rattle.histar_diff.specs.declared.differences.Difference.{Difference}
use Rattle.histar_diff.specs.Sides.{AreBetween, Side}
use Rattle.histar_diff.specs.Tables.{letters_in, process_in, user_at}

-- a table as a side: the users of its processes, and their rights at its paths
abbrev pub table_side : Table → Side
table_side t = record { user = λ p. user_at (process_in t p); letters = letters_in t }

-- these are exactly the processes that one of two tables lacks, and the differences of the others
abbrev pub AreDifferences : Table → Table → List Lone → List Difference → Type 0
AreDifferences old new lone ds = AreBetween (table_side old) (table_side new) lone ds
