-- The differences of two tables, line by line.
use Rattle.std.specs.Prelude.{List, Option}
use Rattle.std.specs.List.{filter_map, flat_map}
use Rattle.histar_flat.specs.Words.{Path}
use Rattle.histar_base.specs.Paths.{path_cmp}
use Rattle.histar_rights.specs.declared.rights.Rights.{Rights}
use Rattle.histar_diff.specs.declared.table.TableLine.{TableLine}
use Rattle.histar_diff.specs.declared.columns.Column.{Column}
use Rattle.histar_diff.specs.declared.differences.Difference.{Difference}
use Rattle.histar_diff.specs.Joining.{Joined, joined, new_of, old_of}
use Rattle.histar_diff.specs.Sides.{difference_of}
use Rattle.histar_diff.specs.Tables.{by_path, letters_at, place_of, user_at}

-- the difference of a process at a path with these rights in two tables, if both have the process and its letters differ
abbrev pub column_difference : Path → Option (List Rights) → Option (List Rights) → Column → Option Difference
column_difference q old new c =
    difference_of q c.process (letters_at old (place_of c.old)) (letters_at new (place_of c.new)) (user_at c.old) (user_at c.new)

-- the differences at a path
abbrev pub line_differences : List Column → Path → Option (List Rights) → Option (List Rights) → List Difference
line_differences columns q old new = filter_map (column_difference q old new) columns

-- the differences at a path of two tables
abbrev pub joined_differences : List Column → Path × Joined (List Rights) (List Rights) → List Difference
joined_differences columns e = line_differences columns e.0 (old_of e.1) (new_of e.1)

-- the differences at the paths of two lists of lines
abbrev pub lines_differences : List Column → List TableLine → List TableLine → List Difference
lines_differences columns old new = flat_map (joined_differences columns) (joined path_cmp (by_path old) (by_path new))
