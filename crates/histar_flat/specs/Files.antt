-- Finite maps from paths, in the order of paths.
use Rattle.std.specs.Prelude.{Bool, T, List, [], ◌∷◌, Option}
use Rattle.std.specs.FinMap.{find, put, is_sorted}
use Rattle.std.specs.FinMap.Entries.{where_key, is_sorted-put, is_sorted-where_key}
use Rattle.histar_flat.specs.Words.{Path}
use Rattle.histar_base.specs.Paths.{path_cmp}
use Rattle.histar_base.proofs.PathLaws.{path_cmp_total}

-- entries whose paths rise
pub record Files (X : Type 0) : Type 0 where
  pub entries : List (Path × X)
  pub sorted : T (is_sorted path_cmp entries)

module _ {X : Type 0} where
  -- the map of no path
  abbrev pub empty : Files X
  empty = record { entries = []; sorted = tt }

  -- what is at the path q
  abbrev pub get : Files X → Path → Option X
  get m q = find path_cmp q m.entries

  -- the map with x at the path q, and all else as it was
  abbrev pub insert : Files X → Path → X → Files X
  insert m q x = record { entries = put path_cmp q x m.entries; sorted = is_sorted-put path_cmp path_cmp_total q x m.entries m.sorted }

  -- the map of the paths that pass the test
  abbrev pub keep : Files X → (Path → Bool) → Files X
  keep m test = record { entries = where_key path_cmp test m.entries; sorted = is_sorted-where_key path_cmp test m.entries m.sorted }

  -- the map of a list; of two entries at one path the first counts
  abbrev pub from_list : List (Path × X) → Files X
  from_list [] = empty
  from_list (e ∷ es) = insert (from_list es) e.0 e.1
