-- Paths kept in an array, whose unused places hold a fixed name.
use Rattle.std.specs.Prelude.{ℕ, IsTrue, List, take, codes}
use Rattle.std.specs.List.{list_all}
use Rattle.histar_base.specs.Padding.{IsPadded}
use Rattle.histar_flat.specs.Words.{most_names, is_name}

-- the name in the unused places of a path
abbrev pub unused_name : List ℕ
unused_name = codes "-"

-- the array holds a path of this many names: it is padded, and each of them is a name
pub record HoldsPath (names : List (List ℕ)) (len : ℕ) : Type 0 where
  pub padded : IsPadded most_names unused_name names len
  pub named : IsTrue (list_all is_name (take len names))
