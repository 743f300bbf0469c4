-- Where the entry of a name lies in the bytes of a directory.
use Rattle.std.specs.Prelude.{◌≡◌, ℕ, ◌≤◌, List, ◌∷◌, ◌++◌, length, take, drop}
use Rattle.std.specs.List.{flat_map}
use Rattle.std.specs.FinMap as map
use Rattle.histar_flat.specs.Words.{Name}
use Rattle.histar_layout.specs.Directory.{Entries, entry_bytes}
use Rattle.histar_layout.specs.declared.entry.Target.{Target}

-- The bytes before the span are those of some entries, and the bytes after it those of others. With an entry of the name between them they
-- are the directory with this entry, and without it the directory without the name.
pub record IsSpan (bytes : List ℕ) (dir : Entries) (name : Name) (start end : ℕ) : Type 0 where
  pub before : List (Name × Target)
  pub after : List (Name × Target)
  pub rises : start ≤ end
  pub within : end ≤ length bytes
  pub front : take start bytes ≡ flat_map entry_bytes before
  pub rest : drop end bytes ≡ flat_map entry_bytes after
  pub made : (target : Target) → map.entries (map.insert dir name target) ≡ before ++ (name, target) ∷ after
  pub taken : map.entries (map.remove dir name) ≡ before ++ after
