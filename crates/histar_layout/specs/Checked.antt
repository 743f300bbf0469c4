-- The answers about bytes that may be no directory.
use Rattle.std.specs.Prelude.{◌≡◌, ℕ, List, Option, Result, Ok, Err}
use Rattle.std.specs.FinMap as map
use Rattle.histar_flat.specs.Words.{Name}
use Rattle.histar_layout.specs.Directory.{Entries, IsDirectory}
use Rattle.histar_layout.specs.declared.entry.Target.{Target}
use Rattle.histar_layout.specs.declared.checked.NotADirectory.{NotADirectory}

-- the answer says whether the bytes are a directory
abbrev pub IsChecked : List ℕ → Result (Unit {0}) NotADirectory → Type 0
IsChecked bytes (Ok done) = (dir : Entries) × IsDirectory bytes dir
IsChecked bytes (Err fault) = (dir : Entries) → IsDirectory bytes dir → ⊥

-- the answer is the target of a name in the directory that the bytes are, or says that they are none
abbrev pub IsLookedUp : List ℕ → Name → Result (Option Target) NotADirectory → Type 0
IsLookedUp bytes name (Ok found) = (dir : Entries) × IsDirectory bytes dir × (found ≡ map.get dir name)
IsLookedUp bytes name (Err fault) = (dir : Entries) → IsDirectory bytes dir → ⊥
