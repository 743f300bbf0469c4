-- The directory that bytes spell.
use Rattle.std.specs.Prelude.{ℕ, zero, suc, List, [], ◌∷◌, length, Some, None}
use Rattle.std.specs.FinMap as map
use Rattle.histar_flat.specs.Words.{Name}
use Rattle.histar_layout.specs.Directory.{Entries}
use Rattle.histar_layout.specs.Reading.{entry_at}
use Rattle.histar_layout.specs.declared.entry.Target.{Target}

-- the entries at the front of bytes, at most this many
unfoldable pub entries_among : ℕ → List ℕ → List (Name × Target)
entries_among zero bytes = []
entries_among (suc most) bytes = elim (entry_at bytes) [
  | None ↦ []
  | Some found ↦ found.0 ∷ entries_among most found.1
]

-- the directory of the entries at the front of bytes, which have more bytes than entries
unfoldable pub entries_of : List ℕ → Entries
entries_of bytes = map.from_entries (entries_among (length bytes) bytes)
