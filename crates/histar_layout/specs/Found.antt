-- Looking up a name in bytes, from the front.
use Rattle.std.specs.Prelude.{ℕ, zero, suc, ◌+◌, ◌-◌, List, [], ◌∷◌, length, drop, slice_range, Option, Some, None, if◌then◌else◌}
use Rattle.histar_flat.specs.Words.{Name}
use Rattle.histar_base.specs.Paths.{same}
use Rattle.histar_layout.specs.Reading.{◌>>=◌, front_at, target_at}
use Rattle.histar_layout.specs.declared.entry.Target.{Target}

-- the number of bytes of a target: a letter and two numbers
abbrev pub target_length : ℕ
target_length = 17

-- a length, that many bytes of a name and the bytes of a target, and the bytes after them
unfoldable pub slot_at : List ℕ → Option ((List ℕ × List ℕ) × List ℕ)
slot_at [] = None
slot_at (len ∷ bytes) = do
  text ← front_at len bytes
  target ← front_at target_length text.1
  Some ((text.0, target.0), target.1)

-- an entry between two positions: its name, the bytes of its target, and the bytes after it
abbrev pub entry_between : List ℕ → ℕ → ℕ → (List ℕ × List ℕ) × List ℕ
entry_between bytes start end =
    ((slice_range bytes (start + 1) (end - target_length), slice_range bytes (end - target_length) end), drop end bytes)

-- the target that these bytes spell
unfoldable pub target_from : List ℕ → Option Target
target_from bytes = do
  target ← target_at bytes
  Some target.0

-- the target of the first entry of this name among this many at the front; none where the bytes end or break off before it
unfoldable pub found_among : ℕ → List ℕ → Name → Option Target
found_among zero bytes name = None
found_among (suc most) bytes name = do
  slot ← slot_at bytes
  if same name slot.0.0 then target_from slot.0.1 else found_among most slot.1 name

-- the target of the first entry of this name in the bytes, which have more bytes than entries
unfoldable pub found_in : List ℕ → Name → Option Target
found_in bytes name = found_among (length bytes) bytes name
