-- Reading the entry at the front of bytes, from left to right.
use Rattle.std.specs.Prelude.{◌≡◌, ℕ, not, ◌&&◌, ◌==◌, nat_le, List, [], ◌∷◌, length, take, drop, Option, Some, None, option_and_then, if◌then◌else◌}
use Rattle.std.specs.Int.{w64, from_be_bytes}
use Rattle.histar_flat.specs.Words.{Name, name_of}
use Rattle.histar_layout.specs.declared.entry.Target.{Target}
use Rattle.histar_layout.specs.declared.entry.Target.TheVariants.{File, Directory}

-- a step, and then the next one if the step gave a value
infixl 10 ◌>>=◌
abbrev pub ◌>>=◌ : {A B : Type 0} → Option A → (A → Option B) → Option B
o >>= f = option_and_then f o

-- the result of a function, mapped by view, is what reading gives
abbrev pub Gives : {X Y : Type 0} → (X → Y) → Option X → Option Y → Type 0
Gives view None read = read ≡ None
Gives view (Some x) read = read ≡ Some (view x)

-- the first n bytes and those after them, if there are that many
unfoldable pub front_at : ℕ → List ℕ → Option (List ℕ × List ℕ)
front_at n bytes = if nat_le n (length bytes) then Some (take n bytes, drop n bytes) else None

-- the number in the first 8 bytes, and the bytes after it
unfoldable pub number_at : List ℕ → Option (ℕ × List ℕ)
number_at bytes = do
  front ← front_at 8 bytes
  Some (from_be_bytes w64 front.0, front.1)

-- the target with this letter and these numbers
unfoldable pub target_of : ℕ → ℕ → ℕ → Option Target
target_of letter object listing =
    if object == 0 then None
    else (if letter == 102 && listing == 0 then Some (File object)
    else (if letter == 100 && not (listing == 0) then Some (Directory object listing) else None))

-- a letter and two numbers, as a target, and the bytes after them
unfoldable pub target_at : List ℕ → Option (Target × List ℕ)
target_at [] = None
target_at (letter ∷ bytes) = do
  object ← number_at bytes
  listing ← number_at object.1
  target ← target_of letter object.0 listing.0
  Some (target, listing.1)

-- a length, a name of that length and a target, as an entry, and the bytes after it
unfoldable pub entry_at : List ℕ → Option ((Name × Target) × List ℕ)
entry_at [] = None
entry_at (len ∷ bytes) = do
  text ← front_at len bytes
  name ← name_of text.0
  target ← target_at text.1
  Some ((name, target.0), target.1)
