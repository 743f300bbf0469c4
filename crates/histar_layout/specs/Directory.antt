-- The bytes of a directory segment.
use Rattle.std.specs.Prelude.{◌≡◌, ℕ, ◌<◌, ◌≤◌, ◌^◌, IsTrue, List, ◌∷◌, ◌++◌, length, Option, MatchOption}
use Rattle.std.specs.Int.{w64, to_be_bytes}
use Rattle.std.specs.List.{flat_map, AllByRecursion}
use Rattle.std.specs.Ordering.{nat_cmp}
use Rattle.std.specs.Cmp.Lexicographic.{slice_cmp}
use Rattle.std.specs.FinMap as map
use Rattle.histar_flat.specs.FlatCalls.{most_entries}
use Rattle.histar_flat.specs.Words.{Name, is_name}
use Rattle.histar_layout.specs.declared.entry.Target.{Target}
use Rattle.histar_layout.specs.declared.entry.Target.TheVariants.{File, Directory}

-- a directory: the target of each name, by rising names
abbrev pub Entries : Type 0
Entries = map.FinMap (slice_cmp nat_cmp) Target

-- `f`, the number of the file's segment, and 0; or `d`, the number of the container, and that of its directory segment
abbrev pub target_bytes : Target → List ℕ
target_bytes (File file) = 102 ∷ to_be_bytes w64 file ++ to_be_bytes w64 0
target_bytes (Directory container listing) = 100 ∷ to_be_bytes w64 container ++ to_be_bytes w64 listing

-- the length of the name, the name, and the target
abbrev pub entry_bytes : Name × Target → List ℕ
entry_bytes e = length e.0 ∷ e.0 ++ target_bytes e.1

-- the number of an object: it has 64 bits, and is not 0
abbrev pub IsNumber : ℕ → Type 0
IsNumber n = (0 < n) × (n < 2 ^ 64)

-- a target names objects by such numbers
abbrev pub IsTarget : Target → Type 0
IsTarget (File file) = IsNumber file
IsTarget (Directory container listing) = IsNumber container × IsNumber listing

-- a target leads to objects, none of which has the number 0
abbrev pub LeadsSomewhere : Target → Type 0
LeadsSomewhere (File file) = 0 < file
LeadsSomewhere (Directory container listing) = (0 < container) × (0 < listing)

-- an entry has a name, and leads somewhere
abbrev pub IsEntry : Name × Target → Type 0
IsEntry e = IsTrue (is_name e.0) × IsTarget e.1

-- a directory that fits a segment: each entry has a name and a target, and there are no more than 64
pub record IsListable (dir : Entries) : Type 0 where
  pub each : AllByRecursion IsEntry (map.entries dir)
  pub few : map.len dir ≤ most_entries

-- the one spelling of a directory: its entries by rising names, one after another
abbrev pub spelling : Entries → List ℕ
spelling dir = flat_map entry_bytes (map.entries dir)

-- the bytes are this directory
pub record IsDirectory (bytes : List ℕ) (dir : Entries) : Type 0 where
  pub listable : IsListable dir
  pub spelled : bytes ≡ spelling dir

-- the directory that was read is the one that the bytes are, and none was read exactly where they are none
abbrev pub ReadsDirectory : List ℕ → Option Entries → Type 0
ReadsDirectory bytes found = MatchOption found ((dir : Entries) → IsDirectory bytes dir → ⊥) (IsDirectory bytes)
