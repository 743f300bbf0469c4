-- The positions of the nodes of a drawing: processes in one column, and files in another.
use Rattle.std.specs.Prelude.{◌≢◌, ℕ, ◌+◌, ◌*◌, ◌≤◌, ◌⊎◌, nat_lt, if◌then◌else◌}

-- how far down the process of an index is drawn
abbrev pub process_top : ℕ → ℕ
process_top index = 24 + 44 * index

-- how far down the file of an index is drawn
abbrev pub file_top : ℕ → ℕ
file_top index = 24 + 32 * index

-- half of a node's height
abbrev pub half_height : ℕ
half_height = 13

-- the height of a drawing with this many processes and files
abbrev pub drawn_height : ℕ → ℕ → ℕ
drawn_height processes files = 24 + (if nat_lt (44 * processes) (32 * files) then 32 * files else 44 * processes)

-- a rectangle
pub record Box : Type 0 where
  pub left : ℕ
  pub width : ℕ
  pub top : ℕ
  pub height : ℕ

-- the node of a process
abbrev pub process_box : ℕ → Box
process_box index = record { left = 8; width = 200; top = process_top index; height = 26 }

-- the node of a file
abbrev pub file_box : ℕ → Box
file_box index = record { left = 520; width = 400; top = file_top index; height = 26 }

-- the band of a job around a process
abbrev pub process_band : ℕ → Box
process_band index = record { left = 0; width = 216; top = 15 + 44 * index; height = 44 }

-- the band of a job around a file
abbrev pub file_band : ℕ → Box
file_band index = record { left = 512; width = 416; top = 21 + 32 * index; height = 32 }

-- the two rectangles do not overlap
abbrev pub AreApart : Box → Box → Type 0
AreApart a b = (a.left + a.width ≤ b.left) ⊎ (b.left + b.width ≤ a.left) ⊎ (a.top + a.height ≤ b.top) ⊎ (b.top + b.height ≤ a.top)

-- No two nodes overlap, and no band overlaps a node but its own.
pub record NodesAreApart : Type 0 where
  pub processes : (i j : ℕ) → i ≢ j → AreApart (process_box i) (process_box j)
  pub files : (i j : ℕ) → i ≢ j → AreApart (file_box i) (file_box j)
  pub columns : (i j : ℕ) → AreApart (process_box i) (file_box j)
  pub process_bands : (i j : ℕ) → i ≢ j → AreApart (process_band i) (process_box j)
  pub file_bands : (i j : ℕ) → i ≢ j → AreApart (file_band i) (file_box j)
  pub band_columns : (i j : ℕ) → AreApart (process_band i) (file_box j) × AreApart (process_box i) (file_band j)
