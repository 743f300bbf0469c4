-- The parts of an entry's bytes.
use Rattle.std.specs.Prelude.{ℕ}
use Rattle.histar_layout.specs.declared.entry.Target.{Target}
use Rattle.histar_layout.specs.declared.entry.Target.TheVariants.{File, Directory}

-- `f` for a file, and `d` for a directory
abbrev pub letter_of : Target → ℕ
letter_of (File file) = 102
letter_of (Directory container listing) = 100

-- the two numbers after the letter
abbrev pub numbers_of : Target → ℕ × ℕ
numbers_of (File file) = (file, 0)
numbers_of (Directory container listing) = (container, listing)
