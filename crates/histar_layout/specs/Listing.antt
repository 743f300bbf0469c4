-- What a listing of a directory shows.
use Rattle.std.specs.Prelude.{ℕ, Bool, true, false, List, map}
use Rattle.std.specs.FinMap as finite
use Rattle.histar_flat.specs.Words.{Name}
use Rattle.histar_layout.specs.Directory.{Entries}
use Rattle.histar_layout.specs.declared.entry.Target.{Target}
use Rattle.histar_layout.specs.declared.entry.Target.TheVariants.{File, Directory}

-- the target is a directory
abbrev pub is_directory : Target → Bool
is_directory (File file) = false
is_directory (Directory container listing) = true

-- the object of the target: a file's segment, or a directory's container
abbrev pub object_of : Target → ℕ
object_of (File file) = file
object_of (Directory container listing) = container

-- the name of an entry, and whether it is a directory
abbrev pub shown_entry : Name × Target → Name × Bool
shown_entry e = (e.0, is_directory e.1)

-- the names of a directory's entries, by rising names, each with whether it is a directory
abbrev pub names_in : Entries → List (Name × Bool)
names_in dir = map shown_entry (finite.entries dir)
