-- Ways: the classes of what is at a path and of each directory above it, and which processes reach what is there.
use Rattle.std.specs.Prelude.{Bool, true, false, ◌&&◌, List, [], ◌∷◌}
use Rattle.std.specs.List.{list_all, list_any}
use Rattle.histar_base.specs.Paths.{same, same_path}
use Rattle.histar_flat.specs.Words.{Path}
use Rattle.histar_flat.specs.Accounts.{Accounts}
use Rattle.histar_flat.specs.Files.{Files, get}
use Rattle.histar_flat.specs.Classes.{Class, Process, may_read}
use Rattle.histar_flat.specs.Classes.Class.{Private, Readable, Open, Scratch, Grouped}
use Rattle.histar_flat.specs.FlatState.{Flat, Node, class_of}

-- the classes of what is at the path, and of each directory above it
abbrev pub way_in : Files Node → Path → List Class
way_in files [] = class_of (get files []) ∷ []
way_in files (n ∷ d) = class_of (get files (n ∷ d)) ∷ way_in files d

-- the way to a path in a state
abbrev pub way_to : Flat → Path → List Class
way_to f path = way_in f.files path

-- the process may read all of these classes
abbrev pub reads_all : Accounts → List Class → Process → Bool
reads_all accounts way p = list_all (may_read accounts p) way

-- the process reaches what is at the path: it may read it, and each directory above it
abbrev pub reaches : Accounts → Flat → Process → Path → Bool
reaches accounts f p path = reads_all accounts (way_to f path) p

-- two classes are the same
abbrev pub same_class : Class → Class → Bool
same_class (Private u) (Private v) = same u v
same_class (Readable u) (Readable v) = same u v
same_class Open Open = true
same_class (Scratch u jobs) (Scratch v others) = same u v && same_path jobs others
same_class (Grouped g) (Grouped h) = same g h
same_class _ _ = false

-- the class is one of these
abbrev pub has_class : List Class → Class → Bool
has_class way class = list_any (same_class class) way

-- each class of the second way is on the first one
abbrev pub covers : List Class → List Class → Bool
covers other way = list_all (has_class other) way
