-- The parts that the programs of these calls are made of.
use Rattle.std.specs.Prelude.{Option, None, Some, Result, Ok, Err, [], ◌∷◌, ◌==◌, if◌then◌else◌}
use Rattle.std.specs.FinMap as map
use Rattle.histar_flat.specs.Words.{Path}
use Rattle.histar_flat.specs.declared.replies.Errno.{Errno}
use Rattle.histar_flat.specs.declared.replies.Errno.TheVariants.{ENOTDIR, EISDIR, EEXIST, ENOTEMPTY, EBUSY}
use Rattle.histar_flat.specs.declared.replies.Reply.TheVariants.{Refused}
use Rattle.histar_rules.specs.declared.raw.RawCall.TheVariants.{Unlink}
use Rattle.histar_layout.specs.Directory.{Entries}
use Rattle.histar_layout.specs.Listing.{object_of}
use Rattle.histar_layout.specs.declared.entry.Target.{Target}
use Rattle.histar_layout.specs.declared.entry.Target.TheVariants.{File, Directory}
use Rattle.histar_programs.specs.declared.roots.Place.{Place}
use Rattle.histar_programs.specs.declared.roots.Roots.{Roots}
use Rattle.histar_programs.specs.Programs.{Part}
use Rattle.histar_programs.specs.Programs.Program.{Answers}
use Rattle.histar_programs.specs.Parts.{◌>>=◌, ◌>>◌, ask, given, entry_at, target_named, walk_to, write_entries}
use Rattle.histar_moves.specs.declared.entry.FoundEntry.{FoundEntry}

-- the entry of a path: `/` has none; else the walk is made, and the last name must lead somewhere
unfoldable pub find_entry : Roots → Path → Part FoundEntry
find_entry roots [] rest = Answers (Refused EBUSY)
find_entry roots (name ∷ parent) rest = do
  directory ← walk_to roots parent
  target ← given (entry_at (target_named directory name))
  rest (record { place = directory.place; entries = directory.entries; name = name; target = target })

-- what the entry leads to must be a file
abbrev pub must_be_file : Target → Result (Unit {0}) Errno
must_be_file (File file) = Ok tt
must_be_file (Directory container listing) = Err EISDIR

-- what the entry leads to must be a directory
abbrev pub must_be_directory : Target → Result Place Errno
must_be_directory (File file) = Err ENOTDIR
must_be_directory (Directory container listing) = Ok (record { container = container; listing = listing })

-- a directory must have no entry
abbrev pub must_be_empty : Entries → Result (Unit {0}) Errno
must_be_empty entries = if map.len entries == 0 then Ok tt else Err ENOTEMPTY

-- a name must lead nowhere
abbrev pub must_be_free : Option Target → Result (Unit {0}) Errno
must_be_free None = Ok tt
must_be_free (Some target) = Err EEXIST

-- the entry's object is unlinked from the directory's container, with all below it, and the directory is written without the entry
unfoldable pub take_away : FoundEntry → Part (Unit {0})
take_away entry rest = do
  ask (Unlink entry.place.container (object_of entry.target))
  write_entries entry.place (map.remove entry.entries entry.name)
  rest tt
