-- The program of `mkdir PATH MODE`.
use Rattle.std.specs.Prelude.{[]}
use Rattle.std.specs.FinMap as map
use Rattle.histar_flat.specs.Words.{Path}
use Rattle.histar_flat.specs.Accounts.{Accounts}
use Rattle.histar_flat.specs.declared.calls.Mode.{Mode}
use Rattle.histar_flat.specs.declared.replies.Reply.TheVariants.{Done}
use Rattle.histar_level.specs.Levels.{Levels}
use Rattle.histar_rules.specs.declared.raw.RawCall.TheVariants.{OwnLabel, MakeContainer, MakeSegment}
use Rattle.histar_layout.specs.declared.entry.Target.TheVariants.{Directory}
use Rattle.histar_programs.specs.declared.find.Room.{Room}
use Rattle.histar_programs.specs.declared.roots.Roots.{Roots}
use Rattle.histar_layout.specs.Categories.{label_made}
use Rattle.histar_programs.specs.Programs.{Part, Program}
use Rattle.histar_programs.specs.Programs.Program.{Answers}
use Rattle.histar_programs.specs.Parts.{◌>>=◌, ◌>>◌, ask, find_room, write_entries}

-- A container and in it a directory segment are made with this label, and the directory is written with the new entry.
abbrev pub add_directory : Levels → Room → Part (Unit {0})
add_directory label room rest = do
  container ← ask (MakeContainer room.place.container label)
  listing ← ask (MakeSegment container label [])
  write_entries room.place (map.insert room.entries room.name (Directory container listing))
  rest tt

-- The thread asks for its own label, and adds a directory with the label that this mode gives to new objects.
abbrev pub make_directory : Accounts → Mode → Room → Part (Unit {0})
make_directory accounts mode room rest = do
  own ← ask OwnLabel
  add_directory (label_made accounts own.0 mode) room
  rest tt

-- Room for the entry is found. The thread asks for its own label, and adds a directory with the label that this mode gives to new objects.
unfoldable pub mkdir_program : Accounts → Roots → Path → Mode → Program
mkdir_program accounts roots path mode = do
  room ← find_room roots path
  own ← ask OwnLabel
  add_directory (label_made accounts own.0 mode) room
  Answers Done
