-- The program of `create PATH MODE`.
use Rattle.std.specs.Prelude.{[]}
use Rattle.std.specs.FinMap as map
use Rattle.histar_flat.specs.Words.{Path}
use Rattle.histar_flat.specs.Accounts.{Accounts}
use Rattle.histar_flat.specs.declared.calls.Mode.{Mode}
use Rattle.histar_flat.specs.declared.replies.Reply.TheVariants.{Done}
use Rattle.histar_level.specs.Levels.{Levels}
use Rattle.histar_rules.specs.declared.raw.RawCall.TheVariants.{OwnLabel, MakeSegment}
use Rattle.histar_layout.specs.declared.entry.Target.TheVariants.{File}
use Rattle.histar_programs.specs.declared.find.Room.{Room}
use Rattle.histar_programs.specs.declared.roots.Roots.{Roots}
use Rattle.histar_layout.specs.Categories.{label_made}
use Rattle.histar_programs.specs.Programs.{Part, Program}
use Rattle.histar_programs.specs.Programs.Program.{Answers}
use Rattle.histar_programs.specs.Parts.{◌>>=◌, ◌>>◌, ask, find_room, write_entries}

-- An empty segment is made with this label, and the directory is written with the new entry.
abbrev pub add_file : Levels → Room → Part (Unit {0})
add_file label room rest = do
  file ← ask (MakeSegment room.place.container label [])
  write_entries room.place (map.insert room.entries room.name (File file))
  rest tt

-- The thread asks for its own label, and adds a file with the label that this mode gives to new objects.
abbrev pub make_file : Accounts → Mode → Room → Part (Unit {0})
make_file accounts mode room rest = do
  own ← ask OwnLabel
  add_file (label_made accounts own.0 mode) room
  rest tt

-- Room for the entry is found. The thread asks for its own label, and adds a file with the label that this mode gives to new objects.
unfoldable pub create_program : Accounts → Roots → Path → Mode → Program
create_program accounts roots path mode = do
  room ← find_room roots path
  own ← ask OwnLabel
  add_file (label_made accounts own.0 mode) room
  Answers Done
