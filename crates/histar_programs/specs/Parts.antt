-- The parts that programs of calls are made of.
use Rattle.std.specs.Prelude.{ℕ, Bool, true, false, List, [], ◌∷◌, Option, None, Some, Result, Ok, Err, ◌==◌}
use Rattle.std.specs.FinMap as map
use Rattle.histar_flat.specs.Words.{Name, Path}
use Rattle.histar_flat.specs.declared.replies.Errno.{Errno}
use Rattle.histar_flat.specs.declared.replies.Errno.TheVariants.{ENOENT, ENOTDIR, EISDIR, EEXIST, ENOSPC}
use Rattle.histar_flat.specs.declared.replies.Reply.TheVariants.{Refused}
use Rattle.histar_rules.specs.declared.raw.Denied.{Denied}
use Rattle.histar_rules.specs.declared.raw.RawCall.{RawCall}
use Rattle.histar_rules.specs.declared.raw.RawCall.TheVariants.{Read, Write}
use Rattle.histar_layout.specs.Directory.{Entries, spelling}
use Rattle.histar_flat.specs.FlatCalls.{most_entries}
use Rattle.histar_layout.specs.Found.{found_in}
use Rattle.histar_layout.specs.declared.entry.Target.{Target}
use Rattle.histar_layout.specs.declared.entry.Target.TheVariants.{File, Directory as DirectoryAt}
use Rattle.histar_programs.specs.declared.roots.Roots.{Roots}
use Rattle.histar_programs.specs.declared.directory.Directory.{Directory}
use Rattle.histar_programs.specs.declared.find.FoundFile.{FoundFile}
use Rattle.histar_programs.specs.declared.find.Room.{Room}
use Rattle.histar_programs.specs.declared.roots.Place.{Place}
use Rattle.histar_programs.specs.Refusals.{errno_for}
use Rattle.histar_programs.specs.Programs.{AnswerOf, Program, Part}
use Rattle.histar_programs.specs.Programs.Program.{Answers, Asks, Lists, Stops}

-- a part, and then the program that goes on with its result
infixr 10 ◌>>=◌
abbrev pub ◌>>=◌ : {A : Type 0} → Part A → (A → Program) → Program
part >>= rest = part rest

-- a part without a result, and then the program that goes on
infixr 10 ◌>>◌
abbrev pub ◌>>◌ : Part (Unit {0}) → Program → Program
part >> rest = part (λ _. rest)

-- the reply is a denial's errno; a denial that has none stops the program
abbrev pub refused_with : Option Errno → Program
refused_with None = Stops
refused_with (Some errno) = Answers (Refused errno)

-- goes on with the answer of a raw call, or replies the errno of its denial
abbrev pub or_refused : {A : Type 0} → (Denied → Option Errno) → (A → Program) → Result A Denied → Program
or_refused errno rest (Ok answer) = rest answer
or_refused errno rest (Err denied) = refused_with (errno denied)

-- asks the kernel; a denial is the reply
abbrev pub ask : (call : RawCall) → Part (AnswerOf call)
ask call rest = Asks call (or_refused (errno_for call) rest)

-- goes on with what was found; without it, the call is refused
abbrev pub if_there : {A : Type 0} → Errno → (A → Program) → Option A → Program
if_there errno rest None = Answers (Refused errno)
if_there errno rest (Some found) = rest found

-- the entries of the directory that these bytes spell; where they spell none, it is no directory
abbrev pub list : List ℕ → Part Entries
list bytes rest = Lists bytes (if_there ENOTDIR rest)

-- what was decided with no raw call: the program goes on with it, or the call is refused
abbrev pub given : {A : Type 0} → Result A Errno → Part A
given (Ok found) rest = rest found
given (Err errno) rest = Answers (Refused errno)

-- reads the directory segment of a directory
unfoldable pub read_directory : Place → Part Directory
read_directory place rest = do
  bytes ← ask (Read place.container place.listing)
  entries ← list bytes
  rest (record { place = place; entries = entries })

-- what a name leads to must be a directory
abbrev pub directory_at : Option Target → Result Place Errno
directory_at None = Err ENOENT
directory_at (Some (File file)) = Err ENOTDIR
directory_at (Some (DirectoryAt container listing)) = Ok (record { container = container; listing = listing })

-- what a name leads to must be a file
abbrev pub file_at : Option Target → Result ℕ Errno
file_at None = Err ENOENT
file_at (Some (File file)) = Ok file
file_at (Some (DirectoryAt container listing)) = Err EISDIR

-- what a name leads to must be there
abbrev pub entry_at : Option Target → Result Target Errno
entry_at None = Err ENOENT
entry_at (Some target) = Ok target

-- a name must lead nowhere, and the directory must have room for an entry
abbrev pub room_at : Option Target → Bool → Result (Unit {0}) Errno
room_at (Some target) full = Err EEXIST
room_at None true = Err ENOSPC
room_at None false = Ok tt

-- what the name leads to in a directory that was read
abbrev pub target_named : Directory → Name → Option Target
target_named directory name = map.get directory.entries name

-- looks a name up in a directory, in the bytes of its segment
unfoldable pub look_in : Place → Name → Part (Option Target)
look_in place name rest = do
  bytes ← ask (Read place.container place.listing)
  rest (found_in bytes name)

-- the place of a directory: from `/` on each one on the way to it is read, and the next name is looked up in it
unfoldable pub find_place : Roots → Path → Part Place
find_place roots [] rest = rest roots.slash
find_place roots (name ∷ parent) rest = do
  above ← find_place roots parent
  target ← look_in above name
  place ← given (directory_at target)
  rest place

-- a walk finds the place of the directory, and reads its entries
unfoldable pub walk_to : Roots → Path → Part Directory
walk_to roots path rest = do
  place ← find_place roots path
  read_directory place rest

-- the file of a path: `/` is none; else the walk is made, and the last name must lead to a file
unfoldable pub find_file : Roots → Path → Part FoundFile
find_file roots [] rest = Answers (Refused EISDIR)
find_file roots (name ∷ parent) rest = do
  place ← find_place roots parent
  target ← look_in place name
  segment ← given (file_at target)
  rest (record { container = place.container; segment = segment })

-- the place of a new entry: `/` is there already; else the walk is made, and the directory must have room for the last name
unfoldable pub find_room : Roots → Path → Part Room
find_room roots [] rest = Answers (Refused EEXIST)
find_room roots (name ∷ parent) rest = do
  directory ← walk_to roots parent
  given (room_at (target_named directory name) (map.len directory.entries == most_entries))
  rest (record { place = directory.place; entries = directory.entries; name = name })

-- the directory segment of a directory is written with these entries
abbrev pub write_entries : Place → Entries → Part (Unit {0})
write_entries place entries = ask (Write place.container place.listing 0 (spelling entries))
