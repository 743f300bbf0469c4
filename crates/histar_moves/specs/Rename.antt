-- The program of `rename PATH NAME`.
use Rattle.std.specs.FinMap as map
use Rattle.histar_flat.specs.Words.{Name, Path}
use Rattle.histar_flat.specs.declared.replies.Reply.TheVariants.{Done}
use Rattle.histar_programs.specs.declared.roots.Roots.{Roots}
use Rattle.histar_programs.specs.Programs.{Program}
use Rattle.histar_programs.specs.Programs.Program.{Answers}
use Rattle.histar_programs.specs.Parts.{◌>>=◌, ◌>>◌, given, write_entries}
use Rattle.histar_moves.specs.Parts.{find_entry, must_be_free}

-- the entry is found; its directory must not have the new name, and is written with the entry under the new name in place of the old
unfoldable pub rename_program : Roots → Path → Name → Program
rename_program roots path name = do
  entry ← find_entry roots path
  given (must_be_free (map.get entry.entries name))
  write_entries entry.place (map.insert (map.remove entry.entries entry.name) name entry.target)
  Answers Done
