-- The program of `rmdir PATH`.
use Rattle.histar_flat.specs.Words.{Path}
use Rattle.histar_flat.specs.declared.replies.Reply.TheVariants.{Done}
use Rattle.histar_programs.specs.declared.roots.Roots.{Roots}
use Rattle.histar_programs.specs.Programs.{Program}
use Rattle.histar_programs.specs.Programs.Program.{Answers}
use Rattle.histar_programs.specs.Parts.{◌>>=◌, ◌>>◌, given, read_directory}
use Rattle.histar_moves.specs.Parts.{find_entry, must_be_directory, must_be_empty, take_away}

-- the entry is found, and must be a directory's; the directory is read, must have no entry, and is removed
unfoldable pub rmdir_program : Roots → Path → Program
rmdir_program roots path = do
  entry ← find_entry roots path
  place ← given (must_be_directory entry.target)
  directory ← read_directory place
  given (must_be_empty directory.entries)
  take_away entry
  Answers Done
