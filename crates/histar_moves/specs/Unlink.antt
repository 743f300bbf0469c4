-- The program of `unlink PATH`.
use Rattle.histar_flat.specs.Words.{Path}
use Rattle.histar_flat.specs.declared.replies.Reply.TheVariants.{Done}
use Rattle.histar_programs.specs.declared.roots.Roots.{Roots}
use Rattle.histar_programs.specs.Programs.{Program}
use Rattle.histar_programs.specs.Programs.Program.{Answers}
use Rattle.histar_programs.specs.Parts.{◌>>=◌, ◌>>◌, given}
use Rattle.histar_moves.specs.Parts.{find_entry, must_be_file, take_away}

-- the entry is found, must be a file's, and is removed
unfoldable pub unlink_program : Roots → Path → Program
unlink_program roots path = do
  entry ← find_entry roots path
  given (must_be_file entry.target)
  take_away entry
  Answers Done
