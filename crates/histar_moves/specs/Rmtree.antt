-- The program of `rmtree PATH`.
use Rattle.histar_flat.specs.Words.{Path}
use Rattle.histar_flat.specs.declared.replies.Reply.TheVariants.{Done}
use Rattle.histar_programs.specs.declared.roots.Roots.{Roots}
use Rattle.histar_programs.specs.Programs.{Program}
use Rattle.histar_programs.specs.Programs.Program.{Answers}
use Rattle.histar_programs.specs.Parts.{◌>>=◌, ◌>>◌}
use Rattle.histar_moves.specs.Parts.{find_entry, take_away}

-- the entry is found, a file's or a directory's, and is removed
unfoldable pub rmtree_program : Roots → Path → Program
rmtree_program roots path = do
  entry ← find_entry roots path
  take_away entry
  Answers Done
