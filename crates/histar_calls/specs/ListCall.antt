-- The program of `list PATH`.
use Rattle.histar_flat.specs.Words.{Path}
use Rattle.histar_flat.specs.declared.replies.Reply.TheVariants.{Entries}
use Rattle.histar_layout.specs.Listing.{names_in}
use Rattle.histar_programs.specs.declared.roots.Roots.{Roots}
use Rattle.histar_programs.specs.Programs.{Program}
use Rattle.histar_programs.specs.Programs.Program.{Answers}
use Rattle.histar_programs.specs.Parts.{◌>>=◌, walk_to}

-- the directory of the path is read, as each one on the way to it is
unfoldable pub list_program : Roots → Path → Program
list_program roots path = do
  directory ← walk_to roots path
  Answers (Entries (names_in directory.entries))
