-- The program of `read PATH`.
use Rattle.histar_flat.specs.Words.{Path}
use Rattle.histar_flat.specs.declared.replies.Reply.TheVariants.{Data}
use Rattle.histar_rules.specs.declared.raw.RawCall.TheVariants.{Read}
use Rattle.histar_programs.specs.declared.roots.Roots.{Roots}
use Rattle.histar_programs.specs.Programs.{Program}
use Rattle.histar_programs.specs.Programs.Program.{Answers}
use Rattle.histar_programs.specs.Parts.{◌>>=◌, ask, find_file}

-- the file of the path is found, and its segment is read
unfoldable pub read_program : Roots → Path → Program
read_program roots path = do
  file ← find_file roots path
  bytes ← ask (Read file.container file.segment)
  Answers (Data bytes)
