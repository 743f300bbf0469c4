-- The program of `write PATH BYTES`.
use Rattle.std.specs.Prelude.{ℕ, List}
use Rattle.histar_flat.specs.Words.{Path}
use Rattle.histar_flat.specs.declared.replies.Reply.TheVariants.{Done}
use Rattle.histar_rules.specs.declared.raw.RawCall.TheVariants.{Write}
use Rattle.histar_programs.specs.declared.roots.Roots.{Roots}
use Rattle.histar_programs.specs.Programs.{Program}
use Rattle.histar_programs.specs.Programs.Program.{Answers}
use Rattle.histar_programs.specs.Parts.{◌>>=◌, ◌>>◌, ask, find_file}

-- the file of the path is found, and the bytes replace what its segment holds
unfoldable pub write_program : Roots → Path → List ℕ → Program
write_program roots path bytes = do
  file ← find_file roots path
  ask (Write file.container file.segment 0 bytes)
  Answers Done
