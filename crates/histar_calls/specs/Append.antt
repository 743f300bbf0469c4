-- The program of `append PATH BYTES`.
use Rattle.std.specs.Prelude.{ℕ, List}
use Rattle.histar_flat.specs.Words.{Path}
use Rattle.histar_flat.specs.FlatCalls.{most_bytes}
use Rattle.histar_flat.specs.declared.replies.Reply.TheVariants.{Done}
use Rattle.histar_rules.specs.declared.raw.RawCall.TheVariants.{Write}
use Rattle.histar_programs.specs.declared.roots.Roots.{Roots}
use Rattle.histar_programs.specs.Programs.{Program}
use Rattle.histar_programs.specs.Programs.Program.{Answers}
use Rattle.histar_programs.specs.Parts.{◌>>=◌, ◌>>◌, ask, find_file}

-- the file of the path is found, and the bytes are appended to all that its segment holds
unfoldable pub append_program : Roots → Path → List ℕ → Program
append_program roots path bytes = do
  file ← find_file roots path
  ask (Write file.container file.segment most_bytes bytes)
  Answers Done
