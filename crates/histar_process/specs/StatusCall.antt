-- The program of `status PROC`.
use Rattle.std.specs.Prelude.{ℕ, Option, None, Some}
use Rattle.histar_flat.specs.Words.{ProcName}
use Rattle.histar_flat.specs.declared.replies.Reply.{Reply}
use Rattle.histar_flat.specs.declared.replies.Reply.TheVariants.{Running, Exited}
use Rattle.histar_programs.specs.declared.roots.Roots.{Roots}
use Rattle.histar_programs.specs.Programs.{Program}
use Rattle.histar_programs.specs.Programs.Program.{Answers}
use Rattle.histar_programs.specs.Parts.{◌>>=◌}
use Rattle.histar_process.specs.Parts.{find_home, read_status}

-- the reply of `status` for a process that has exited with this number, or runs
abbrev pub status_reply : Option ℕ → Reply
status_reply None = Running
status_reply (Some number) = Exited number

-- the process is found, and its segment is read
unfoldable pub status_program : Roots → ProcName → Program
status_program roots name = do
  home ← find_home roots.home name
  status ← read_status home
  Answers (status_reply status.exited)
