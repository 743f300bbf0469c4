-- The program of `whoami`.
use Rattle.std.specs.Prelude.{not, length}
use Rattle.histar_flat.specs.Accounts.{Accounts}
use Rattle.histar_flat.specs.declared.replies.Reply.TheVariants as replies
use Rattle.histar_rules.specs.declared.raw.RawCall.TheVariants.{OwnLabel}
use Rattle.histar_layout.specs.Categories.{user_of}
use Rattle.histar_programs.specs.Programs.{Program}
use Rattle.histar_programs.specs.Programs.Program.{Answers}
use Rattle.histar_programs.specs.Parts.{◌>>=◌, ask}
use Rattle.histar_programs.specs.Kin.{user_name}
use Rattle.histar_layout.specs.Jobs.{jobs_in, is_empty}

-- the thread asks for its own label, which shows the user and whether the process is in a job
unfoldable pub whoami_program : Accounts → Program
whoami_program accounts = do
  own ← ask OwnLabel
  Answers (replies.User (user_name accounts.users (user_of own.0 (length accounts.users))) (not (is_empty (jobs_in own.0))))
