-- The program of `wrap PATH`.
use Rattle.std.specs.Prelude.{◌+◌, ◌∷◌}
use Rattle.histar_flat.specs.Accounts.{Accounts}
use Rattle.histar_flat.specs.Words.{Path, ProcName}
use Rattle.histar_flat.specs.declared.replies.Reply.TheVariants.{Child}
use Rattle.histar_rules.specs.declared.raw.RawCall.TheVariants.{MakeCategory, OwnLabel}
use Rattle.histar_programs.specs.declared.roots.Home.{Home}
use Rattle.histar_programs.specs.declared.roots.Roots.{Roots}
use Rattle.histar_programs.specs.Programs.{Program}
use Rattle.histar_programs.specs.Programs.Program.{Answers}
use Rattle.histar_programs.specs.Parts.{◌>>=◌, ◌>>◌, ask, find_room}
use Rattle.histar_process.specs.SpawnCall.{room_for_child}
use Rattle.histar_wrap.specs.Filling.{fill_job, plan_for}

-- There is room for a child, and for an entry. The thread asks for its own labels and makes the job's category, and the job is filled.
unfoldable pub wrap_program : Accounts → Roots → ProcName → Home → Path → Program
wrap_program accounts roots name me path = do
  status ← room_for_child name me
  room ← find_room roots path
  own ← ask OwnLabel
  job ← ask MakeCategory
  fill_job me status room (plan_for accounts own job)
  Answers (Child ((status.born + 1) ∷ name))
