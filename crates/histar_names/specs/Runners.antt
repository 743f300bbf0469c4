-- The users of processes, by the labels of their threads.
use Rattle.std.specs.Prelude.{ℕ, List, [], ◌++◌, length, codes, Option, None, Some}
use Rattle.histar_flat.specs.Words.{Name, ProcName}
use Rattle.histar_flat.specs.Accounts.{Accounts}
use Rattle.histar_level.specs.Levels.{Levels}
use Rattle.histar_object.specs.Objects.{label_there}
use Rattle.histar_object.specs.State.{State}
use Rattle.histar_layout.specs.Categories.{user_of}
use Rattle.histar_layout.specs.Reading.{◌>>=◌}
use Rattle.histar_programs.specs.Caller.{caller_at}
use Rattle.histar_programs.specs.Kin.{user_name}
use Rattle.histar_programs.specs.declared.roots.Home.{Home}

-- the user of a process, by the label of its thread
abbrev pub user_by : Accounts → Levels → Name
user_by accounts own = user_name accounts.users (user_of own (length accounts.users))

-- the user of a process, if it runs
abbrev pub user_at : Accounts → State → Home → ProcName → Option Name
user_at accounts s first me = do
  caller ← caller_at s first me
  own ← label_there (s.objects caller.thread)
  Some (user_by accounts own)

-- the user of a process that runs, in brackets after a space
abbrev pub runner_text : Option Name → List ℕ
runner_text None = []
runner_text (Some user) = codes " (" ++ user ++ codes ")"
