-- The replies to which the kernel's refusals lead in these programs.
use Rattle.std.specs.Prelude.{ℕ}
use Rattle.histar_flat.specs.Accounts.{Accounts}
use Rattle.histar_flat.specs.Words.{ProcName}
use Rattle.histar_programs.specs.declared.roots.Home.{Home}
use Rattle.histar_programs.specs.declared.roots.Roots.{Roots}
use Rattle.histar_programs.specs.Laws.{RepliesToRefusals}
use Rattle.histar_process.specs.Whoami.{whoami_program}
use Rattle.histar_process.specs.StatusCall.{status_program}
use Rattle.histar_process.specs.KillCall.{kill_program}
use Rattle.histar_process.specs.ExitCall.{exit_program}
use Rattle.histar_process.specs.SpawnCall.{spawn_program}

-- the programs of these calls reply to their refusals
pub record ProcessCallsReplyToRefusals : Type 0 where
  pub whoami : (accounts : Accounts) → RepliesToRefusals (whoami_program accounts)
  pub status : (roots : Roots) (name : ProcName) → RepliesToRefusals (status_program roots name)
  pub kill : (roots : Roots) (name : ProcName) → RepliesToRefusals (kill_program roots name)
  pub exit : (me : Home) (number : ℕ) → RepliesToRefusals (exit_program me number)
  pub spawn : (accounts : Accounts) (name : ProcName) (me : Home) → RepliesToRefusals (spawn_program accounts name me)
