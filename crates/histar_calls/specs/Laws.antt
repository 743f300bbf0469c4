-- The replies to which the kernel's refusals lead in the programs of the file calls.
use Rattle.std.specs.Prelude.{ℕ, List}
use Rattle.histar_flat.specs.Words.{Path}
use Rattle.histar_flat.specs.declared.calls.Mode.{Mode}
use Rattle.histar_flat.specs.Accounts.{Accounts}
use Rattle.histar_programs.specs.declared.roots.Roots.{Roots}
use Rattle.histar_calls.specs.Read.{read_program}
use Rattle.histar_calls.specs.Write.{write_program}
use Rattle.histar_calls.specs.Create.{create_program}
use Rattle.histar_calls.specs.Append.{append_program}
use Rattle.histar_calls.specs.Mkdir.{mkdir_program}
use Rattle.histar_calls.specs.ListCall.{list_program}
use Rattle.histar_calls.specs.StatCall.{stat_program}
use Rattle.histar_programs.specs.Laws.{RepliesToRefusals}

-- the programs of the calls reply to their refusals
pub record CallsReplyToRefusals : Type 0 where
  pub read : (roots : Roots) (path : Path) → RepliesToRefusals (read_program roots path)
  pub write : (roots : Roots) (path : Path) (bytes : List ℕ) → RepliesToRefusals (write_program roots path bytes)
  pub create : (accounts : Accounts) (roots : Roots) (path : Path) (mode : Mode) → RepliesToRefusals (create_program accounts roots path mode)
  pub append : (roots : Roots) (path : Path) (bytes : List ℕ) → RepliesToRefusals (append_program roots path bytes)
  pub mkdir : (accounts : Accounts) (roots : Roots) (path : Path) (mode : Mode) → RepliesToRefusals (mkdir_program accounts roots path mode)
  pub list : (roots : Roots) (path : Path) → RepliesToRefusals (list_program roots path)
  pub stat : (accounts : Accounts) (roots : Roots) (path : Path) → RepliesToRefusals (stat_program accounts roots path)
