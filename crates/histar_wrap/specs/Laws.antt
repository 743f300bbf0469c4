-- The replies to which the kernel's refusals lead in the program of a wrap.
use Rattle.histar_flat.specs.Accounts.{Accounts}
use Rattle.histar_flat.specs.Words.{Path, ProcName}
use Rattle.histar_programs.specs.declared.roots.Home.{Home}
use Rattle.histar_programs.specs.declared.roots.Roots.{Roots}
use Rattle.histar_programs.specs.Laws.{RepliesToRefusals}
use Rattle.histar_wrap.specs.WrapCall.{wrap_program}

-- the program of a wrap replies to its refusals
abbrev pub WrapsReplyToRefusals : Type 0
WrapsReplyToRefusals = (accounts : Accounts) (roots : Roots) (name : ProcName) (me : Home) (path : Path) → RepliesToRefusals (wrap_program accounts roots name me path)
