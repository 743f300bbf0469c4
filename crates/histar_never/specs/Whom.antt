-- Whom a claim is about.
use Rattle.std.specs.Prelude.{Bool, false, not}
use Rattle.histar_base.specs.Paths.{same}
use Rattle.histar_flat.specs.Accounts.{has}
use Rattle.histar_flat.specs.Words.{Name, ProcName}
use Rattle.histar_never.specs.declared.whom.Whom.{Whom}
use Rattle.histar_never.specs.declared.whom.Whom.TheVariants.{OfProcess, OfUser, AllBut}

-- a process that runs as this user is meant
abbrev pub is_meant : Whom → ProcName → Name → Bool
is_meant (OfProcess process) me user = same process me
is_meant (OfUser name) me user = same name user
is_meant (AllBut names) me user = not (has names user)

-- whoever logs in as this user is meant
abbrev pub is_meant_user : Whom → Name → Bool
is_meant_user (OfProcess process) user = false
is_meant_user (OfUser name) user = same name user
is_meant_user (AllBut names) user = not (has names user)
