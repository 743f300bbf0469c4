-- Logins, and the rights of a process that has just logged in.
use Rattle.std.specs.Prelude.{Bool, false, ◌&&◌}
use Rattle.histar_flat.specs.declared.calls.UnixCall.{UnixCall}
use Rattle.histar_flat.specs.declared.calls.UnixCall.TheVariants.{Login}
use Rattle.histar_flat.specs.Words.{Name, Password}
use Rattle.histar_base.specs.Paths.{same}
use Rattle.histar_flat.specs.Accounts.{Accounts, user_named}
use Rattle.histar_flat.specs.Classes.{Process}
use Rattle.histar_flat.specs.FlatState.{is_some_and}
use Rattle.histar_flat.specs.Meaning.{first_process}

-- the password is that of the user of this name
abbrev pub is_password_of : Accounts → Name → Password → Bool
is_password_of accounts name password = is_some_and (user_named accounts.users name) (λ u. same u.password password)

-- a process of this user that has just logged in: it is in no job, and holds none
abbrev pub logged_in : Name → Process
logged_in name = record first_process { user = name }

-- the call is a login with the user's password, as a user whose processes pass the test right after it
abbrev pub logs_in_as : Accounts → (Process → Bool) → UnixCall → Bool
logs_in_as accounts test (Login name password) = test (logged_in name) && is_password_of accounts name password
logs_in_as accounts test _ = false
