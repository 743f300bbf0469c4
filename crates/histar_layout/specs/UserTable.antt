-- The users and the groups that were declared, as they are known after boot, without passwords.
use Rattle.std.specs.Prelude.{◌≢◌, List, [], map, AllPairs}
use Rattle.histar_flat.specs.declared.calls.User.{User}
use Rattle.histar_flat.specs.Words.{Name}
use Rattle.histar_flat.specs.Accounts.{Accounts}

-- the user of this name, without a password
abbrev pub called : Name → User
called name = record { name = name; password = [] }

-- a user, without the password
abbrev pub without_password : User → User
without_password user = called user.name

-- the declared users and groups, where each user has no password
abbrev pub without_passwords : Accounts → Accounts
without_passwords accounts = record { users = map without_password accounts.users; groups = accounts.groups }

-- no two users have one name
abbrev pub HaveOwnNames : List User → Type 0
HaveOwnNames users = AllPairs (λ u v. u.name ≢ v.name) users
