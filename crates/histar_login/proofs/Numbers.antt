-- A login by the user's number, as it is looked up.
use Rattle.std.proofs.Common.{◌≡◌, ℕ, ◌+◌, List, Option, None, Some, refl}
use Rattle.std.specs.Prelude.{option_map}
use Rattle.histar_flat.specs.Accounts.{Accounts, user_number}
use Rattle.histar_flat.specs.Words.{Name}
use Rattle.histar_flat.specs.declared.replies.Errno.TheVariants.{ENOENT}
use Rattle.histar_flat.specs.declared.replies.Reply.TheVariants.{Refused}
use Rattle.histar_layout.specs.Categories.{owners_of}
use Rattle.histar_programs.specs.Programs.{Program}
use Rattle.histar_programs.specs.Programs.Program.{Answers}
use Rattle.histar_programs.specs.declared.caller.Caller.{Caller}
use Rattle.histar_login.specs.Login.{login_at, login_as_program, login_program}
use Rattle.histar_programs.specs.Users.{place_of}

module _ (accounts : Accounts) (caller : Caller) (name : Name) (password : List ℕ) where
  -- the login as the user of a number, if there is one
  abbrev pub login_of : Option ℕ → Program
  login_of None = Answers (Refused ENOENT)
  login_of (Some number) = login_as_program caller number (owners_of accounts number name) password

  -- by the place before the number
  login_behind : (place : Option ℕ) → login_at accounts caller name password place ≡ login_of (option_map (λ (k : ℕ). k + 1) place)
  login_behind None = refl
  login_behind (Some place) = refl

  -- a login is as the user of the number that the name has
  pub login_numbered : login_program accounts caller name password ≡ login_of (user_number accounts name)
  login_numbered = login_behind (place_of accounts.users name)
