-- How many objects boot makes for users.
use Rattle.std.proofs.Common.{◌≡◌, ℕ, ◌+◌, ◌*◌, List, [], ◌∷◌, refl, arith}
use Rattle.std.specs.Prelude.{length}
use Rattle.histar_flat.specs.declared.calls.User.{User}
use Rattle.histar_flat.specs.Accounts.{Accounts}
use Rattle.histar_programs.specs.Start.{numbered, of_user}
use Rattle.std.proofs.lemmas.List.{length-append}

-- each user has two objects
pub length-numbered : (accounts : Accounts) (i : ℕ) (users : List User) → length (numbered (of_user accounts) i users) ≡ 2 * length users
length-numbered accounts i [] = refl
length-numbered accounts i (user ∷ users) =
    omega (
      arith,
      length-append (of_user accounts i user) (numbered (of_user accounts) (i + 1) users),
      length-numbered
          accounts (i + 1) users,
    )
