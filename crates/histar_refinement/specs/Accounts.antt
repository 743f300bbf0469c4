-- The accounts that scripts declare.
use Rattle.std.specs.Prelude.{◌≡◌, ℕ, true, None, Some, is_some, slice_get}
use Rattle.histar_flat.specs.Words.{Name}
use Rattle.histar_flat.specs.Accounts.{Group, Accounts, is_member, user_number}
use Rattle.histar_base.specs.Paths.{same}
use Rattle.histar_flat.specs.Classes.{nobody}

-- no user is called nobody, no two groups have one name, and members are users
pub record AreAccounts (accounts : Accounts) : Type 0 where
  pub no_one : user_number accounts nobody ≡ None
  pub groups_differ : (i j : ℕ) (g h : Group) → slice_get accounts.groups i ≡ Some g → slice_get accounts.groups j ≡ Some h → same g.name h.name ≡ true → i ≡ j
  pub declared : (name group : Name) → is_member accounts name group ≡ true → is_some (user_number accounts name) ≡ true
