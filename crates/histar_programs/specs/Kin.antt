-- What a process owns as its user, and what a child gets from its parent.
use Rattle.std.specs.Prelude.{ℕ, zero, suc, Bool, List, [], ◌∷◌, ◌++◌, length, map, if◌then◌else◌}
use Rattle.histar_flat.specs.Words.{Name}
use Rattle.histar_flat.specs.declared.calls.User.{User}
use Rattle.histar_flat.specs.Accounts.{Accounts}
use Rattle.histar_flat.specs.Classes.{nobody}
use Rattle.histar_level.specs.Levels.{Levels}
use Rattle.histar_layout.specs.Jobs.{jobs_in, is_empty}
use Rattle.histar_layout.specs.Categories.{read_category, write_category, owners_of, user_of}

-- the name of the user of this number, from 1 on; number 0 is nobody
abbrev pub user_name : List User → ℕ → Name
user_name users zero = nobody
user_name [] (suc i) = nobody
user_name (user ∷ users) (suc zero) = user.name
user_name (user ∷ users) (suc (suc i)) = user_name users (suc i)

-- the categories by which these users and groups read, and in a free process those by which they write
abbrev pub categories_of : List ℕ → Bool → List ℕ
categories_of owners free = map read_category owners ++ (if free then map write_category owners else [])

-- What a process owns as the user of this number: the categories by which the user and its groups read and, but in a job, those by
-- which they write. As nobody, who is number 0, it owns none.
abbrev pub owned_by : Accounts → ℕ → Bool → List ℕ
owned_by accounts zero free = []
owned_by accounts (suc i) free = categories_of (owners_of accounts (suc i) (user_name accounts.users (suc i))) free

-- what a child gets from its parent: what it owns as the parent's user, and the jobs that it is in
pub record Kin : Type 0 where
  pub owned : List ℕ
  pub jobs : List ℕ

-- what a child gets from its parent, by the parent's own label
abbrev pub kin_of : Accounts → Levels → Kin
kin_of accounts own = record { owned = owned_by accounts (user_of own (length accounts.users)) (is_empty (jobs_in own)); jobs = jobs_in own }
