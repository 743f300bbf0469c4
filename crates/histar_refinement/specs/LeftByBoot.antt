-- What boot left in the root container beside `/` and process 0, as it was at the start: each user's password and gate, and the user table.
use Rattle.std.specs.Prelude.{ℕ, [], ◌∷◌, ◌++◌, None}
use Rattle.histar_flat.specs.Accounts.{Accounts}
use Rattle.histar_object.specs.State.{Found}
use Rattle.histar_programs.specs.Start.{of_users, table_segment, object_at}

-- what boot left under a number, from the object 3 on
abbrev pub left_by_boot : Accounts → ℕ → Found
left_by_boot accounts q = object_at (None ∷ None ∷ of_users accounts accounts.users ++ table_segment accounts ∷ []) q
