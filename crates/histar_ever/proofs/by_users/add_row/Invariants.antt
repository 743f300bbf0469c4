-- The invariants and measures of `add_row` of src/by_users.rt.
use Rattle.std.proofs.Common.{◌≡◌, length}
use Rattle.histar_flat.specs.Words.{Name, Path}
use Rattle.histar_ever.specs.Ever.{either}
use Rattle.histar_ever.specs.GatheringUsers.{user_letters_at, user_row_letters}
use Rattle.histar_ever.proofs.by_users.add_row.Given as goal

abbrev pub invariant-cells : goal.invariant-cells
invariant-cells l = (q : Path) (user : Name) → either (user_letters_at l.letters q user) (user_row_letters l.path l.users l.rights q user)
    ≡ either (user_letters_at l.fn.letters q user) (user_row_letters l.path l.fn.users l.fn.rights q user)

abbrev pub decreases-cells : goal.decreases-cells
decreases-cells l = length l.users
