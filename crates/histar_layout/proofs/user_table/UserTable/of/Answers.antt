-- Proves the goals of `UserTable::of` of src/user_table.rt that the search leaves open.
use Rattle.std.proofs.Common.{◌≡◌, ap, ◌∙◌}
use Rattle.std.specs.Prelude.{map}
use Rattle.histar_layout.specs.UserTable.{without_password}
use Rattle.histar_layout.proofs.Lookups.{key, known, known_again}
use Rattle.histar_layout.proofs.user_table.UserTable.of.Goals as goal

pub returns-clause-ok : goal.returns-clause-ok
returns-clause-ok g c =
    let users : map known c.in_ok-names_of.field-0.keys ≡ map without_password c.args.accounts.now.users =
    ap (map known) (c.in_ok-names_of.ensures.ok ∙ ap (map key) c.users.ensures.users) ∙ known_again c.args.accounts.now.users in
    let groups : c.in_ok-copies_of.field-0.items ≡ c.args.accounts.now.groups = c.in_ok-copies_of.ensures.ok ∙ c.groups.ensures.groups in
    λ i. record { users = users i; groups = groups i }
