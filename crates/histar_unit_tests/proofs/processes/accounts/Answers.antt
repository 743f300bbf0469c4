-- Proves the goals of `accounts` of src/processes.rt that the search leaves open.
use Rattle.std.proofs.Common.{length, ap, ◌∙◌, arith}
use Rattle.histar_flat.specs.Accounts.{Accounts, with_user}
use Rattle.histar_unit_tests.proofs.processes.accounts.Goals as goal

-- a single user has a name of its own
pub returns : goal.returns
returns c =
    let few =
    ap (λ (s : Accounts). length s.users) (c.in_ok-add_user.ensures.ok
    ∙ ap (λ (s : Accounts).
    with_user s (record { name = c.in_ok-name.name; password = c.in_ok-name.password }))
    c.new-accounts.ensures) in
    λ i j d lt below same. absurd (omega (arith, lt, below, few))
