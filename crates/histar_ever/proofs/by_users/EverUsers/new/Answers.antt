-- Proves the goal of `EverUsers::new` of src/by_users.rt that the search leaves open.
use Rattle.std.proofs.Common.{ap, ◌∙◌}
use Rattle.histar_rights.specs.Users.{somebody}
use Rattle.histar_ever.proofs.UsersGathered.{no_users_gathered}
use Rattle.histar_ever.proofs.by_users.EverUsers.new.Goals as goal

pub returns : goal.returns
returns g c =
    no_users_gathered c.args.machine.now _ (c.in_ok-user_names.ensures ∙ ap somebody c.users.ensures) c.new.ensures.empty
    c.new-2.ensures.empty
