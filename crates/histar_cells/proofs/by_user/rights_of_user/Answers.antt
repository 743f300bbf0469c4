-- Proves the goals of `rights_of_user` of src/by_user.rt that the search leaves open.
use Rattle.std.proofs.Common.{ap}
use Rattle.histar_cells.proofs.UserSpotRights.{rights_in, rights_shown}
use Rattle.histar_cells.proofs.by_user.rights_of_user.Goals as goal

pub returns-in-Some : goal.returns-in-Some
returns-in-Some g c =
    rights_shown c.args.machine.now c.args.path.now c.args.user (c.users.result.now, c.kernel.result.now, c.roots.result.now, c.names.result.now)
    (λ i. (c.users.ensures i, c.kernel.ensures i, c.roots.ensures i, c.names.ensures.names i)) c.in_ok-spot.field-0 c.in_ok-spot.ensures
    (ap rights_in c.in-Some.is)

pub returns-in-None : goal.returns-in-None
returns-in-None g c =
    rights_shown c.args.machine.now c.args.path.now c.args.user (c.users.result.now, c.kernel.result.now, c.roots.result.now, c.names.result.now)
    (λ i. (c.users.ensures i, c.kernel.ensures i, c.roots.ensures i, c.names.ensures.names i)) c.in_ok-spot.field-0 c.in_ok-spot.ensures
    (ap rights_in c.in-None.is)
