-- Proves the goals of `rights_of_these` of src/takers.rt that the search leaves open.
use Rattle.histar_policy.proofs.MadeThings.{rights_more}
use Rattle.histar_policy.proofs.takers.rights_of_these.Goals as goal

pub loop-user-preserved : goal.loop-user-preserved
loop-user-preserved g c =
    rights_more c.args.machine.now c.args.path.now c.args.users.now c.loop-user.user-index c.user-item.result c.loop-user.all.items
    c.push.new.self.items c.in_ok-rights.rights c.loop-user-test.true c.user-item.is c.loop-user.invariant c.in_ok-rights.ensures
    c.in_ok-push.ensures.items
