-- Proves the goals of `user_names` of src/members.rt that the search leaves open.
use Rattle.histar_trust.proofs.Pieces.{names_more}
use Rattle.histar_trust.proofs.members.user_names.Goals as goal

pub loop-place-preserved : goal.loop-place-preserved
loop-place-preserved c =
    names_more c.args.users.now.users c.loop-place.place c.name_at.result _ c.loop-place.names.items
    c.name_at.ensures c.loop-place.invariant c.in_ok-push.ensures.items
