-- Proves the goals of `names_of` of src/user_table.rt that the search leaves open.
use Rattle.std.proofs.Common.{◌∙◌}
use Rattle.histar_layout.proofs.Lookups.{names_more}
use Rattle.histar_layout.proofs.user_table.names_of.Goals as goal

pub loop-user-preserved : goal.loop-user-preserved
loop-user-preserved g c =
    c.in_ok-insert_full.ensures.keys
    ∙ names_more c.args.users.now c.loop-user.user-index c.user-item.result c.requires c.loop-user-test.true
    c.user-item.is c.loop-user.names.keys c.loop-user.invariant
