-- Proves the goal of `add_rights` of src/by_users.rt that the search leaves open.
use Rattle.histar_ever.specs.GatheringUsers.{place_cmp}
use Rattle.histar_ever.proofs.Adding.{rights_added}
use Rattle.histar_ever.proofs.UsersTabled.{place_cmp_exact}
use Rattle.histar_ever.proofs.by_users.add_rights.Goals as goal

pub returns : goal.returns
returns c q user =
    rights_added place_cmp place_cmp_exact (c.args.path, c.args.user) c.args.rights c.letters_at-had.result c.either.result c.args.letters.now
    c.insert.new.self c.letters_at-had.ensures c.either.ensures c.in_ok-insert.ensures.updates.0 (q, user)
