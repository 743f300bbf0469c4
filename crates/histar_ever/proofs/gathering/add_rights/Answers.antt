-- Proves the goal of `add_rights` of src/gathering.rt that the search leaves open.
use Rattle.histar_diff.specs.Sides.{pair_cmp}
use Rattle.histar_diff.proofs.Sides.{pair_cmp_exact}
use Rattle.histar_ever.proofs.Adding.{rights_added}
use Rattle.histar_ever.proofs.gathering.add_rights.Goals as goal

pub returns : goal.returns
returns c q p =
    rights_added pair_cmp pair_cmp_exact (c.args.path, c.args.process) c.args.rights c.letters_at-had.result c.either.result c.args.letters.now
    c.insert.new.self c.letters_at-had.ensures c.either.ensures c.in_ok-insert.ensures.updates.0 (q, p)
