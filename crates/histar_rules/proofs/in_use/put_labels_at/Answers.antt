-- Proves the goals of `put_labels_at` of src/in_use.rt that the search leaves open.
use Rattle.std.proofs.Common.{sym}
use Rattle.histar_rules.proofs.Moving.{labels_put}
use Rattle.histar_rules.proofs.in_use.put_labels_at.Goals as goal

pub put_clearance-requires : goal.put_clearance-requires
put_clearance-requires g c = (c.requires.each c.args.number c.in-Some.object.now (sym c.in-Some.ensures)).kind

pub returns-clause-has : goal.returns-clause-has
returns-clause-has g c o is =
    labels_put _ _ _ c.put_clearance.ensures.keeps _ _ o c.in-Some.ensures is
    (c.requires.each c.args.number c.in-Some.object.now (sym c.in-Some.ensures)) c.in_ok-own.ensures.has c.in_ok-clearance.ensures.has
