-- Proves the goals of `Table::add` of src/table.rt that the search leaves open.
use Rattle.std.proofs.Common.{◌∙◌}
use Rattle.histar_object.proofs.table.Table.add.Goals as goal

pub returns-in_err-reserve-clause-slots : goal.returns-in_err-reserve-clause-slots
returns-in_err-reserve-clause-slots g c q differs i = c.reserve.ensures.slots i q

pub add_reserved-requires-clause-absent : goal.add_reserved-requires-clause-absent
add_reserved-requires-clause-absent g c = (λ i. c.reserve.ensures.objects i c.args.id) ∙ c.requires

pub returns-clause-slots : goal.returns-clause-slots
returns-clause-slots g c q differs = c.add_reserved.ensures.slots q differs ∙ (λ i. c.reserve.ensures.slots i q)
