-- Proves the goals of `labels_are_listed` of src/laws.rt that the search leaves open.
use Rattle.histar_label.proofs.Orders.{listed}
use Rattle.histar_label.proofs.laws.labels_are_listed.Goals as goal

pub returns : goal.returns
returns c = listed
