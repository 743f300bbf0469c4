-- Proves the goals of `labels_have_one_class` of src/class.rt that the search leaves open.
use Rattle.histar_layout.proofs.ClassLabels.{one_class}
use Rattle.histar_layout.proofs.class.labels_have_one_class.Goals as goal

pub returns : goal.returns
returns c = one_class
