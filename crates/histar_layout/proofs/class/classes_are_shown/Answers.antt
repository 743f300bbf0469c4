-- Proves the goals of `classes_are_shown` of src/class.rt that the search leaves open.
use Rattle.histar_layout.proofs.ClassesShown.{classes_shown}
use Rattle.histar_layout.proofs.class.classes_are_shown.Goals as goal

pub returns : goal.returns
returns c = classes_shown
