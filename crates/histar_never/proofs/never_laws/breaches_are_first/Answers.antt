-- Proves the goals of `breaches_are_first` of src/never_laws.rt that the search leaves open.
use Rattle.histar_never.proofs.Broken.{breaches_are_first}
use Rattle.histar_never.proofs.never_laws.breaches_are_first.Goals as goal

pub returns : goal.returns
returns c = breaches_are_first
