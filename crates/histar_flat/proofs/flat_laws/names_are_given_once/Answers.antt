-- Proves the goals of `names_are_given_once` of src/flat_laws.rt that the search leaves open.
use Rattle.histar_flat.proofs.GivenNames.{names_are_given_once}
use Rattle.histar_flat.proofs.flat_laws.names_are_given_once.Goals as goal

pub returns : goal.returns
returns c = names_are_given_once
