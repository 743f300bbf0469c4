-- Proves the goals of `only_releases_differ` of src/isolation_laws.rt that the search leaves open.
use Rattle.histar_noninterference.proofs.Isolated.{only_releases_differ}
use Rattle.histar_noninterference.proofs.isolation_laws.only_releases_differ.Goals as goal

pub returns : goal.returns
returns c = only_releases_differ
