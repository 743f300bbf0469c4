-- Proves the goals of `trees_are_compared_by_their_lines` of src/isolation_laws.rt that the search leaves open.
use Rattle.histar_noninterference.proofs.TreeLines.{finds_first_path}
use Rattle.histar_noninterference.proofs.isolation_laws.trees_are_compared_by_their_lines.Goals as goal

pub returns : goal.returns
returns c = finds_first_path
