-- Proves the goals of `replies_are_compared_as_they_are_printed` of src/isolation_laws.rt that the search leaves open.
use Rattle.histar_noninterference.proofs.ShownReplies.{finds_first_line}
use Rattle.histar_noninterference.proofs.isolation_laws.replies_are_compared_as_they_are_printed.Goals as goal

pub returns : goal.returns
returns c = finds_first_line
