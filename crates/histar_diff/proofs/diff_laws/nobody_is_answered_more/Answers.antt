-- Proves the goals of `nobody_is_answered_more` of src/diff_laws.rt that the search leaves open.
use Rattle.histar_diff.proofs.Changes.{nobody_is_answered_more}
use Rattle.histar_diff.proofs.diff_laws.nobody_is_answered_more.Goals as goal

pub returns : goal.returns
returns c = nobody_is_answered_more
