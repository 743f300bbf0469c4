-- Proves the goals of `changes_are_listed` of src/diff_laws.rt that the search leaves open.
use Rattle.histar_diff.proofs.Changes.{changes_are_listed}
use Rattle.histar_diff.proofs.diff_laws.changes_are_listed.Goals as goal

pub returns : goal.returns
returns c = changes_are_listed
