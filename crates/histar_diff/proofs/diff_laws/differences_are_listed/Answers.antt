-- Proves the goals of `differences_are_listed` of src/diff_laws.rt that the search leaves open.
use Rattle.histar_diff.proofs.TableLaws.{differences_are_listed}
use Rattle.histar_diff.proofs.diff_laws.differences_are_listed.Goals as goal

pub returns : goal.returns
returns c = differences_are_listed
