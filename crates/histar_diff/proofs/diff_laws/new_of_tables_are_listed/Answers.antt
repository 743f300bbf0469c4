-- Proves the goals of `new_of_tables_are_listed` of src/diff_laws.rt that the search leaves open.
use Rattle.histar_diff.proofs.TableLaws.{new_of_tables_are_listed}
use Rattle.histar_diff.proofs.diff_laws.new_of_tables_are_listed.Goals as goal

pub returns : goal.returns
returns c = new_of_tables_are_listed
