-- Proves the goals of `user_changes_of_scripts_rise` of src/access_laws.rt that the search leaves open.
use Rattle.histar_access.proofs.OwnNames.{user_changes_of_scripts_rise}
use Rattle.histar_access.proofs.access_laws.user_changes_of_scripts_rise.Goals as goal

pub returns : goal.returns
returns c = user_changes_of_scripts_rise
