-- Proves the goals of `no_user_gains_is_no_more` of src/diff_laws.rt that the search leaves open.
use Rattle.histar_diff.proofs.UserMeaning.{no_user_gains_is_no_more}
use Rattle.histar_diff.proofs.diff_laws.no_user_gains_is_no_more.Goals as goal

pub returns : goal.returns
returns c = no_user_gains_is_no_more
