-- Proves the goals of `letters_of_users_are_replies` of src/rights_laws.rt that the search leaves open.
use Rattle.histar_rights.proofs.ByUser.{letters_of_users_are_replies}
use Rattle.histar_rights.proofs.rights_laws.letters_of_users_are_replies.Goals as goal

pub returns : goal.returns
returns c = letters_of_users_are_replies
