-- Proves the goals of `letters_are_replies` of src/rights_laws.rt that the search leaves open.
use Rattle.histar_rights.proofs.Answered.{letters_are_replies}
use Rattle.histar_rights.proofs.rights_laws.letters_are_replies.Goals as goal

pub returns : goal.returns
returns c = letters_are_replies
