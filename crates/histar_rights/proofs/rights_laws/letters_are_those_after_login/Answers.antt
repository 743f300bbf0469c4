-- Proves the goals of `letters_are_those_after_login` of src/rights_laws.rt that the search leaves open.
use Rattle.histar_rights.proofs.AfterLogin.{letters_are_those_after_login}
use Rattle.histar_rights.proofs.rights_laws.letters_are_those_after_login.Goals as goal

pub returns : goal.returns
returns c = letters_are_those_after_login
