-- Proves the goals of `letters_spell_rights` of src/rights_laws.rt that the search leaves open.
use Rattle.histar_rights.proofs.Spelling.{letters_spell_rights}
use Rattle.histar_rights.proofs.rights_laws.letters_spell_rights.Goals as goal

pub returns : goal.returns
returns c = letters_spell_rights
