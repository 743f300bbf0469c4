-- Proves the goals of `letters_are_spelled` of src/never_laws.rt that the search leaves open.
use Rattle.histar_never.proofs.Spelled.{letters_are_spelled}
use Rattle.histar_never.proofs.never_laws.letters_are_spelled.Goals as goal

pub returns : goal.returns
returns c = letters_are_spelled
