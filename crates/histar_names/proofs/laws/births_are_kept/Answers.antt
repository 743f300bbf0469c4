-- Proves the goals of `births_are_kept` of src/laws.rt that the search leaves open.
use Rattle.histar_names.proofs.KnownNames.{births_are_kept}
use Rattle.histar_names.proofs.laws.births_are_kept.Goals as goal

pub returns : goal.returns
returns c = births_are_kept
