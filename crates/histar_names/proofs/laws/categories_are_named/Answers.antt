-- Proves the goals of `categories_are_named` of src/laws.rt that the search leaves open.
use Rattle.histar_names.proofs.KnownNames.{categories_are_named}
use Rattle.histar_names.proofs.laws.categories_are_named.Goals as goal

pub returns : goal.returns
returns c = categories_are_named
