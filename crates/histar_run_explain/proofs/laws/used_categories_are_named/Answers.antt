-- Proves the goals of `used_categories_are_named` of src/laws.rt that the search leaves open.
use Rattle.histar_run_explain.proofs.NamedLines.{used_categories_are_named}
use Rattle.histar_run_explain.proofs.laws.used_categories_are_named.Goals as goal

pub returns : goal.returns
returns c = used_categories_are_named
