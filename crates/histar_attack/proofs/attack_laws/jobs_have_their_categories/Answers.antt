-- Proves the goals of `jobs_have_their_categories` of src/attack_laws.rt that the search leaves open.
use Rattle.histar_attack.proofs.JobCategories.{jobs_have_their_categories}
use Rattle.histar_attack.proofs.attack_laws.jobs_have_their_categories.Goals as goal

pub returns : goal.returns
returns c = jobs_have_their_categories
