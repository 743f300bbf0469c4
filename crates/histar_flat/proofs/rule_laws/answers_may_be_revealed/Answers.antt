-- Proves the goals of `answers_may_be_revealed` of src/rule_laws.rt that the search leaves open.
use Rattle.histar_flat.proofs.Warrants.{may_be_revealed}
use Rattle.histar_flat.proofs.rule_laws.answers_may_be_revealed.Goals as goal

pub returns : goal.returns
returns c = may_be_revealed
