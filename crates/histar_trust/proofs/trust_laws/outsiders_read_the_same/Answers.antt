-- Proves the goals of `outsiders_read_the_same` of src/trust_laws.rt that the search leaves open.
use Rattle.histar_trust.proofs.Printed.{outsiders_read_the_same}
use Rattle.histar_trust.proofs.trust_laws.outsiders_read_the_same.Goals as goal

pub returns : goal.returns
returns c = outsiders_read_the_same
