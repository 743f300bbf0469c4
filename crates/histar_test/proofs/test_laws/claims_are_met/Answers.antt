-- Proves the goals of `claims_are_met` of src/test_laws.rt that the search leaves open.
use Rattle.histar_test.proofs.ClaimNames.{claims_are_met}
use Rattle.histar_test.proofs.test_laws.claims_are_met.Goals as goal

pub returns : goal.returns
returns c = claims_are_met
