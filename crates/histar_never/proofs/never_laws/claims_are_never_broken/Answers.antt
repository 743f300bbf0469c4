-- Proves the goals of `claims_are_never_broken` of src/never_laws.rt that the search leaves open.
use Rattle.histar_never.proofs.Broken.{claims_are_never_broken}
use Rattle.histar_never.proofs.never_laws.claims_are_never_broken.Goals as goal

pub returns : goal.returns
returns c = claims_are_never_broken
