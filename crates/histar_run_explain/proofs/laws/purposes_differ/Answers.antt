-- Proves the goals of `purposes_differ` of src/laws.rt that the search leaves open.
use Rattle.histar_run_explain.proofs.DistinctPurposes.{purposes_differ}
use Rattle.histar_run_explain.proofs.laws.purposes_differ.Goals as goal

pub returns : goal.returns
returns c = purposes_differ
