-- Proves the goals of `booted_are_under_way` of src/laws.rt that the search leaves open.
use Rattle.histar_outside.proofs.JobsBegin.{booted_under_way}
use Rattle.histar_outside.proofs.laws.booted_are_under_way.Goals as goal

pub returns : goal.returns
returns c = booted_under_way
