-- Proves the goals of `one_reading` of src/script_laws.rt that the search leaves open.
use Rattle.histar_script.proofs.Answered.{one_script}
use Rattle.histar_script.proofs.script_laws.one_reading.Goals as goal

pub returns : goal.returns
returns c = one_script
