-- Proves the goals of `one_more_line` of src/script_laws.rt that the search leaves open.
use Rattle.histar_script.proofs.MoreLines.{one_more_line}
use Rattle.histar_script.proofs.script_laws.one_more_line.Goals as goal

pub returns : goal.returns
returns c = one_more_line
