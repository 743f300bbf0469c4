-- Proves the goals of `script_or_bad_line` of src/script_laws.rt that the search leaves open.
use Rattle.histar_script.proofs.BadLines.{script_or_bad}
use Rattle.histar_script.proofs.script_laws.script_or_bad_line.Goals as goal

pub returns : goal.returns
returns c = script_or_bad
