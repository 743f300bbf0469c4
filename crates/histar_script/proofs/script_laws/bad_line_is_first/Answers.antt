-- Proves the goals of `bad_line_is_first` of src/script_laws.rt that the search leaves open.
use Rattle.histar_script.proofs.FirstBad.{first_bad}
use Rattle.histar_script.proofs.BadLines.{bad_again}
use Rattle.histar_script.proofs.script_laws.bad_line_is_first.Goals as goal

pub returns : goal.returns
returns c = λ text n. (first_bad text n, bad_again text n)
