-- Proves the goal of `refusals_are_red` of src/output_laws.rt.
use Rattle.histar_output.proofs.RefusalLemmas.{reply_line}
use Rattle.histar_output.proofs.output_laws.refusals_are_red.Goals as goal

pub returns : goal.returns
returns c = reply_line
