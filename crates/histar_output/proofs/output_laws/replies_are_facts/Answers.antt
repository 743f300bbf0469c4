-- Proves the goal of `replies_are_facts` of src/output_laws.rt.
use Rattle.histar_output.proofs.ReplyLemmas.{reply_fact}
use Rattle.histar_output.proofs.output_laws.replies_are_facts.Goals as goal

pub returns : goal.returns
returns c = reply_fact
