-- Proves the goals of `process_calls_reply_to_refusals` of src/program_laws.rt that the search leaves open.
use Rattle.histar_process.proofs.RepliesOfProcessCalls as replies
use Rattle.histar_process.proofs.program_laws.process_calls_reply_to_refusals.Goals as goal

pub returns : goal.returns
returns c = replies.process_calls_reply_to_refusals
