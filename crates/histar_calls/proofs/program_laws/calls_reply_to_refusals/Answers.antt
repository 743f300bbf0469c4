-- Proves the goals of `calls_reply_to_refusals` of src/program_laws.rt that the search leaves open.
use Rattle.histar_calls.proofs.RepliesOfPrograms as replies
use Rattle.histar_calls.proofs.program_laws.calls_reply_to_refusals.Goals as goal

pub returns : goal.returns
returns c = replies.calls_reply_to_refusals
