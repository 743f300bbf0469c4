-- Proves the goals of `wraps_reply_to_refusals` of src/program_laws.rt that the search leaves open.
use Rattle.histar_wrap.proofs.RepliesOfWraps as replies
use Rattle.histar_wrap.proofs.program_laws.wraps_reply_to_refusals.Goals as goal

pub returns : goal.returns
returns c = replies.wraps_reply_to_refusals
