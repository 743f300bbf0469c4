-- Proves the goals of `logins_reply_to_refusals` of src/program_laws.rt that the search leaves open.
use Rattle.histar_login.proofs.RepliesOfLogins as replies
use Rattle.histar_login.proofs.program_laws.logins_reply_to_refusals.Goals as goal

pub returns : goal.returns
returns c = replies.logins_reply_to_refusals
