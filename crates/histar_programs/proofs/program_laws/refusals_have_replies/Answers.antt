-- Proves the goals of `refusals_have_replies` of src/program_laws.rt that the search leaves open.
use Rattle.histar_programs.proofs.DenialReplies.{replies}
use Rattle.histar_programs.proofs.program_laws.refusals_have_replies.Goals as goal

pub returns : goal.returns
returns c = replies
