-- Proves the goals of `moves_reply_to_refusals` of src/program_laws.rt that the search leaves open.
use Rattle.histar_moves.proofs.RepliesOfMoves as replies
use Rattle.histar_moves.proofs.program_laws.moves_reply_to_refusals.Goals as goal

pub returns : goal.returns
returns c = replies.moves_reply_to_refusals
