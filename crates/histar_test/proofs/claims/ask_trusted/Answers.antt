-- Proves the goals of `ask_trusted` of src/claims.rt that the search leaves open.
use Rattle.histar_test.proofs.RunLemmas.{claimed_so}
use Rattle.histar_test.proofs.claims.ask_trusted.Goals as goal

pub returns : goal.returns
returns c = claimed_so c.args.machine.now c.args.claim c.path-asked.result c.in_ok-reply.reply c.path-asked.ensures c.in_ok-reply.ensures
