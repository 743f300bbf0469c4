-- Proves the goals of `make_call` of src/session.rt that the search leaves open.
use Rattle.histar_prefix.proofs.Calling.{after_call}
use Rattle.histar_prefix.proofs.session.make_call.Goals as goal

pub returns : goal.returns
returns g c = after_call _ _ c.args.call.line c.args.call.process c.args.call.call c.in_ok-_reply._reply c.in_ok-_reply.ensures.means
