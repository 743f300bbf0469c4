-- The invariants and measures of `make_calls` of src/following.rt.
use Rattle.histar_prefix.specs.Prefix.{calls_before}
use Rattle.histar_ever.specs.Following.{FollowsCalls}
use Rattle.histar_ever.proofs.following.make_calls.Given as goal

abbrev pub invariant-calls : goal.invariant-calls
invariant-calls g l = FollowsCalls g.G.Gather.Gathers (calls_before l.at l.yielded) l.fn.machine l.machine l.fn.gathered l.gathered
