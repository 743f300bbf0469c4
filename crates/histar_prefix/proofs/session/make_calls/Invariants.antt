-- The invariants and measures of `make_calls` of src/session.rt.
use Rattle.histar_prefix.specs.Prefix.{ShowsAfter, calls_before}
use Rattle.histar_prefix.proofs.session.make_calls.Given as goal

abbrev pub invariant-calls : goal.invariant-calls
invariant-calls g l = ShowsAfter l.fn.machine l.machine (calls_before l.at l.yielded)
