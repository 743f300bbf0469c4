-- Proves the goals of `Run::call_next` of src/running.rt that the search leaves open.
use Rattle.std.proofs.Common.{subst, sym}
use Rattle.histar_test.specs.Watching.{HasWatched}
use Rattle.histar_test.proofs.RunLemmas.{after_ok, call_taken}
use Rattle.histar_test.proofs.running.Run.call_next.Goals as goal

pub make_call-requires : goal.make_call-requires
make_call-requires g c = subst HasWatched (sym c.in_ok-close.ensures.ok.watched) c.requires

pub returns-clause-ok : goal.returns-clause-ok
returns-clause-ok g c =
    after_ok c.make_call.result
    (call_taken c.args.self.now c.close.new.self c.make_call.new.self c.args.call c.args.said c.in_ok-close.ensures.ok) c.make_call.ensures.ok
