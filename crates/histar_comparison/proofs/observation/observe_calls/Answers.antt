-- Proves the goals of `observe_calls` of src/observation.rt that the search leaves open.
use Rattle.std.proofs.Common.{rules}
use Rattle.histar_shell.proofs.WantingMemory.{still_at_first, still_shows}
use Rattle.histar_comparison.proofs.Kept.{keeps_more}
use Rattle.histar_comparison.proofs.WantingMemory.{fails_passed}
use Rattle.histar_comparison.proofs.observation.observe_calls.Goals as goal

pub calls-init : goal.calls-init
calls-init g c = record { kept = search rules; shows = still_at_first _ }

pub calls-preserved : goal.calls-preserved
calls-preserved g c = record {
  kept = keeps_more c.args.job.now _ _ _ _ _ _ c.calls.yielded c.in-Some.call c.calls.invariant.kept c.in_ok-observe_call.ensures.ok;
  shows = still_shows _ _ _ c.calls.invariant.shows c.in_ok-observe_call.ensures.shows;
}

pub returns-in_err-observe_call-clause-memory : goal.returns-in_err-observe_call-clause-memory
returns-in_err-observe_call-clause-memory g c =
    fails_passed g.H.Heap.Refused _ _ _ _ c.from_residual.ensures.1 c.calls.invariant.shows c.in_err-observe_call.ensures.memory
