-- The invariants and measures of `observe_calls` of src/observation.rt.
use Rattle.histar_shell.specs.Memory.{StillShows}
use Rattle.histar_comparison.specs.Observation.{KeepsReplies}
use Rattle.histar_comparison.proofs.observation.observe_calls.Given as goal

abbrev pub invariant-calls : goal.invariant-calls
invariant-calls g l = record {
  kept : KeepsReplies l.fn.job l.fn.machine l.machine l.fn.replies l.replies l.yielded;
  shows : StillShows l.fn.machine l.machine;
}
