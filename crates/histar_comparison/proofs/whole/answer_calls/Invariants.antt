-- The invariants and measures of `answer_calls` of src/whole.rt.
use Rattle.histar_shell.specs.Memory.{StillShows}
use Rattle.histar_comparison.specs.Whole.{KeepsAnswers}
use Rattle.histar_comparison.proofs.whole.answer_calls.Given as goal

abbrev pub invariant-calls : goal.invariant-calls
invariant-calls g l = record {
  kept : KeepsAnswers l.fn.machine l.machine l.fn.replies.items l.replies.items l.yielded;
  shows : StillShows l.fn.machine l.machine;
}
