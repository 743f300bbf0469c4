-- The invariants and measures of `make_calls` of src/answers.rt.
use Rattle.histar_policy.specs.Answers.{AddsNotes}
use Rattle.histar_policy.proofs.answers.make_calls.Given as goal

abbrev pub invariant-calls : goal.invariant-calls
invariant-calls g l = AddsNotes l.fn.machine l.machine l.fn.notes.items l.notes.items l.yielded
