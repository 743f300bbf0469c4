-- The invariants and measures of `make_calls` of src/running.rt.
use Rattle.histar_dialogue.specs.Running.{AddsAnswers}
use Rattle.histar_dialogue.proofs.running.Running.make_calls.Given as goal

abbrev pub invariant-calls : goal.invariant-calls
invariant-calls l = AddsAnswers l.first l.fn.self l.self l.fn.answers.items l.answers.items l.yielded
