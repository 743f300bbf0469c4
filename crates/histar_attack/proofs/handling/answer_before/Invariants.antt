-- The invariants and measures of `answer_before` of src/handling.rt.
use Rattle.histar_attack.specs.Answering.{AnswersEach}
use Rattle.histar_attack.proofs.handling.answer_before.Given as goal

abbrev pub invariant-calls : goal.invariant-calls
invariant-calls g l = AnswersEach l.fn.machine l.machine l.fn.output.items l.output.items l.yielded
