-- The invariants and measures of `split_steps` of src/watching.rt.
use Rattle.histar_test.specs.Running.{AreSplit}
use Rattle.histar_test.proofs.watching.split_steps.Given as goal

abbrev pub invariant-steps : goal.invariant-steps
invariant-steps l = record { split : AreSplit l.yielded l.taken.items l.watches.items }
