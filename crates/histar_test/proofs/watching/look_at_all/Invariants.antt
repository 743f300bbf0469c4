-- The invariants and measures of `look_at_all` of src/watching.rt.
use Rattle.histar_test.proofs.LookLemmas.{AreLookedAt}
use Rattle.histar_test.proofs.watching.look_at_all.Given as goal

abbrev pub invariant-loop-watch : goal.invariant-loop-watch
invariant-loop-watch l = record { looked : AreLookedAt l.machine l.line l.watch-index l.fn.watches.items l.watch-items }
