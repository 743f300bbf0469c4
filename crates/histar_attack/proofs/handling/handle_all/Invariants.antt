-- The invariants and measures of `handle_all` of src/handling.rt.
use Rattle.histar_attack.specs.Handling.{HandlesItems}
use Rattle.histar_attack.proofs.handling.handle_all.Given as goal

abbrev pub invariant-items : goal.invariant-items
invariant-items g l = HandlesItems l.rule l.fn.machine l.machine l.fn.output.items l.output.items l.yielded
