-- The invariants and measures of `parted` of src/session.rt.
use Rattle.histar_attack.proofs.Parting.{IsParted}
use Rattle.histar_attack.proofs.session.parted.Given as goal

abbrev pub invariant-items : goal.invariant-items
invariant-items l = IsParted l.before.items l.later.items l.yielded
