-- The invariants and measures of `Links::append_to` of src/links.rt.
use Rattle.std.proofs.Common.{◌≡◌, ◌++◌}
use Rattle.histar_object.proofs.links.Links.append_to.Given as goal

abbrev pub invariant-loop-number : goal.invariant-loop-number
invariant-loop-number g l = l.list.items ++ l.number-iterator ≡ l.initial.list.items ++ l.initial.number-iterator
