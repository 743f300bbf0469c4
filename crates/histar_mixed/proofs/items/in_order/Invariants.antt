-- The invariants and measures of `in_order` of src/items.rt.
use Rattle.std.proofs.Common.{◌≡◌, List, ◌++◌}
use Rattle.std.specs.Vec.Iter.{into_iter_items}
use Rattle.histar_mixed.specs.declared.items.Mark.{Mark}
use Rattle.histar_mixed.specs.Mixed.{in_order}
use Rattle.histar_mixed.proofs.items.in_order.Given as goal

abbrev pub invariant-marks : goal.invariant-marks
invariant-marks l = (more : List Mark) → in_order l.fn.calls.items (l.yielded ++ more) ≡ l.items.items ++ in_order (into_iter_items l.rest) more
