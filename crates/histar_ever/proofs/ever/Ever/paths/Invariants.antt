-- The invariants and measures of `Ever::paths` of src/ever.rt.
use Rattle.std.proofs.Common.{◌≡◌, ◌++◌}
use Rattle.histar_ever.proofs.ever.Ever.paths.Given as goal

abbrev pub invariant-loop-path : goal.invariant-loop-path
invariant-loop-path l = l.paths.items ++ l.path-iterator ≡ l.initial.paths.items ++ l.initial.path-iterator
