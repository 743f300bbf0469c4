-- The invariants and measures of `Ever::processes` of src/ever.rt.
use Rattle.std.proofs.Common.{◌≡◌, ◌++◌}
use Rattle.histar_ever.proofs.ever.Ever.processes.Given as goal

abbrev pub invariant-loop-member : goal.invariant-loop-member
invariant-loop-member l = l.names.items ++ l.member-iterator ≡ l.initial.names.items ++ l.initial.member-iterator
