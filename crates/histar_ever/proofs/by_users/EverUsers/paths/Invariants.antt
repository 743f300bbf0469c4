-- The invariants and measures of `EverUsers::paths` of src/by_users.rt.
use Rattle.std.proofs.Common.{◌≡◌, ◌++◌}
use Rattle.histar_ever.proofs.by_users.EverUsers.paths.Given as goal

abbrev pub invariant-loop-path : goal.invariant-loop-path
invariant-loop-path l = l.paths.items ++ l.path-iterator ≡ l.initial.paths.items ++ l.initial.path-iterator
