-- The invariants and measures of `names_of` of src/user_table.rt.
use Rattle.std.proofs.Common.{◌≡◌, take}
use Rattle.std.specs.Prelude.{map}
use Rattle.histar_layout.proofs.Lookups.{key}
use Rattle.histar_layout.proofs.user_table.names_of.Given as goal

abbrev pub invariant-loop-user : goal.invariant-loop-user
invariant-loop-user g l = l.names.keys ≡ map key (take l.user-index l.users)
