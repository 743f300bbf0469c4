-- The invariants and measures of `somebody` of src/takers.rt.
use Rattle.std.proofs.Common.{◌≡◌, ◌∷◌, take}
use Rattle.std.specs.Prelude.{map}
use Rattle.histar_flat.specs.declared.calls.User.{User}
use Rattle.histar_flat.specs.Classes.{nobody}
use Rattle.histar_policy.proofs.takers.somebody.Given as goal

abbrev pub invariant-loop-place : goal.invariant-loop-place
invariant-loop-place l = l.names.items ≡ nobody ∷ map (λ (u : User). u.name) (take l.place l.users.users)
