-- The invariants and measures of `starting` of src/users.rt.
use Rattle.std.proofs.Common.{◌≡◌, ◌∷◌, take}
use Rattle.std.specs.Prelude.{map}
use Rattle.histar_flat.specs.declared.calls.User.{User}
use Rattle.histar_flat.specs.Classes.{nobody}
use Rattle.histar_cells.specs.ByClass.{from_above}
use Rattle.histar_access.proofs.users.starting.Given as goal

abbrev pub invariant-loop-place : goal.invariant-loop-place
invariant-loop-place l = l.start.items ≡ from_above nobody ∷ map (λ (u : User). from_above u.name) (take l.place l.users.users)
