-- The invariants and measures of `user_names` of src/by_users.rt.
use Rattle.std.proofs.Common.{◌≡◌, ◌∷◌, take}
use Rattle.std.specs.Prelude.{map}
use Rattle.histar_flat.specs.declared.calls.User.{User}
use Rattle.histar_flat.specs.Classes.{nobody}
use Rattle.histar_ever.proofs.by_users.user_names.Given as goal

abbrev pub invariant-loop-place : goal.invariant-loop-place
invariant-loop-place l = l.names.items ≡ nobody ∷ map (λ (u : User). u.name) (take l.place l.users.users)
