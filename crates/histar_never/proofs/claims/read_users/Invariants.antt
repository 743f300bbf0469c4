-- The invariants and measures of `read_users` of src/claims.rt.
use Rattle.std.proofs.Common.{◌≡◌, ◌++◌, length, map}
use Rattle.std.specs.Prelude.{option_map}
use Rattle.histar_never.specs.Claims.{users_in}
use Rattle.histar_never.proofs.claims.read_users.Given as goal

abbrev pub invariant-words : goal.invariant-words
invariant-words l =
    users_in l.accounts (map (λ word. word.now) l.words)
    ≡ option_map (λ users. l.names.items ++ users) (users_in l.accounts (map (λ word. word.now) l.rest))

abbrev pub decreases-words : goal.decreases-words
decreases-words l = length l.rest
