-- Each user's password is the one that is asked for at the user's name: names of users are distinct.
use Rattle.std.specs.Prelude.{◌≡◌, ◌≢◌, ℕ, suc, ◌<◌, true, cond, List, [], ◌∷◌, length, Some, AllPairs, slice_index_or}
use Rattle.std.proofs.Common.{ap, ◌∙◌, inl, inr, arith}
use Rattle.histar_base.specs.Paths.{same}
use Rattle.histar_flat.specs.declared.calls.User.{User}
use Rattle.histar_flat.specs.Accounts.{Accounts, user_named}
use Rattle.histar_flat.specs.FlatState.{is_some_and}
use Rattle.histar_flat.proofs.FileLemmas.{same_itself, same_name_found}
use Rattle.histar_secrecy.specs.Logins.{is_password_of}
use Rattle.histar_trust.proofs.Runners.{AllOf}

-- two users have different names
abbrev Differ : User → User → Type 0
Differ u v = u.name ≢ v.name

-- the user is the one of this name
abbrev IsFound : List User → User → Type 0
IsFound users u = is_some_and (user_named users u.name) (λ (v : User). same v.password u.password) ≡ true

-- another user in front has another name
behind : (v : User) (users us : List User) → AllOf (Differ v) us → AllOf (IsFound users) us → AllOf (IsFound (v ∷ users)) us
behind v users [] apart found = tt
behind v users (u ∷ us) apart found = (
  elim (same_name_found v.name u.name) [
    | inl t ↦ absurd (apart.0 t.1)
    | inr t ↦ ap (λ b. is_some_and (cond b (Some v) (user_named users u.name)) (λ (w : User). same w.password u.password)) t.0 ∙ found.0
  ],
  behind v users us apart.1 found.1,
)

-- the first one differs from all others
first_differs : (v : User) (us : List User) → ((j : ℕ) (d : User) → j < length us → Differ v (slice_index_or us j d)) → AllOf (Differ v) us
first_differs v [] h = tt
first_differs v (u ∷ us) h = (h 0 u (omega arith), first_differs v us (λ j d lt. h (suc j) d (omega (arith, lt))))

found_each : (users : List User) → AllPairs Differ users → AllOf (IsFound users) users
found_each [] h = tt
found_each (v ∷ us) h = (
  ap (λ b. is_some_and (cond b (Some v) (user_named us v.name)) (λ (w : User). same w.password v.password)) (same_itself v.name)
      ∙ same_itself v.password,
  behind v us us (first_differs v us (λ j d lt. h 0 (suc j) d (omega arith) (omega (arith, lt))))
      (found_each us (λ i j d lt within. h (suc i) (suc j) d (omega (arith, lt)) (omega (arith, within)))),
)

-- each user's password is that of the user's name
pub own_passwords : (accounts : Accounts) → AllPairs (λ (u v : User). u.name ≢ v.name) accounts.users
    → AllOf (λ (u : User). is_password_of accounts u.name u.password ≡ true) accounts.users
own_passwords accounts h = found_each accounts.users h
