-- The numbers that boot gave to addresses, where there are n users.
use Rattle.std.specs.Prelude.{ℕ, ◌+◌, ◌*◌, Bool, ◌&&◌, nat_le, cond, [], ◌∷◌, Option, None, Some}
use Rattle.histar_container.specs.Tree.{Address}
use Rattle.histar_refinement.specs.Addresses.{Step, if_at}
use Rattle.histar_refinement.specs.Addresses.Step.{Left, Slash, Listing, Named, Home, Status, Inside, Runner, Child}

-- boot left the user table and each user's password and gate under the numbers 3 to 3 + 2n
abbrev pub is_left : ℕ → ℕ → Bool
is_left n q = nat_le 3 q && nat_le q (3 + 2 * n)

-- the address of process 0's container, and of its internal container
abbrev pub process_address : Address Step
process_address = Home ∷ []

abbrev pub inside_address : Address Step
inside_address = Inside ∷ process_address

-- the number of each address at the start
abbrev pub start_number : ℕ → Address Step → Option ℕ
start_number n [] = Some 1
start_number n (Left q ∷ a) = if_at [] a (cond (is_left n q) (Some q) None)
start_number n (Slash ∷ a) = if_at [] a (Some (4 + 2 * n))
start_number n (Listing ∷ a) = if_at (Slash ∷ []) a (Some (5 + 2 * n))
start_number n (Named name ∷ a) = None
start_number n (Home ∷ a) = if_at [] a (Some (6 + 2 * n))
start_number n (Status ∷ a) = if_at process_address a (Some (9 + 2 * n))
start_number n (Inside ∷ a) = if_at process_address a (Some (7 + 2 * n))
start_number n (Runner ∷ a) = if_at inside_address a (Some (8 + 2 * n))
start_number n (Child k ∷ a) = None
