-- The user table has few bytes.
use Rattle.std.proofs.Common.{◌≡◌, ℕ, ◌+◌, ◌≤◌, Bool, true, false, List, [], ◌∷◌, ◌++◌, length, ap, arith, if◌then◌else◌}
use Rattle.std.specs.Int.{w64, to_be_bytes}
use Rattle.std.proofs.lemmas.List.{length-append}
use Rattle.histar_flat.specs.declared.calls.User.{User}
use Rattle.histar_flat.specs.Accounts.{Group, has}
use Rattle.histar_flat.specs.Words.{Name}
use Rattle.histar_layout.specs.Categories.{read_category, write_category, group_owner}
use Rattle.histar_programs.specs.Start.{numbers_among, user_entry, group_entry}

-- a list that may begin with one number more has at most one more
longer : (b : Bool) (i n : ℕ) (xs : List ℕ) → length xs ≤ n → length (if b then i ∷ xs else xs) ≤ n + 1
longer true i n xs few = omega (arith, few)
longer false i n xs few = omega (arith, few)

-- no more users are members than there are
members_few : (i : ℕ) (users : List User) (names : List Name) → length (numbers_among i users names) ≤ length users
members_few i [] names = omega arith
members_few i (user ∷ users) names =
    let more = longer (has names user.name) i (length users) (numbers_among (i + 1) users names) (members_few (i + 1) users names) in
    omega (arith, more)

-- an entry of five parts
five_parts : (a b c d e : List ℕ) → length ((((a ++ b) ++ c) ++ d) ++ e) ≡ length a + length b + length c + length d + length e
five_parts a b c d e =
    omega (
      arith,
      length-append a b,
      length-append (a ++ b) c,
      length-append ((a ++ b) ++ c) d,
      length-append
          (((a ++ b) ++ c) ++ d) e,
    )

four_parts : (a b c d : List ℕ) → length (((a ++ b) ++ c) ++ d) ≡ length a + length b + length c + length d
four_parts a b c d = omega (arith, length-append a b, length-append (a ++ b) c, length-append ((a ++ b) ++ c) d)

-- a user adds 65 bytes at most
pub user_few : (before after : List ℕ) (name : Name) (i gate password : ℕ)
    → after ≡ before ++ user_entry name i gate password → length name ≤ 32 → length after ≤ length before + 65
unfolding user_entry
user_few before after name i gate password is short =
    let parts =
    five_parts (length name ∷ name) (to_be_bytes w64 (read_category i)) (to_be_bytes w64 (write_category i))
    (to_be_bytes w64 gate) (to_be_bytes w64 password) in
    omega (arith, ap length is, length-append before (user_entry name i gate password), parts, short)

-- a group adds 66 bytes at most
pub group_few : (before after : List ℕ) (users : List User) (k : ℕ) (group : Group)
    → after ≡ before ++ group_entry users k group → length group.name ≤ 32 → length users ≤ 16
    → length after ≤ length before + 66
unfolding group_entry
group_few before after users k group is short few =
    let owner = group_owner (length users) k in
    let members = members_few 1 users group.members in
    let parts =
    four_parts (length group.name ∷ group.name) (to_be_bytes w64 (read_category owner))
    (to_be_bytes w64 (write_category owner)) (length group.members ∷ numbers_among 1 users group.members) in
    omega (arith, ap length is, length-append before (group_entry users k group), parts, short, few, members)
