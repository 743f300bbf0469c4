-- The object at each number at the start, where there are these users and groups.
use Rattle.std.proofs.Common.{◌≡◌, ℕ, zero, suc, ◌+◌, ◌*◌, ◌-◌, ◌≤◌, true, List, [], ◌∷◌, ◌++◌, length, get_or, drop, None, Some, refl, sym, ap, ◌∙◌}
use Rattle.std.proofs.Common.{subst, arith, append_assoc}
use Rattle.std.proofs.lemmas.List.{length-append}
use Rattle.std.proofs.lemmas.Bool.Decides.{nat_tests}
use Rattle.std.specs.FinSet as set
use Rattle.histar_flat.specs.declared.calls.User.{User}
use Rattle.histar_flat.specs.Accounts.{Accounts}
use Rattle.histar_level.specs.Levels.{Levels}
use Rattle.histar_object.specs.declared.objects.Kind.TheVariants.{Thread}
use Rattle.histar_object.specs.Objects.{is_present, links_in}
use Rattle.histar_object.specs.State.{Found}
use Rattle.histar_layout.specs.Categories.{write_category}
use Rattle.histar_layout.specs.Labelling.{written_by, secret_of, owner_of, cleared_of}
use Rattle.histar_programs.specs.Start.{root_category, declared, own_read_category, own_write_category, segment, container}
use Rattle.histar_programs.specs.Start.{numbered, of_user, of_users}
use Rattle.histar_programs.specs.Start.{of_directory, of_process, first_process_bytes, user_table, start_objects, object_at}
use Rattle.histar_programs.proofs.StartLengths.{length-numbered}
use Rattle.histar_refinement.proofs.StartNumbers.{is_left}
use Rattle.histar_refinement.specs.Agrees.{bare}

-- an object that is no container
pub record IsPlain (found : Found) : Type 0 where
  pub there : is_present found ≡ true
  pub bared : bare found ≡ found
  pub linkless : links_in found ≡ set.empty

-- the objects after the front of a table
behind : (front back : List Found) (k : ℕ) → get_or (front ++ back) (length front + k) None ≡ get_or back k None
behind [] back k = let same : 0 + k ≡ k = omega arith in ap (λ j. get_or back j None) same
behind (x ∷ front) back k =
    let next : length (x ∷ front) + k
    ≡ suc (length front + k) = omega arith in ap (λ j. get_or (x ∷ front ++ back) j None) next ∙ behind front back k

-- the users' passwords and gates are no containers, and a segment after them is none
users_plain : (accounts : Accounts) (i : ℕ) (users : List User) (label : Levels) (bytes : List ℕ) (back : List Found) (k : ℕ) → k ≤ 2 * length users
    → IsPlain (get_or (numbered (of_user accounts) i users ++ segment label bytes ∷ back) k None)
users_plain accounts i [] label bytes back zero h = record { there = refl; bared = refl; linkless = refl }
users_plain accounts i [] label bytes back (suc k) h = absurd (omega arith)
users_plain accounts i (user ∷ users) label bytes back zero h = record { there = refl; bared = refl; linkless = refl }
users_plain accounts i (user ∷ users) label bytes back (suc zero) h = record { there = refl; bared = refl; linkless = refl }
users_plain accounts i (user ∷ users) label bytes back (suc (suc k)) h = users_plain accounts (i + 1) users label bytes back k (omega arith)

module _ (accounts : Accounts) where
  -- how many users there are
  abbrev pub n : ℕ
  n = length accounts.users

  -- the number of users and groups together
  abbrev pub owners : ℕ
  owners = declared accounts

  -- the objects after the root container
  from_users : (k : ℕ)
      → object_at (start_objects accounts) (suc (suc (suc k)))
      ≡ get_or (of_users accounts accounts.users ++ (of_directory n accounts ++ of_process n owners)) k None
  from_users k =
      ap (λ (l : List Found). get_or l k None)
      (append_assoc (of_users accounts accounts.users) (of_directory n accounts) (of_process n owners))

  -- the objects after the users' passwords and gates
  last_at : (k q : ℕ) → q ≡ 3 + 2 * n + k → object_at (start_objects accounts) q ≡ get_or (of_directory n accounts ++ of_process n owners) k None
  last_at k q e =
      let is : q ≡ suc (suc (suc (length (of_users accounts accounts.users) + k))) = omega (arith, length-numbered accounts 1 accounts.users) in
      ap (object_at (start_objects accounts)) is ∙ from_users (length (of_users accounts accounts.users) + k)
      ∙ behind (of_users accounts accounts.users) (of_directory n accounts ++ of_process n owners) k

  -- what boot left is there, and is no container
  pub left_plain : (q : ℕ) → is_left n q ≡ true → IsPlain (object_at (start_objects accounts) q)
  left_plain zero e = absurd (grind (arith, nat_tests))
  left_plain (suc zero) e = absurd (grind (arith, nat_tests))
  left_plain (suc (suc zero)) e = absurd (grind (arith, nat_tests))
  left_plain (suc (suc (suc k))) e =
      let back = drop 1 (of_directory n accounts ++ of_process n owners) in
      subst IsPlain (sym (from_users k)) (users_plain accounts 1 accounts.users (written_by root_category) (user_table accounts) back k
      (grind (arith, nat_tests)))

  -- `/` links its directory segment, and the first user alone may write it
  pub slash_agrees : object_at (start_objects accounts) (4 + 2 * n) ≡ container (written_by (write_category 1)) ((5 + 2 * n) ∷ [])
  slash_agrees = last_at 1 _ (omega arith)

  -- the directory segment of `/` is empty
  pub listing_agrees : object_at (start_objects accounts) (5 + 2 * n) ≡ segment (written_by (write_category 1)) []
  listing_agrees = last_at 2 _ (omega arith)

  -- the container of process 0 links its internal container and its process segment
  pub home_agrees : object_at (start_objects accounts) (6 + 2 * n)
      ≡ container (written_by (own_write_category owners)) ((7 + 2 * n) ∷ (9 + 2 * n) ∷ [])
  home_agrees = last_at 3 _ (omega arith)

  -- the internal container of process 0 links its thread
  pub inside_agrees : object_at (start_objects accounts) (7 + 2 * n)
      ≡ container (secret_of (own_read_category owners) (own_write_category owners)) ((8 + 2 * n) ∷ [])
  inside_agrees = last_at 4 _ (omega arith)

  -- the thread of process 0 owns its own two categories alone
  pub runner_agrees : object_at (start_objects accounts) (8 + 2 * n)
      ≡ Some (record {
        label = owner_of (own_read_category owners) (own_write_category owners);
        kind = Thread (cleared_of (own_read_category owners) (own_write_category owners));
      })
  runner_agrees = last_at 5 _ (omega arith)

  -- the process segment names the internal container and the thread
  pub status_agrees : object_at (start_objects accounts) (9 + 2 * n)
      ≡ segment (written_by (own_write_category owners)) (first_process_bytes (7 + 2 * n) (8 + 2 * n))
  status_agrees = last_at 6 _ (omega arith)

  -- there is no object after the process segment
  pub none_behind : (q : ℕ) → 10 + 2 * n ≤ q → object_at (start_objects accounts) q ≡ None
  none_behind q h = last_at (suc (suc (suc (suc (suc (suc (suc (q - (10 + 2 * n))))))))) q (omega arith)

  -- the number of objects at the start
  pub length_start : length (start_objects accounts) ≡ 9 + 2 * n
  length_start =
      omega (
        arith,
        length-append (of_users accounts accounts.users ++ of_directory n accounts) (of_process n owners),
        length-append (of_users accounts accounts.users) (of_directory n accounts),
        length-numbered accounts 1
            accounts.users,
      )
