-- The labels that calls give by the numbers of users are those of names: what is private or readable, and a thread as a user's.
use Rattle.std.proofs.Common.{◌≡◌, ℕ, ◌+◌, ◌<◌, ◌≤◌, Bool, true, false, List, [], ◌∷◌, ◌++◌, length, Option, None, Some, arith, refl, sym, ap, ◌∙◌}
use Rattle.std.specs.Prelude.{map, position, nat_eq, option_map}
use Rattle.std.specs.Str.{bytes_eq}
use Rattle.std.proofs.lemmas.Bool.Decides.{nat_tests}
use Rattle.std.proofs.lemmas.List.{append-nil}
use Rattle.std.proofs.lemmas.Slice.Eq.{bytes_eq-Decides}
use Rattle.histar_flat.specs.declared.calls.User.{User}
use Rattle.histar_flat.specs.Words.{Name, ProcName}
use Rattle.histar_base.specs.Paths.{same}
use Rattle.histar_level.specs.Level.{is_star}
use Rattle.histar_level.specs.Levels.{level_of}
use Rattle.histar_flat.specs.Accounts.{Accounts, user_number, group_number}
use Rattle.histar_flat.specs.Classes.{Process}
use Rattle.histar_flat.specs.FlatState.{Flat}
use Rattle.histar_object.specs.State.{State}
use Rattle.histar_layout.specs.Categories.{read_category, write_category, group_owner, owner_of_group, owners_of, owns, IsUserOf}
use Rattle.histar_layout.specs.Labelling.{written_by, secret_of, guarded_by, owner_label, cleared_at}
use Rattle.histar_programs.specs.declared.caller.Caller.{Caller}
use Rattle.histar_programs.specs.Users.{place_of, owned_as_user, user_label, user_clearance}
use Rattle.histar_refinement.specs.Categories.CategoryName.{ReadsUser, WritesUser, ReadsProcess, WritesProcess, OfJob}
use Rattle.histar_refinement.specs.Categories.{CategoryName, among}
use Rattle.histar_refinement.specs.Processes.{or_zero}
use Rattle.histar_refinement.specs.Guards.{guard_label, rights_label, rights_clearance}
use Rattle.histar_refinement.specs.Labels.{private_guard, readable_guard, group_guard, reading, writing, owned_as, thread_rights}
use Rattle.histar_refinement.specs.Represents.{ObjectsMatch}
use Rattle.histar_layout.proofs.Members.{same_truth}
use Rattle.histar_layout.proofs.LabelLevels.{at_owning, owning_level}
use Rattle.histar_refinement.proofs.CategoryTests.{among_none, is_in_names}
use Rattle.histar_refinement.proofs.ClassTests.{owns_read_of}
use Rattle.histar_refinement.proofs.GateLabels.{user_reads, user_writes, group_reads, group_writes, owned_is}
use Rattle.histar_refinement.proofs.AccountLemmas.{is_number}
use Rattle.histar_layout.proofs.Declared.{group_range, user_range, equal_tested, equal_names}

-- looking up a user and testing a password by equal bytes is the test of equality
pub equal_bytes : (a b : Name) → bytes_eq a b ≡ same a b
equal_bytes a b =
    same_truth (bytes_eq a b) (same a b) (λ e. equal_tested a b ((bytes_eq-Decides a b).0 e))
    (λ e. (bytes_eq-Decides a b).1 (equal_names a b e))

-- a user's number is one more than the user's place
pub number_by_place : (accounts : Accounts) (name : Name) → user_number accounts name ≡ option_map (λ place. place + 1) (place_of accounts.users name)
number_by_place accounts name = λ i. option_map (λ place. place + 1) (position (λ (u : User). sym (equal_bytes u.name name) i) accounts.users)

module _ (accounts : Accounts) (s : State) (f : Flat) (l : ObjectsMatch accounts s f) where
  -- a user's categories have the numbers that the calls compute
  pub reads_numbered : (i : ℕ) → i ≤ length accounts.users → l.category (ReadsUser i) ≡ read_category i
  reads_numbered = user_reads accounts l.category l.as_made

  pub writes_numbered : (i : ℕ) → i ≤ length accounts.users → l.category (WritesUser i) ≡ write_category i
  writes_numbered = user_writes accounts l.category l.as_made

  -- what is private to a user, and what everyone may read and the user may write
  pub private_label : (i : ℕ) → i ≤ length accounts.users → guard_label l.category (private_guard i) ≡ secret_of (read_category i) (write_category i)
  private_label i h = λ k. guarded_by (reads_numbered i h k ∷ []) (writes_numbered i h k ∷ [])

  pub readable_label : (i : ℕ) → i ≤ length accounts.users → guard_label l.category (readable_guard i) ≡ written_by (write_category i)
  readable_label i h = λ k. guarded_by [] (writes_numbered i h k ∷ [])

  -- what is for the members of a group
  pub group_label : (name : Name) (k : ℕ) → group_number accounts name ≡ Some k
      → guard_label l.category (group_guard k)
      ≡ secret_of (read_category (owner_of_group accounts name)) (write_category (owner_of_group accounts name))
  group_label name k numbered =
      let range = group_range accounts name k numbered in
      let owner : owner_of_group accounts name ≡ group_owner (length accounts.users) k =
      λ i. elim (numbered i) as (λ _. ℕ) [ None ↦ 0 | Some number ↦ group_owner (length accounts.users) number ] in
      (λ i. guarded_by (group_reads accounts l.category l.as_made k range.0 range.1 i ∷ [])
      (group_writes accounts l.category l.as_made k range.0 range.1 i ∷ []))
      ∙ ap (λ (o : ℕ). secret_of (read_category o) (write_category o)) (sym owner)

-- a category is owned exactly where its level is star
star_revealed : (b : Bool) → is_star (owning_level b false) ≡ b
unfolding is_star
star_revealed true = refl
star_revealed false = refl

module _ (accounts : Accounts) (s : State) (f : Flat) (l : ObjectsMatch accounts s f) (me : ProcName) (p : Process) where
  -- a process's thread owns a user's first category where the process is that user's
  pub owns_reads : (j : ℕ) → j ≤ length accounts.users
      → owns (rights_label l.category (thread_rights accounts me p)) j ≡ is_number (user_number accounts p.user) j
  owns_reads j h =
      ap (λ (q : ℕ). is_star (level_of (rights_label l.category (thread_rights accounts me p)) q)) (sym (reads_numbered accounts s f l j h))
      ∙ ap is_star (at_owning (map l.category (thread_rights accounts me p).owned) (map l.category (map OfJob p.chain)) (l.category (ReadsUser j))
      ∙ (λ k. owning_level (is_in_names l.category l.different (thread_rights accounts me p).owned (ReadsUser j) k)
      ((is_in_names l.category l.different (map OfJob p.chain) (ReadsUser j)
      ∙ among_none OfJob (ReadsUser j) (λ job. refl) p.chain) k)))
      ∙ star_revealed (among (thread_rights accounts me p).owned (ReadsUser j)) ∙ owns_read_of accounts me p j

  -- the label of a process's thread shows the process's user
  pub user_of_thread : IsUserOf (rights_label l.category (thread_rights accounts me p)) (length accounts.users)
      (or_zero (user_number accounts p.user))
  user_of_thread = by (user_number accounts p.user) refl
    where
      other_number : (i j : ℕ) → j < i → nat_eq j i ≡ false
      other_number i j lt = grind (arith, nat_tests, lt)

      itself : (i : ℕ) → nat_eq i i ≡ true
      itself i = grind (arith, nat_tests)

      by : (o : Option ℕ) → user_number accounts p.user ≡ o
          → IsUserOf (rights_label l.category (thread_rights accounts me p)) (length accounts.users) (or_zero o)
      by None is = record {
        owner = λ lt. absurd (omega (arith, lt));
        first = λ j low lt. absurd (omega (arith, lt));
        nobody = λ e j low high. owns_reads j high ∙ ap (λ (x : Option ℕ). is_number x j) is;
        known = omega arith;
      }
      by (Some i) is =
          let range = user_range accounts p.user i is in
          let low = range.0 in
          let high = range.1 in
          record {
            owner = λ lt. owns_reads i high ∙ ap (λ (x : Option ℕ). is_number x i) is ∙ itself i;
            first = λ j positive lt. owns_reads j (omega (arith, lt, high)) ∙ ap (λ (x : Option ℕ). is_number x j) is ∙ other_number i j lt;
            nobody = λ e. absurd (omega (arith, low, e));
            known = high;
          }

module _ (accounts : Accounts) (s : State) (f : Flat) (l : ObjectsMatch accounts s f) (me : ProcName) (caller : Caller)
    (own_reads : l.category (ReadsProcess me) ≡ caller.read) (own_writes : l.category (WritesProcess me) ≡ caller.write)
    (name : Name) (i : ℕ) (numbered : user_number accounts name ≡ Some i) (exited : Option ℕ) (born : ℕ) where
  -- the process as the user's, in no job and holding none
  abbrev pub as_user : Process
  as_user = record { user = name; chain = []; held = []; exited = exited; born = born }

  abbrev owned : List ℕ
  owned = owned_as_user caller (owners_of accounts i name)

  -- then the process owns its own two categories and those that the user owns
  owned_so : map l.category (thread_rights accounts me as_user).owned ≡ owned
  owned_so =
      ap (λ (x : Option ℕ). map l.category (ReadsProcess me ∷ WritesProcess me ∷ owned_as accounts as_user x ++ [])) numbered
      ∙ (λ k. own_reads k ∷ own_writes k ∷ map l.category (append-nil (reading accounts name i ++ writing accounts name i) k))
      ∙ ap (λ (o : List ℕ). caller.read ∷ caller.write ∷ o)
      (owned_is accounts l.category l.as_made name i (user_range accounts name i numbered).1 true)

  -- The label and the clearance that a login gives a process are those of the user.
  pub user_label_is : rights_label l.category (thread_rights accounts me as_user) ≡ user_label caller (owners_of accounts i name)
  user_label_is = ap (λ (o : List ℕ). owner_label o []) owned_so

  pub user_clearance_is : rights_clearance l.category (thread_rights accounts me as_user) ≡ user_clearance caller (owners_of accounts i name)
  user_clearance_is =
      ap (λ (names : List CategoryName). cleared_at (map l.category names))
      (append-nil (thread_rights accounts me as_user).owned) ∙ ap cleared_at owned_so
