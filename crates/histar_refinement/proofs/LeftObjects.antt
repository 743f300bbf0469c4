-- What boot left stays for good: each user's password and gate, with the numbers of categories that the state has.
use Rattle.std.proofs.Common.{◌≡◌, ℕ, zero, suc, ◌+◌, ◌*◌, ◌<◌, ◌≤◌, Bool, true, false, cond, List, [], ◌∷◌, ◌++◌, length, get_or, Option, None, Some}
use Rattle.std.proofs.Common.{arith, refl, sym, ap, ◌∙◌, subst}
use Rattle.std.specs.Prelude.{map, position, slice_get, nat_le, nat_lt, unwrap_or, option_map}
use Rattle.std.specs.List.{find, position_or_len}
use Rattle.std.specs.FinSet as set
use Rattle.std.proofs.lemmas.Bool.Decides.{nat_tests}
use Rattle.std.proofs.lemmas.List.Folds.{find_at}
use Rattle.std.proofs.lemmas.Option.{none-some, same_Some}
use mathlib.Core.Bool.{true≢false}
use Rattle.histar_flat.specs.declared.calls.User.{User}
use Rattle.histar_flat.specs.Words.{Name}
use Rattle.histar_base.specs.Paths.{same}
use Rattle.histar_level.specs.Levels.{Levels}
use Rattle.histar_flat.specs.Accounts.{Accounts, user_named, user_number, groups_of}
use Rattle.histar_flat.specs.FlatState.{Flat}
use Rattle.histar_object.specs.declared.objects.Entry.TheVariants.{Login}
use Rattle.histar_object.specs.declared.objects.Kind.TheVariants.{Segment, Container, Gate}
use Rattle.histar_object.specs.declared.objects.Object.{Object}
use Rattle.histar_object.specs.Objects.{Numbers as Links, links_in}
use Rattle.histar_object.specs.State.{State, Found}
use Rattle.histar_rules.specs.Sound.{root_number}
use Rattle.histar_layout.specs.Categories.{read_category, write_category}
use Rattle.histar_layout.specs.Labelling.{guarded_by, secret_of}
use Rattle.histar_programs.specs.Start.{numbered, gate_label, gate_clearance, of_user}
use Rattle.histar_programs.specs.Users.{password_of, gate_of}
use Rattle.histar_refinement.specs.Categories.{CategoryName, boot_category, booted, among}
use Rattle.histar_refinement.specs.Categories.CategoryName.{OfBoot, ReadsUser, WritesUser, ReadsGroup, WritesGroup}
use Rattle.histar_refinement.specs.Guards.{guard_label, rights_label, rights_clearance}
use Rattle.histar_refinement.specs.Labels.{boot_guard, private_guard, gate_rights, reading, writing}
use Rattle.histar_refinement.specs.LeftByBoot.{left_by_boot}
use Rattle.histar_refinement.specs.Addresses.{same_step, first_left, table_number}
use Rattle.histar_refinement.specs.Addresses.Step.{Left}
use Rattle.histar_refinement.specs.Agrees.{bare}
use Rattle.histar_refinement.proofs.Expected.{expected}
use Rattle.histar_refinement.specs.Represents.{ObjectsMatch}
use Rattle.histar_refinement.proofs.AmongNames.{each_head, each_append}
use Rattle.histar_layout.proofs.Members.{mapped_from}
use Rattle.histar_layout.proofs.Declared.{user_range, placed, equal_names}
use Rattle.histar_refinement.proofs.Growing.{GuardHas, RightsHave, KeepsNumber, same_guard_label, same_rights_label, same_rights_clearance}
use Rattle.histar_refinement.proofs.Uses.{group_among, groups_within}
use Rattle.histar_refinement.proofs.GateLabels.{user_reads, user_writes, gate_label_is, gate_clearance_is}
use Rattle.histar_refinement.proofs.Steps.{step_tests_equality}
use Rattle.histar_refinement.proofs.Moving.{bare_is, at_number}
use Rattle.histar_refinement.proofs.Agreeing.{bare_container_is, step_linked}
use Rattle.histar_refinement.proofs.Agreement.{agreement}

no_truth : false ≡ true → ⊥
no_truth e = true≢false (sym e)

-- ---- users by their names

-- the user of a name is at the name's place
named_is_found : (users : List User) (name : Name) → user_named users name ≡ find (λ (u : User). same u.name name) users
named_is_found [] name = refl
named_is_found (u ∷ users) name = ap (cond (same u.name name) (Some u)) (named_is_found users name)

named_at : (users : List User) (name : Name) → user_named users name ≡ slice_get users (position_or_len (λ (u : User). same u.name name) users)
named_at users name = named_is_found users name ∙ find_at (λ (u : User). same u.name name) users

place_revealed : (b : Bool) (k m : ℕ) → cond b (Some k) None ≡ Some m → k ≡ m
place_revealed true k m e = same_Some k m e
place_revealed false k m e = absurd (none-some m e)

-- a user who has a number is the one of this name, and is at its place
pub numbered_user : (accounts : Accounts) (name : Name) (i : ℕ) → user_number accounts name ≡ Some i
    → (k : ℕ) × (u : User) × (k + 1 ≡ i) × (slice_get accounts.users k ≡ Some u)
    × (user_named accounts.users name ≡ Some u) × (u.name ≡ name)
numbered_user accounts name i e =
    let k = mapped_from (λ k. k + 1) (position (λ (u : User). same u.name name) accounts.users) i e in
    let at = placed (λ (u : User). same u.name name) accounts.users k.0 k.1 in (
      k.0,
      at.0,
      k.2,
      at.1,
      named_at accounts.users name
          ∙ ap (slice_get accounts.users)
          (place_revealed _ (position_or_len (λ (u : User). same u.name name) accounts.users) k.0 k.1)
          ∙ at.1,
      equal_names at.0.name name at.2,
    )

-- there is no user at a place from the length on
no_user_at : (users : List User) (k : ℕ) → length users ≤ k → slice_get users k ≡ None
no_user_at [] k le = refl
no_user_at (u ∷ users) zero le = absurd (omega (arith, le))
no_user_at (u ∷ users) (suc k) le = no_user_at users k (omega (arith, le))

-- a list of users has nobody at a place that is none
unplaced : (b : Bool) (users : List User) (k : ℕ) → nat_lt k (length users) ≡ b
    → option_map (λ place. place + 1) (cond b (Some k) None) ≡ None → slice_get users k ≡ None
unplaced true users k is e = absurd (none-some (k + 1) (sym e))
unplaced false users k is e = no_user_at users k (grind (arith, nat_tests, is))

-- a name that has no number is no user's
pub unnumbered_user : (accounts : Accounts) (name : Name) → user_number accounts name ≡ None → user_named accounts.users name ≡ None
unnumbered_user accounts name e =
    let k = position_or_len (λ (u : User). same u.name name) accounts.users in
    named_at accounts.users name ∙ unplaced (nat_lt k (length accounts.users)) accounts.users k refl e

-- ---- the table of what boot left

-- a user at a place is at one below the length
user_below : (users : List User) (k : ℕ) (u : User) → slice_get users k ≡ Some u → k < length users
user_below [] k u e = absurd (none-some u e)
user_below (v ∷ users) zero u e = omega arith
user_below (v ∷ users) (suc k) u e = let below = user_below users k u e in omega (arith, below)

module _ (accounts : Accounts) where
  -- a user's password and gate, as boot made them
  abbrev password_made : ℕ → User → Object Levels
  password_made i u = record { label = secret_of (read_category i) (write_category i); kind = Segment u.password }

  abbrev gate_made : ℕ → User → Object Levels
  gate_made i u = record { label = gate_label accounts i u.name; kind = Gate (gate_clearance accounts i u.name) (Login i) }

  -- and by the names of their categories
  abbrev password_left : ℕ → User → Object Levels
  password_left i u = record { label = guard_label (booted accounts) (private_guard i); kind = Segment u.password }

  abbrev gate_left : ℕ → User → Object Levels
  gate_left i u =
      record {
        label = rights_label (booted accounts) (gate_rights accounts u.name i);
        kind = Gate (rights_clearance (booted accounts) (gate_rights accounts u.name i)) (Login i);
      }

  -- boot's numbers are those that it gave
  booted_as_made : (c : CategoryName) (q : ℕ) → boot_category accounts c ≡ Some q → booted accounts c ≡ q
  booted_as_made c q is = ap (λ (o : Option ℕ). unwrap_or o 0) is

  password_named : (i : ℕ) (u : User) → i ≤ length accounts.users → password_made i u ≡ password_left i u
  password_named i u h =
      let reads = user_reads accounts (booted accounts) booted_as_made i h in
      let writes = user_writes accounts (booted accounts) booted_as_made i h in
      λ k. record { label = guarded_by (sym reads k ∷ []) (sym writes k ∷ []); kind = Segment u.password }

  gate_named : (i : ℕ) (u : User) → i ≤ length accounts.users → gate_made i u ≡ gate_left i u
  gate_named i u h =
      λ k. record {
        label = gate_label_is accounts (booted accounts) booted_as_made u.name i h k;
        kind = Gate (gate_clearance_is accounts (booted accounts) booted_as_made u.name i h k) (Login i);
      }

  password_among : (users : List User) (j k : ℕ) (u : User) (more : List Found) → slice_get users k ≡ Some u
      → get_or (numbered (of_user accounts) j users ++ more) (2 * k) None ≡ Some (password_made (j + k) u)
  password_among [] j k u more e = absurd (none-some u e)
  password_among (v ∷ users) j zero u more e =
      let is : v ≡ u = same_Some v u e in
      let number : j ≡ j + 0 = omega arith in
      (λ i. Some (password_made (number i) (is i)))
  password_among (v ∷ users) j (suc k) u more e =
      let place : 2 * suc k ≡ suc (suc (2 * k)) = omega arith in
      let number : j + 1 + k ≡ j + suc k = omega arith in
      ap (λ (m : ℕ). get_or (numbered (of_user accounts) j (v ∷ users) ++ more) m None) place
      ∙ password_among users (j + 1) k u more e ∙ ap (λ (i : ℕ). Some (password_made i u)) number

  gate_among : (users : List User) (j k : ℕ) (u : User) (more : List Found) → slice_get users k ≡ Some u
      → get_or (numbered (of_user accounts) j users ++ more) (suc (2 * k)) None ≡ Some (gate_made (j + k) u)
  gate_among [] j k u more e = absurd (none-some u e)
  gate_among (v ∷ users) j zero u more e =
      let is : v ≡ u = same_Some v u e in
      let number : j ≡ j + 0 = omega arith in
      (λ i. Some (gate_made (number i) (is i)))
  gate_among (v ∷ users) j (suc k) u more e =
      let place : suc (2 * suc k) ≡ suc (suc (suc (2 * k))) = omega arith in
      let number : j + 1 + k ≡ j + suc k = omega arith in
      ap (λ (m : ℕ). get_or (numbered (of_user accounts) j (v ∷ users) ++ more) m None) place
      ∙ gate_among users (j + 1) k u more e ∙ ap (λ (i : ℕ). Some (gate_made i u)) number

  left_password : (k : ℕ) (u : User) → slice_get accounts.users k ≡ Some u
      → left_by_boot accounts (password_of (k + 1)) ≡ Some (password_left (k + 1) u)
  left_password k u e =
      let below = user_below accounts.users k u e in
      let place : password_of (k + 1) ≡ suc (suc (suc (2 * k))) = omega arith in
      let number : 1 + k ≡ k + 1 = omega arith in
      let high : k + 1 ≤ length accounts.users = omega (arith, below) in
      ap (left_by_boot accounts) place ∙ password_among accounts.users 1 k u _ e ∙ ap (λ (i : ℕ). Some (password_made i u)) number
      ∙ ap (λ (o : Object Levels). Some o) (password_named (k + 1) u high)

  left_gate : (k : ℕ) (u : User) → slice_get accounts.users k ≡ Some u → left_by_boot accounts (gate_of (k + 1)) ≡ Some (gate_left (k + 1) u)
  left_gate k u e =
      let below = user_below accounts.users k u e in
      let place : gate_of (k + 1) ≡ suc (suc (suc (suc (2 * k)))) = omega arith in
      let number : 1 + k ≡ k + 1 = omega arith in
      let high : k + 1 ≤ length accounts.users = omega (arith, below) in
      ap (left_by_boot accounts) place ∙ gate_among accounts.users 1 k u _ e ∙ ap (λ (i : ℕ). Some (gate_made i u)) number
      ∙ ap (λ (o : Object Levels). Some o) (gate_named (k + 1) u high)

-- ---- in a state that is represented

module _ (accounts : Accounts) (s : State) (f : Flat) (l : ObjectsMatch accounts s f) where
  -- the root container
  pub root_found : (links : Links)
      × (s.objects root_number
      ≡ Some (record { label = guard_label (booted accounts) boot_guard; kind = Container links }))
  root_found = bare_container_is (s.objects root_number) (guard_label (booted accounts) boot_guard)
      (at_number same_step step_tests_equality s l.naming (expected accounts l.category f l.naming.number) (agreement l) []
      root_number (l.as_booted [] root_number refl))

  -- what boot left has the numbers that boot gave
  left_number : (q : ℕ) → first_left ≤ q → q ≤ table_number (length accounts.users) → l.naming.number (Left q ∷ []) ≡ Some q
  left_number q low high =
      let a : nat_le first_left q ≡ true = grind (arith, nat_tests, low) in
      let b : nat_le q (table_number (length accounts.users)) ≡ true = grind (arith, nat_tests, high) in
      l.as_booted (Left q ∷ []) q (rw (a, b) refl)

  left_bare : (q : ℕ) → first_left ≤ q → q ≤ table_number (length accounts.users) → bare (s.objects q) ≡ left_by_boot accounts q
  left_bare q low high =
      at_number same_step step_tests_equality s l.naming (expected accounts l.category f l.naming.number) (agreement l)
      (Left q ∷ []) q (left_number q low high)

  left_linked : (q : ℕ) → first_left ≤ q → q ≤ table_number (length accounts.users) → set.contains (links_in (s.objects root_number)) q ≡ true
  left_linked q low high = step_linked accounts s f l (Left q) [] root_number q (l.as_booted [] root_number refl) (left_number q low high)

  -- a category that boot made has the number in the state that boot gave
  tied : (c : CategoryName) (q : ℕ) → boot_category accounts c ≡ Some q → KeepsNumber (booted accounts) l.category c
  tied c q e = l.as_made c q e ∙ sym (ap (λ (o : Option ℕ). unwrap_or o 0) e)

  low_test : (i n : ℕ) → i ≤ n → nat_le i n ≡ true
  low_test i n h = grind (arith, nat_tests, h)

  tied_reads : (i : ℕ) → i ≤ length accounts.users → KeepsNumber (booted accounts) l.category (ReadsUser i)
  tied_reads i low = tied (ReadsUser i) (2 + 2 * i) (ap (λ b. cond b (Some (2 + 2 * i)) None) (low_test i (length accounts.users) low))

  tied_writes : (i : ℕ) → i ≤ length accounts.users → KeepsNumber (booted accounts) l.category (WritesUser i)
  tied_writes i low = tied (WritesUser i) (3 + 2 * i) (ap (λ b. cond b (Some (3 + 2 * i)) None) (low_test i (length accounts.users) low))

  tied_reads_group : (k : ℕ) → 1 ≤ k → k ≤ length accounts.groups → KeepsNumber (booted accounts) l.category (ReadsGroup k)
  tied_reads_group k low high =
      tied (ReadsGroup k) (2 + 2 * length accounts.users + 2 * k)
      (rw (low_test 1 k low, low_test k (length accounts.groups) high) refl)

  tied_writes_group : (k : ℕ) → 1 ≤ k → k ≤ length accounts.groups → KeepsNumber (booted accounts) l.category (WritesGroup k)
  tied_writes_group k low high =
      tied (WritesGroup k) (3 + 2 * length accounts.users + 2 * k)
      (rw (low_test 1 k low, low_test k (length accounts.groups) high) refl)

  -- the root container as all others, by the state's numbers
  pub root_label : guard_label (booted accounts) boot_guard ≡ guard_label l.category boot_guard
  root_label =
      sym (same_guard_label (booted accounts) l.category boot_guard (
        λ c e. absurd (no_truth e),
        each_head (KeepsNumber (booted accounts) l.category) OfBoot []
            (tied OfBoot 1 refl) (λ c e. absurd (no_truth e)),
      ))

  module _ (name : Name) (i : ℕ) (numbered_so : user_number accounts name ≡ Some i) where
    user : (k : ℕ) × (u : User) × (k + 1 ≡ i) × (slice_get accounts.users k ≡ Some u) × (user_named accounts.users name ≡ Some u) × (u.name ≡ name)
    user = numbered_user accounts name i numbered_so

    low : 1 ≤ i
    low = (user_range accounts name i numbered_so).0

    high : i ≤ length accounts.users
    high = (user_range accounts name i numbered_so).1

    user_tied : GuardHas (KeepsNumber (booted accounts) l.category) (private_guard i)
    user_tied = (
      each_head (KeepsNumber (booted accounts) l.category) (ReadsUser i) [] (tied_reads i high) (λ c e. absurd (no_truth e)),
      each_head (KeepsNumber (booted accounts) l.category) (WritesUser i) [] (tied_writes i high) (λ c e. absurd (no_truth e)),
    )

    groups_tied : (make : ℕ → CategoryName) → ((k : ℕ) → 1 ≤ k → k ≤ length accounts.groups → KeepsNumber (booted accounts) l.category (make k))
        → (c : CategoryName) → among (map make (groups_of accounts name)) c ≡ true → KeepsNumber (booted accounts) l.category c
    groups_tied make each c e =
        let found = group_among make (groups_of accounts name) c e in
        let within = groups_within accounts name found.0 found.2 in
        subst (KeepsNumber (booted accounts) l.category) (sym found.1) (each found.0 within.0 within.1)

    gate_tied : RightsHave (KeepsNumber (booted accounts) l.category) (gate_rights accounts name i)
    gate_tied = (
      each_append (KeepsNumber (booted accounts) l.category) (reading accounts name i) (writing accounts name i)
          (each_head (KeepsNumber (booted accounts) l.category) (ReadsUser i)
          (map ReadsGroup (groups_of accounts name)) (tied_reads i high)
          (groups_tied ReadsGroup tied_reads_group))
          (each_head (KeepsNumber (booted accounts) l.category) (WritesUser i)
          (map WritesGroup (groups_of accounts name)) (tied_writes i high)
          (groups_tied WritesGroup tied_writes_group)),
      λ c e. absurd (no_truth e),
    )

    password_low : first_left ≤ password_of i
    password_low = let a = low in omega (arith, a)

    password_high : password_of i ≤ table_number (length accounts.users)
    password_high = let a = high in omega (arith, a)

    gate_low : first_left ≤ gate_of i
    gate_low = let a = low in omega (arith, a)

    gate_high : gate_of i ≤ table_number (length accounts.users)
    gate_high = let a = high in omega (arith, a)

    -- the segment of the user's password is private to the user
    pub password_found : (u : User) × (user_named accounts.users name ≡ Some u)
        × (s.objects (password_of i)
        ≡ Some (record { label = guard_label l.category (private_guard i); kind = Segment u.password }))
    password_found = (
      user.1,
      user.4,
      bare_is (s.objects (password_of i)) (record { label = guard_label l.category (private_guard i); kind = Segment user.1.password }) refl
          (left_bare (password_of i) password_low password_high
          ∙ ap (λ (k : ℕ). left_by_boot accounts (password_of k)) (sym user.2)
          ∙ left_password accounts user.0 user.1 user.3
          ∙ ap (λ (k : ℕ). Some (password_left accounts k user.1)) user.2
          ∙ ap (λ (label : Levels). Some (record { label = label; kind = Segment user.1.password }))
          (sym (same_guard_label (booted accounts) l.category (private_guard i) user_tied))),
    )

    -- the user's gate gives what the user owns
    pub gate_found : s.objects (gate_of i)
        ≡ Some (record {
          label = rights_label l.category (gate_rights accounts name i);
          kind = Gate (rights_clearance l.category (gate_rights accounts name i)) (Login i);
        })
    gate_found =
        bare_is (s.objects (gate_of i)) (record {
          label = rights_label l.category (gate_rights accounts name i);
          kind = Gate (rights_clearance l.category (gate_rights accounts name i)) (Login i);
        }) refl
        (left_bare (gate_of i) gate_low gate_high ∙ ap (λ (k : ℕ). left_by_boot accounts (gate_of k)) (sym user.2)
        ∙ left_gate accounts user.0 user.1 user.3
        ∙ ap (λ (k : ℕ). Some (gate_left accounts k user.1)) user.2
        ∙ ap (λ (n : Name). Some (record {
          label = rights_label (booted accounts) (gate_rights accounts n i);
          kind = Gate (rights_clearance (booted accounts) (gate_rights accounts n i)) (Login i);
        })) user.5
        ∙ (λ j. Some (record {
          label = sym
              (same_rights_label (booted accounts) l.category (gate_rights accounts name i) gate_tied)
              j;
          kind = Gate (sym (same_rights_clearance (booted accounts) l.category (gate_rights accounts name i)
              gate_tied) j) (Login i);
        })))

    -- the root container links the password and the gate
    pub password_linked : set.contains (links_in (s.objects root_number)) (password_of i) ≡ true
    password_linked = left_linked (password_of i) password_low password_high

    pub gate_linked : set.contains (links_in (s.objects root_number)) (gate_of i) ≡ true
    gate_linked = left_linked (gate_of i) gate_low gate_high
