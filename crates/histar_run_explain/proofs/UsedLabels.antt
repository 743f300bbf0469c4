-- Labels in a state that represents a flat state list used categories alone.
use Rattle.std.proofs.Common.{◌≡◌, ◌≢◌, ℕ, zero, suc, ◌+◌, ◌≤◌, ◌==◌, ◌⊎◌, inl, inr, Bool, true, false, List, []}
use Rattle.std.proofs.Common.{◌∷◌, ◌++◌, length, get_or, Option, None, Some, if◌then◌else◌, arith, refl, sym, ap, ◌∙◌, subst}
use Rattle.std.specs.Prelude.{map, unwrap_or}
use Rattle.std.specs.List.{AllByRecursion}
use Rattle.std.proofs.lemmas.Bool.{or_left, or_right, or_cases}
use Rattle.std.proofs.lemmas.Bool.Decides.{nat_tests}
use Rattle.std.proofs.lemmas.Option.{none-some, same_Some}
use mathlib.Core.Bool.{true≢false}
use Rattle.histar_flat.specs.declared.calls.Mode.{Mode}
use Rattle.histar_flat.specs.declared.calls.Mode.TheVariants.{Private, Readable, Open, Group}
use Rattle.histar_flat.specs.declared.calls.User.{User}
use Rattle.histar_flat.specs.Words.{Name, ProcName}
use Rattle.histar_flat.specs.Accounts.{Accounts, user_number, group_number, groups_of}
use Rattle.histar_flat.specs.Classes.{Process}
use Rattle.histar_flat.specs.FlatState.{Flat}
use Rattle.histar_level.specs.declared.level.Level.{Level}
use Rattle.histar_level.specs.declared.level.Level.TheVariants.{L1, L2, L3}
use Rattle.histar_level.specs.Levels.{Levels, level_of, default_of}
use Rattle.histar_label.specs.Levels.{constant}
use Rattle.histar_label.proofs.Readers.{default_of-constant}
use Rattle.histar_object.specs.declared.objects.Entry.TheVariants.{Login}
use Rattle.histar_object.specs.declared.objects.Kind.{Kind}
use Rattle.histar_object.specs.declared.objects.Kind.TheVariants.{Segment, Container, Thread, Gate}
use Rattle.histar_object.specs.declared.objects.Object.{Object}
use Rattle.histar_object.specs.Objects.{label_there, clearance_there, kind_clearance}
use Rattle.histar_object.specs.State.{State, Found}
use Rattle.histar_syscall.specs.Tree.{Address, wanted, objects_at}
use Rattle.histar_explain.specs.Named.{label_in, clearance_in}
use Rattle.histar_explain.proofs.NamedTests.{ListsOnly, constant_lists as lists_nothing}
use Rattle.histar_layout.specs.Jobs.{is_empty, jobs_in}
use Rattle.histar_layout.specs.Labelling.{each_at, guarded_by, owner_label, cleared_at, secret_of, written_by}
use Rattle.histar_layout.specs.Categories.{read_category, write_category, group_owner, owner_of_group, user_of, file_label, scratch_label, label_made}
use Rattle.histar_layout.proofs.Declared.{group_range}
use Rattle.histar_layout.proofs.LabelLevels.{at_guarded, at_owning, at_cleared, guarded_level, owning_level, cleared_level, default_kept}
use Rattle.histar_layout.proofs.Members.{is_in, is_in-append, equal_itself}
use Rattle.histar_layout.proofs.UserOf.{user_is}
use Rattle.histar_programs.specs.Start.{root_category, numbered, of_user, of_users, segment, table_segment, user_table, gate_label, gate_clearance}
use Rattle.histar_wrap.specs.Scratch.{jobs_with, directory_label}
use Rattle.histar_refinement.specs.Addresses.{Step}
use Rattle.histar_refinement.specs.Agrees.{kind_bare, bare}
use Rattle.histar_refinement.specs.Asked.{AsksFor, guarded}
use Rattle.histar_refinement.specs.Asked.AsksFor.{AtRoot, AtLeft, AtFile, AtDirectory, AtListing, AtHome, AtStatus, AtInside, AtRunner}
use Rattle.histar_refinement.specs.Categories.{CategoryName, Categories, among, IsUsed}
use Rattle.histar_refinement.specs.Categories.CategoryName.{OfBoot, ReadsUser, WritesUser, ReadsGroup, WritesGroup, OfJob}
use Rattle.histar_refinement.specs.Guards.{Guard, Rights, guard_label, rights_label, rights_clearance}
use Rattle.histar_refinement.specs.Labels.{boot_guard, private_guard, readable_guard, group_guard, process_guard, inside_guard, reading, writing}
use Rattle.histar_refinement.specs.Labels.{gate_rights, thread_rights}
use Rattle.histar_refinement.specs.LeftByBoot.{left_by_boot}
use Rattle.histar_refinement.specs.Processes.{or_zero}
use Rattle.histar_refinement.specs.Represents.{ObjectsMatch}
use Rattle.histar_refinement.proofs.AmongNames.{each_append, each_head, each_none, each_one}
use Rattle.histar_refinement.proofs.CallLabels.{private_label, readable_label, group_label, reads_numbered, user_of_thread}
use Rattle.histar_refinement.proofs.CallerLabels.{default_guarded}
use Rattle.histar_refinement.proofs.CategoryTests.{named_in}
use Rattle.histar_refinement.proofs.GateLabels.{gate_label_is, gate_clearance_is}
use Rattle.histar_refinement.proofs.Growing.{GuardHas, RightsHave}
use Rattle.histar_refinement.proofs.JobLabels.{default_owning, jobs_are}
use Rattle.histar_refinement.proofs.LeftObjects.{root_label}
use Rattle.histar_refinement.proofs.Uses.{class_used, process_used, inside_used, rights_used, group_among, groups_within}
use Rattle.histar_sim.proofs.Walks.{all_joined}

-- the number of a category that is used
abbrev pub IsUsedNumber : Accounts → Flat → Categories → ℕ → Type 0
IsUsedNumber accounts f category c = (name : CategoryName) × (category name ≡ c) × IsUsed accounts f name

-- ---- the three kinds of labels

-- a level other than the default is that of a category that is given one
guarded_but : (s w : Bool) → guarded_level s w ≢ L1 → (s ≡ true) ⊎ (w ≡ true)
guarded_but s true other = inr refl
guarded_but true false other = inl refl
guarded_but false false other = absurd (other refl)

owning_but : (o t : Bool) → owning_level o t ≢ L1 → (o ≡ true) ⊎ (t ≡ true)
owning_but o true other = inr refl
owning_but true false other = inl refl
owning_but false false other = absurd (other refl)

cleared_but : (c : Bool) → cleared_level c ≢ L2 → c ≡ true
cleared_but true other = refl
cleared_but false other = absurd (other refl)

-- the default of a clearance is level 2
default_cleared : (C : List ℕ) → default_of (cleared_at C) ≡ L2
default_cleared C = default_kept (constant L2) (each_at L3 C) ∙ default_of-constant L2

-- a number among one is that one
only_one : (w c : ℕ) → is_in (w ∷ []) c ≡ true → c ≡ w
only_one w c e = elim (or_cases (c == w) false e) [
  | inl k ↦ grind (arith, nat_tests, k)
  | inr k ↦ absurd (true≢false (sym k))
]

-- a number among two lists is among one of them
in_one : (cs ds : List ℕ) (c : ℕ) → is_in (cs ++ ds) c ≡ true → (is_in cs c ≡ true) ⊎ (is_in ds c ≡ true)
in_one cs ds c e = or_cases (is_in cs c) (is_in ds c) (sym (is_in-append cs ds c) ∙ e)

module _ (Holds : ℕ → Type 0) where
  -- a label lists such categories alone, and its default is this level
  abbrev Lists : Level → Levels → Type 0
  Lists d L = ListsOnly Holds L × (default_of L ≡ d)

  -- each of these numbers is such a category
  abbrev EachHolds : List ℕ → Type 0
  EachHolds cs = (c : ℕ) → is_in cs c ≡ true → Holds c

  none_holds : EachHolds []
  none_holds c e = absurd (true≢false (sym e))

  -- a label that is one level everywhere lists nothing
  constant_lists : (d : Level) → Lists d (constant d)
  constant_lists d = (lists_nothing Holds d, default_of-constant d)

  -- the label of what is guarded lists what is secret and what is written
  guarded_lists : (S W : List ℕ) → EachHolds S → EachHolds W → Lists L1 (guarded_by S W)
  guarded_lists S W secret written = (
    λ c other. elim (guarded_but (is_in S c) (is_in W c) (λ e. other (at_guarded S W c ∙ e ∙ sym (default_guarded S W)))) [
      | inl e ↦ secret c e
      | inr e ↦ written c e
    ],
    default_guarded S W,
  )

  -- the label of what has rights lists what it owns, and what it has at 3
  owning_lists : (O T : List ℕ) → EachHolds O → EachHolds T → Lists L1 (owner_label O T)
  owning_lists O T owned tainted = (
    λ c other. elim (owning_but (is_in O c) (is_in T c) (λ e. other (at_owning O T c ∙ e ∙ sym (default_owning O T)))) [
      | inl e ↦ owned c e
      | inr e ↦ tainted c e
    ],
    default_owning O T,
  )

  -- a clearance lists what it has at 3
  cleared_lists : (C : List ℕ) → EachHolds C → Lists L2 (cleared_at C)
  cleared_lists C each = (
    λ c other. each c (cleared_but (is_in C c) (λ e. other (at_cleared C c ∙ e ∙ sym (default_cleared C)))),
    default_cleared C,
  )

  -- the label of what a user makes in jobs lists the user's category and the jobs
  in_jobs_lists : (user : ℕ) (jobs : List ℕ) → Holds (read_category user) → EachHolds jobs → Lists L1 (scratch_label user jobs)
  in_jobs_lists user jobs reads each =
      guarded_lists (read_category user ∷ jobs) [] (λ c e. elim (in_one (read_category user ∷ []) jobs c e) [
        | inl k ↦ subst Holds (sym (only_one (read_category user) c k)) reads
        | inr k ↦ each c k
      ]) none_holds

-- ---- labels by names

-- each of these names is used
abbrev EachUsed : Accounts → Flat → List CategoryName → Type 0
EachUsed accounts f names = (c : CategoryName) → among names c ≡ true → IsUsed accounts f c

module _ (accounts : Accounts) (f : Flat) (category : Categories) where
  abbrev UsedNumber : ℕ → Type 0
  UsedNumber = IsUsedNumber accounts f category

  -- the numbers of names that are used
  numbers_used : (names : List CategoryName) → EachUsed accounts f names → EachHolds UsedNumber (map category names)
  numbers_used names used q e = let named = named_in category names q e in (named.0, sym named.1, used named.0 named.2)

  -- the label of a guard whose names are used lists used categories alone
  guard_lists : (g : Guard) → GuardHas (IsUsed accounts f) g
      → ListsOnly UsedNumber (guard_label category g) × (default_of (guard_label category g) ≡ L1)
  guard_lists g used =
      guarded_lists UsedNumber (map category g.secret) (map category g.written) (numbers_used g.secret used.0) (numbers_used g.written used.1)

  -- so do the label and the clearance of rights whose names are used
  rights_lists : (r : Rights) → RightsHave (IsUsed accounts f) r
      → ListsOnly UsedNumber (rights_label category r) × (default_of (rights_label category r) ≡ L1)
  rights_lists r used =
      owning_lists UsedNumber (map category r.owned) (map category r.tainted) (numbers_used r.owned used.0) (numbers_used r.tainted used.1)

  rights_clearance_lists : (r : Rights) → RightsHave (IsUsed accounts f) r
      → ListsOnly UsedNumber (rights_clearance category r) × (default_of (rights_clearance category r) ≡ L2)
  rights_clearance_lists r used =
      cleared_lists UsedNumber (map category (r.owned ++ r.tainted))
      (numbers_used (r.owned ++ r.tainted) (each_append (IsUsed accounts f) r.owned r.tainted used.0 used.1))

-- ---- names that are used

module _ (accounts : Accounts) (f : Flat) where
  -- the name in the guard of what boot alone wrote
  boot_used : GuardHas (IsUsed accounts f) boot_guard
  boot_used = (each_none (IsUsed accounts f), each_one (IsUsed accounts f) OfBoot tt)

  -- the names of the groups of a user
  groups_used : (make : ℕ → CategoryName) → ((k : ℕ) → (1 ≤ k) × (k ≤ length accounts.groups) → IsUsed accounts f (make k))
      → (name : Name) → EachUsed accounts f (map make (groups_of accounts name))
  groups_used make used name c e =
      let found = group_among make (groups_of accounts name) c e in
      subst (IsUsed accounts f) (sym found.1) (used found.0 (groups_within accounts name found.0 found.2))

  module _ (i : ℕ) (declared : i ≤ length accounts.users) where
    -- the names in the guard of what is private to a user
    private_used : GuardHas (IsUsed accounts f) (private_guard i)
    private_used = (each_one (IsUsed accounts f) (ReadsUser i) declared, each_one (IsUsed accounts f) (WritesUser i) declared)

    -- the name in the guard of what everyone may read and the user may write
    readable_used : GuardHas (IsUsed accounts f) (readable_guard i)
    readable_used = (each_none (IsUsed accounts f), each_one (IsUsed accounts f) (WritesUser i) declared)

    -- the names of what the user's gate gives
    gate_used : (name : Name) → RightsHave (IsUsed accounts f) (gate_rights accounts name i)
    gate_used name = (
      each_append (IsUsed accounts f) (reading accounts name i) (writing accounts name i)
          (each_head (IsUsed accounts f) (ReadsUser i) (map ReadsGroup (groups_of accounts name)) declared
          (groups_used ReadsGroup (λ k within. within) name))
          (each_head (IsUsed accounts f) (WritesUser i) (map WritesGroup (groups_of accounts name)) declared
          (groups_used WritesGroup (λ k within. within) name)),
      each_none (IsUsed accounts f),
    )

-- ---- objects

module _ (Holds : ℕ → Type 0) where
  -- the label of an object lists such categories alone, and so does its clearance, if it has one
  record ObjectLists (o : Object Levels) : Type 0 where
    label : Lists Holds L1 o.label
    cleared : (clearance : Levels) → kind_clearance o.kind ≡ Some clearance → Lists Holds L2 clearance

  -- so it is of an object that may be there
  abbrev FoundLists : Found → Type 0
  FoundLists found = (o : Object Levels) → found ≡ Some o → ObjectLists o

  -- an object that has no clearance
  without_clearance : (label : Levels) (kind : Kind Levels) → kind_clearance kind ≡ None → Lists Holds L1 label
      → ObjectLists (record { label = label; kind = kind })
  without_clearance label kind none lists =
      record { label = lists; cleared = λ clearance e. absurd (none-some clearance (sym none ∙ e)) }

  -- an object that has one
  with_clearance : (label clearance : Levels) (kind : Kind Levels) → kind_clearance kind ≡ Some clearance → Lists Holds L1 label
      → Lists Holds L2 clearance → ObjectLists (record { label = label; kind = kind })
  with_clearance label clearance kind some lists cleared =
      record { label = lists; cleared = λ other e. subst (Lists Holds L2) (same_Some clearance other (sym some ∙ e)) cleared }

  -- an object that is there, and none
  found_there : (o : Object Levels) → ObjectLists o → FoundLists (Some o)
  found_there o lists other e = subst ObjectLists (same_Some o other e) lists

  nothing_there : FoundLists None
  nothing_there o e = absurd (none-some o e)

  -- an object of a table
  lists_at : (xs : List Found) (k : ℕ) → AllByRecursion FoundLists xs → FoundLists (get_or xs k None)
  lists_at [] k all = nothing_there
  lists_at (x ∷ xs) zero all = all.0
  lists_at (x ∷ xs) (suc k) all = lists_at xs k all.1

  -- an object lists what it lists without its links
  same_clearance : (kind : Kind Levels) → kind_clearance (kind_bare kind) ≡ kind_clearance kind
  same_clearance (Segment bytes) = refl
  same_clearance (Container links) = refl
  same_clearance (Thread clearance) = refl
  same_clearance (Gate clearance entry) = refl

  unbared : (o : Object Levels) → ObjectLists (record { label = o.label; kind = kind_bare o.kind }) → ObjectLists o
  unbared o lists = record { label = lists.label; cleared = λ clearance e. lists.cleared clearance (same_clearance o.kind ∙ e) }

  -- the label of an object that may be there, or 1 everywhere
  label_lists : (found : Found) → FoundLists found → Lists Holds L1 (unwrap_or (label_there found) (constant L1))
  label_lists None lists = constant_lists Holds L1
  label_lists (Some o) lists = (lists o refl).label

  -- its clearance, or 1 everywhere
  found_cleared : (found : Found) → FoundLists found → (clearance : Levels) → clearance_there found ≡ Some clearance
      → Lists Holds L2 clearance
  found_cleared None lists clearance e = absurd (none-some clearance e)
  found_cleared (Some o) lists clearance e = (lists o refl).cleared clearance e

  given_lists : (given : Option Levels) → ((clearance : Levels) → given ≡ Some clearance → Lists Holds L2 clearance)
      → ListsOnly Holds (unwrap_or given (constant L1))
      × ((default_of (unwrap_or given (constant L1)) ≡ L1) ⊎ (default_of (unwrap_or given (constant L1)) ≡ L2))
  given_lists None lists = ((constant_lists Holds L1).0, inl (constant_lists Holds L1).1)
  given_lists (Some clearance) lists = ((lists clearance refl).0, inr (lists clearance refl).1)

-- ---- in a state that represents a flat state

module _ (accounts : Accounts) (s : State) (f : Flat) (l : ObjectsMatch accounts s f) where
  abbrev K : ℕ → Type 0
  K = IsUsedNumber accounts f l.category

  -- the label of what boot alone wrote
  boot_lists : Lists K L1 (written_by root_category)
  boot_lists =
      subst (Lists K L1) (λ i. guarded_by [] (l.as_made OfBoot 1 refl i ∷ []))
      (guard_lists accounts f l.category boot_guard (boot_used accounts f))

  module _ (i : ℕ) (declared : i ≤ length accounts.users) where
    -- the label of what is private to a user
    private_lists : Lists K L1 (secret_of (read_category i) (write_category i))
    private_lists =
        subst (Lists K L1) (private_label accounts s f l i declared)
        (guard_lists accounts f l.category (private_guard i) (private_used accounts f i declared))

    -- the password and the gate of a user
    password_lists : (bytes : List ℕ) → FoundLists K (segment (secret_of (read_category i) (write_category i)) bytes)
    password_lists bytes = found_there K _ (without_clearance K _ (Segment bytes) refl private_lists)

    gate_lists : (name : Name)
        → FoundLists K (Some (record { label = gate_label accounts i name; kind = Gate (gate_clearance accounts i name) (Login i) }))
    gate_lists name =
        let rights = gate_rights accounts name i in
        let used = gate_used accounts f i declared name in
        found_there K _ (with_clearance K _ _ _ refl
        (subst (Lists K L1) (sym (gate_label_is accounts l.category l.as_made name i declared)) (rights_lists accounts f l.category rights used))
        (subst (Lists K L2) (sym (gate_clearance_is accounts l.category l.as_made name i declared))
        (rights_clearance_lists accounts f l.category rights used)))

    -- the category by which a user reads
    reads_used : K (read_category i)
    reads_used = (ReadsUser i, reads_numbered accounts s f l i declared, declared)

  -- what boot left for users, from the one with the number i on
  users_list : (i : ℕ) (users : List User) → i + length users ≤ 1 + length accounts.users
      → AllByRecursion (FoundLists K) (numbered (of_user accounts) i users)
  users_list i [] le = tt
  users_list i (user ∷ users) le =
      let declared : i ≤ length accounts.users = omega (arith, le) in
      (password_lists i declared user.password, (gate_lists i declared user.name, users_list (i + 1) users (omega (arith, le))))

  -- what boot left
  left_lists : (q : ℕ) → FoundLists K (left_by_boot accounts q)
  left_lists zero = nothing_there K
  left_lists (suc k) =
      lists_at K (None ∷ None ∷ of_users accounts accounts.users ++ table_segment accounts ∷ []) k (
        nothing_there K,
        (
          nothing_there K,
          all_joined (FoundLists K) (of_users accounts accounts.users) (table_segment accounts ∷ [])
              (users_list 1 accounts.users (omega arith))
              (found_there K _ (without_clearance K _ (Segment (user_table accounts)) refl boot_lists), tt),
        ),
      )

  -- what is guarded by used names
  guarded_list : (g : Guard) (kind : Kind Levels) → kind_clearance kind ≡ None → GuardHas (IsUsed accounts f) g
      → ObjectLists K (guarded l.category g kind)
  guarded_list g kind none used = without_clearance K (guard_label l.category g) kind none (guard_lists accounts f l.category g used)

  -- what is asked for at an address
  asked_list : (a : Address Step) (o : Object Levels) → AsksFor accounts l.category f l.naming.number a o → ObjectLists K o
  asked_list a o AtRoot =
      without_clearance K _ _ refl (subst (Lists K L1) (sym (root_label accounts s f l))
      (guard_lists accounts f l.category boot_guard (boot_used accounts f)))
  asked_list a o (AtLeft q left is) = left_lists q o is
  asked_list a o (AtFile q bytes g at) = guarded_list g _ refl (class_used accounts f q _ at.1 at.0 refl g at.2)
  asked_list a o (AtDirectory d g at) = guarded_list g _ refl (class_used accounts f d _ at.1 at.0 refl g at.2)
  asked_list a o (AtListing d g at) = guarded_list g _ refl (class_used accounts f d _ at.1 at.0 refl g at.2)
  asked_list a o (AtHome me p here) = guarded_list (process_guard me p) _ refl (process_used accounts f me p here)
  asked_list a o (AtStatus me p here) = guarded_list (process_guard me p) _ refl (process_used accounts f me p here)
  asked_list a o (AtInside me p here runs) = guarded_list (inside_guard me p) _ refl (inside_used accounts f me p here)
  asked_list a o (AtRunner me p here runs) =
      with_clearance K _ _ _ refl (rights_lists accounts f l.category (thread_rights accounts me p) (rights_used accounts f me p here))
      (rights_clearance_lists accounts f l.category (thread_rights accounts me p) (rights_used accounts f me p here))

  -- each object
  object_lists : (q : ℕ) → FoundLists K (s.objects q)
  object_lists q o is = by (l.naming.address q) refl
    where
      by : (a : Option (Address Step)) → l.naming.address q ≡ a → ObjectLists K o
      by None at = absurd (none-some o (sym (l.agrees.tree.as_expected q ∙ ap (wanted (objects_at s.objects l.naming)) at) ∙ is))
      by (Some a) at =
          let here : objects_at s.objects l.naming a ≡ Some o =
          sym (l.agrees.tree.as_expected q ∙ ap (wanted (objects_at s.objects l.naming)) at) ∙ is in
          let bared : Object Levels = record { label = o.label; kind = kind_bare o.kind } in
          unbared K o (asked_list a bared ((l.agrees.objects a bared).0 (ap bare here)))

  -- The label at each number lists used categories alone.
  pub state_label : (q : ℕ) → ListsOnly K (label_in s q) × (default_of (label_in s q) ≡ L1)
  state_label q = label_lists K (s.objects q) (object_lists q)

  -- So does the clearance at each number.
  pub state_clearance : (q : ℕ)
      → ListsOnly K (clearance_in s q) × ((default_of (clearance_in s q) ≡ L1) ⊎ (default_of (clearance_in s q) ≡ L2))
  state_clearance q = given_lists K (clearance_there (s.objects q)) (found_cleared K (s.objects q) (object_lists q))

  -- the label of a file that a user makes
  file_lists : (mode : Mode) (user : ℕ) → user ≤ length accounts.users → Lists K L1 (file_label accounts mode user)
  file_lists Private user declared = private_lists user declared
  file_lists Readable user declared =
      subst (Lists K L1) (readable_label accounts s f l user declared)
      (guard_lists accounts f l.category (readable_guard user) (readable_used accounts f user declared))
  file_lists Open user declared = constant_lists K L1
  file_lists (Group name) user declared = by (group_number accounts name) refl
    where
      by : (number : Option ℕ) → group_number accounts name ≡ number → Lists K L1 (file_label accounts (Group name) user)
      by None is =
          let nobody : owner_of_group accounts name ≡ 0 =
          λ i. elim (is i) as (λ _. ℕ) [ None ↦ 0 | Some k ↦ group_owner (length accounts.users) k ] in
          subst (λ (owner : ℕ). Lists K L1 (secret_of (read_category owner) (write_category owner))) (sym nobody)
          (private_lists 0 (omega arith))
      by (Some k) is =
          let within = group_range accounts name k is in
          subst (Lists K L1) (group_label accounts s f l name k is)
          (guard_lists accounts f l.category (group_guard k)
          (each_one (IsUsed accounts f) (ReadsGroup k) within, each_one (IsUsed accounts f) (WritesGroup k) within))

  module _ (me : ProcName) (p : Process) (here : f.processes me ≡ Some p) where
    abbrev own : Levels
    own = rights_label l.category (thread_rights accounts me p)

    abbrev user : ℕ
    user = user_of own (length accounts.users)

    -- The label of a process's thread lists used categories alone.
    pub own_lists : ListsOnly K own × (default_of own ≡ L1)
    own_lists = rights_lists accounts f l.category (thread_rights accounts me p) (rights_used accounts f me p here)

    -- So does its clearance.
    pub clearance_lists : ListsOnly K (rights_clearance l.category (thread_rights accounts me p))
        × (default_of (rights_clearance l.category (thread_rights accounts me p)) ≡ L2)
    clearance_lists = rights_clearance_lists accounts f l.category (thread_rights accounts me p) (rights_used accounts f me p here)

    -- the user of the thread has a number, or is nobody
    user_declared : user ≤ length accounts.users
    user_declared =
        let is = user_of_thread accounts s f l me p in
        subst (λ (i : ℕ). i ≤ length accounts.users)
        (sym (user_is own (length accounts.users) (or_zero (user_number accounts p.user)) is)) is.known

    -- the jobs that the thread is in
    own_jobs_used : EachHolds K (jobs_in own)
    own_jobs_used c e =
        numbers_used accounts f l.category (map OfJob p.chain) (rights_used accounts f me p here).1 c
        (sym (jobs_are l.category accounts me p c) ∙ e)

    -- The label of an object that the thread makes lists used categories alone.
    pub made_lists : (mode : Mode) → ListsOnly K (label_made accounts own mode) × (default_of (label_made accounts own mode) ≡ L1)
    made_lists mode = by (is_empty (jobs_in own))
      where
        by : (free : Bool) → Lists K L1 (if free then file_label accounts mode user else scratch_label user (jobs_in own))
        by true = file_lists mode user user_declared
        by false = in_jobs_lists K user (jobs_in own) (reads_used user user_declared) own_jobs_used

    -- The label of the scratch directory that the thread makes for a new job lists used categories and the job, which is at 3.
    pub scratch_lists : (job : ℕ) → ListsOnly (λ c. K c ⊎ (c ≡ job)) (directory_label accounts own job)
        × (default_of (directory_label accounts own job) ≡ L1)
        × (level_of (directory_label accounts own job) job ≡ L3)
    scratch_lists job = (lists.0, lists.1, at_job)
      where
        each : EachHolds (λ c. K c ⊎ (c ≡ job)) (jobs_with own job)
        each c e = elim (in_one (jobs_in own) (job ∷ []) c e) [ inl k ↦ inl (own_jobs_used c k) | inr k ↦ inr (only_one job c k) ]

        lists : Lists (λ c. K c ⊎ (c ≡ job)) L1 (directory_label accounts own job)
        lists = in_jobs_lists (λ c. K c ⊎ (c ≡ job)) user (jobs_with own job) (inl (reads_used user user_declared)) each

        among_jobs : is_in (jobs_with own job) job ≡ true
        among_jobs =
            is_in-append (jobs_in own) (job ∷ []) job
            ∙ or_right (is_in (jobs_in own) job) (is_in (job ∷ []) job) (or_left (job == job) false (equal_itself job))

        at_job : level_of (directory_label accounts own job) job ≡ L3
        at_job =
            at_guarded (read_category user ∷ jobs_with own job) [] job
            ∙ ap (λ (b : Bool). if b then L3 else L1) (or_right (job == read_category user) (is_in (jobs_with own job) job) among_jobs)
