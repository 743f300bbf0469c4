-- Labels in a state that represents a flat state are given by used names; a naming that keeps the used ones keeps the labels.
use Rattle.std.proofs.Common.{◌≡◌, ℕ, zero, suc, ◌<◌, ◌≤◌, inl, inr, Bool, true, false, List, [], ◌∷◌, ◌++◌, length, Option, None, Some, arith, refl}
use Rattle.std.proofs.Common.{sym, ap, ◌∙◌, subst, if◌then◌else◌}
use Rattle.std.specs.Prelude.{map, is_some, nat_eq, slice_get}
use Rattle.std.proofs.lemmas.Bool.Decides.{nat_tests}
use Rattle.std.proofs.lemmas.Option.{none-some, same_Some}
use Rattle.std.proofs.lemmas.Bool.{or_left, or_right, or_cases}
use mathlib.Core.Bool.{true≢false}
use Rattle.histar_flat.specs.Words.{Name, Path, ProcName}
use Rattle.histar_base.specs.Paths.{same}
use Rattle.histar_level.specs.Levels.{Levels}
use Rattle.histar_flat.specs.Files.{get}
use Rattle.histar_object.specs.Objects.{thread_of}
use Rattle.histar_object.specs.State.{Found}
use Rattle.histar_object.specs.declared.objects.Kind.{Kind}
use Rattle.histar_object.specs.declared.objects.Kind.TheVariants.{Segment}
use Rattle.histar_flat.specs.Accounts.{Group, Accounts, has, user_number, group_number, groups_of}
use Rattle.histar_flat.specs.Classes.{Class, Process, is_free}
use Rattle.histar_flat.specs.Classes.Class.{Private, Readable, Open, Scratch, Grouped}
use Rattle.histar_flat.specs.FlatState.{Node, Content, Flat}
use Rattle.histar_flat.specs.FlatState.Content.{Dir, File}
use Rattle.histar_refinement.specs.Categories.{CategoryName, Categories, same_category, among, is_for, IsUsed}
use Rattle.histar_refinement.specs.Categories.CategoryName.{ReadsUser, WritesUser, ReadsGroup, WritesGroup, ReadsProcess, WritesProcess, OfJob}
use Rattle.histar_refinement.specs.Guards.{Guard, guard_label, rights_label, rights_clearance}
use Rattle.histar_refinement.specs.Labels.{class_guard, private_guard, readable_guard, scratch_guard, group_guard, open_guard, process_guard}
use Rattle.histar_refinement.specs.Labels.{inside_guard, reading, writing, owned_as, thread_rights}
use Rattle.histar_refinement.proofs.Expected.{bare_container, guarded_object, content_kind, node_object, listing_object, home_object, inside_object}
use Rattle.histar_refinement.proofs.Expected.{thread_object}
use Rattle.histar_refinement.specs.Represents.{AreInOrder}
use Rattle.histar_layout.specs.ClassLabels.{IsRisingFrom}
use Rattle.histar_refinement.proofs.CategoryTests.{same_revealed}
use Rattle.histar_refinement.proofs.AmongNames.{each_none, each_one, each_head, each_append}
use Rattle.histar_layout.proofs.Members.{mapped_from}
use Rattle.histar_refinement.proofs.Growing.{GuardHas, RightsHave, same_guard_label, same_rights_label, same_rights_clearance}
use Rattle.histar_refinement.proofs.AccountLemmas.{has_number, from_numbers}
use Rattle.histar_layout.proofs.Declared.{group_range, user_range, equal_tested}

-- a name among those of jobs is a job's
pub job_among : (jobs : List ProcName) (c : CategoryName) → among (map OfJob jobs) c ≡ true
    → (job : ProcName) × (c ≡ OfJob job) × (has jobs job ≡ true)
job_among [] c e = absurd (true≢false (sym e))
job_among (j ∷ jobs) c e = elim (or_cases (same_category c (OfJob j)) (among (map OfJob jobs) c) e) [
  | inl k ↦ (j, same_revealed c (OfJob j) k, or_left (same j j) (has jobs j) (equal_tested j j refl))
  | inr k ↦ let later = job_among jobs c k in (later.0, later.1, or_right (same later.0 j) (has jobs later.0) later.2)
]

-- what is among the categories of groups is a group's
pub group_among : (f : ℕ → CategoryName) (ks : List ℕ) (c : CategoryName) → among (map f ks) c ≡ true → (k : ℕ) × (c ≡ f k) × (has_number ks k ≡ true)
group_among f [] c e = absurd (true≢false (sym e))
group_among f (m ∷ ks) c e = elim (or_cases (same_category c (f m)) (among (map f ks) c) e) [
  | inl k ↦ (m, same_revealed c (f m) k, or_left (nat_eq m m) (has_number ks m) (grind (arith, nat_tests)))
  | inr k ↦ let later = group_among f ks c k in (later.0, later.1, or_right (nat_eq later.0 m) (has_number ks later.0) later.2)
]

-- the numbers of groups
placed_below : (groups : List Group) (i : ℕ) (g : Group) → slice_get groups i ≡ Some g → i < length groups
placed_below [] i g e = absurd (none-some g e)
placed_below (h ∷ groups) zero g e = omega arith
placed_below (h ∷ groups) (suc i) g e = let later = placed_below groups i g e in omega (arith, later)

pub groups_within : (accounts : Accounts) (name : Name) (k : ℕ) → has_number (groups_of accounts name) k ≡ true
    → (1 ≤ k) × (k ≤ length accounts.groups)
groups_within accounts name k e =
    let found = from_numbers 1 accounts.groups name k e in
    let below = placed_below accounts.groups found.0 found.1 found.2 in
    (omega (arith, found.4), omega (arith, found.4, below))

module _ (accounts : Accounts) (f : Flat) where
  abbrev pub Used : CategoryName → Type 0
  Used = IsUsed accounts f

  -- the names in the guard of a class, if its jobs are known or served
  pub names_used : (class : Class) → ((job : ProcName) → is_for class job ≡ true → Used (OfJob job)) → (g : Guard)
      → class_guard accounts class ≡ Some g → GuardHas Used g
  names_used (Private owner) known g e =
      let n = mapped_from private_guard (user_number accounts owner) g e in
      let within = (user_range accounts owner n.0 n.1).1 in
      subst (GuardHas Used) n.2 (each_one Used (ReadsUser n.0) within, each_one Used (WritesUser n.0) within)
  names_used (Readable owner) known g e =
      let n = mapped_from readable_guard (user_number accounts owner) g e in
      subst (GuardHas Used) n.2 (each_none Used, each_one Used (WritesUser n.0) (user_range accounts owner n.0 n.1).1)
  names_used Open known g e = subst (GuardHas Used) (same_Some open_guard g e) (each_none Used, each_none Used)
  names_used (Scratch owner jobs) known g e =
      let n = mapped_from (scratch_guard jobs) (user_number accounts owner) g e in
      subst (GuardHas Used) n.2 (
        each_head Used (ReadsUser n.0) (map OfJob jobs) (user_range accounts owner n.0 n.1).1 (λ d k.
            let found = job_among jobs d k in
            subst Used (sym found.1) (known found.0 found.2)),
        each_none Used,
      )
  names_used (Grouped group) known g e =
      let n = mapped_from group_guard (group_number accounts group) g e in
      let within = group_range accounts group n.0 n.1 in
      subst (GuardHas Used) n.2 (each_one Used (ReadsGroup n.0) within, each_one Used (WritesGroup n.0) within)

  -- the names in the guard of a file or a directory are used
  pub class_used : (q : Path) (there : Node) → get f.files q ≡ Some there → (class : Class) → there.class ≡ class
      → (g : Guard) → class_guard accounts class ≡ Some g → GuardHas Used g
  class_used q there at class is = names_used class (λ job e. inr (q, there, at, ap (λ (c : Class). is_for c job) is ∙ e))

  module _ (me : ProcName) (p : Process) (here : f.processes me ≡ Some p) where
    there : is_some (f.processes me) ≡ true
    there = ap is_some here

    chain_used : (c : CategoryName) → among (map OfJob p.chain) c ≡ true → Used c
    chain_used c e =
        let found = job_among p.chain c e in subst Used (sym found.1)
        (inl (me, p, here, or_left (has p.chain found.0) (has p.held found.0) found.2))

    held_used : (c : CategoryName) → among (map OfJob p.held) c ≡ true → Used c
    held_used c e =
        let found = job_among p.held c e in subst Used (sym found.1)
        (inl (me, p, here, or_right (has p.chain found.0) (has p.held found.0) found.2))

    -- the names in the guard of a process
    pub process_used : GuardHas Used (process_guard me p)
    process_used = (chain_used, each_one Used (WritesProcess me) there)

    pub inside_used : GuardHas Used (inside_guard me p)
    inside_used = (each_head Used (ReadsProcess me) (map OfJob p.chain) there chain_used, each_one Used (WritesProcess me) there)

    groups_used : (make : ℕ → CategoryName) → ((k : ℕ) → (1 ≤ k) × (k ≤ length accounts.groups) → Used (make k))
        → (c : CategoryName) → among (map make (groups_of accounts p.user)) c ≡ true → Used c
    groups_used make used c e =
        let found = group_among make (groups_of accounts p.user) c e in subst Used (sym found.1)
        (used found.0 (groups_within accounts p.user found.0 found.2))

    user_used : (number : Option ℕ) → user_number accounts p.user ≡ number → (c : CategoryName) → among (owned_as accounts p number) c ≡ true → Used c
    user_used None is = each_none Used
    user_used (Some i) is = each_append Used (reading accounts p.user i) (if is_free p then writing accounts p.user i else [])
        (each_head Used (ReadsUser i) (map ReadsGroup (groups_of accounts p.user)) within (groups_used ReadsGroup (λ k h. h)))
        (by (is_free p))
      where
        within : i ≤ length accounts.users
        within = (user_range accounts p.user i is).1

        by : (b : Bool) → (c : CategoryName) → among (if b then writing accounts p.user i else []) c ≡ true → Used c
        by true = each_head Used (WritesUser i) (map WritesGroup (groups_of accounts p.user)) within (groups_used WritesGroup (λ k h. h))
        by false = each_none Used

    pub rights_used : RightsHave Used (thread_rights accounts me p)
    rights_used = (
      each_head Used (ReadsProcess me) (WritesProcess me ∷ owned_as accounts p (user_number accounts p.user) ++ map OfJob p.held) there
          (each_head Used (WritesProcess me) (owned_as accounts p (user_number accounts p.user) ++ map OfJob p.held) there
          (each_append Used (owned_as accounts p (user_number accounts p.user)) (map OfJob p.held)
          (user_used (user_number accounts p.user) refl) held_used)),
      chain_used,
    )

  -- A naming that keeps the numbers of used names keeps what is asked for.
  module _ (category other : Categories) (keeps : (c : CategoryName) → Used c → other c ≡ category c) where
    keep_guard : (g : Guard) → GuardHas Used g → guard_label category g ≡ guard_label other g
    keep_guard g used = sym (same_guard_label category other g (λ c e. keeps c (used.0 c e), λ c e. keeps c (used.1 c e)))

    keep_guarded : (kind : Kind Levels) (o : Option Guard) → ((g : Guard) → o ≡ Some g → GuardHas Used g)
        → guarded_object accounts category kind o ≡ guarded_object accounts other kind o
    keep_guarded kind None used = refl
    keep_guarded kind (Some g) used = ap (λ (l : Levels). Some (record { label = l; kind = kind })) (keep_guard g (used g refl))

    pub keep_node : (q : Path) (o : Option Node) → get f.files q ≡ o → node_object accounts category o ≡ node_object accounts other o
    keep_node q None at = refl
    keep_node q (Some there) at =
        keep_guarded (content_kind there.content) (class_guard accounts there.class)
        (class_used q there at there.class refl)

    pub keep_listing : (q : Path) (bytes : List ℕ) (o : Option Node) → get f.files q ≡ o
        → listing_object accounts category bytes o ≡ listing_object accounts other bytes o
    keep_listing q bytes None at = refl
    keep_listing q bytes (Some there) at =
        elim there.content as (λ (c : Content).
        listing_object accounts category bytes (Some (record { class = there.class; content = c }))
        ≡ listing_object accounts other bytes (Some (record { class = there.class; content = c }))) [
          | Dir ↦ keep_guarded (Segment bytes) (class_guard accounts there.class) (class_used q there at there.class refl)
          | File old ↦ refl
        ]

    pub keep_process_label : (me : ProcName) (p : Process) → f.processes me ≡ Some p
        → guard_label category (process_guard me p) ≡ guard_label other (process_guard me p)
    keep_process_label me p here = keep_guard (process_guard me p) (process_used me p here)

    pub keep_inside_label : (me : ProcName) (p : Process) → f.processes me ≡ Some p
        → guard_label category (inside_guard me p) ≡ guard_label other (inside_guard me p)
    keep_inside_label me p here = keep_guard (inside_guard me p) (inside_used me p here)

    pub keep_thread : (me : ProcName) (p : Process) → f.processes me ≡ Some p
        → thread_of (rights_label category (thread_rights accounts me p))
        (rights_clearance category (thread_rights accounts me p))
        ≡ thread_of (rights_label other (thread_rights accounts me p)) (rights_clearance other (thread_rights accounts me p))
    keep_thread me p here =
        let used = rights_used me p here in
        λ i. thread_of
        (sym (same_rights_label category other (thread_rights accounts me p) (λ c e. keeps c (used.0 c e), λ c e. keeps c (used.1 c e))) i)
        (sym (same_rights_clearance category other (thread_rights accounts me p) (λ c e. keeps c (used.0 c e), λ c e. keeps c (used.1 c e))) i)

    pub keep_home : (q : ProcName) (o : Option Process) → f.processes q ≡ o → home_object accounts category q o ≡ home_object accounts other q o
    keep_home q None at = refl
    keep_home q (Some p) at = ap bare_container (keep_process_label q p at)

    pub keep_inside : (q : ProcName) (o : Option Process) → f.processes q ≡ o → inside_object accounts category q o ≡ inside_object accounts other q o
    keep_inside q None at = refl
    keep_inside q (Some p) at = λ i. elim p.exited as (λ _. Found) [ None ↦ bare_container (keep_inside_label q p at i) | Some n ↦ None ]

    pub keep_runner : (q : ProcName) (o : Option Process) → f.processes q ≡ o → thread_object accounts category q o ≡ thread_object accounts other q o
    keep_runner q None at = refl
    keep_runner q (Some p) at = λ i. elim p.exited as (λ _. Found) [ None ↦ Some (keep_thread q p at i) | Some n ↦ None ]

    -- jobs that are used stay in order
    pub keep_order : (jobs : List ProcName) → ((job : ProcName) → has jobs job ≡ true → Used (OfJob job))
        → AreInOrder category jobs → AreInOrder other jobs
    keep_order jobs used = subst (IsRisingFrom 0) (same_jobs jobs used)
      where
        same_jobs : (jobs : List ProcName) → ((job : ProcName) → has jobs job ≡ true → Used (OfJob job))
            → map (λ job. category (OfJob job)) jobs ≡ map (λ job. other (OfJob job)) jobs
        same_jobs [] used = refl
        same_jobs (j ∷ jobs) used =
            λ i. sym (keeps (OfJob j) (used j (or_left (same j j) (has jobs j) (equal_tested j j refl)))) i
            ∷ same_jobs jobs (λ job e. used job (or_right (same job j) (has jobs job) e)) i
