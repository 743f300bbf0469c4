-- A thread's labels let it observe and modify exactly what its process may read and write.
use Rattle.std.proofs.Common.{◌≡◌, ℕ, Bool, true, false, ◌&&◌, ◌||◌, List, [], ◌∷◌, Option, None, Some, if◌then◌else◌, refl, sym, ap, ◌∙◌}
use Rattle.std.specs.Prelude.{map, nat_eq, is_some}
use Rattle.std.specs.List.{list_all}
use Rattle.std.proofs.lemmas.Option.{same_Some}
use Rattle.std.proofs.Math.Bool.{or_comm, or-false, and-true, and-false}
use mathlib.Core.Bool.{true≢false}
use Rattle.histar_flat.specs.Words.{Name, ProcName}
use Rattle.histar_base.specs.Paths.{same}
use Rattle.histar_label.specs.Levels.{is_below, is_below_raised}
use Rattle.histar_flat.specs.Accounts.{Accounts, has, user_number, group_number, groups_of, is_member}
use Rattle.histar_flat.specs.Classes.{Class, Process, is_free, knows, may_read, may_write, sees}
use Rattle.histar_flat.specs.Classes.Class.{Private, Readable, Open, Scratch, Grouped}
use Rattle.histar_refinement.specs.Categories.{CategoryName, Categories, AreDifferent, same_category, among}
use Rattle.histar_refinement.specs.Categories.CategoryName.{OfBoot, ReadsUser, WritesUser, ReadsGroup, WritesGroup, ReadsProcess, WritesProcess}
use Rattle.histar_refinement.specs.Categories.CategoryName.{OfJob}
use Rattle.histar_refinement.specs.Guards.{Guard, Rights, guard_label, rights_label}
use Rattle.histar_refinement.specs.Labels.{class_guard, private_guard, readable_guard, scratch_guard, group_guard, open_guard, process_guard, reading}
use Rattle.histar_refinement.specs.Labels.{writing, owned_as, thread_rights}
use Rattle.histar_layout.proofs.Members.{mapped_from}
use Rattle.histar_refinement.proofs.CategoryTests.{among-append, among_none, among_jobs}
use Rattle.histar_refinement.proofs.Tested.{NamesApart, observes_by_names, below_by_names}
use Rattle.histar_refinement.specs.Accounts.{AreAccounts}
use Rattle.histar_refinement.proofs.AccountLemmas.{is_number, is_owner, has_number, is_member_number}

-- among the numbers of groups
among_groups : (f : ℕ → CategoryName) → ((k m : ℕ) → same_category (f k) (f m) ≡ nat_eq k m) → (ks : List ℕ) (k : ℕ)
    → among (map f ks) (f k) ≡ has_number ks k
among_groups f decides [] k = refl
among_groups f decides (m ∷ ks) k = (λ i. decides k m i || among_groups f decides ks k i)

-- in a job nothing is owned to write by
picked_names : (b : Bool) (names : List CategoryName) (c : CategoryName) → among (if b then names else []) c ≡ (b && among names c)
picked_names true names c = refl
picked_names false names c = refl

-- to read and to write what is a user's or a group's are two categories
pub user_apart : (i : ℕ) → NamesApart (ReadsUser i ∷ []) (WritesUser i ∷ [])
user_apart i (ReadsUser j) e = refl
user_apart i (OfBoot) e = refl
user_apart i (WritesUser j) e = absurd (true≢false (sym e))
user_apart i (ReadsGroup j) e = refl
user_apart i (WritesGroup j) e = refl
user_apart i (ReadsProcess j) e = refl
user_apart i (WritesProcess j) e = refl
user_apart i (OfJob j) e = refl

pub group_apart : (g : ℕ) → NamesApart (ReadsGroup g ∷ []) (WritesGroup g ∷ [])
group_apart g (ReadsGroup j) e = refl
group_apart g (OfBoot) e = refl
group_apart g (WritesGroup j) e = absurd (true≢false (sym e))
group_apart g (ReadsUser j) e = refl
group_apart g (WritesUser j) e = refl
group_apart g (ReadsProcess j) e = refl
group_apart g (WritesProcess j) e = refl
group_apart g (OfJob j) e = refl

module _ (accounts : Accounts) (me : ProcName) (p : Process) where
  -- the categories that the thread owns
  abbrev owned : List CategoryName
  owned = (thread_rights accounts me p).owned

  abbrev as_user : Option ℕ → List CategoryName
  as_user number = owned_as accounts p number

  -- the categories that the thread owns have three parts
  owned_parts : (c : CategoryName)
      → among owned c
      ≡ (same_category c (ReadsProcess me)
      || (same_category c (WritesProcess me)
      || (among (as_user (user_number accounts p.user)) c || among (map OfJob p.held) c)))
  owned_parts c =
      ap (λ b. same_category c (ReadsProcess me) || (same_category c (WritesProcess me) || b))
      (among-append (as_user (user_number accounts p.user)) (map OfJob p.held) c)

  -- a category that is neither a job's nor the process's own is owned as the user
  owned_by_user : (c : CategoryName) → ((job : ProcName) → same_category c (OfJob job) ≡ false)
      → same_category c (ReadsProcess me) ≡ false → same_category c (WritesProcess me) ≡ false
      → among owned c ≡ among (as_user (user_number accounts p.user)) c
  owned_by_user c no_job no_read no_write =
      owned_parts c
      ∙ (λ i. no_read i
      || (no_write i
      || (among (as_user (user_number accounts p.user)) c || among_none OfJob c no_job p.held i)))
      ∙ or-false _

  -- what a user owns, by whether the user is a declared one
  user_parts : (i : ℕ) (c : CategoryName)
      → among (as_user (Some i)) c
      ≡ (among (reading accounts p.user i) c || (is_free p && among (writing accounts p.user i) c))
  user_parts i c =
      among-append (reading accounts p.user i) _ c
      ∙ ap (λ b. among (reading accounts p.user i) c || b) (picked_names (is_free p) (writing accounts p.user i) c)

  pub owns_read_of : (i : ℕ) → among owned (ReadsUser i) ≡ is_number (user_number accounts p.user) i
  owns_read_of i = owned_by_user (ReadsUser i) (λ job. refl) refl refl ∙ by (user_number accounts p.user)
    where
      by : (number : Option ℕ) → among (as_user number) (ReadsUser i) ≡ is_number number i
      by None = refl
      by (Some j) =
          user_parts j (ReadsUser i)
          ∙ (λ k. (and-true (nat_eq i j) k
          || among_none ReadsGroup (ReadsUser i) (λ g. refl) (groups_of accounts p.user) k)
          || (is_free p && among_none WritesGroup (ReadsUser i) (λ g. refl) (groups_of accounts p.user) k))
          ∙ (λ k. or-false (nat_eq i j) k || and-false (is_free p) k) ∙ or-false (nat_eq i j)

  pub owns_write_of : (i : ℕ) → among owned (WritesUser i) ≡ (is_number (user_number accounts p.user) i && is_free p)
  owns_write_of i = owned_by_user (WritesUser i) (λ job. refl) refl refl ∙ by (user_number accounts p.user)
    where
      turned : (a b : Bool) → (b && a) ≡ (a && b)
      turned true true = refl
      turned true false = refl
      turned false true = refl
      turned false false = refl

      by : (number : Option ℕ) → among (as_user number) (WritesUser i) ≡ (is_number number i && is_free p)
      by None = refl
      by (Some j) =
          user_parts j (WritesUser i)
          ∙ (λ k. among_none ReadsGroup (WritesUser i) (λ g. refl) (groups_of accounts p.user) k
          || (is_free p
          && (and-true (nat_eq i j) k
          || among_none WritesGroup (WritesUser i) (λ g. refl) (groups_of accounts p.user)
          k)))
          ∙ (λ k. is_free p && or-false (nat_eq i j) k) ∙ turned (nat_eq i j) (is_free p)

  pub owns_read_of_group : (g : ℕ) → among owned (ReadsGroup g) ≡ (is_some (user_number accounts p.user) && has_number (groups_of accounts p.user) g)
  owns_read_of_group g = owned_by_user (ReadsGroup g) (λ job. refl) refl refl ∙ by (user_number accounts p.user)
    where
      by : (number : Option ℕ) → among (as_user number) (ReadsGroup g) ≡ (is_some number && has_number (groups_of accounts p.user) g)
      by None = refl
      by (Some j) =
          user_parts j (ReadsGroup g)
          ∙ (λ k. among_groups ReadsGroup (λ a b. and-true (nat_eq a b)) (groups_of accounts p.user) g k
          || (is_free p && among_none WritesGroup (ReadsGroup g) (λ h. refl) (groups_of accounts p.user) k))
          ∙ (λ k. has_number (groups_of accounts p.user) g || and-false (is_free p) k) ∙ or-false _

  pub owns_write_of_group : (g : ℕ)
      → among owned (WritesGroup g)
      ≡ ((is_some (user_number accounts p.user) && has_number (groups_of accounts p.user) g) && is_free p)
  owns_write_of_group g = owned_by_user (WritesGroup g) (λ job. refl) refl refl ∙ by (user_number accounts p.user)
    where
      turned : (a b : Bool) → (b && a) ≡ (a && b)
      turned true true = refl
      turned true false = refl
      turned false true = refl
      turned false false = refl

      by : (number : Option ℕ) → among (as_user number) (WritesGroup g) ≡ ((is_some number && has_number (groups_of accounts p.user) g) && is_free p)
      by None = refl
      by (Some j) =
          user_parts j (WritesGroup g)
          ∙ (λ k. among_none ReadsGroup (WritesGroup g) (λ h. refl) (groups_of accounts p.user) k
          || (is_free p
          && among_groups WritesGroup (λ a b. and-true (nat_eq a b)) (groups_of accounts p.user) g k))
          ∙ turned (has_number (groups_of accounts p.user) g) (is_free p)

  -- of jobs the held ones are owned, and no other
  pub none_as_user : (job : ProcName) (number : Option ℕ) → among (as_user number) (OfJob job) ≡ false
  none_as_user job None = refl
  none_as_user job (Some j) =
      user_parts j (OfJob job)
      ∙ (λ k. among_none ReadsGroup (OfJob job) (λ g. refl) (groups_of accounts p.user) k
      || (is_free p && among_none WritesGroup (OfJob job) (λ g. refl) (groups_of accounts p.user) k))
      ∙ and-false (is_free p)

  pub owns_job : (job : ProcName) → among owned (OfJob job) ≡ has p.held job
  owns_job job = owned_parts (OfJob job) ∙ (λ i. none_as_user job (user_number accounts p.user) i || among_jobs p.held job i)

  -- no user and no group owns the two categories of a process
  own_as_user : (q : ProcName) (number : Option ℕ)
      → (among (as_user number) (ReadsProcess q) ≡ false) × (among (as_user number) (WritesProcess q) ≡ false)
  own_as_user q None = (refl, refl)
  own_as_user q (Some j) = (
    user_parts j (ReadsProcess q)
        ∙ (λ k. among_none ReadsGroup (ReadsProcess q) (λ g. refl) (groups_of accounts p.user) k
        || (is_free p && among_none WritesGroup (ReadsProcess q) (λ g. refl) (groups_of accounts p.user) k))
        ∙ and-false (is_free p),
    user_parts j (WritesProcess q)
        ∙ (λ k. among_none ReadsGroup (WritesProcess q) (λ g. refl) (groups_of accounts p.user) k
        || (is_free p && among_none WritesGroup (WritesProcess q) (λ g. refl) (groups_of accounts p.user) k))
        ∙ and-false (is_free p),
  )

  pub owns_write_own : (q : ProcName) → among owned (WritesProcess q) ≡ same q me
  owns_write_own q =
      owned_parts (WritesProcess q)
      ∙ (λ i. same q me
      || ((own_as_user q (user_number accounts p.user)).1 i
      || among_none OfJob (WritesProcess q) (λ job. refl) p.held i)) ∙ or-false (same q me)

  -- a job is owned or at 3 where the process knows it
  abbrev passes : CategoryName → Bool
  passes c = among owned c || among (map OfJob p.chain) c

  pub passes_job : (job : ProcName) → passes (OfJob job) ≡ knows p job
  passes_job job = (λ i. owns_job job i || among_jobs p.chain job i) ∙ or_comm (has p.held job) (has p.chain job)

  pub passes_jobs : (jobs : List ProcName) → list_all passes (map OfJob jobs) ≡ list_all (knows p) jobs
  passes_jobs [] = refl
  passes_jobs (j ∷ jobs) = (λ i. passes_job j i && passes_jobs jobs i)

  -- any other category passes where it is owned
  pub passes_other : (c : CategoryName) → ((job : ProcName) → same_category c (OfJob job) ≡ false) → passes c ≡ among owned c
  passes_other c no_job = ap (λ b. among owned c || b) (among_none OfJob c no_job p.chain) ∙ or-false (among owned c)

  -- the jobs of the process are among some names exactly where these have each of its jobs
  tainted_by : (names : List CategoryName) (jobs : List ProcName)
      → ((job : ProcName) → among names (OfJob job) ≡ has jobs job) → (chain : List ProcName)
      → list_all (among names) (map OfJob chain) ≡ list_all (has jobs) chain
  tainted_by names jobs same_jobs [] = refl
  tainted_by names jobs same_jobs (j ∷ chain) = (λ i. same_jobs j i && tainted_by names jobs same_jobs chain i)

  tainted_in : (jobs : List ProcName) (chain : List ProcName) → list_all (among (map OfJob jobs)) (map OfJob chain) ≡ list_all (has jobs) chain
  tainted_in jobs chain = tainted_by (map OfJob jobs) jobs (among_jobs jobs) chain

  pub tainted_in_none : (names : List CategoryName) → ((job : ProcName) → among names (OfJob job) ≡ false)
      → (chain : List ProcName)
      → list_all (among names) (map OfJob chain) ≡ elim chain as (λ _. Bool) [ [] ↦ true | job ∷ jobs ↦ false ]
  tainted_in_none names none_of [] = refl
  tainted_in_none names none_of (j ∷ chain) = ap (λ b. b && list_all (among names) (map OfJob chain)) (none_of j)

  -- nothing that the thread has at 3 is written, since that is a job's
  pub jobs_apart : (chain : List ProcName) (written : List CategoryName)
      → ((job : ProcName) → among written (OfJob job) ≡ false) → NamesApart (map OfJob chain) written
  jobs_apart [] written none_of c e = absurd (true≢false (sym e))
  jobs_apart (j ∷ chain) written none_of OfBoot e = absurd (true≢false (sym (sym (among_none OfJob OfBoot (λ job. refl) chain) ∙ e)))
  jobs_apart (j ∷ chain) written none_of (ReadsUser i) e = absurd (true≢false (sym (sym (among_none OfJob (ReadsUser i) (λ job. refl) chain) ∙ e)))
  jobs_apart (j ∷ chain) written none_of (WritesUser i) e = absurd (true≢false (sym (sym (among_none OfJob (WritesUser i) (λ job. refl) chain) ∙ e)))
  jobs_apart (j ∷ chain) written none_of (ReadsGroup i) e = absurd (true≢false (sym (sym (among_none OfJob (ReadsGroup i) (λ job. refl) chain) ∙ e)))
  jobs_apart (j ∷ chain) written none_of (WritesGroup i) e =
      absurd (true≢false (sym (sym (among_none OfJob (WritesGroup i) (λ job. refl) chain) ∙ e)))
  jobs_apart (j ∷ chain) written none_of (ReadsProcess q) e =
      absurd (true≢false (sym (sym (among_none OfJob (ReadsProcess q) (λ job. refl) chain) ∙ e)))
  jobs_apart (j ∷ chain) written none_of (WritesProcess q) e =
      absurd (true≢false (sym (sym (among_none OfJob (WritesProcess q) (λ job. refl) chain) ∙ e)))
  jobs_apart (j ∷ chain) written none_of (OfJob job) e = none_of job

  module _ (category : Categories) (different : AreDifferent category) where
    abbrev own : Rights
    own = thread_rights accounts me p

    -- what is private to user i, readable, for all, scratch, and a group's
    sees_private : (i : ℕ)
        → is_below_raised (guard_label category (private_guard i)) (rights_label category own)
        ≡ is_number (user_number accounts p.user) i
    sees_private i =
        observes_by_names category different (private_guard i) own (user_apart i) ∙ and-true _
        ∙ passes_other (ReadsUser i) (λ job. refl) ∙ owns_read_of i

    pub sees_unguarded : (g : Guard) → g.secret ≡ [] → is_below_raised (guard_label category g) (rights_label category own) ≡ true
    sees_unguarded g e =
        observes_by_names category different g own (λ c k. absurd (true≢false (sym k ∙ ap (λ names. among names c) e)))
        ∙ ap (list_all passes) e

    sees_scratch : (jobs : List ProcName) (i : ℕ)
        → is_below_raised (guard_label category (scratch_guard jobs i)) (rights_label category own)
        ≡ (is_number (user_number accounts p.user) i && list_all (knows p) jobs)
    sees_scratch jobs i =
        observes_by_names category different (scratch_guard jobs i) own (λ c e. refl)
        ∙ (λ k. (passes_other (ReadsUser i) (λ job. refl) ∙ owns_read_of i) k && passes_jobs jobs k)

    sees_group : (g : ℕ)
        → is_below_raised (guard_label category (group_guard g)) (rights_label category own)
        ≡ (is_some (user_number accounts p.user) && has_number (groups_of accounts p.user) g)
    sees_group g =
        observes_by_names category different (group_guard g) own (group_apart g) ∙ and-true _
        ∙ passes_other (ReadsGroup g) (λ job. refl) ∙ owns_read_of_group g

    -- a process is seen where each of its jobs is known
    pub sees_process : (other : ProcName) (q : Process)
        → is_below_raised (guard_label category (process_guard other q)) (rights_label category own) ≡ sees p q
    sees_process other q =
        observes_by_names category different (process_guard other q) own
        (jobs_apart q.chain (WritesProcess other ∷ []) (λ job. refl)) ∙ passes_jobs q.chain

    -- a process that sees another one below its own label writes to it exactly where it is its own
    pub below_process : (other : ProcName) (q : Process)
        → is_below (rights_label category own) (guard_label category (process_guard other q))
        ≡ (list_all (has q.chain) p.chain && same other me)
    below_process other q =
        below_by_names category different (process_guard other q) own (jobs_apart p.chain (WritesProcess other ∷ []) (λ job. refl))
        ∙ (λ i. tainted_in q.chain p.chain i && (ap (λ b. b && true) (owns_write_own other) ∙ and-true (same other me)) i)

    -- the thread's label is below that of what is private to user i exactly for this user's processes in no job; and for the other guards
    pub below_private : (i : ℕ)
        → is_below (rights_label category own) (guard_label category (private_guard i))
        ≡ (is_free p && (is_number (user_number accounts p.user) i && is_free p))
    below_private i =
        below_by_names category different (private_guard i) own (jobs_apart p.chain (WritesUser i ∷ []) (λ job. refl))
        ∙ (λ k. tainted_in_none (ReadsUser i ∷ []) (λ job. refl) p.chain k && (ap (λ b. b && true) (owns_write_of i) ∙ and-true _) k)

    pub below_readable : (i : ℕ)
        → is_below (rights_label category own) (guard_label category (readable_guard i))
        ≡ (is_free p && (is_number (user_number accounts p.user) i && is_free p))
    below_readable i =
        below_by_names category different (readable_guard i) own (jobs_apart p.chain (WritesUser i ∷ []) (λ job. refl))
        ∙ (λ k. tainted_in_none [] (λ job. refl) p.chain k && (ap (λ b. b && true) (owns_write_of i) ∙ and-true _) k)

    pub below_open : is_below (rights_label category own) (guard_label category open_guard) ≡ is_free p
    below_open = below_by_names category different open_guard own (λ c e. refl) ∙ and-true _ ∙ tainted_in_none [] (λ job. refl) p.chain

    pub below_scratch : (jobs : List ProcName) (i : ℕ)
        → is_below (rights_label category own) (guard_label category (scratch_guard jobs i))
        ≡ list_all (has jobs) p.chain
    below_scratch jobs i =
        below_by_names category different (scratch_guard jobs i) own (λ c e. refl) ∙ and-true _
        ∙ tainted_by (scratch_guard jobs i).secret jobs (among_jobs jobs) p.chain

    pub below_group : (g : ℕ)
        → is_below (rights_label category own) (guard_label category (group_guard g))
        ≡ (is_free p
        && ((is_some (user_number accounts p.user) && has_number (groups_of accounts p.user) g)
        && is_free p))
    below_group g =
        below_by_names category different (group_guard g) own (jobs_apart p.chain (WritesGroup g ∷ []) (λ job. refl))
        ∙ (λ k. tainted_in_none (ReadsGroup g ∷ []) (λ job. refl) p.chain k && (ap (λ b. b && true) (owns_write_of_group g) ∙ and-true _) k)

    module _ (ok : AreAccounts accounts) where
      -- a declared member of a group
      pub member : (group : Name) (g : ℕ) → group_number accounts group ≡ Some g
          → (is_some (user_number accounts p.user) && has_number (groups_of accounts p.user) g)
          ≡ is_member accounts p.user group
      member group g numbered =
          ap (λ b. is_some (user_number accounts p.user) && b) (is_member_number accounts ok p.user group g numbered)
          ∙ by (is_member accounts p.user group) refl
        where
          by : (b : Bool) → is_member accounts p.user group ≡ b → (is_some (user_number accounts p.user) && b) ≡ b
          by true e = and-true _ ∙ ok.declared p.user group e
          by false e = and-false _

      owner : (name : Name) (i : ℕ) → user_number accounts name ≡ Some i → is_number (user_number accounts p.user) i ≡ same p.user name
      owner name i numbered = is_owner accounts p.user name i numbered

      -- what a thread observes is what its process may read
      pub observes_class : (class : Class) (g : Guard) → class_guard accounts class ≡ Some g
          → is_below_raised (guard_label category g) (rights_label category own) ≡ may_read accounts p class
      observes_class (Private name) g e =
          let at = mapped_from private_guard (user_number accounts name) g e in
          ap (λ (x : Guard). is_below_raised (guard_label category x) (rights_label category own)) (sym at.2)
          ∙ sees_private at.0 ∙ owner name at.0 at.1
      observes_class (Readable name) g e =
          let at = mapped_from readable_guard (user_number accounts name) g e in
          ap (λ (x : Guard). is_below_raised (guard_label category x) (rights_label category own)) (sym at.2)
          ∙ sees_unguarded (readable_guard at.0) refl
      observes_class Open g e =
          ap (λ (x : Guard). is_below_raised (guard_label category x) (rights_label category own))
          (sym (same_Some open_guard g e)) ∙ sees_unguarded open_guard refl
      observes_class (Scratch name jobs) g e =
          let at = mapped_from (scratch_guard jobs) (user_number accounts name) g e in
          ap (λ (x : Guard). is_below_raised (guard_label category x) (rights_label category own)) (sym at.2)
          ∙ sees_scratch jobs at.0 ∙ ap (λ b. b && list_all (knows p) jobs) (owner name at.0 at.1)
      observes_class (Grouped group) g e =
          let at = mapped_from group_guard (group_number accounts group) g e in
          ap (λ (x : Guard). is_below_raised (guard_label category x) (rights_label category own)) (sym at.2)
          ∙ sees_group at.0 ∙ member group at.0 at.1

      -- what a thread modifies is what its process may write
      alike : (free mine : Bool) → ((free && (mine && free)) && mine) ≡ (mine && free)
      alike true true = refl
      alike true false = refl
      alike false true = refl
      alike false false = refl

      alike_readable : (free mine : Bool) → ((free && (mine && free)) && true) ≡ (mine && free)
      alike_readable true true = refl
      alike_readable true false = refl
      alike_readable false true = refl
      alike_readable false false = refl

      alike_scratch : (mine known inside : Bool) → (inside && (mine && known)) ≡ (mine && known && inside)
      alike_scratch true true true = refl
      alike_scratch true true false = refl
      alike_scratch true false true = refl
      alike_scratch true false false = refl
      alike_scratch false known true = refl
      alike_scratch false known false = refl

      pub modifies_class : (class : Class) (g : Guard) → class_guard accounts class ≡ Some g
          → (is_below (rights_label category own) (guard_label category g)
          && is_below_raised (guard_label category g) (rights_label category own)) ≡ may_write accounts p class
      modifies_class (Private name) g e =
          let at = mapped_from private_guard (user_number accounts name) g e in
          (λ i. is_below (rights_label category own) (guard_label category (sym at.2 i)) && observes_class (Private name) g e i)
          ∙ (λ i. (below_private at.0 ∙ ap (λ b. is_free p && (b && is_free p)) (owner name at.0 at.1)) i && same p.user name)
          ∙ alike (is_free p) (same p.user name)
      modifies_class (Readable name) g e =
          let at = mapped_from readable_guard (user_number accounts name) g e in
          (λ i. is_below (rights_label category own) (guard_label category (sym at.2 i)) && observes_class (Readable name) g e i)
          ∙ (λ i. (below_readable at.0 ∙ ap (λ b. is_free p && (b && is_free p)) (owner name at.0 at.1)) i && true)
          ∙ alike_readable (is_free p) (same p.user name)
      modifies_class Open g e =
          (λ i. is_below (rights_label category own) (guard_label category (sym (same_Some open_guard g e) i))
          && observes_class Open g e i) ∙ and-true _ ∙ below_open
      modifies_class (Scratch name jobs) g e =
          let at = mapped_from (scratch_guard jobs) (user_number accounts name) g e in
          (λ i. is_below (rights_label category own) (guard_label category (sym at.2 i)) && observes_class (Scratch name jobs) g e i)
          ∙ ap (λ b. b && (same p.user name && list_all (knows p) jobs)) (below_scratch jobs at.0)
          ∙ alike_scratch (same p.user name) (list_all (knows p) jobs) (list_all (has jobs) p.chain)
      modifies_class (Grouped group) g e =
          let at = mapped_from group_guard (group_number accounts group) g e in
          (λ i. is_below (rights_label category own) (guard_label category (sym at.2 i)) && observes_class (Grouped group) g e i)
          ∙ (λ i. (below_group at.0 ∙ ap (λ b. is_free p && (b && is_free p)) (member group at.0 at.1)) i && is_member accounts p.user group)
          ∙ alike (is_free p) (is_member accounts p.user group)
