-- A process has the same rights if jobs are known by numbers.
use Rattle.std.specs.Prelude.{◌≡◌, ℕ, Bool, true, false, ◌&&◌, ◌||◌, List, [], ◌∷◌, None, map, nat_eq, refl}
use Rattle.std.specs.List.{list_all, list_any}
use Rattle.std.proofs.Common.{ap, sym, ◌∙◌, inl, inr}
use Rattle.histar_flat.specs.Words.{Name, ProcName}
use Rattle.histar_base.specs.Paths.{same}
use Rattle.histar_flat.specs.Accounts.{Accounts, Group, has, is_member}
use Rattle.histar_flat.specs.Classes.{Class, Process, is_free, knows, may_read, may_write}
use Rattle.histar_flat.specs.Classes.Class.{Private, Readable, Open, Scratch, Grouped}
use Rattle.histar_flat.proofs.FileLemmas.{same_itself, same_name_found}
use Rattle.histar_secrecy.specs.declared.file_class.FileClass.{FileClass}
use Rattle.histar_secrecy.specs.Ways.{reads_all}
use Rattle.histar_secrecy.specs.ShownRoles.{AreNumbered, flat_class, job_numbered, class_by_number, jobs_by_number, of_groups, reads_each}
use Rattle.histar_secrecy.specs.ShownRoles.{with_rights}

-- a number is in a list exactly if its job is in the list of the jobs
has_number : (jobs : List ℕ) (job : ℕ) → list_any (nat_eq job) jobs ≡ has (map job_numbered jobs) (job_numbered job)
has_number [] job = refl
has_number (k ∷ jobs) job = λ i. by (nat_eq job k) i || has_number jobs job i
  where
    by : (b : Bool) → b ≡ (b && true)
    by true = refl
    by false = refl

-- all numbers are among others exactly if their jobs are
has_numbers : (jobs others : List ℕ)
    → list_all (λ other. list_any (nat_eq other) jobs) others ≡ list_all (has (map job_numbered jobs)) (map job_numbered others)
has_numbers jobs [] = refl
has_numbers jobs (k ∷ others) = λ i. has_number jobs k i && has_numbers jobs others i

-- a process writes scratch if it may read it, and is in no other jobs
pub writes_scratch : (accounts : Accounts) (user owner : Name) (jobs held of : List ℕ)
    → (may_read accounts (with_rights user jobs held) (Scratch owner (map job_numbered of))
    && list_all (λ other. list_any (nat_eq other) of) jobs) ≡ may_write accounts (with_rights user jobs held) (Scratch owner (map job_numbered of))
writes_scratch accounts user owner jobs held of =
    ap (λ b. may_read accounts (with_rights user jobs held) (Scratch owner (map job_numbered of)) && b) (has_numbers of jobs)

-- a process knows all jobs of these numbers
pub knows_numbers : (user : Name) (jobs held of : List ℕ) → list_all (λ job. list_any (nat_eq job) jobs || list_any (nat_eq job) held) of
    ≡ list_all (knows (with_rights user jobs held)) (map job_numbered of)
knows_numbers user jobs held [] = refl
knows_numbers user jobs held (k ∷ of) = λ i. (has_number jobs k i || has_number held k i) && knows_numbers user jobs held of i

-- a process may read each of these classes exactly if it reads all of them as a way
pub each_mapped : (groups : List Group) (p : Process) (classes : List FileClass)
    → reads_each groups p classes ≡ reads_all (of_groups groups) (map flat_class classes) p
each_mapped groups p [] = refl
each_mapped groups p (c ∷ classes) = ap (λ b. may_read (of_groups groups) p (flat_class c) && b) (each_mapped groups p classes)

-- replacing jobs by numbers, and numbers by jobs, is replacing jobs by their numbered jobs
pub in_two_steps : (number : ProcName → ℕ) (jobs : List ProcName) → map job_numbered (map number jobs) ≡ jobs_by_number number jobs
in_two_steps number [] = refl
in_two_steps number (job ∷ jobs) = ap (λ rest. job_numbered (number job) ∷ rest) (in_two_steps number jobs)

module _ (number : ProcName → ℕ) (one : AreNumbered number) where
  -- a process with its jobs known by their numbers
  abbrev pub named : Process → Process
  named p = record { user = p.user; chain = jobs_by_number number p.chain; held = jobs_by_number number p.held; exited = None; born = 0 }

  -- two jobs are the same exactly if their numbers are
  same_numbers : (a b : ProcName) → same (job_numbered (number a)) (job_numbered (number b)) ≡ same a b
  same_numbers a b = elim (same_name_found a b) [
    | inl t ↦ ap (λ x. same (job_numbered (number x)) (job_numbered (number b))) t.1 ∙ same_itself (job_numbered (number b)) ∙ sym t.0
    | inr t ↦ elim (same_name_found (job_numbered (number a)) (job_numbered (number b))) [
      | inl u ↦ let numbers : number a ≡ number b = cc in absurd (t.1 (one a b numbers))
      | inr u ↦ u.0 ∙ sym t.0
    ]
  ]

  has_named : (jobs : List ProcName) (job : ProcName) → has (jobs_by_number number jobs) (job_numbered (number job)) ≡ has jobs job
  has_named [] job = refl
  has_named (k ∷ jobs) job = λ i. same_numbers job k i || has_named jobs job i

  all_numbers : (jobs : List ProcName) (test other : ProcName → Bool) → ((job : ProcName) → test (job_numbered (number job)) ≡ other job)
      → list_all test (jobs_by_number number jobs) ≡ list_all other jobs
  all_numbers [] test other each = refl
  all_numbers (k ∷ jobs) test other each = λ i. each k i && all_numbers jobs test other each i

  -- a process is in no job exactly if it is in none by numbers
  pub free_by_number : (p : Process) → is_free (named p) ≡ is_free p
  free_by_number p = by p.chain
    where
      by : (chain : List ProcName) → (let b : Bool = elim (jobs_by_number number chain) [ [] ↦ true | k ∷ ks ↦ false ] in b)
          ≡ (let b : Bool = elim chain [ [] ↦ true | k ∷ ks ↦ false ] in b)
      by [] = refl
      by (k ∷ ks) = refl

  -- a process knows the same jobs by numbers
  pub knows_by_number : (p : Process) (jobs : List ProcName) → list_all (knows (named p)) (jobs_by_number number jobs) ≡ list_all (knows p) jobs
  knows_by_number p jobs = all_numbers jobs (knows (named p)) (knows p) (λ job i. has_named p.chain job i || has_named p.held job i)

  -- The rights of a process are the same by numbers.
  pub reads_by_number : (accounts : Accounts) (p : Process) (class : Class)
      → may_read (of_groups accounts.groups) (named p) (class_by_number number class) ≡ may_read accounts p class
  reads_by_number accounts p (Private owner) = refl
  reads_by_number accounts p (Readable owner) = refl
  reads_by_number accounts p Open = refl
  reads_by_number accounts p (Scratch owner jobs) = ap (λ b. same p.user owner && b) (knows_by_number p jobs)
  reads_by_number accounts p (Grouped group) = refl

  pub writes_by_number : (accounts : Accounts) (p : Process) (class : Class)
      → may_write (of_groups accounts.groups) (named p) (class_by_number number class) ≡ may_write accounts p class
  writes_by_number accounts p (Private owner) = ap (λ b. same p.user owner && b) (free_by_number p)
  writes_by_number accounts p (Readable owner) = ap (λ b. same p.user owner && b) (free_by_number p)
  writes_by_number accounts p Open = free_by_number p
  writes_by_number accounts p (Scratch owner jobs) =
      λ i. same p.user owner && knows_by_number p jobs i && all_numbers p.chain (has (jobs_by_number number jobs)) (has jobs) (has_named jobs) i
  writes_by_number accounts p (Grouped group) = ap (λ b. is_member accounts p.user group && b) (free_by_number p)
