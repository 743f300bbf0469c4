-- The label tests of a wrap's raw calls, by names: they pass exactly where the flat rule says, which is where the directory may be written and
-- the caller is a declared user.
use Rattle.std.proofs.Common.{◌≡◌, ℕ, ◌+◌, ◌≤◌, ◌⊎◌, inl, inr, Bool, true, false, ◌&&◌, ◌||◌, List, [], ◌∷◌, ◌++◌, Option, None, Some, if◌then◌else◌}
use Rattle.std.proofs.Common.{arith, refl, sym, ap, ◌∙◌, subst}
use Rattle.std.specs.Prelude.{map}
use Rattle.std.specs.List.{list_all}
use Rattle.std.proofs.lemmas.Bool.Decides.{eqb_tells}
use Rattle.std.proofs.lemmas.Bool.{and_from, or_left, or_right, or_cases}
use Rattle.std.proofs.Math.Bool.{or-false, and-true}
use mathlib.Core.Bool.{true≢false}
use Rattle.histar_flat.specs.Words.{ProcName}
use Rattle.histar_base.specs.Paths.{same}
use Rattle.histar_level.specs.Level.{rank, raised}
use Rattle.histar_label.specs.Levels.{is_below, is_below_raised, is_below_join_raised}
use Rattle.histar_label.proofs.Orders.{is_below-law, is_below_raised-law, is_below_join_raised-law}
use Rattle.histar_flat.specs.Accounts.{Accounts, has, user_number}
use Rattle.histar_flat.specs.Classes.{Class, Process, is_free, may_read, may_write}
use Rattle.histar_flat.proofs.WrappedJobs.{has_last}
use Rattle.histar_flat.proofs.GivenNames.{longer_has}
use Rattle.histar_layout.specs.Labelling.{guarded_by, owner_label}
use Rattle.histar_refinement.specs.Categories.{CategoryName, Categories, AreDifferent, among}
use Rattle.histar_refinement.specs.Categories.CategoryName.{ReadsUser, ReadsProcess, WritesProcess, OfJob}
use Rattle.histar_refinement.specs.Guards.{Guard, Rights, guard_label, rights_label, rights_clearance}
use Rattle.histar_refinement.specs.Labels.{class_guard, scratch_guard, process_guard, inside_guard, reading, writing, owned_as, thread_rights}
use Rattle.histar_layout.proofs.Members.{is_in, same_truth}
use Rattle.histar_refinement.proofs.Levelled.{cleared_exactly, same_owning, same_cleared}
use Rattle.histar_layout.proofs.LabelLevels.{at_owning, at_guarded, owning_level, guarded_level}
use Rattle.histar_refinement.proofs.CategoryTests.{among-append, among_none, among_jobs, is_in_names, all_names, named_in}
use Rattle.histar_refinement.proofs.Tested.{observes_by_names, below_by_names, cleared_by_names, rights_by_names, capped_by_names}
use Rattle.histar_refinement.proofs.Tested.{clearances_by_names}
use Rattle.histar_refinement.specs.Accounts.{AreAccounts}
use Rattle.histar_refinement.proofs.AccountLemmas.{is_number}
use Rattle.histar_refinement.proofs.ClassTests.{owns_read_of, jobs_apart, observes_class, modifies_class}
use Rattle.histar_refinement.proofs.AmongNames.{covers, in_first, in_second, at_head, later, each_head, each_append}
use Rattle.histar_refinement.proofs.Uses.{job_among}
use Rattle.histar_refinement.proofs.Ranges.{passed_by_all}

-- Owning one category more changes no test on what isn't guarded by it.
free_below : (o t s w : Bool) → t ≡ false → s ≡ false → w ≡ false → rank (owning_level o t) ≤ rank (guarded_level s w)
free_below true false false false a b c = omega arith
free_below false false false false a b c = omega arith
free_below o true s w a b c = absurd (true≢false a)
free_below o false true w a b c = absurd (true≢false b)
free_below o false false true a b c = absurd (true≢false c)

free_seen : (o t s w : Bool) → t ≡ false → s ≡ false → w ≡ false → rank (guarded_level s w) ≤ raised (owning_level o t)
free_seen true false false false a b c = omega arith
free_seen false false false false a b c = omega arith
free_seen o true s w a b c = absurd (true≢false a)
free_seen o false true w a b c = absurd (true≢false b)
free_seen o false false true a b c = absurd (true≢false c)

module _ (O T S W : List ℕ) (c : ℕ) (not_tainted : is_in T c ≡ false) (not_secret : is_in S c ≡ false) (not_written : is_in W c ≡ false) where
  more_below : is_below (owner_label (c ∷ O) T) (guarded_by S W) ≡ is_below (owner_label O T) (guarded_by S W)
  more_below = same_truth (is_below (owner_label (c ∷ O) T) (guarded_by S W)) (is_below (owner_label O T) (guarded_by S W))
      (λ below. (is_below-law (owner_label O T) (guarded_by S W)).1 (λ q. rw (at_guarded S W q, at_owning O T q) (elim (eqb_tells q c) [
        | inl e ↦
            free_below (is_in O q) (is_in T q) (is_in S q) (is_in W q) (ap (is_in T) e.1 ∙ not_tainted)
            (ap (is_in S) e.1 ∙ not_secret) (ap (is_in W) e.1 ∙ not_written)
        | inr e ↦
            subst (λ b. rank (owning_level (b || is_in O q) (is_in T q)) ≤ rank (guarded_level (is_in S q) (is_in W q)))
            e.0 (rw (sym (at_guarded S W q), sym (at_owning (c ∷ O) T q))
            ((is_below-law (owner_label (c ∷ O) T) (guarded_by S W)).0 below q))
      ])))
      (λ below. (is_below-law (owner_label (c ∷ O) T) (guarded_by S W)).1 (λ q. rw (at_guarded S W q, at_owning (c ∷ O) T q) (elim (eqb_tells q c) [
        | inl e ↦
            free_below (is_in (c ∷ O) q) (is_in T q) (is_in S q) (is_in W q) (ap (is_in T) e.1 ∙ not_tainted)
            (ap (is_in S) e.1 ∙ not_secret) (ap (is_in W) e.1 ∙ not_written)
        | inr e ↦
            subst (λ b. rank (owning_level (b || is_in O q) (is_in T q)) ≤ rank (guarded_level (is_in S q) (is_in W q)))
            (sym e.0) (rw (sym (at_guarded S W q), sym (at_owning O T q))
            ((is_below-law (owner_label O T) (guarded_by S W)).0 below q))
      ])))

  more_seen : is_below_raised (guarded_by S W) (owner_label (c ∷ O) T) ≡ is_below_raised (guarded_by S W) (owner_label O T)
  more_seen = same_truth (is_below_raised (guarded_by S W) (owner_label (c ∷ O) T)) (is_below_raised (guarded_by S W) (owner_label O T))
      (λ below. (is_below_raised-law (guarded_by S W) (owner_label O T)).1 (λ q. rw (at_guarded S W q, at_owning O T q) (elim (eqb_tells q c) [
        | inl e ↦
            free_seen (is_in O q) (is_in T q) (is_in S q) (is_in W q) (ap (is_in T) e.1 ∙ not_tainted)
            (ap (is_in S) e.1 ∙ not_secret) (ap (is_in W) e.1 ∙ not_written)
        | inr e ↦
            subst
            (λ b. rank (guarded_level (is_in S q) (is_in W q)) ≤ raised (owning_level (b || is_in O q) (is_in T q)))
            e.0 (rw (sym (at_guarded S W q), sym (at_owning (c ∷ O) T q))
            ((is_below_raised-law (guarded_by S W) (owner_label (c ∷ O) T)).0 below q))
      ])))
      (λ below. (is_below_raised-law (guarded_by S W) (owner_label (c ∷ O) T)).1
      (λ q. rw (at_guarded S W q, at_owning (c ∷ O) T q) (elim (eqb_tells q c) [
        | inl e ↦
            free_seen (is_in (c ∷ O) q) (is_in T q) (is_in S q) (is_in W q) (ap (is_in T) e.1 ∙ not_tainted)
            (ap (is_in S) e.1 ∙ not_secret) (ap (is_in W) e.1 ∙ not_written)
        | inr e ↦
            subst
            (λ b. rank (guarded_level (is_in S q) (is_in W q)) ≤ raised (owning_level (b || is_in O q) (is_in T q)))
            (sym e.0) (rw (sym (at_guarded S W q), sym (at_owning O T q))
            ((is_below_raised-law (guarded_by S W) (owner_label O T)).0 below q))
      ])))

-- a process in some job is not free
pub not_free : (chain : List ProcName) (child : ProcName) → elim (chain ++ child ∷ []) as (λ _. Bool) [ [] ↦ true | job ∷ jobs ↦ false ] ≡ false
not_free [] child = refl
not_free (j ∷ chain) child = refl

has_old : (jobs : List ProcName) (child job : ProcName) → has jobs job ≡ true → has (jobs ++ child ∷ []) job ≡ true
has_old [] child job e = absurd (true≢false (sym e))
has_old (j ∷ jobs) child job e = elim (or_cases (same job j) (has jobs job) e) [
  | inl k ↦ or_left (same job j) (has (jobs ++ child ∷ []) job) k
  | inr k ↦ or_right (same job j) (has (jobs ++ child ∷ []) job) (has_old jobs child job k)
]

module _ (accounts : Accounts) (category : Categories) (different : AreDifferent category) (me : ProcName) (p : Process) (child : ProcName) where
  abbrev own : Rights
  own = thread_rights accounts me p

  abbrev pub jobs : List ProcName
  jobs = p.chain ++ child ∷ []

  -- the rights of the thread once it has made the job's category
  abbrev pub with_job : Rights
  with_job = record { owned = OfJob child ∷ own.owned; tainted = own.tainted }

  abbrev both : List CategoryName
  both = with_job.owned ++ with_job.tainted

  -- the jobs of the process are among the child's, which are those and the child's own
  old_job : (c : CategoryName) → among (map OfJob p.chain) c ≡ true → among (map OfJob jobs) c ≡ true
  old_job c e =
      let found = job_among p.chain c e in ap (among (map OfJob jobs)) found.1 ∙ among_jobs jobs found.0
      ∙ has_old p.chain child found.0 found.2

  which_job : (list : List ProcName) (c : CategoryName) → among (map OfJob (list ++ child ∷ [])) c ≡ true
      → (among (map OfJob list) c ≡ true) ⊎ (c ≡ OfJob child)
  which_job list c e =
      let found = job_among (list ++ child ∷ []) c e in
      elim (longer_has list child found.0 found.2) [
        | inl old ↦ inl (ap (among (map OfJob list)) found.1 ∙ among_jobs list found.0 ∙ old)
        | inr is ↦ inr (found.1 ∙ ap OfJob is)
      ]

  -- The directory: its label is above the thread's own, and below its clearance exactly where the user has the number i.
  module _ (i : ℕ) where
    pub scratch_above : is_below (rights_label category with_job) (guard_label category (scratch_guard jobs i)) ≡ true
    scratch_above =
        below_by_names category different (scratch_guard jobs i) with_job (λ c e. refl)
        ∙ and_from _ _ (covers (ReadsUser i ∷ map OfJob jobs) (map OfJob p.chain) (λ c e. later (ReadsUser i) (map OfJob jobs) c (old_job c e))) refl

    reads_user : among both (ReadsUser i) ≡ is_number (user_number accounts p.user) i
    reads_user =
        among-append own.owned (map OfJob p.chain) (ReadsUser i)
        ∙ (λ k. owns_read_of accounts me p i k || among_none OfJob (ReadsUser i) (λ job. refl) p.chain k)
        ∙ or-false (is_number (user_number accounts p.user) i)

    jobs_both : list_all (among both) (map OfJob jobs) ≡ true
    jobs_both = covers both (map OfJob jobs) (λ c e. elim (which_job p.chain c e) [
      | inl old ↦ in_second with_job.owned with_job.tainted c old
      | inr is ↦ subst (λ x. among both x ≡ true) (sym is) (at_head (OfJob child) (own.owned ++ with_job.tainted))
    ])

    pub scratch_below : is_below (guard_label category (scratch_guard jobs i)) (rights_clearance category with_job)
        ≡ is_number (user_number accounts p.user) i
    scratch_below =
        cleared_exactly (map category (scratch_guard jobs i).secret) [] (map category both) (λ q e. refl)
        ∙ all_names category different (is_in (map category both)) (among both) (is_in_names category different both) (scratch_guard jobs i).secret
        ∙ (λ k. reads_user k && jobs_both k) ∙ and-true (is_number (user_number accounts p.user) i)

    -- the directory segment in it: the thread may observe the directory where the user has this number
    pub scratch_seen : is_below_raised (guard_label category (scratch_guard jobs i)) (rights_label category with_job)
        ≡ is_number (user_number accounts p.user) i
    scratch_seen =
        observes_by_names category different (scratch_guard jobs i) with_job (λ c e. refl)
        ∙
        (λ k. (ap (λ b. b || among (map OfJob p.chain) (ReadsUser i)) (owns_read_of accounts me p i)
        ∙ ap (λ b. is_number (user_number accounts p.user) i || b)
        (among_none OfJob (ReadsUser i) (λ job. refl) p.chain)
        ∙ or-false (is_number (user_number accounts p.user) i)) k
        && passed_by_all (λ c. among with_job.owned c || among with_job.tainted c) (map OfJob jobs) (λ c e. elim (which_job p.chain c e) [
          | inl old ↦ or_right (among with_job.owned c) (among with_job.tainted c) old
          | inr is ↦
              or_left (among with_job.owned c) (among with_job.tainted c)
              (subst (λ x. among with_job.owned x ≡ true) (sym is) (at_head (OfJob child) own.owned))
        ]) k)
        ∙ and-true (is_number (user_number accounts p.user) i)

  -- The new job is in no label yet, so the parent directory and its directory segment are observed and modified exactly where the
  -- flat rule lets them be read and written.
  module _ (ok : AreAccounts accounts) (class : Class) (g : Guard) (is : class_guard accounts class ≡ Some g)
      (stranger : has p.chain child ≡ false) (secret : among g.secret (OfJob child) ≡ false)
      (written : among g.written (OfJob child) ≡ false) where
    not_tainted : is_in (map category own.tainted) (category (OfJob child)) ≡ false
    not_tainted = is_in_names category different own.tainted (OfJob child) ∙ among_jobs p.chain child ∙ stranger

    not_secret : is_in (map category g.secret) (category (OfJob child)) ≡ false
    not_secret = is_in_names category different g.secret (OfJob child) ∙ secret

    not_written : is_in (map category g.written) (category (OfJob child)) ≡ false
    not_written = is_in_names category different g.written (OfJob child) ∙ written

    seen_as_before : is_below_raised (guard_label category g) (rights_label category with_job)
        ≡ is_below_raised (guard_label category g) (rights_label category own)
    seen_as_before =
        more_seen (map category own.owned) (map category own.tainted) (map category g.secret) (map category g.written)
        (category (OfJob child)) not_tainted not_secret not_written

    pub observes_parent : is_below_raised (guard_label category g) (rights_label category with_job) ≡ may_read accounts p class
    observes_parent = seen_as_before ∙ observes_class accounts me p category different ok class g is

    pub modifies_parent : (is_below (rights_label category with_job) (guard_label category g)
        && is_below_raised (guard_label category g) (rights_label category with_job)) ≡ may_write accounts p class
    modifies_parent =
        (λ k. more_below (map category own.owned) (map category own.tainted) (map category g.secret)
        (map category g.written) (category (OfJob child)) not_tainted not_secret not_written k
        && seen_as_before k)
        ∙ modifies_class accounts me p category different ok class g is

  -- The thread takes its own label and clearance again.
  job_clears : (c : CategoryName) → among (own.owned ++ own.tainted) c ≡ true → among both c ≡ true
  job_clears c e = later (OfJob child) (own.owned ++ own.tainted) c e

  pub label_back :
      (is_below (rights_label category with_job) (rights_label category (thread_rights accounts me p)) ≡ true)
      × (is_below (rights_label category (thread_rights accounts me p)) (rights_clearance category with_job) ≡ true)
  label_back = (
    rights_by_names category different with_job own (covers own.tainted own.tainted (λ c e. e))
        (covers with_job.owned own.owned (λ c e. later (OfJob child) own.owned c e)),
    capped_by_names category different own both ∙ covers both own.tainted (in_second with_job.owned with_job.tainted),
  )

  pub clearance_back : (is_below (rights_label category (thread_rights accounts me p))
      (rights_clearance category (thread_rights accounts me p)) ≡ true)
      × (is_below_join_raised (rights_clearance category (thread_rights accounts me p))
      (rights_clearance category with_job) (rights_label category (thread_rights accounts me p)) ≡ true)
  clearance_back = (
    capped_by_names category different own (own.owned ++ own.tainted)
        ∙ covers (own.owned ++ own.tainted) own.tainted (in_second own.owned own.tainted),
    (is_below_join_raised-law (rights_clearance category own) (rights_clearance category with_job) (rights_label category own)).1 (λ q.
        let under =
        (is_below-law (rights_clearance category own) (rights_clearance category with_job)).0
        (clearances_by_names category different own with_job
        (covers both (own.owned ++ own.tainted) job_clears)) q in
        omega (arith, under)),
  )

  -- The birth, once the child's two categories are made.
  abbrev pub grown : Rights
  grown = record { owned = WritesProcess child ∷ ReadsProcess child ∷ OfJob child ∷ own.owned; tainted = own.tainted }

  abbrev pub newborn : Process
  newborn = record { user = p.user; chain = jobs; held = []; exited = None; born = 0 }

  abbrev pub holder : Process
  holder = record { user = p.user; chain = p.chain; held = p.held ++ child ∷ []; exited = p.exited; born = p.born + 1 }

  abbrev all : List CategoryName
  all = grown.owned ++ grown.tainted

  old_owned : (c : CategoryName) → among own.owned c ≡ true → among grown.owned c ≡ true
  old_owned c e =
      later (WritesProcess child) (ReadsProcess child ∷ OfJob child ∷ own.owned) c
      (later (ReadsProcess child) (OfJob child ∷ own.owned) c (later (OfJob child) own.owned c e))

  job_owned : among grown.owned (OfJob child) ≡ true
  job_owned =
      later (WritesProcess child) (ReadsProcess child ∷ OfJob child ∷ own.owned) (OfJob child)
      (later (ReadsProcess child) (OfJob child ∷ own.owned) (OfJob child) (at_head (OfJob child) own.owned))

  reads_owned : among grown.owned (ReadsProcess child) ≡ true
  reads_owned =
      later (WritesProcess child) (ReadsProcess child ∷ OfJob child ∷ own.owned) (ReadsProcess child)
      (at_head (ReadsProcess child) (OfJob child ∷ own.owned))

  jobs_within : (c : CategoryName) → among (map OfJob jobs) c ≡ true → among all c ≡ true
  jobs_within c e = elim (which_job p.chain c e) [
    | inl old ↦ in_second grown.owned grown.tainted c old
    | inr is ↦ subst (λ x. among all x ≡ true) (sym is) (in_first grown.owned grown.tainted (OfJob child) job_owned)
  ]

  job_passes : (c : CategoryName) → among (map OfJob jobs) c ≡ true → (among grown.owned c || among grown.tainted c) ≡ true
  job_passes c e = sym (among-append grown.owned grown.tainted c) ∙ jobs_within c e

  -- the thread modifies its own container and process segment
  pub own_modified : (is_below (rights_label category grown) (guard_label category (process_guard me p))
      && is_below_raised (guard_label category (process_guard me p)) (rights_label category grown)) ≡ true
  own_modified = and_from _ _
      (below_by_names category different (process_guard me p) grown (jobs_apart accounts me p p.chain (WritesProcess me ∷ []) (λ job. refl))
      ∙ and_from _ _ (covers (map OfJob p.chain) (map OfJob p.chain) (λ c e. e))
      (and_from _ _ (old_owned (WritesProcess me) (later (ReadsProcess me)
      (WritesProcess me ∷ owned_as accounts p (user_number accounts p.user) ++ map OfJob p.held)
      (WritesProcess me) (at_head (WritesProcess me)
      (owned_as accounts p (user_number accounts p.user) ++ map OfJob p.held)))) refl))
      (observes_by_names category different (process_guard me p) grown (jobs_apart accounts me p p.chain (WritesProcess me ∷ []) (λ job. refl))
      ∙ passed_by_all (λ c. among grown.owned c || among grown.tainted c) (map OfJob p.chain)
      (λ c e. or_right (among grown.owned c) (among grown.tainted c) e))

  -- the child's container and process segment are in its range, and it modifies the container
  pub outer_above : is_below (rights_label category grown) (guard_label category (process_guard child newborn)) ≡ true
  outer_above =
      below_by_names category different (process_guard child newborn) grown
      (jobs_apart accounts me p p.chain (WritesProcess child ∷ []) (λ job. refl))
      ∙ and_from _ _ (covers (map OfJob jobs) (map OfJob p.chain) old_job)
      (and_from _ _ (at_head (WritesProcess child) (ReadsProcess child ∷ OfJob child ∷ own.owned)) refl)

  pub outer_below : is_below (guard_label category (process_guard child newborn)) (rights_clearance category grown) ≡ true
  outer_below = cleared_by_names category different (process_guard child newborn) grown (covers all (map OfJob jobs) jobs_within)

  pub outer_seen : is_below_raised (guard_label category (process_guard child newborn)) (rights_label category grown) ≡ true
  outer_seen =
      observes_by_names category different (process_guard child newborn) grown
      (jobs_apart accounts me p jobs (WritesProcess child ∷ []) (λ job. refl))
      ∙ passed_by_all (λ c. among grown.owned c || among grown.tainted c) (map OfJob jobs) job_passes

  -- the label of the internal container is above the label of the thread that makes it
  pub inner_above : is_below (rights_label category grown) (guard_label category (inside_guard child newborn)) ≡ true
  inner_above =
      below_by_names category different (inside_guard child newborn) grown (jobs_apart accounts me p p.chain (WritesProcess child ∷ []) (λ job. refl))
      ∙ and_from _ _ (covers (ReadsProcess child ∷ map OfJob jobs) (map OfJob p.chain)
      (λ c e. later (ReadsProcess child) (map OfJob jobs) c (old_job c e)))
      (and_from _ _ (at_head (WritesProcess child) (ReadsProcess child ∷ OfJob child ∷ own.owned)) refl)

  pub inner_below : is_below (guard_label category (inside_guard child newborn)) (rights_clearance category grown) ≡ true
  inner_below =
      cleared_by_names category different (inside_guard child newborn) grown
      (and_from _ _ (in_first grown.owned grown.tainted (ReadsProcess child) reads_owned)
      (covers all (map OfJob jobs) jobs_within))

  pub inner_seen : is_below_raised (guard_label category (inside_guard child newborn)) (rights_label category grown) ≡ true
  inner_seen = observes_by_names category different (inside_guard child newborn) grown
      (each_head (λ c. among (WritesProcess child ∷ []) c ≡ false) (ReadsProcess child) (map OfJob jobs) refl
      (jobs_apart accounts me p jobs (WritesProcess child ∷ []) (λ job. refl)))
      ∙ and_from _ _
      (or_left (among grown.owned (ReadsProcess child)) (among grown.tainted (ReadsProcess child)) reads_owned)
      (passed_by_all (λ c. among grown.owned c || among grown.tainted c) (map OfJob jobs) job_passes)

  -- the child's thread has no more than its parent's
  abbrev pub childs : Rights
  childs = thread_rights accounts child newborn

  less_as_user : (number : Option ℕ) (c : CategoryName) → among (owned_as accounts newborn number) c ≡ true
      → among (owned_as accounts p number) c ≡ true
  less_as_user None c e = e
  less_as_user (Some i) c e =
      elim (or_cases (among (reading accounts p.user i) c)
      (among (if is_free newborn then writing accounts p.user i else []) c)
      (sym (among-append (reading accounts p.user i)
      (if is_free newborn then writing accounts p.user i else []) c) ∙ e)) [
        | inl k ↦ in_first (reading accounts p.user i) (if is_free p then writing accounts p.user i else []) c k
        | inr k ↦ absurd (true≢false (sym k ∙ ap (λ b. among (if b then writing accounts p.user i else []) c) (not_free p.chain child)))
      ]

  childs_owned : (c : CategoryName) → among childs.owned c ≡ true → among grown.owned c ≡ true
  childs_owned =
      each_head (λ c. among grown.owned c ≡ true) (ReadsProcess child)
      (WritesProcess child ∷ owned_as accounts newborn (user_number accounts p.user) ++ []) reads_owned
      (each_head (λ c. among grown.owned c ≡ true) (WritesProcess child)
      (owned_as accounts newborn (user_number accounts p.user) ++ [])
      (at_head (WritesProcess child) (ReadsProcess child ∷ OfJob child ∷ own.owned))
      (each_append (λ c. among grown.owned c ≡ true) (owned_as accounts newborn (user_number accounts p.user)) []
      (λ c e. old_owned c (later (ReadsProcess me)
      (WritesProcess me ∷ owned_as accounts p (user_number accounts p.user) ++ map OfJob p.held) c
      (later (WritesProcess me) (owned_as accounts p (user_number accounts p.user) ++ map OfJob p.held) c
      (in_first (owned_as accounts p (user_number accounts p.user)) (map OfJob p.held) c
      (less_as_user (user_number accounts p.user) c e)))))
      (λ c e. absurd (true≢false (sym e)))))

  pub thread_above : is_below (rights_label category grown) (rights_label category childs) ≡ true
  thread_above =
      rights_by_names category different grown childs (covers (map OfJob jobs) (map OfJob p.chain) old_job)
      (covers grown.owned childs.owned childs_owned)

  pub thread_below : is_below (rights_label category childs) (rights_clearance category childs) ≡ true
  thread_below =
      capped_by_names category different childs (childs.owned ++ childs.tainted)
      ∙ covers (childs.owned ++ childs.tainted) childs.tainted (in_second childs.owned childs.tainted)

  pub clearance_below : is_below (rights_clearance category childs) (rights_clearance category grown) ≡ true
  clearance_below = clearances_by_names category different childs grown
      (covers all (childs.owned ++ childs.tainted) (each_append (λ c. among all c ≡ true) childs.owned childs.tainted
      (λ c e. in_first grown.owned grown.tainted c (childs_owned c e)) jobs_within))

  -- the thread may have its own label and clearance with the job
  abbrev pub holding : Rights
  holding = thread_rights accounts me holder

  held_owned : (c : CategoryName) → among holding.owned c ≡ true → among grown.owned c ≡ true
  held_owned =
      each_head (λ c. among grown.owned c ≡ true) (ReadsProcess me)
      (WritesProcess me ∷ owned_as accounts p (user_number accounts p.user) ++ map OfJob (p.held ++ child ∷ []))
      (old_owned (ReadsProcess me) (at_head (ReadsProcess me)
      (WritesProcess me ∷ owned_as accounts p (user_number accounts p.user) ++ map OfJob p.held)))
      (each_head (λ c. among grown.owned c ≡ true) (WritesProcess me)
      (owned_as accounts p (user_number accounts p.user) ++ map OfJob (p.held ++ child ∷ []))
      (old_owned (WritesProcess me) (later (ReadsProcess me)
      (WritesProcess me ∷ owned_as accounts p (user_number accounts p.user) ++ map OfJob p.held)
      (WritesProcess me) (at_head (WritesProcess me)
      (owned_as accounts p (user_number accounts p.user) ++ map OfJob p.held))))
      (each_append (λ c. among grown.owned c ≡ true) (owned_as accounts p (user_number accounts p.user)) (map OfJob (p.held ++ child ∷ []))
      (λ c e. before c (in_first (owned_as accounts p (user_number accounts p.user)) (map OfJob p.held) c e))
      (λ c e. elim (which_job p.held c e) [
        | inl old ↦ before c (in_second (owned_as accounts p (user_number accounts p.user)) (map OfJob p.held) c old)
        | inr is ↦ subst (λ x. among grown.owned x ≡ true) (sym is) job_owned
      ])))
    where
      before : (c : CategoryName)
          → among (owned_as accounts p (user_number accounts p.user) ++ map OfJob p.held) c ≡ true
          → among grown.owned c ≡ true
      before c e =
          old_owned c (later (ReadsProcess me)
          (WritesProcess me ∷ owned_as accounts p (user_number accounts p.user) ++ map OfJob p.held) c
          (later (WritesProcess me) (owned_as accounts p (user_number accounts p.user) ++ map OfJob p.held) c
          e))

  pub label_kept : (is_below (rights_label category grown) (rights_label category holding) ≡ true)
      × (is_below (rights_label category holding) (rights_clearance category grown) ≡ true)
  label_kept = (
    rights_by_names category different grown holding (covers (map OfJob p.chain) (map OfJob p.chain) (λ c e. e))
        (covers grown.owned holding.owned held_owned),
    capped_by_names category different holding all ∙ covers all (map OfJob p.chain) (in_second grown.owned grown.tainted),
  )

  pub clearance_kept : (is_below (rights_label category holding) (rights_clearance category holding) ≡ true)
      × (is_below_join_raised (rights_clearance category holding) (rights_clearance category grown)
      (rights_label category holding) ≡ true)
  clearance_kept = (
    capped_by_names category different holding (holding.owned ++ holding.tainted)
        ∙ covers (holding.owned ++ holding.tainted) holding.tainted (in_second holding.owned holding.tainted),
    (is_below_join_raised-law (rights_clearance category holding) (rights_clearance category grown) (rights_label category holding)).1 (λ q.
        let under = (is_below-law (rights_clearance category holding) (rights_clearance category grown)).0
        (clearances_by_names category different holding grown
        (covers all (holding.owned ++ holding.tainted) (each_append (λ c. among all c ≡ true) holding.owned holding.tainted
        (λ c e. in_first grown.owned grown.tainted c (held_owned c e)) (in_second grown.owned grown.tainted)))) q in
        omega (arith, under)),
  )

  -- What the thread sets is its own label with the job's category owned, and its own clearance with that at 3.
  numbers_alike : (names others : List CategoryName)
      → ((c : CategoryName) → among names c ≡ true → among others c ≡ true)
      → ((c : CategoryName) → among others c ≡ true → among names c ≡ true)
      → (q : ℕ) → is_in (map category names) q ≡ is_in (map category others) q
  numbers_alike names others forth back q = same_truth (is_in (map category names) q) (is_in (map category others) q)
      (λ e. let there = named_in category names q e in ap (is_in (map category others)) there.1
      ∙ is_in_names category different others there.0 ∙ forth there.0 there.2)
      (λ e. let there = named_in category others q e in ap (is_in (map category names)) there.1
      ∙ is_in_names category different names there.0 ∙ back there.0 there.2)

  abbrev user_part : List CategoryName
  user_part = owned_as accounts p (user_number accounts p.user)

  within_holding : (c : CategoryName) → among (user_part ++ map OfJob (p.held ++ child ∷ [])) c ≡ true → among holding.owned c ≡ true
  within_holding c e =
      later (ReadsProcess me) (WritesProcess me ∷ user_part ++ map OfJob (p.held ++ child ∷ [])) c
      (later (WritesProcess me) (user_part ++ map OfJob (p.held ++ child ∷ [])) c e)

  held_jobs : (c : CategoryName) → among (map OfJob p.held) c ≡ true → among (map OfJob (p.held ++ child ∷ [])) c ≡ true
  held_jobs c e =
      let found = job_among p.held c e in ap (among (map OfJob (p.held ++ child ∷ []))) found.1
      ∙ among_jobs (p.held ++ child ∷ []) found.0 ∙ has_old p.held child found.0 found.2

  owned_forth : (c : CategoryName) → among with_job.owned c ≡ true → among holding.owned c ≡ true
  owned_forth = each_head (λ c. among holding.owned c ≡ true) (OfJob child) own.owned
      (within_holding (OfJob child) (in_second user_part (map OfJob (p.held ++ child ∷ [])) (OfJob child)
      (among_jobs (p.held ++ child ∷ []) child ∙ has_last p.held child)))
      (each_head (λ c. among holding.owned c ≡ true) (ReadsProcess me)
      (WritesProcess me ∷ user_part ++ map OfJob p.held)
      (at_head (ReadsProcess me) (WritesProcess me ∷ user_part ++ map OfJob (p.held ++ child ∷ [])))
      (each_head (λ c. among holding.owned c ≡ true) (WritesProcess me) (user_part ++ map OfJob p.held)
      (later (ReadsProcess me) (WritesProcess me ∷ user_part ++ map OfJob (p.held ++ child ∷ []))
      (WritesProcess me) (at_head (WritesProcess me) (user_part ++ map OfJob (p.held ++ child ∷ []))))
      (each_append (λ c. among holding.owned c ≡ true) user_part (map OfJob p.held)
      (λ c e. within_holding c (in_first user_part (map OfJob (p.held ++ child ∷ [])) c e))
      (λ c e. within_holding c (in_second user_part (map OfJob (p.held ++ child ∷ [])) c (held_jobs c e))))))

  within_own : (c : CategoryName) → among (user_part ++ map OfJob p.held) c ≡ true → among with_job.owned c ≡ true
  within_own c e =
      later (OfJob child) own.owned c (later (ReadsProcess me) (WritesProcess me ∷ user_part ++ map OfJob p.held) c
      (later (WritesProcess me) (user_part ++ map OfJob p.held) c e))

  owned_back : (c : CategoryName) → among holding.owned c ≡ true → among with_job.owned c ≡ true
  owned_back =
      each_head (λ c. among with_job.owned c ≡ true) (ReadsProcess me)
      (WritesProcess me ∷ user_part ++ map OfJob (p.held ++ child ∷ []))
      (later (OfJob child) own.owned (ReadsProcess me)
      (at_head (ReadsProcess me) (WritesProcess me ∷ user_part ++ map OfJob p.held)))
      (each_head (λ c. among with_job.owned c ≡ true) (WritesProcess me) (user_part ++ map OfJob (p.held ++ child ∷ []))
      (later (OfJob child) own.owned (WritesProcess me) (later (ReadsProcess me)
      (WritesProcess me ∷ user_part ++ map OfJob p.held) (WritesProcess me)
      (at_head (WritesProcess me) (user_part ++ map OfJob p.held))))
      (each_append (λ c. among with_job.owned c ≡ true) user_part (map OfJob (p.held ++ child ∷ []))
      (λ c e. within_own c (in_first user_part (map OfJob p.held) c e))
      (λ c e. elim (which_job p.held c e) [
        | inl old ↦ within_own c (in_second user_part (map OfJob p.held) c old)
        | inr is ↦ subst (λ x. among with_job.owned x ≡ true) (sym is) (at_head (OfJob child) own.owned)
      ])))

  pub label_holding : rights_label category with_job ≡ rights_label category holding
  label_holding =
      same_owning (map category with_job.owned) (map category own.tainted) (map category holding.owned)
      (map category own.tainted) (numbers_alike with_job.owned holding.owned owned_forth owned_back) (λ q. refl)

  pub clearance_holding : rights_clearance category with_job ≡ rights_clearance category holding
  clearance_holding = same_cleared (map category (with_job.owned ++ own.tainted)) (map category (holding.owned ++ own.tainted))
      (numbers_alike (with_job.owned ++ own.tainted) (holding.owned ++ own.tainted)
      (each_append (λ c. among (holding.owned ++ own.tainted) c ≡ true) with_job.owned own.tainted
      (λ c e. in_first holding.owned own.tainted c (owned_forth c e)) (in_second holding.owned own.tainted))
      (each_append (λ c. among (with_job.owned ++ own.tainted) c ≡ true) holding.owned own.tainted
      (λ c e. in_first with_job.owned own.tainted c (owned_back c e)) (in_second with_job.owned own.tainted)))
