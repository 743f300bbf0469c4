-- The cast of a file: its confined processes are in jobs that only they and insiders know.
use Rattle.std.specs.Prelude.{◌≡◌, ◌≢◌, ℕ, Bool, true, false, not, ◌&&◌, ◌||◌, List, [], ◌∷◌, is_some, Some, nat_eq, refl}
use Rattle.std.proofs.Common.{ap, sym, ◌∙◌, subst, inl, inr}
use Rattle.std.proofs.lemmas.Bool.{and_parts, not-true, true≢false, cases_Bool}
use Rattle.std.proofs.Math.Bool.{or-false, or-true}
use Rattle.histar_flat.specs.declared.calls.UnixCall.{UnixCall}
use Rattle.histar_flat.specs.Words.{ProcName}
use Rattle.histar_flat.specs.PathOrder.{under_process}
use Rattle.histar_base.specs.Paths.{same}
use Rattle.histar_flat.specs.Accounts.{Accounts, has}
use Rattle.histar_flat.specs.Classes.{Class, Process, knows}
use Rattle.histar_flat.specs.FlatState.{Flat, is_some_and}
use Rattle.histar_flat.specs.FlatCalls.{if_running, running}
use Rattle.histar_flat.proofs.Changes.{runs_is_there}
use Rattle.histar_flat.proofs.FileLemmas.{same_name_found}
use Rattle.histar_flat.proofs.Under.{under_child, under_inner, under_itself}
use Rattle.histar_noninterference.proofs.Relation.{IsStarted}
use Rattle.histar_noninterference.proofs.TestLemmas.{is_same, parent_under, under_all}
use Rattle.histar_secrecy.specs.Ways.{reads_all}
use Rattle.histar_secrecy.specs.Roles.{is_bound, is_confined, is_trusted, logs_in_as_reader, runs_bound}
use Rattle.histar_secrecy.specs.Release.{is_insider}
use Rattle.histar_secrecy.proofs.Casts.{IsCast, IsKeeper}
use Rattle.histar_secrecy.proofs.Names.{some_process}
use Rattle.histar_secrecy.proofs.Readers.{in_a_job, is_bound_by, reads_all_as}
use Rattle.histar_secrecy.proofs.Roots.{AreWayReaders}
use Rattle.histar_secrecy.proofs.BoundJobs.{IsBegun, bound_job}

module _ (accounts : Accounts) (way : List Class) (f : Flat) where
  -- the calls that are allowed: only insiders log in as readers
  abbrev pub allows : ProcName → UnixCall → Bool
  allows x call = is_insider accounts way f x || not (logs_in_as_reader accounts way call)

  -- the trusted call nothing, and nobody logs in as a reader
  abbrev pub allows_untrusted : ProcName → UnixCall → Bool
  allows_untrusted x call = not (is_trusted accounts way f x) && not (logs_in_as_reader accounts way call)

  -- who is below a confined process is confined
  confined_below : (w a : ProcName) → under_process w a ≡ true → is_confined accounts way f w ≡ true → is_confined accounts way f a ≡ true
  confined_below w [] u c = elim (same_name_found w []) [
    | inl t ↦ subst (λ z. is_confined accounts way f z ≡ true) t.1 c
    | inr t ↦ absurd (true≢false (sym u ∙ t.0))
  ]
  confined_below w (n ∷ a) u c = elim (same_name_found w (n ∷ a)) [
    | inl t ↦ subst (λ z. is_confined accounts way f z ≡ true) t.1 c
    | inr t ↦
        ap (λ b. runs_bound accounts way f (n ∷ a) || b) (confined_below w a (under_inner nat_eq same_name_found w a n t.0 u) c)
        ∙ or-true (runs_bound accounts way f (n ∷ a))
  ]

  -- no process above this one is confined
  abbrev IsTop : ProcName → Type 0
  IsTop [] = Unit {0}
  IsTop (n ∷ above) = is_confined accounts way f above ≡ false

  -- the topmost bound process at or above a confined one
  top_bound : (x : ProcName) → is_confined accounts way f x ≡ true
      → (y : ProcName) × (under_process y x ≡ true) × (runs_bound accounts way f y ≡ true) × IsTop y
  top_bound [] c = ([], under_itself nat_eq same_name_found [], c, tt)
  top_bound (n ∷ above) c = elim (cases_Bool (is_confined accounts way f above)) [
    | inl t ↦ let found = top_bound above t in (found.0, under_child nat_eq same_name_found found.0 above n found.1, found.2, found.3)
    | inr t ↦ (
      n ∷ above,
      under_itself nat_eq same_name_found (n ∷ above),
      sym (ap (λ b. runs_bound accounts way f (n ∷ above) || b) t ∙ or-false (runs_bound accounts way f (n ∷ above))) ∙ c,
      t,
    )
  ]

  -- a trusted process is an insider
  pub trusted_inside : (x : ProcName) → is_trusted accounts way f x ≡ true → is_insider accounts way f x ≡ true
  trusted_inside [] t = t
  trusted_inside (n ∷ above) t = ap (λ b. b || (not (is_some (f.processes (n ∷ above))) && is_insider accounts way f above)) t

  -- a process that runs bound is confined
  bound_confined : (x : ProcName) → runs_bound accounts way f x ≡ true → is_confined accounts way f x ≡ true
  bound_confined [] b = b
  bound_confined (n ∷ above) b = ap (λ z. z || is_confined accounts way f above) b

module _ {accounts : Accounts} {way : List Class} {f : Flat} (begun : IsBegun accounts way f) where
  module _ (x : ProcName) (p : Process) (runs : running f x ≡ Some p) where
    here : f.processes x ≡ Some p
    here = runs_is_there (f.processes x) p runs

    confined_if : is_bound accounts way p ≡ true → is_confined accounts way f x ≡ true
    confined_if b = bound_confined accounts way f x (ap (λ o. is_some_and o (is_bound accounts way)) runs ∙ b)

    not_bound : is_confined accounts way f x ≡ false → is_bound accounts way p ≡ false
    not_bound c = elim (cases_Bool (is_bound accounts way p)) [
      | inl b ↦ absurd (true≢false (sym (confined_if b) ∙ c))
      | inr b ↦ b
    ]

    trusted_if : is_confined accounts way f x ≡ false → reads_all accounts way p ≡ true → is_trusted accounts way f x ≡ true
    trusted_if c r =
        ap (λ o. is_some_and o (λ q. reads_all accounts way q && not (is_bound accounts way q))) runs ∙ (λ i. r i && not (not_bound c i))

    pub unread_if : is_confined accounts way f x ≡ false → is_trusted accounts way f x ≡ false → reads_all accounts way p ≡ false
    unread_if c t = elim (cases_Bool (reads_all accounts way p)) [
      | inl r ↦ absurd (true≢false (sym (trusted_if c r) ∙ t))
      | inr r ↦ r
    ]

  module _ (insider : ProcName → Bool) (trusted : (x : ProcName) → is_trusted accounts way f x ≡ true → insider x ≡ true) where
    -- A job is one of the confined, if all that know it read all of the way, and its holder is not confined.
    is_keeper : (m : ℕ) (w : ProcName) → IsStarted (m ∷ w) f → AreWayReaders accounts way (m ∷ w) f → is_confined accounts way f w ≡ false
        → IsKeeper f (is_confined accounts way f) insider m w
    is_keeper m w started readers outer = record {
      started = started;
      inside = λ x p runs h. confined_if x p runs
          (is_bound_by accounts way p (in_a_job p (m ∷ w) h) (readers.inside x p (here x p runs) h));
      holding = λ x p runs h. elim (cases_Bool (same w x)) [
        | inl t ↦ trusted x (trusted_if x p runs (subst (λ z. is_confined accounts way f z ≡ false) (is_same w x t) outer)
            (readers.holding x p (here x p runs) h))
        | inr t ↦ absurd (true≢false (sym h ∙ started.held x p (here x p runs) t))
      ];
    }

    -- a confined process is in a keeper
    keeper_of : (x : ProcName) → is_confined accounts way f x ≡ true
        → (m : ℕ) × (w : ProcName) × IsKeeper f (is_confined accounts way f) insider m w × (under_process (m ∷ w) x ≡ true)
    keeper_of x c = by job.0 (begun.jobs.child y q job.0 there known) started job.2 (sym (started.inside y q there) ∙ job.1)
      where
        top : (y : ProcName) × (under_process y x ≡ true) × (runs_bound accounts way f y ≡ true) × IsTop accounts way f y
        top = top_bound accounts way f x c

        y : ProcName
        y = top.0

        found : (p : Process) × (running f y ≡ Some p) × (is_bound accounts way p ≡ true)
        found = some_process (running f y) (is_bound accounts way) top.2

        q : Process
        q = found.0

        there : f.processes y ≡ Some q
        there = runs_is_there (f.processes y) q found.1

        job : (job : ProcName) × (has q.chain job ≡ true) × AreWayReaders accounts way job f
        job = bound_job begun.jobs begun.root y q there found.2

        known : knows q job.0 ≡ true
        known = ap (λ b. b || has q.held job.0) job.1

        started : IsStarted job.0 f
        started = begun.jobs.started y q job.0 there known

        no_outer : (m : ℕ) (w z : ProcName) → IsTop accounts way f z → under_process (m ∷ w) z ≡ true → is_confined accounts way f w ≡ false
        no_outer m w [] t u = absurd (true≢false (sym u))
        no_outer m w (n ∷ a) t u = elim (cases_Bool (is_confined accounts way f w)) [
          | inl k ↦ absurd (true≢false (sym (confined_below accounts way f w a (parent_under nat_eq same_name_found w a m n u) k) ∙ t))
          | inr k ↦ k
        ]

        by : (j : ProcName) → j ≢ [] → IsStarted j f → AreWayReaders accounts way j f → under_process j y ≡ true
            → (m : ℕ) × (w : ProcName) × IsKeeper f (is_confined accounts way f) insider m w × (under_process (m ∷ w) x ≡ true)
        by [] not_first s readers u = absurd (not_first refl)
        by (m ∷ w) not_first s readers u = (
          m,
          w,
          is_keeper m w s readers (no_outer m w y top.3 u),
          under_all nat_eq same_name_found (m ∷ w) y x u top.1,
        )

  -- the cast while the trusted call
  pub file_cast : IsCast accounts f (reads_all accounts way) (is_confined accounts way f) (is_insider accounts way f)
      (is_insider accounts way f) (allows accounts way f)
  file_cast = record {
    names = begun.jobs.names;
    keeper = keeper_of (is_insider accounts way f) (trusted_inside accounts way f);
    below = λ n a c. ap (λ b. runs_bound accounts way f (n ∷ a) || b) c ∙ or-true (runs_bound accounts way f (n ∷ a));
    unread = λ x p runs c t. unread_if x p runs c (no_trusted x t);
    quiet = λ x call ok out.
        not-true (logs_in_as_reader accounts way call) (sym (ap (λ b. b || not (logs_in_as_reader accounts way call)) out) ∙ ok);
    born = λ a call ok i n new out p. absurd (true≢false (sym i ∙ sym (ap (λ o. is_some_and (if_running o) (λ q. reads_all accounts way q
        && not (is_bound accounts way q)) || (not (is_some o) && is_insider accounts way f a)) new) ∙ out));
    less = λ a b user more r. reads_all_as accounts a b way user (λ job c k. more job (begun.given job c) k) r;
    opened = λ x o. o;
  }
    where
      no_trusted : (x : ProcName) → is_insider accounts way f x ≡ false → is_trusted accounts way f x ≡ false
      no_trusted x out = elim (cases_Bool (is_trusted accounts way f x)) [
        | inl t ↦ absurd (true≢false (sym (trusted_inside accounts way f x t) ∙ out))
        | inr t ↦ t
      ]

  -- the cast while the trusted are silent
  pub silent_cast : IsCast accounts f (reads_all accounts way) (is_confined accounts way f) (is_trusted accounts way f)
      (λ x. false) (allows_untrusted accounts way f)
  silent_cast = record {
    names = begun.jobs.names;
    keeper = keeper_of (is_trusted accounts way f) (λ x t. t);
    below = λ n a c. ap (λ b. runs_bound accounts way f (n ∷ a) || b) c ∙ or-true (runs_bound accounts way f (n ∷ a));
    unread = λ x p runs c t. unread_if x p runs c t;
    quiet = λ x call ok out.
        not-true (logs_in_as_reader accounts way call)
        ((and_parts (not (is_trusted accounts way f x)) (not (logs_in_as_reader accounts way call)) ok).1);
    born = λ a call ok i n new out p. absurd (true≢false (sym i ∙ not-true (is_trusted accounts way f a)
        ((and_parts (not (is_trusted accounts way f a)) (not (logs_in_as_reader accounts way call)) ok).0)));
    less = λ a b user more r. reads_all_as accounts a b way user (λ job c k. more job (begun.given job c) k) r;
    opened = λ x o. absurd (true≢false (sym o));
  }
