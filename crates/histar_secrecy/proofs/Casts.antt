-- Who is confined in which job and who is an insider, and which processes know these jobs in later states.
use Rattle.std.specs.Prelude.{◌≡◌, ◌+◌, ℕ, Bool, true, false, ◌||◌, ◌++◌, ◌⊎◌, List, [], ◌∷◌, Some, None, nat_eq, refl}
use Rattle.std.proofs.Common.{ap, sym, ◌∙◌, subst, inl, inr}
use Rattle.std.proofs.lemmas.Bool.{true≢false, or_cases, or_parts, cases_Bool}
use Rattle.std.proofs.Math.Bool.{or-true}
use Rattle.histar_flat.specs.declared.calls.UnixCall.{UnixCall}
use Rattle.histar_flat.specs.Words.{Name, ProcName}
use Rattle.histar_flat.specs.PathOrder.{under_process}
use Rattle.histar_base.specs.Paths.{same}
use Rattle.histar_flat.specs.Accounts.{Accounts, has}
use Rattle.histar_flat.specs.Classes.{Process, is_free, knows}
use Rattle.histar_flat.specs.FlatState.{Flat, is_given, with_process}
use Rattle.histar_flat.specs.FlatCalls.{flat_after, inner_chain, next_child, running}
use Rattle.histar_flat.specs.Laws.{NamesAreGiven}
use Rattle.histar_flat.proofs.Changes.{EachChange, runs_is_there}
use Rattle.histar_flat.proofs.FileLemmas.{same_name_found}
use Rattle.histar_flat.proofs.GivenNames.{given_stays, longer_has, next_is_new}
use Rattle.histar_flat.proofs.Under.{under_child}
use Rattle.histar_noninterference.proofs.Kept.{started_after}
use Rattle.histar_noninterference.proofs.Relation.{IsStarted}
use Rattle.histar_noninterference.proofs.TestLemmas.{is_same}
use Rattle.histar_secrecy.specs.Logins.{logged_in, logs_in_as}
use Rattle.histar_secrecy.specs.Release.{is_in_one}
use Rattle.histar_secrecy.proofs.Knowing.{AreJobs, jobs_after}
use Rattle.histar_secrecy.proofs.Names.{IsQuiet, by_quiet_line, child_of, grown, login_of, new_name, runs_kept, runs_put, starter_of}
use Rattle.histar_secrecy.proofs.Readers.{in_a_job, in_chain}

-- a job of the confined: in f only the confined are in it, and only insiders hold it
pub record IsKeeper (f : Flat) (confined insider : ProcName → Bool) (number : ℕ) (above : ProcName) : Type 0 where
  pub started : IsStarted (number ∷ above) f
  pub inside : (x : ProcName) (p : Process) → running f x ≡ Some p → has p.chain (number ∷ above) ≡ true → confined x ≡ true
  pub holding : (x : ProcName) (p : Process) → running f x ≡ Some p → has p.held (number ∷ above) ≡ true → insider x ≡ true

-- what has to be shown of those who are confined in f, the insiders, those who may read what is secret, and the calls that are allowed
pub record IsCast (accounts : Accounts) (f : Flat) (readers : Process → Bool) (confined insider opens : ProcName → Bool)
    (allowed : ProcName → UnixCall → Bool) : Type 0 where
  pub names : NamesAreGiven f
  -- each confined process is in a job of the confined, and so are those below it
  pub keeper : (x : ProcName) → confined x ≡ true
      → (m : ℕ) × (w : ProcName) × IsKeeper f confined insider m w × (under_process (m ∷ w) x ≡ true)
  pub below : (n : ℕ) (a : ProcName) → confined a ≡ true → confined (n ∷ a) ≡ true
  -- only these and insiders may read what is secret
  pub unread : (x : ProcName) (p : Process) → running f x ≡ Some p → confined x ≡ false → insider x ≡ false → readers p ≡ false
  -- by the calls that are allowed, only insiders log in as readers, and have later children that are readers and no insiders
  pub quiet : (x : ProcName) (call : UnixCall) → allowed x call ≡ true → insider x ≡ false → logs_in_as accounts readers call ≡ false
  pub born : (x : ProcName) (call : UnixCall) → allowed x call ≡ true → insider x ≡ true → (n : ℕ) → f.processes (n ∷ x) ≡ None
      → insider (n ∷ x) ≡ false → (p : Process) → readers p ≡ false
  -- who may read it may read it for its user and the jobs that it knows
  pub less : (a b : Process) → a.user ≡ b.user → ((job : ProcName) → is_given f.processes job ≡ true → knows a job ≡ true → knows b job ≡ true)
      → readers a ≡ true → readers b ≡ true
  -- those whose later jobs are confined are insiders
  pub opened : (x : ProcName) → opens x ≡ true → insider x ≡ true

module _ {accounts : Accounts} {f : Flat} {readers : Process → Bool} {confined insider opens : ProcName → Bool}
    {allowed : ProcName → UnixCall → Bool} (cast : IsCast accounts f readers confined insider opens allowed) where
  -- a job of the confined, or one of these jobs
  abbrev pub IsJob : List ProcName → ℕ → ProcName → Type 0
  IsJob js m w = IsKeeper f confined insider m w ⊎ (has js (m ∷ w) ≡ true)

  -- the process is confined in f, or in one of these jobs
  abbrev pub is_hidden : List ProcName → ProcName → Bool
  is_hidden js x = confined x || is_in_one js x

  -- what a process of this name knows
  pub record IsPlaced (js : List ProcName) (x : ProcName) (p : Process) : Type 0 where
    pub inside : (m : ℕ) (w : ProcName) → IsJob js m w → has p.chain (m ∷ w) ≡ true → is_hidden js x ≡ true
    pub holding : (m : ℕ) (w : ProcName) → IsJob js m w → has p.held (m ∷ w) ≡ true → insider x ≡ true
    pub outside : is_hidden js x ≡ false → insider x ≡ false → readers p ≡ false

  abbrev pub ArePlaced : List ProcName → Flat → Type 0
  ArePlaced js s = (x : ProcName) (p : Process) → running s x ≡ Some p → IsPlaced js x p

  -- the facts that hold in a later state
  pub record IsOn (js : List ProcName) (s : Flat) : Type 0 where
    pub jobs : AreJobs s
    pub given : (x : ProcName) → is_given f.processes x ≡ true → is_given s.processes x ≡ true
    pub started : (m : ℕ) (w : ProcName) → IsJob js m w → IsStarted (m ∷ w) s
    pub proper : has js [] ≡ false
    pub placed : ArePlaced js s

  -- in f the facts hold
  pub placed_itself : ArePlaced [] f
  placed_itself x p runs = record {
    inside = inside;
    holding = holding;
    outside = λ c t. cast.unread x p runs ((or_parts (confined x) false c).0) t;
  }
    where
      inside : (m : ℕ) (w : ProcName) → IsJob [] m w → has p.chain (m ∷ w) ≡ true → is_hidden [] x ≡ true
      inside m w (inl k) h = ap (λ b. b || false) (k.inside x p runs h)
      inside m w (inr none) h = absurd (true≢false (sym none))

      holding : (m : ℕ) (w : ProcName) → IsJob [] m w → has p.held (m ∷ w) ≡ true → insider x ≡ true
      holding m w (inl k) h = k.holding x p runs h
      holding m w (inr none) h = absurd (true≢false (sym none))

  -- ---- with one job more

  module _ (js : List ProcName) (m : ℕ) (w : ProcName) where
    pub more_hidden : (x : ProcName) → is_hidden js x ≡ true → is_hidden ((m ∷ w) ∷ js) x ≡ true
    more_hidden x h = elim (or_cases (confined x) (is_in_one js x) h) [
      | inl c ↦ ap (λ b. b || is_in_one ((m ∷ w) ∷ js) x) c
      | inr i ↦ ap (λ b. confined x || (under_process (m ∷ w) x || b)) i ∙ ap (λ b. confined x || b) (or-true (under_process (m ∷ w) x))
          ∙ or-true (confined x)
    ]

    pub more_jobs : (k : ℕ) (v : ProcName) → IsJob js k v → IsJob ((m ∷ w) ∷ js) k v
    more_jobs k v (inl keeper) = inl keeper
    more_jobs k v (inr i) = inr (ap (λ b. same (k ∷ v) (m ∷ w) || b) i ∙ or-true (same (k ∷ v) (m ∷ w)))

    -- each job is the new one, or one of the others
    job_cases : (k : ℕ) (v : ProcName) → IsJob ((m ∷ w) ∷ js) k v → (k ∷ v ≡ m ∷ w) ⊎ IsJob js k v
    job_cases k v (inl keeper) = inr (inl keeper)
    job_cases k v (inr i) = elim (or_cases (same (k ∷ v) (m ∷ w)) (has js (k ∷ v)) i) [
      | inl t ↦ inl (is_same (k ∷ v) (m ∷ w) t)
      | inr t ↦ inr (inr t)
    ]

    -- the facts hold with one job more, if an insider started it
    pub with_job : (s : Flat) → IsOn js s → IsStarted (m ∷ w) s → insider w ≡ true → IsOn ((m ∷ w) ∷ js) s
    with_job s on started opened = record {
      jobs = on.jobs;
      given = on.given;
      started = λ k v job. elim (job_cases k v job) [
        | inl e ↦ subst (λ j. IsStarted j s) (sym e) started
        | inr old ↦ on.started k v old
      ];
      proper = on.proper;
      placed = placed;
    }
      where
        placed : ArePlaced ((m ∷ w) ∷ js) s
        placed x p runs = record {
          inside = λ k v job h. elim (job_cases k v job) [
            | inl e ↦
                let u : under_process (m ∷ w) x ≡ true = sym (started.inside x p here) ∙ ap (has p.chain) (sym e) ∙ h in
                ap (λ b. confined x || (b || is_in_one js x)) u ∙ or-true (confined x)
            | inr old ↦ more_hidden x (is.inside k v old h)
          ];
          holding = λ k v job h. elim (job_cases k v job) [
            | inl e ↦ elim (cases_Bool (same w x)) [
              | inl t ↦ subst (λ z. insider z ≡ true) (is_same w x t) opened
              | inr t ↦ absurd (true≢false (sym (ap (has p.held) (sym e) ∙ h) ∙ started.held x p here t))
            ]
            | inr old ↦ is.holding k v old h
          ];
          outside = λ c t. is.outside (unhidden c) t;
        }
          where
            here : s.processes x ≡ Some p
            here = runs_is_there (s.processes x) p runs

            is : IsPlaced js x p
            is = on.placed x p runs

            unhidden : is_hidden ((m ∷ w) ∷ js) x ≡ false → is_hidden js x ≡ false
            unhidden c = elim (cases_Bool (is_hidden js x)) [
              | inl h ↦ absurd (true≢false (sym (more_hidden x h) ∙ c))
              | inr h ↦ h
            ]

  -- ---- after a line

  module _ (js : List ProcName) where
    -- A process is placed as another, if it is in no more jobs of the confined, holds no more, and knows no more of what was given.
    is_as : {x : ProcName} {a : Process} (b : Process) → IsPlaced js x a → a.user ≡ b.user
        → ((m : ℕ) (w : ProcName) → IsJob js m w → has b.chain (m ∷ w) ≡ true → has a.chain (m ∷ w) ≡ true)
        → ((m : ℕ) (w : ProcName) → IsJob js m w → has b.held (m ∷ w) ≡ true → has a.held (m ∷ w) ≡ true)
        → ((job : ProcName) → is_given f.processes job ≡ true → knows b job ≡ true → knows a job ≡ true) → IsPlaced js x b
    is_as {x} {a} b is user inner held less = record {
      inside = λ m w k h. is.inside m w k (inner m w k h);
      holding = λ m w k h. is.holding m w k (held m w k h);
      outside = λ c t. elim (cases_Bool (readers b)) [
        | inl r ↦ absurd (true≢false (sym (cast.less b a (sym user) less r) ∙ is.outside c t))
        | inr r ↦ r
      ];
    }

    -- who is below one that is hidden is hidden
    hidden_below : (n : ℕ) (a : ProcName) → is_hidden js a ≡ true → is_hidden js (n ∷ a) ≡ true
    hidden_below n a h = elim (or_cases (confined a) (is_in_one js a) h) [
      | inl c ↦ ap (λ b. b || is_in_one js (n ∷ a)) (cast.below n a c)
      | inr i ↦ ap (λ b. confined (n ∷ a) || b) (one js i) ∙ or-true (confined (n ∷ a))
    ]
      where
        one : (js : List ProcName) → is_in_one js a ≡ true → is_in_one js (n ∷ a) ≡ true
        one [] i = absurd (true≢false (sym i))
        one (j ∷ js) i = elim (or_cases (under_process j a) (is_in_one js a) i) [
          | inl u ↦ ap (λ b. b || is_in_one js (n ∷ a)) (under_child nat_eq same_name_found j a n u)
          | inr u ↦ ap (λ b. under_process j (n ∷ a) || b) (one js u) ∙ or-true (under_process j (n ∷ a))
        ]

    module _ (s : Flat) (on : IsOn js s) (me : ProcName) (call : UnixCall) (ok : is_hidden js me ≡ false → allowed me call ≡ true) where
      -- the process is neither hidden nor an insider
      abbrev pub Outer : Type 0
      Outer = (is_hidden js me ≡ false) × (insider me ≡ false)

      module _ (p : Process) (runs : running s me ≡ Some p) where
        here : s.processes me ≡ Some p
        here = runs_is_there (s.processes me) p runs

        mine : IsPlaced js me p
        mine = on.placed me p runs

        -- a name that was given is not that of the next child
        not_next : (job : ProcName) → is_given s.processes job ≡ true → job ≡ next_child me p → ⊥
        not_next job c e = true≢false (sym c ∙ ap (is_given s.processes) e ∙ next_is_new s me p here)

        -- a child is placed as its parent, but holds nothing
        child_is : (child : Process) → child.held ≡ [] → IsPlaced js me child → IsPlaced js (next_child me p) child
        child_is child none is = record {
          inside = λ m w k h. hidden_below (p.born + 1) me (is.inside m w k h);
          holding = λ m w k h. absurd (true≢false (sym h ∙ ap (λ l. has l (m ∷ w)) none));
          outside = λ c t. elim (cases_Bool (insider me)) [
            | inl i ↦ cast.born me call (ok (unhidden c)) i (p.born + 1) (new_name f cast.names s on.given me p here) t child
            | inr i ↦ is.outside (unhidden c) i
          ];
        }
          where
            unhidden : is_hidden js (next_child me p) ≡ false → is_hidden js me ≡ false
            unhidden c = elim (cases_Bool (is_hidden js me)) [
              | inl h ↦ absurd (true≢false (sym (hidden_below (p.born + 1) me h) ∙ c))
              | inr h ↦ h
            ]

        put_is : (q : Process) → IsPlaced js me q → ArePlaced js (with_process s me q)
        put_is q is x y e = elim (runs_put s me q x y e) [
          | inl t ↦ subst (λ z. IsPlaced js z y) t.0 (subst (IsPlaced js me) t.1 is)
          | inr t ↦ on.placed x y t
        ]

        birth_is : (q child : Process) → IsPlaced js me q → IsPlaced js (next_child me p) child
            → ArePlaced js (with_process (with_process s me q) (next_child me p) child)
        birth_is q child is is_child x y e = elim (runs_put (with_process s me q) (next_child me p) child x y e) [
          | inl t ↦ subst (λ z. IsPlaced js z y) t.0 (subst (IsPlaced js (next_child me p)) t.1 is_child)
          | inr t ↦ put_is q is x y t
        ]

        login_is : (name : Name) → is_free p ≡ true → (Outer → readers (logged_in name) ≡ false) → IsPlaced js me (login_of p name)
        login_is name free away = record {
          inside = mine.inside;
          holding = λ m w k h. absurd (true≢false (sym h));
          outside = λ c t. elim (cases_Bool (readers (login_of p name))) [
            | inl r ↦ absurd (true≢false (sym (cast.less (login_of p name) (logged_in name) refl
                (λ job h k. absurd (true≢false (sym free ∙ in_a_job p job (in_chain p.chain job k)))) r) ∙ away (c, t)))
            | inr r ↦ r
          ];
        }

        -- a spawned child is placed as its parent
        spawned_is : IsPlaced js me (child_of p p.chain)
        spawned_is = is_as (child_of p p.chain) mine refl (λ m w k h. h) (λ m w k h. absurd (true≢false (sym h)))
            (λ job c k. ap (λ b. b || has p.held job) (in_chain p.chain job k))

        -- the process that starts a job stays placed, and the first process of the job is placed as it
        starter_is : IsPlaced js me (starter_of me p)
        starter_is = is_as (starter_of me p) mine refl (λ m w k h. h) held less
          where
            held : (m : ℕ) (w : ProcName) → IsJob js m w → has (p.held ++ next_child me p ∷ []) (m ∷ w) ≡ true → has p.held (m ∷ w) ≡ true
            held m w k h = elim (longer_has p.held (next_child me p) (m ∷ w) h) [
              | inl t ↦ t
              | inr t ↦ absurd (not_next (m ∷ w) ((on.started m w k).given) t)
            ]

            less : (job : ProcName) → is_given f.processes job ≡ true → (has p.chain job || has (p.held ++ next_child me p ∷ []) job) ≡ true
                → knows p job ≡ true
            less job c k = elim (or_cases (has p.chain job) (has (p.held ++ next_child me p ∷ []) job) k) [
              | inl t ↦ ap (λ b. b || has p.held job) t
              | inr t ↦ elim (longer_has p.held (next_child me p) job t) [
                | inl i ↦ ap (λ b. has p.chain job || b) i ∙ or-true (has p.chain job)
                | inr i ↦ absurd (not_next job (on.given job c) i)
              ]
            ]

        newborn_is : IsPlaced js me (child_of p (inner_chain me p))
        newborn_is = is_as (child_of p (inner_chain me p)) mine refl inner (λ m w k h. absurd (true≢false (sym h))) less
          where
            inner : (m : ℕ) (w : ProcName) → IsJob js m w → has (inner_chain me p) (m ∷ w) ≡ true → has p.chain (m ∷ w) ≡ true
            inner m w k h = elim (longer_has p.chain (next_child me p) (m ∷ w) h) [
              | inl t ↦ t
              | inr t ↦ absurd (not_next (m ∷ w) ((on.started m w k).given) t)
            ]

            less : (job : ProcName) → is_given f.processes job ≡ true → (has (inner_chain me p) job || false) ≡ true → knows p job ≡ true
            less job c k = elim (longer_has p.chain (next_child me p) job (in_chain (inner_chain me p) job k)) [
              | inl t ↦ ap (λ b. b || has p.held job) t
              | inr t ↦ absurd (not_next job (on.given job c) t)
            ]

        placed_changes : IsQuiet readers Outer call → EachChange accounts s me p call (ArePlaced js)
        unfolding put_is birth_is
        placed_changes quiet = record {
          stays = on.placed;
          makes = λ n d x walked free w own mode made_is. on.placed;
          overwrites = λ n d bytes file w. on.placed;
          cuts = λ n d takes w. on.placed;
          renames = λ n k d takes ne free w. on.placed;
          spawns = λ is. birth_is (grown p) (child_of p p.chain)
              (is_as (grown p) mine refl (λ m w k h. h) (λ m w k h. h) (λ job c k. k)) (child_is (child_of p p.chain) refl spawned_is);
          exits = λ n is. put_is (record p { exited = Some n })
              (is_as (record p { exited = Some n }) mine refl (λ m w k h. h) (λ m w k h. h) (λ job c k. k));
          logs_in = λ name is known free. put_is (login_of p name) (login_is name free (quiet name is));
          kills = λ n x y e. on.placed x y (runs_kept (under_process (n ∷ me) x) (s.processes x) y e);
          wraps = λ n d is walked free w named. birth_is (starter_of me p) (child_of p (inner_chain me p)) starter_is
              (child_is (child_of p (inner_chain me p)) refl newborn_is);
        }

      -- the state after a call is a later one too
      pub on_after : IsOn js (flat_after accounts s me call)
      on_after = record {
        jobs = jobs_after accounts s on.jobs me call;
        given = λ x h. given_stays accounts s me call x (on.given x h);
        started = λ m w k. started_after (m ∷ w) accounts s me call (on.started m w k);
        proper = on.proper;
        placed = by_quiet_line {test = readers} (record { quiet = λ o. cast.quiet me call (ok o.0) o.1 }) s me (ArePlaced js) on.placed
            (λ p runs unread. placed_changes p runs unread);
      }

    module _ (s : Flat) (on : IsOn js s) (me : ProcName) (p : Process) (runs : running s me ≡ Some p) (free : is_hidden js me ≡ false) where
      -- a process that is not hidden is in none of the jobs
      pub apart_from : (m : ℕ) (w : ProcName) → IsJob js m w → under_process (m ∷ w) me ≡ false
      apart_from m w k = elim (cases_Bool (under_process (m ∷ w) me)) [
        | inl u ↦ absurd (true≢false (sym ((on.placed me p runs).inside m w k
            ((on.started m w k).inside me p (runs_is_there (s.processes me) p runs) ∙ u)) ∙ free))
        | inr u ↦ u
      ]

      -- one that is no insider knows none of the jobs
      pub unknowing : insider me ≡ false → (m : ℕ) (w : ProcName) → IsJob js m w → knows p (m ∷ w) ≡ false
      unknowing out m w k = elim (cases_Bool (knows p (m ∷ w))) [
        | inl t ↦ elim (or_cases (has p.chain (m ∷ w)) (has p.held (m ∷ w)) t) [
          | inl u ↦ absurd (true≢false (sym ((on.placed me p runs).inside m w k u) ∙ free))
          | inr u ↦ absurd (true≢false (sym ((on.placed me p runs).holding m w k u) ∙ out))
        ]
        | inr t ↦ t
      ]
