-- A process that knows a job after a call belongs to a user that knew it before, or to a job started by the call; and facts about jobs in
-- each state.
use Rattle.std.specs.Prelude.{◌≡◌, ◌≢◌, ◌⊎◌, Bool, true, false, ◌||◌, List, [], ◌∷◌, ◌++◌, Some, None, refl}
use Rattle.std.proofs.Common.{ap, sym, ◌∙◌, subst, inl, inr}
use Rattle.std.proofs.lemmas.Bool.{true≢false, or_cases}
use Rattle.std.proofs.Math.Bool.{or-true}
use Rattle.histar_flat.specs.declared.calls.CallLine.{CallLine}
use Rattle.histar_flat.specs.declared.calls.UnixCall.{UnixCall}
use Rattle.histar_flat.specs.Words.{Name, Path, ProcName}
use Rattle.histar_flat.specs.PathOrder.{under_process}
use Rattle.histar_flat.specs.Accounts.{Accounts, has}
use Rattle.histar_flat.specs.Classes.{Process, is_free, knows}
use Rattle.histar_flat.specs.declared.calls.UnixCall.TheVariants.{Wrap}
use Rattle.histar_flat.specs.FlatState.{Flat, IsTree, is_given, with_child, with_process}
use Rattle.histar_flat.specs.FlatCalls.{changed, flat_after, inner_chain, next_child}
use Rattle.histar_flat.specs.Laws.{NamesAreGiven}
use Rattle.histar_flat.specs.Meaning.{boot, first_process, flat_end}
use Rattle.histar_flat.proofs.Changes.{EachChange, by_line, runs_is_there}
use Rattle.histar_flat.proofs.Choices.{left}
use Rattle.histar_flat.proofs.GivenNames.{given_after, longer_has, names_are_given_once, next_is_new}
use Rattle.histar_flat.proofs.Trees.{tree_after, tree_at_start}
use Rattle.histar_noninterference.proofs.Isolated.{started_now}
use Rattle.histar_noninterference.proofs.Kept.{born_cases, put_cases, started_after}
use Rattle.histar_noninterference.proofs.Relation.{IsStarted}
use Rattle.histar_secrecy.proofs.Readers.{in_chain}
use Rattle.histar_secrecy.proofs.Names.{child_of, grown, login_of, starter_of}

-- a process of this user knows the job
pub record IsKnown (f : Flat) (job : ProcName) (user : Name) : Type 0 where
  pub name : ProcName
  pub process : Process
  pub there : f.processes name ≡ Some process
  pub known : knows process job ≡ true
  pub of_user : process.user ≡ user

-- the call of `me` has just started the job
pub record IsNew (f g : Flat) (me : ProcName) (job : ProcName) (user : Name) : Type 0 where
  pub process : Process
  pub there : f.processes me ≡ Some process
  pub named : job ≡ next_child me process
  pub of_user : process.user ≡ user
  pub started : IsStarted job g

-- for a job that a process knows after a call, its user knew it before, or the caller has started it
abbrev pub KnowsWhatItKnew : Flat → ProcName → Flat → Type 0
KnowsWhatItKnew f me g = IsTree g → NamesAreGiven g → (x : ProcName) (y : Process) (job : ProcName) → g.processes x ≡ Some y → knows y job ≡ true
    → IsKnown f job y.user ⊎ IsNew f g me job y.user

-- a process in no job that holds none knows none
free_knows_none : (chain : List ProcName) (job : ProcName) → (let b : Bool = elim chain [ [] ↦ true | k ∷ ks ↦ false ] in b) ≡ true
    → (has chain job || false) ≡ false
free_knows_none [] job h = refl
free_knows_none (k ∷ ks) job h = absurd (true≢false (sym h))

module _ (accounts : Accounts) (f : Flat) (names : NamesAreGiven f) (me : ProcName) (p : Process) (here : f.processes me ≡ Some p) where
  -- p's user knows a job that p knows
  by_caller : (y : Process) (job : ProcName) → p.user ≡ y.user → knows p job ≡ true → IsKnown f job y.user
  by_caller y job user k = record { name = me; process = p; there = here; known = k; of_user = user }

  by_old : (x : ProcName) (y : Process) (job : ProcName) → f.processes x ≡ Some y → knows y job ≡ true → IsKnown f job y.user
  by_old x y job there k = record { name = x; process = y; there = there; known = k; of_user = refl }

  -- p knows the jobs that it is in
  knows_chain : (job : ProcName) → has p.chain job ≡ true → knows p job ≡ true
  knows_chain job h = ap (λ b. b || has p.held job) h

  -- the fact holds after one process changed and knows no more
  one_changed : (q : Process) → p.user ≡ q.user → ((job : ProcName) → knows q job ≡ true → knows p job ≡ true)
      → KnowsWhatItKnew f me (with_process f me q)
  one_changed q user less tree given x y job there k = elim (put_cases f me q x y there) [
    | inl t ↦ inl (by_caller y job (user ∙ ap (λ z. z.user) t.1) (less job (ap (λ z. knows z job) t.1 ∙ k)))
    | inr t ↦ inl (by_old x y job t k)
  ]

  -- the fact holds after p logged in, and knows no job
  logged_in : (name : Name) → is_free p ≡ true → KnowsWhatItKnew f me (with_process f me (login_of p name))
  logged_in name free tree given x y job there k = elim (put_cases f me (login_of p name) x y there) [
    | inl t ↦ absurd (true≢false (sym (ap (λ z. knows z job) t.1 ∙ k) ∙ free_knows_none p.chain job free))
    | inr t ↦ inl (by_old x y job t k)
  ]

  -- the fact holds after a child was born in the same jobs
  spawned : KnowsWhatItKnew f me (with_child f me p p.chain)
  spawned tree given x y job there k = elim (born_cases f me (grown p) (next_child me p) (child_of p p.chain) x y there) [
    | inl t ↦ inl (by_caller y job (ap (λ z. z.user) t.1) (knows_chain job (in_chain p.chain job (ap (λ z. knows z job) t.1 ∙ k))))
    | inr v ↦ elim v [
      | inl t ↦ inl (by_caller y job (ap (λ z. z.user) t.1) (ap (λ z. knows z job) t.1 ∙ k))
      | inr t ↦ inl (by_old x y job t k)
    ]
  ]

  -- the fact holds after a job was started
  module _ (n : Name) (d : Path) (started : IsStarted (next_child me p) (changed accounts f me p (Wrap (n ∷ d)))) where
    abbrev Found : Process → ProcName → Type 0
    Found y job = IsKnown f job y.user ⊎ IsNew f (changed accounts f me p (Wrap (n ∷ d))) me job y.user

    -- for a list of jobs with the new one the fact holds too
    longer : (jobs : List ProcName) (y : Process) (job : ProcName) → p.user ≡ y.user → (has jobs job ≡ true → knows p job ≡ true)
        → has (jobs ++ next_child me p ∷ []) job ≡ true → Found y job
    longer jobs y job user less h = elim (longer_has jobs (next_child me p) job h) [
      | inl t ↦ inl (by_caller y job user (less t))
      | inr t ↦ inr (record {
        process = p;
        there = here;
        named = t;
        of_user = user;
        started = subst (λ z. IsStarted z (changed accounts f me p (Wrap (n ∷ d)))) (sym t) started;
      })
    ]

    wrapped_now : (x : ProcName) (y : Process) (job : ProcName) → (changed accounts f me p (Wrap (n ∷ d))).processes x ≡ Some y → knows y job ≡ true
        → Found y job
    wrapped_now x y job there k =
        elim (born_cases f me (starter_of me p) (next_child me p)
        (child_of p (inner_chain me p)) x y there) [
          | inl t ↦ longer p.chain y job (ap (λ z. z.user) t.1) (knows_chain job) (in_chain (inner_chain me p) job (ap (λ z. knows z job) t.1 ∙ k))
          | inr v ↦ elim v [
            | inl t ↦ elim (or_cases (has p.chain job) (has (p.held ++ next_child me p ∷ []) job) (ap (λ z. knows z job) t.1 ∙ k)) [
              | inl i ↦ inl (by_caller y job (ap (λ z. z.user) t.1) (knows_chain job i))
              | inr i ↦ longer p.held y job (ap (λ z. z.user) t.1) (λ u. ap (λ b. has p.chain job || b) u ∙ or-true (has p.chain job)) i
            ]
            | inr t ↦ inl (by_old x y job t k)
          ]
        ]

  known_changes : (call : UnixCall) → EachChange accounts f me p call (KnowsWhatItKnew f me)
  unfolding one_changed logged_in spawned wrapped_now
  known_changes call = record {
    stays = λ tree given x y job there k. inl (by_old x y job there k);
    makes = λ n d x walked free w own mode made_is tree given z y job there k. inl (by_old z y job there k);
    overwrites = λ n d bytes file w tree given x y job there k. inl (by_old x y job there k);
    cuts = λ n d takes w tree given x y job there k. inl (by_old x y job there k);
    renames = λ n k d takes ne free w tree given x y job there known. inl (by_old x y job there known);
    spawns = λ is. spawned;
    exits = λ n is. one_changed (record p { exited = Some n }) refl (λ job k. k);
    logs_in = λ name is known free. logged_in name free;
    kills = λ n tree given x y job there k. inl (by_old x y job (left (under_process (n ∷ me) x) (f.processes x) y there) k);
    wraps = λ n d is walked free w named tree given. wrapped_now n d (started_now accounts f names me p here n d tree given);
  }

-- the facts that hold of the jobs in each state that calls lead to
pub record AreJobs (f : Flat) : Type 0 where
  pub tree : IsTree f
  pub names : NamesAreGiven f
  -- each job that a process knows was started
  pub started : (x : ProcName) (y : Process) (job : ProcName) → f.processes x ≡ Some y → knows y job ≡ true → IsStarted job f
  -- all processes that know a job are of one user
  pub one_user : (x x' : ProcName) (y y' : Process) (job : ProcName) → f.processes x ≡ Some y → knows y job ≡ true → f.processes x' ≡ Some y'
      → knows y' job ≡ true → y.user ≡ y'.user
  -- process 0 is no process of a job
  pub child : (x : ProcName) (y : Process) (job : ProcName) → f.processes x ≡ Some y → knows y job ≡ true → job ≢ []

-- a process that is there knows the job
pub record IsKnower (f : Flat) (name : ProcName) (process : Process) (job : ProcName) : Type 0 where
  pub there : f.processes name ≡ Some process
  pub known : knows process job ≡ true

-- A job that a process knows after a line was known to a process of its user before, or was started by the line.
pub known_after : (accounts : Accounts) {f : Flat} → AreJobs f → (me : ProcName) (call : UnixCall) {x : ProcName} {y : Process} {job : ProcName}
    → IsKnower (flat_after accounts f me call) x y job → IsKnown f job y.user ⊎ IsNew f (flat_after accounts f me call) me job y.user
known_after accounts {f} h me call {x} {y} {job} knower =
    by_line accounts f me call (KnowsWhatItKnew f me)
    (λ tree given x y job there k. inl (record { name = x; process = y; there = there; known = k; of_user = refl }))
    (λ p runs. known_changes accounts f h.names me p (runs_is_there (f.processes me) p runs) call)
    (tree_after f h.tree accounts me call) (given_after accounts f me call h.tree h.names) x y job knower.there knower.known

-- a job that is known was given, and is not new
pub not_new : (f g : Flat) (me : ProcName) (job : ProcName) (user : Name) → is_given f.processes job ≡ true → IsNew f g me job user → ⊥
not_new f g me job user given new = true≢false (sym given ∙ ap (is_given f.processes) new.named ∙ next_is_new f me new.process new.there)

-- The facts about jobs hold after each line.
pub jobs_after : (accounts : Accounts) (f : Flat) → AreJobs f → (me : ProcName) (call : UnixCall) → AreJobs (flat_after accounts f me call)
jobs_after accounts f h me call = record {
  tree = tree_after f h.tree accounts me call;
  names = given_after accounts f me call h.tree h.names;
  started = λ x y job there k. elim (known_after accounts h me call (record { there = there; known = k })) [
    | inl t ↦ started_after job accounts f me call (h.started t.name t.process job t.there t.known)
    | inr t ↦ t.started
  ];
  one_user = λ x x' y y' job there k there' k'.
      users y y' job (known_after accounts h me call (record { there = there; known = k }))
      (known_after accounts h me call (record { there = there'; known = k' }));
  child = λ x y job there k. elim (known_after accounts h me call (record { there = there; known = k })) [
    | inl t ↦ h.child t.name t.process job t.there t.known
    | inr t ↦ λ e. let no : next_child me t.process ≡ [] = sym t.named ∙ e in cc
  ];
}
  where
    users : (y y' : Process) (job : ProcName) → IsKnown f job y.user ⊎ IsNew f (flat_after accounts f me call) me job y.user
        → IsKnown f job y'.user ⊎ IsNew f (flat_after accounts f me call) me job y'.user → y.user ≡ y'.user
    users y y' job (inl t) (inl u) = sym t.of_user ∙ h.one_user t.name u.name t.process u.process job t.there t.known u.there u.known ∙ u.of_user
    users y y' job (inl t) (inr u) =
        absurd (not_new f (flat_after accounts f me call) me job y'.user (h.names.of_known_jobs t.name t.process job t.there t.known) u)
    users y y' job (inr t) (inl u) =
        absurd (not_new f (flat_after accounts f me call) me job y.user (h.names.of_known_jobs u.name u.process job u.there u.known) t)
    users y y' job (inr t) (inr u) =
        let e : Some t.process ≡ Some u.process = sym t.there ∙ u.there in
        let one : t.process ≡ u.process = cc in
        sym t.of_user ∙ ap (λ z. z.user) one ∙ u.of_user

-- at the start no process knows a job
knows_none : (accounts : Accounts) (x : ProcName) (y : Process) (job : ProcName) → (boot accounts).processes x ≡ Some y → knows y job ≡ true → ⊥
knows_none accounts [] y job e k =
    let found : Some first_process ≡ Some y = e in
    let one : first_process ≡ y = cc in
    true≢false (sym k ∙ ap (λ z. knows z job) (sym one))
knows_none accounts (n ∷ x) y job e k = let gone : None ≡ Some y = e in absurd (cc)

pub jobs_at_start : (accounts : Accounts) → AreJobs (boot accounts)
jobs_at_start accounts = record {
  tree = tree_at_start accounts;
  names = names_are_given_once.old accounts [];
  started = λ x y job there k. absurd (knows_none accounts x y job there k);
  one_user = λ x x' y y' job there k there' k'. absurd (knows_none accounts x y job there k);
  child = λ x y job there k. absurd (knows_none accounts x y job there k);
}

-- the facts about jobs hold in each state that calls lead to
pub jobs_at_end : (accounts : Accounts) (calls : List CallLine) → AreJobs (flat_end accounts (boot accounts) calls)
jobs_at_end accounts calls = from calls (boot accounts) (jobs_at_start accounts)
  where
    from : (calls : List CallLine) (f : Flat) → AreJobs f → AreJobs (flat_end accounts f calls)
    from [] f h = h
    from (c ∷ calls) f h = from calls (flat_after accounts f c.process c.call) (jobs_after accounts f h c.process c.call)
