-- The first path or process that passes a test, from the root down; the path by which a changer has its power, and the job that binds.
use Rattle.std.specs.Prelude.{◌≡◌, ◌<◌, ℕ, Bool, true, false, not, ◌||◌, nat_eq}
use Rattle.std.specs.Prelude.{List, [], ◌∷◌, length, Option, None, Some, if◌then◌else◌, refl}
use Rattle.std.specs.Cmp.Lexicographic.{pointwise}
use Rattle.std.specs.Option.{option_or}
use Rattle.std.proofs.Common.{ap, arith, sym, ◌∙◌, subst, inl, inr}
use Rattle.std.proofs.lemmas.Bool.{true≢false, cases_Bool, or_cases, or_parts}
use Rattle.std.proofs.Math.Bool.{or-true}
use Rattle.histar_base.specs.Paths.{same}
use Rattle.histar_flat.specs.Words.{Path, ProcName}
use Rattle.histar_flat.specs.PathOrder.{is_under, parent, under_process}
use Rattle.histar_flat.specs.Accounts.{Accounts, has}
use Rattle.histar_flat.specs.Classes.{Class, Process, is_free, knows}
use Rattle.histar_flat.specs.FlatState.{Flat, is_some_and}
use Rattle.histar_flat.proofs.Changes.{runs_is_there}
use Rattle.histar_flat.proofs.FileLemmas.{Found, same_name_found, same_path_found}
use Rattle.histar_flat.proofs.Under.{under_child, under_inner, under_itself}
use Rattle.histar_noninterference.proofs.Relation.{IsStarted}
use Rattle.histar_noninterference.proofs.TestLemmas.{under_all}
use Rattle.histar_secrecy.specs.Leaks.{IsFamily}
use Rattle.histar_secrecy.specs.Roles.{holding_none, is_bound}
use Rattle.histar_secrecy.specs.Ways.{reads_all, way_to}
use Rattle.histar_secrecy.specs.Changers.{changes_at, may_change}
use Rattle.histar_secrecy.proofs.Exact.{changers_are_exact}
use Rattle.histar_secrecy.proofs.Family.{processes_are_a_tree}
use Rattle.histar_secrecy.proofs.Knowing.{AreJobs, jobs_at_end}
use Rattle.histar_secrecy.proofs.Learning.{roles_are_shown}
use Rattle.histar_secrecy.proofs.Names.{some_process}
use Rattle.histar_secrecy.proofs.Readers.{bound_parts, first_job, in_a_job, in_chain, is_bound_by, reads_all_as}
use Rattle.histar_trust.specs.Reasons.{binds, first_from_root}
use Rattle.histar_trust.specs.ReasonLaws.{JobIsNamed, PowerIsNamed}

-- ---- the first from the root

-- this one passes the test, or one above it does
abbrev pub any_above : {A : Type 0} → (List A → Bool) → List A → Bool
any_above test [] = test []
any_above test (n ∷ d) = test (n ∷ d) || any_above test d

-- if none passes, none is found
none_first : {A : Type 0} (test : List A → Bool) (path : List A) → any_above test path ≡ false → first_from_root test path ≡ None
none_first test [] h = ap (λ b. let o : Option (List _) = if b then Some [] else None in o) h
none_first test (n ∷ d) h =
    let parts = or_parts (test (n ∷ d)) (any_above test d) h in
    λ i. option_or (none_first test d parts.1 i) (let o : Option (List _) = if parts.0 i then Some (n ∷ d) else None in o)

module _ {A : Type 0} (equal : A → A → Bool) (found : (p q : List A) → Found (pointwise equal p q) p q) where
  -- a list under which none passes has none above it that does
  none_above : (test : List A → Bool) (r path : List A) → is_under equal r path ≡ true → any_above test path ≡ false → test r ≡ false
  none_above test r [] u h = elim (found r []) [
    | inl t ↦ ap test t.1 ∙ h
    | inr t ↦ absurd (true≢false (sym u ∙ t.0))
  ]
  none_above test r (n ∷ d) u h = elim (found r (n ∷ d)) [
    | inl t ↦ ap test t.1 ∙ (or_parts (test (n ∷ d)) (any_above test d) h).0
    | inr t ↦ none_above test r d (under_inner equal found r d n t.0 u) (or_parts (test (n ∷ d)) (any_above test d) h).1
  ]

  -- what is found is on the way, and passes; and none above it does
  pub record IsFirst (test : List A → Bool) (path : List A) : Type 0 where
    pub place : List A
    pub named : first_from_root test path ≡ Some place
    pub on_way : is_under equal place path ≡ true
    pub passes : test place ≡ true
    pub no_higher : (r : List A) → is_under equal r place ≡ true → length r < length place → test r ≡ false

  pub first_is : (test : List A → Bool) (path : List A) → any_above test path ≡ true → IsFirst test path
  first_is test [] h = record {
    place = [];
    named = ap (λ b. let o : Option (List A) = if b then Some [] else None in o) h;
    on_way = under_itself equal found [];
    passes = h;
    no_higher = λ r u less. absurd (omega (arith, less));
  }
  first_is test (n ∷ d) h = elim (cases_Bool (any_above test d)) [
    | inl t ↦
        let above = first_is test d t in
        record {
          place = above.place;
          named = ap (λ (o : Option (List A)). option_or o (if test (n ∷ d) then Some (n ∷ d) else None)) above.named;
          on_way = under_child equal found above.place d n above.on_way;
          passes = above.passes;
          no_higher = above.no_higher;
        }
    | inr t ↦
        let passes = here (test (n ∷ d)) (any_above test d) h t in
        record {
          place = n ∷ d;
          named = λ i. option_or (none_first test d t i) (let o : Option (List A) = if passes i then Some (n ∷ d) else None in o);
          on_way = under_itself equal found (n ∷ d);
          passes = passes;
          no_higher = λ r u less. none_above test r d (inner r n d u less) t;
        }
  ]
    where
      here : (a b : Bool) → (a || b) ≡ true → b ≡ false → a ≡ true
      here true b e i = refl
      here false b e i = absurd (true≢false (sym e ∙ i))

      inner : (r : List A) (n : A) (d : List A) → is_under equal r (n ∷ d) ≡ true → length r < length (n ∷ d) → is_under equal r d
          ≡ true
      inner r n d u less = elim (found r (n ∷ d)) [
        | inl t ↦ absurd (omega (arith, less, ap length t.1))
        | inr t ↦ under_inner equal found r d n t.0 u
      ]

-- ---- the power of a changer

module _ (accounts : Accounts) (f : Flat) (p : Process) where
  may_is_any : (path : Path) → may_change accounts f p path ≡ any_above (changes_at accounts f p) path
  may_is_any [] = refl
  may_is_any (n ∷ d) = ap (λ b. changes_at accounts f p (n ∷ d) || b) (may_is_any d)

pub power_is_named : PowerIsNamed
power_is_named accounts f reached path p may =
    let first = first_is same same_path_found (changes_at accounts f p) path (sym (may_is_any accounts f p path) ∙ may) in (
      record { place = first.place; named = first.named; on_way = first.on_way; power = first.passes; no_higher = first.no_higher },
      λ me runs there. (changers_are_exact accounts f reached path there me).0
          (ap (λ (o : Option Process). is_some_and o (λ q. may_change accounts f q path)) runs ∙ may),
    )

-- ---- the job that binds

module _ (accounts : Accounts) (f : Flat) (jobs : AreJobs f) (family : IsFamily f) (way : List Class) (p : Process) where
  -- the process, in these jobs alone
  abbrev in_these : List ProcName → Process
  in_these chain = record p { chain = chain }

  -- it would be bound in the jobs of another process
  abbrev Binds : Process → Type 0
  Binds q = is_bound accounts way (in_these q.chain) ≡ true

  module _ (job : ProcName) (q : Process) (at : f.processes job ≡ Some q) (bound : Binds q) where
    busy : is_free (in_these q.chain) ≡ false
    busy = (bound_parts accounts way (in_these q.chain) bound).0

    reads : reads_all accounts way (holding_none (in_these q.chain)) ≡ true
    reads = (bound_parts accounts way (in_these q.chain) bound).1

    started : (k : ProcName) → has q.chain k ≡ true → IsStarted k f
    started k h = jobs.started job q k at (ap (λ b. b || has q.held k) h)

    one : (k : ProcName) × (has q.chain k ≡ true)
    one = first_job (in_these q.chain) busy

    -- if the other process is not the first one of a job, the process above it is in the same jobs
    above : (n : ℕ) (d : ProcName) → job ≡ n ∷ d → has q.chain job ≡ false → binds accounts f way p d ≡ true
    above n d e out =
        let parent = family n d q (ap f.processes (sym e) ∙ at) in
        let up : Process = parent.0 in
        ap (λ (o : Option Process). is_some_and o (λ y. is_bound accounts way (in_these y.chain))) parent.1
        ∙ is_bound_by accounts way (in_these up.chain) (in_a_job (in_these up.chain) one.0 (has_too up parent.1 one.0 one.1))
        (reads_all_as accounts (holding_none (in_these q.chain)) (holding_none (in_these up.chain)) way refl
        (λ k c h. ap (λ b. b || false) (has_too up parent.1 k (in_chain q.chain k h))) reads)
      where
        has_too : (up : Process) → f.processes d ≡ Some up → (k : ProcName) → has q.chain k ≡ true → has up.chain k ≡ true
        has_too up there k h = (started k h).inside d up there ∙ elim (same_name_found k job) [
          | inl t ↦ absurd (true≢false (sym h ∙ ap (has q.chain) t.1 ∙ out))
          | inr t ↦ under_inner nat_eq same_name_found k d n (ap (λ z. same k z) (sym e) ∙ t.0)
              (ap (under_process k) (sym e) ∙ sym ((started k h).inside job q at) ∙ h)
        ]

    -- process 0 is in no job
    not_root : job ≡ [] → ⊥
    not_root e =
        let under : under_process one.0 [] ≡ true = ap (under_process one.0) (sym e) ∙ sym ((started one.0 one.1).inside job q at) ∙ one.1 in
        jobs.child job q one.0 at (ap (λ b. b || has q.held one.0) one.1)
        (elim (same_name_found one.0 []) [ inl t ↦ t.1 | inr t ↦ absurd (true≢false (sym under ∙ t.0)) ])

    -- the highest process in whose jobs it would be bound is the first one of a job
    pub first_of_job : (x : ProcName) → job ≡ x
        → ((r : ProcName) → under_process r job ≡ true → length r < length job → binds accounts f way p r ≡ false) → has q.chain job
        ≡ true
    first_of_job x e none = elim (cases_Bool (has q.chain job)) [ inl t ↦ t | inr t ↦ absurd (no x e t) ]
      where
        no : (x : ProcName) → job ≡ x → has q.chain job ≡ false → ⊥
        no [] e out = not_root e
        no (n ∷ d) e out =
            let under : under_process d job ≡ true =
            ap (under_process d) e ∙ under_child nat_eq same_name_found d d n (under_itself nat_eq same_name_found d) in
            true≢false (sym (above n d e out) ∙ none d under (omega (arith, ap length e)))

    -- whoever knows a job knows all jobs of its first process
    module _ (inside : has q.chain job ≡ true) (other : ProcName) (o : Process) (there : f.processes other ≡ Some o)
        (known : knows o job ≡ true) where
      under : (k : ProcName) → has q.chain k ≡ true → under_process k job ≡ true
      under k h = sym ((started k h).inside job q at) ∙ h

      upward : (k w : ProcName) → under_process k w ≡ true → same k w ≡ false → under_process k (parent w) ≡ true
      upward k [] u apart = absurd (true≢false (sym u ∙ apart))
      upward k (n ∷ w) u apart = sym (ap (λ b. b || under_process k w) apart) ∙ u

      knows_each : (k : ProcName) → has q.chain k ≡ true → knows o k ≡ true
      knows_each k h = elim (or_cases (has o.chain job) (has o.held job) known) [
        | inl c ↦
            let below = sym ((started job inside).inside other o there) ∙ c in
            ap (λ b. b || has o.held k) ((started k h).inside other o there ∙ under_all nat_eq same_name_found k job other (under k h) below)
        | inr c ↦ elim (same_name_found (parent job) other) [
          | inl t ↦ elim (same_name_found k job) [
            | inl u ↦ ap (λ b. has o.chain k || b) (ap (has o.held) u.1 ∙ c) ∙ or-true (has o.chain k)
            | inr u ↦ ap (λ b. b || has o.held k)
                ((started k h).inside other o there ∙ subst (λ z. under_process k z ≡ true) t.1 (upward k job (under k h) u.0))
          ]
          | inr t ↦ absurd (true≢false (sym c ∙ (started job inside).held other o there t.0))
        ]
      ]

      pub reads_too : p.user ≡ o.user → reads_all accounts way o ≡ true
      reads_too user =
          reads_all_as accounts (holding_none (in_these q.chain)) o way user (λ k c h. knows_each k (in_chain q.chain k h)) reads

passes_itself : (test : ProcName → Bool) (x : ProcName) → test x ≡ true → any_above test x ≡ true
passes_itself test [] h = h
passes_itself test (n ∷ x) h = ap (λ b. b || any_above test x) h

pub job_is_named : JobIsNamed
job_is_named accounts f reached path me p runs confined =
    let way = way_to f path in
    let jobs : AreJobs f = subst AreJobs reached.1 (jobs_at_end accounts reached.0) in
    let family : IsFamily f = subst IsFamily reached.1 (processes_are_a_tree accounts reached.0) in
    let here = runs_is_there (f.processes me) p runs in
    let bound : is_bound accounts way p ≡ true = sym (roles_are_shown accounts f reached path me p runs).confined ∙ confined in
    let binding : Process → Bool = λ q. is_bound accounts way (record p { chain = q.chain }) in
    let first = first_is nat_eq same_name_found (binds accounts f way p) me
    (passes_itself (binds accounts f way p) me (ap (λ (o : Option Process). is_some_and o binding) here ∙ bound)) in
    let found = some_process (f.processes first.place) binding first.passes in
    let q : Process = found.0 in
    let own = first_of_job accounts f jobs family way p first.place q found.1 found.2 first.place refl first.no_higher in
    let mine : has p.chain first.place ≡ true =
    (jobs.started first.place q first.place found.1 (ap (λ b. b || has q.held first.place) own)).inside me p here ∙ first.on_way in
    record {
      job = first.place;
      named = first.named;
      inside = mine;
      unknown = λ other o at outside. elim (cases_Bool (knows o first.place)) [
        | inr t ↦ t
        | inl t ↦
            let there = runs_is_there (f.processes other) o at in
            let user = jobs.one_user me other p o first.place here (ap (λ b. b || has p.held first.place) mine) there t in
            absurd (true≢false (sym outside ∙ (roles_are_shown accounts f reached path other o at).outside
            ∙ ap not (reads_too accounts f jobs family way p first.place q found.1 found.2 own other o there t user)))
      ];
    }
