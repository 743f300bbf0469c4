-- The jobs of bound processes: all that know such a job read all of the way.
use Rattle.std.specs.Prelude.{◌≡◌, ◌⊎◌, Bool, true, false, ◌||◌, nat_eq, List, [], ◌∷◌, Some, refl}
use Rattle.std.specs.List.{list_all}
use Rattle.std.proofs.Common.{ap, sym, ◌∙◌, subst, inl, inr}
use Rattle.std.proofs.lemmas.Bool.{true≢false, and_parts, or_cases}
use Rattle.std.proofs.Math.Bool.{or-true}
use Rattle.histar_flat.specs.Words.{ProcName}
use Rattle.histar_base.specs.Paths.{same}
use Rattle.histar_flat.specs.PathOrder.{parent, under_process}
use Rattle.histar_flat.specs.Accounts.{Accounts, has}
use Rattle.histar_flat.specs.Classes.{Class, Process, carries, is_free, knows, may_read}
use Rattle.histar_flat.specs.Classes.Class.{Private, Readable, Open, Scratch, Grouped}
use Rattle.histar_flat.specs.FlatState.{Flat, is_given}
use Rattle.histar_flat.specs.FlatCalls.{running}
use Rattle.histar_flat.specs.JobLaws.{is_scratch}
use Rattle.histar_flat.proofs.Changes.{runs_is_there}
use Rattle.histar_flat.proofs.FileLemmas.{same_name_found}
use Rattle.histar_flat.proofs.Under.{under_child, under_itself}
use Rattle.histar_noninterference.proofs.Relation.{IsStarted}
use Rattle.histar_noninterference.proofs.TestLemmas.{all_of, under_all}
use Rattle.histar_secrecy.specs.Ways.{reads_all}
use Rattle.histar_secrecy.specs.Roles.{holding_none, is_bound, is_confined, runs_bound}
use Rattle.histar_secrecy.proofs.Knowing.{AreJobs}
use Rattle.histar_secrecy.proofs.Names.{some_process}
use Rattle.histar_secrecy.proofs.Readers.{bound_parts, first_job, in_a_job, in_chain, is_bound_by, on_way, reads_all_holding, reads_as, reads_holding}
use Rattle.histar_secrecy.proofs.Roots.{AreReaders, AreRootedOn, AreWayReaders, HasRoot, no_class, one_class_more}

-- two runs can go on from this state: the facts about jobs hold, the jobs of the way were given, and each scratch class on it has a root
pub record IsBegun (accounts : Accounts) (way : List Class) (f : Flat) : Type 0 where
  pub jobs : AreJobs f
  pub given : (job : ProcName) → on_way job way ≡ true → is_given f.processes job ≡ true
  pub root : AreRootedOn accounts f way

-- a confined process is bound, or below a bound one
confined_by : (accounts : Accounts) (way : List Class) (f : Flat) (x : ProcName) → is_confined accounts way f x ≡ true
    → (y : ProcName) × (under_process y x ≡ true) × (runs_bound accounts way f y ≡ true)
confined_by accounts way f [] c = ([], under_itself nat_eq same_name_found [], c)
confined_by accounts way f (n ∷ above) c = elim (or_cases (runs_bound accounts way f (n ∷ above)) (is_confined accounts way f above) c) [
  | inl t ↦ (n ∷ above, under_itself nat_eq same_name_found (n ∷ above), t)
  | inr t ↦ let found = confined_by accounts way f above t in (found.0, under_child nat_eq same_name_found found.0 above n found.1, found.2)
]

-- two jobs that a process is in lie one below the other
comparable : (a b x : ProcName) → under_process a x ≡ true → under_process b x ≡ true → (under_process a b ≡ true) ⊎ (under_process b a ≡ true)
comparable a b [] h k = elim (same_name_found a []) [
  | inl t ↦ inr (subst (λ z. under_process b z ≡ true) (sym t.1) k)
  | inr t ↦ absurd (true≢false (sym h ∙ t.0))
]
comparable a b (n ∷ e) h k = elim (same_name_found a (n ∷ e)) [
  | inl t ↦ inr (subst (λ z. under_process b z ≡ true) (sym t.1) k)
  | inr t ↦ elim (same_name_found b (n ∷ e)) [
    | inl u ↦ inl (subst (λ z. under_process a z ≡ true) (sym u.1) h)
    | inr u ↦ comparable a b e (sym (ap (λ x. x || under_process a e) t.0) ∙ h) (sym (ap (λ x. x || under_process b e) u.0) ∙ k)
  ]
]

-- a process of a job inside another is in that one too, and so is the process that started it
module _ {s : Flat} (job inner : ProcName) (outer : IsStarted job s) (started : IsStarted inner s) (below : under_process job inner ≡ true) where
  in_outer : (x : ProcName) (y : Process) → s.processes x ≡ Some y → has y.chain inner ≡ true → has y.chain job ≡ true
  in_outer x y there i =
      outer.inside x y there ∙ under_all nat_eq same_name_found job inner x below (sym (started.inside x y there) ∙ i)

  holder_in_outer : (x : ProcName) (y : Process) → s.processes x ≡ Some y → has y.held inner ≡ true → (job ≡ inner) ⊎ (has y.chain job ≡ true)
  holder_in_outer x y there i = elim (same_name_found job inner) [
    | inl t ↦ inl t.1
    | inr t ↦ elim (same_name_found (parent inner) x) [
      | inl u ↦ inr (outer.inside x y there ∙ subst (λ z. under_process job z ≡ true) u.1 (above inner t.0 below))
      | inr u ↦ absurd (true≢false (sym i ∙ started.held x y there u.0))
    ]
  ]
    where
      above : (k : ProcName) → same job k ≡ false → under_process job k ≡ true → under_process job (parent k) ≡ true
      above [] apart u = absurd (true≢false (sym u ∙ apart))
      above (n ∷ w) apart u = sym (ap (λ b. b || under_process job w) apart) ∙ u

  -- a job inside a job of readers is one too
  deeper : (accounts : Accounts) (c : Class) → AreReaders accounts c job s → AreReaders accounts c inner s
  deeper accounts c h = record {
    inside = λ x y there i. h.inside x y there (in_outer x y there i);
    holding = λ x y there i. elim (holder_in_outer x y there i) [
      | inl t ↦ h.holding x y there (ap (has y.held) t ∙ i)
      | inr t ↦ reads_holding accounts y c (h.inside x y there t)
    ];
  }

  deeper_way : (accounts : Accounts) (way : List Class) → AreWayReaders accounts way job s → AreWayReaders accounts way inner s
  deeper_way accounts way h = record {
    inside = λ x y there i. h.inside x y there (in_outer x y there i);
    holding = λ x y there i. elim (holder_in_outer x y there i) [
      | inl t ↦ h.holding x y there (ap (has y.held) t ∙ i)
      | inr t ↦ reads_all_holding accounts y way (h.inside x y there t)
    ];
  }

module _ {accounts : Accounts} {s : Flat} (jobs : AreJobs s) where
  -- a process in a job that reads a class by the jobs that it is in is in a job of which all that know it may read the class
  class_job : (class : Class) → (is_scratch class ≡ true → HasRoot accounts s class) → (x : ProcName) (p : Process) → s.processes x ≡ Some p
      → is_free p ≡ false → may_read accounts (holding_none p) class ≡ true
      → (job : ProcName) × (has p.chain job ≡ true) × AreReaders accounts class job s
  class_job class root x p there busy reads = by (is_scratch class) refl
    where
      in_root : (c : Class) (job : ProcName) → carries job c ≡ true → may_read accounts (holding_none p) c ≡ true → has p.chain job ≡ true
      in_root (Private owner) job h r = absurd (true≢false (sym h))
      in_root (Readable owner) job h r = absurd (true≢false (sym h))
      in_root Open job h r = absurd (true≢false (sym h))
      in_root (Grouped group) job h r = absurd (true≢false (sym h))
      in_root (Scratch owner jobs) job h r =
          in_chain p.chain job
          (all_of (knows (holding_none p)) jobs job ((and_parts (same p.user owner) (list_all (knows (holding_none p)) jobs) r).1) h)

      of_no_job : (c : Class) → is_scratch c ≡ false → (job : ProcName) → carries job c ≡ true → ⊥
      of_no_job (Private owner) h job k = true≢false (sym k)
      of_no_job (Readable owner) h job k = true≢false (sym k)
      of_no_job Open h job k = true≢false (sym k)
      of_no_job (Grouped group) h job k = true≢false (sym k)
      of_no_job (Scratch owner jobs) h job k = true≢false h

      by : (b : Bool) → is_scratch class ≡ b → (job : ProcName) × (has p.chain job ≡ true) × AreReaders accounts class job s
      by true e = let r = root e in (r.job, in_root class r.job r.carried reads, r.readers)
      by false e =
          let job = first_job p busy in
          let known : knows p job.0 ≡ true = ap (λ b. b || has p.held job.0) job.1 in (
            job.0,
            job.1,
            record {
              inside = λ y q at i. reads_as accounts (holding_none p) (holding_none q) class
                  (jobs.one_user x y p q job.0 there known at (ap (λ b. b || has q.held job.0) i)) (λ k c u. absurd (of_no_job class e k c)) reads;
              holding = λ y q at i. reads_as accounts (holding_none p) q class
                  (jobs.one_user x y p q job.0 there known at (ap (λ b. has q.chain job.0 || b) i ∙ or-true (has q.chain job.0)))
                  (λ k c u. absurd (of_no_job class e k c)) reads;
            },
          )

  -- of two such jobs the inner one is one for both
  way_job : (x : ProcName) (p : Process) → s.processes x ≡ Some p → is_free p ≡ false → (way : List Class) → AreRootedOn accounts s way
      → reads_all accounts way (holding_none p) ≡ true → (job : ProcName) × (has p.chain job ≡ true) × AreWayReaders accounts way job s
  way_job x p there busy [] roots reads = let job = first_job p busy in (job.0, job.1, no_class)
  way_job x p there busy (c ∷ way) roots reads =
      let parts = and_parts (may_read accounts (holding_none p) c) (reads_all accounts way (holding_none p)) reads in
      let one = class_job c roots.0 x p there busy parts.0 in
      let rest = way_job x p there busy way roots.1 parts.1 in
      elim (comparable one.0 rest.0 x (sym ((begun one.0 one.1).inside x p there) ∙ one.1) (sym ((begun rest.0 rest.1).inside x p there) ∙ rest.1)) [
        | inl t ↦ (rest.0, rest.1, one_class_more (deeper one.0 rest.0 (begun one.0 one.1) (begun rest.0 rest.1) t accounts c one.2) rest.2)
        | inr t ↦ (one.0, one.1, one_class_more one.2 (deeper_way rest.0 one.0 (begun rest.0 rest.1) (begun one.0 one.1) t accounts way rest.2))
      ]
    where
      begun : (job : ProcName) → has p.chain job ≡ true → IsStarted job s
      begun job i = jobs.started x p job there (ap (λ b. b || has p.held job) i)

-- A process that is bound is in a job of which all that know it read all of the way.
pub bound_job : {accounts : Accounts} {way : List Class} {s : Flat} → AreJobs s → AreRootedOn accounts s way
    → (x : ProcName) (p : Process) → s.processes x ≡ Some p
    → is_bound accounts way p ≡ true → (job : ProcName) × (has p.chain job ≡ true) × AreWayReaders accounts way job s
bound_job {accounts} {way} {s} jobs root x p there bound =
    let parts = bound_parts accounts way p bound in way_job jobs x p there parts.0 way root parts.1

-- A process that runs and is confined is bound.
pub confined_is_bound : {accounts : Accounts} {way : List Class} {f : Flat} → IsBegun accounts way f → (x : ProcName) (p : Process)
    → running f x ≡ Some p → is_confined accounts way f x ≡ true → is_bound accounts way p ≡ true
confined_is_bound {accounts} {way} {f} begun x p runs c =
    let by = confined_by accounts way f x c in
    let y = by.0 in
    let found = some_process (running f y) (is_bound accounts way) by.2 in
    let q : Process = found.0 in
    let there = runs_is_there (f.processes y) q found.1 in
    let here = runs_is_there (f.processes x) p runs in
    let job = bound_job begun.jobs begun.root y q there found.2 in
    let started = begun.jobs.started y q job.0 there (ap (λ b. b || has q.held job.0) job.1) in
    let under = under_all nat_eq same_name_found job.0 y x (sym (started.inside y q there) ∙ job.1) by.1 in
    let mine : has p.chain job.0 ≡ true = started.inside x p here ∙ under in
    is_bound_by accounts way p (in_a_job p job.0 mine) (job.2.inside x p here mine)
