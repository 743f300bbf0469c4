-- The jobs that keep a class secret: all processes that know such a job may read the class. Each scratch class has one.
use Rattle.std.specs.Prelude.{◌≡◌, ◌≢◌, ◌⊎◌, Bool, true, false, not, ◌&&◌, ◌||◌, cond, List, [], ◌∷◌, ◌++◌, Option, Some, None, if◌then◌else◌, refl}
use Rattle.std.specs.List.{list_all}
use Rattle.std.proofs.Common.{ap, sym, ◌∙◌, subst, inl, inr}
use Rattle.std.proofs.lemmas.Bool.{true≢false, or_cases, cases_Bool}
use Rattle.std.proofs.Math.Bool.{or-true}
use Rattle.histar_flat.specs.declared.calls.CallLine.{CallLine}
use Rattle.histar_flat.specs.declared.calls.Mode.{Mode}
use Rattle.histar_flat.specs.declared.calls.Mode.TheVariants as modes
use Rattle.histar_flat.specs.declared.calls.UnixCall.{UnixCall}
use Rattle.histar_flat.specs.declared.calls.UnixCall.TheVariants.{Wrap}
use Rattle.histar_flat.specs.Words.{Name, Path, ProcName}
use Rattle.histar_base.specs.Paths.{same}
use Rattle.histar_flat.specs.PathOrder.{under_path, under_process}
use Rattle.histar_flat.specs.Accounts.{Accounts, has, is_member}
use Rattle.histar_flat.specs.Files.{get, insert}
use Rattle.histar_flat.specs.Classes.{Class, Process, carries, class_made, free_class, is_free, knows, may_read, nobody}
use Rattle.histar_flat.specs.Classes.Class.{Private, Readable, Scratch, Grouped}
use Rattle.histar_flat.specs.FlatState.{Flat, Node, class_of, is_given, moved, with_node, with_process}
use Rattle.histar_flat.specs.FlatState.Content.{Dir, File}
use Rattle.histar_flat.specs.FlatCalls.{changed, class_or_open, flat_after, inner_chain, next_child}
use Rattle.histar_flat.specs.JobLaws.{is_scratch}
use Rattle.histar_flat.specs.Laws.{NamesAreGiven}
use Rattle.histar_flat.specs.Meaning.{boot, first_process, first_user, flat_end}
use Rattle.histar_flat.proofs.Changes.{EachChange, by_line, runs_is_there}
use Rattle.histar_flat.proofs.Choices.{kept, left}
use Rattle.histar_flat.proofs.FileLemmas.{get-keep, get_new, get_other, same_itself, same_path_found}
use Rattle.histar_flat.proofs.GivenNames.{given_after, given_stays, longer_has, next_is_new}
use Rattle.histar_flat.proofs.Renaming.{get_renamed}
use Rattle.histar_flat.proofs.Trees.{nothing_below}
use Rattle.histar_flat.proofs.WrappedJobs.{has_last}
use Rattle.histar_noninterference.proofs.Kept.{born_cases, put_cases}
use Rattle.histar_secrecy.specs.Ways.{reads_all}
use Rattle.histar_secrecy.specs.Roles.{holding_none}
use Rattle.histar_secrecy.proofs.Knowing.{AreJobs, jobs_after, jobs_at_start}
use Rattle.histar_secrecy.proofs.Readers.{in_a_job, reads_as, reads_inside}
use Rattle.histar_secrecy.proofs.Names.{child_of, grown, login_of, starter_of}

-- a list of jobs with one more keeps its jobs
pub longer_keeps : (jobs : List ProcName) (last job : ProcName) → has jobs job ≡ true → has (jobs ++ last ∷ []) job ≡ true
longer_keeps [] last job h = absurd (true≢false (sym h))
longer_keeps (k ∷ jobs) last job h = elim (or_cases (same job k) (has jobs job) h) [
  | inl t ↦ ap (λ b. b || has (jobs ++ last ∷ []) job) t
  | inr t ↦ ap (λ b. same job k || b) (longer_keeps jobs last job t) ∙ or-true (same job k)
]

-- if each member of a list passes a test, all do
pub all_if : (jobs : List ProcName) (test : ProcName → Bool) → ((job : ProcName) → has jobs job ≡ true → test job ≡ true) → list_all test jobs ≡ true
all_if [] test each = refl
all_if (k ∷ jobs) test each =
    λ i. each k (ap (λ b. b || has jobs k) (same_itself k)) i
    && all_if jobs test (λ job h. each job (ap (λ b. same job k || b) h ∙ or-true (same job k))) i

module _ (accounts : Accounts) (class : Class) (job : ProcName) where
  -- A process in the job may read the class by the jobs that it is in, and one that holds the job may read it.
  pub record AreReaders (s : Flat) : Type 0 where
    pub inside : (x : ProcName) (y : Process) → s.processes x ≡ Some y → has y.chain job ≡ true → may_read accounts (holding_none y) class ≡ true
    pub holding : (x : ProcName) (y : Process) → s.processes x ≡ Some y → has y.held job ≡ true → may_read accounts y class ≡ true

-- the fact holds after one process is put
readers_put : {accounts : Accounts} {class : Class} {job : ProcName} {s : Flat} → AreReaders accounts class job s → (me : ProcName) (q : Process)
    → (has q.chain job ≡ true → may_read accounts (holding_none q) class ≡ true) → (has q.held job ≡ true → may_read accounts q class ≡ true)
    → AreReaders accounts class job (with_process s me q)
readers_put {accounts} {class} {job} {s} h me q inside holding = record {
  inside = λ x y there i. elim (put_cases s me q x y there) [
    | inl t ↦ subst (λ z. may_read accounts (holding_none z) class ≡ true) t.1 (inside (ap (λ z. has z.chain job) t.1 ∙ i))
    | inr t ↦ h.inside x y t i
  ];
  holding = λ x y there i. elim (put_cases s me q x y there) [
    | inl t ↦ subst (λ z. may_read accounts z class ≡ true) t.1 (holding (ap (λ z. has z.held job) t.1 ∙ i))
    | inr t ↦ h.holding x y t i
  ];
}

module _ {accounts : Accounts} {class : Class} {job : ProcName} {s : Flat} (h : AreReaders accounts class job s)
    (given : is_given s.processes job ≡ true) (me : ProcName) (p : Process) (here : s.processes me ≡ Some p) where
  not_next : job ≢ next_child me p
  not_next e = true≢false (sym given ∙ ap (is_given s.processes) e ∙ next_is_new s me p here)

  -- the same holds for a process of the same user in the same jobs
  alike : (q : Process) → p.user ≡ q.user → p.chain ≡ q.chain → has q.chain job ≡ true → may_read accounts (holding_none q) class ≡ true
  alike q user chain i =
      reads_inside accounts p q class user (λ k u. ap (λ c. has c k) (sym chain) ∙ u) (h.inside me p here (ap (λ c. has c job) chain ∙ i))

  abbrev wrapper : Process
  wrapper = starter_of me p

  abbrev first : Process
  first = child_of p (inner_chain me p)

  -- the fact holds after a job was started
  readers_wrapped : AreReaders accounts class job (with_process (with_process s me wrapper) (next_child me p) first)
  readers_wrapped =
      readers_put (readers_put h me wrapper (alike wrapper refl refl) holds) (next_child me p) first in_it (λ i. absurd (true≢false (sym i)))
    where
      holds : has (p.held ++ next_child me p ∷ []) job ≡ true → may_read accounts wrapper class ≡ true
      holds i = elim (longer_has p.held (next_child me p) job i) [
        | inl t ↦ reads_as accounts p wrapper class refl (λ k c u. elim (or_cases (has p.chain k) (has p.held k) u) [
          | inl v ↦ ap (λ b. b || has (p.held ++ next_child me p ∷ []) k) v
          | inr v ↦ ap (λ b. has p.chain k || b) (longer_keeps p.held (next_child me p) k v) ∙ or-true (has p.chain k)
        ]) (h.holding me p here t)
        | inr t ↦ absurd (not_next t)
      ]

      in_it : has (inner_chain me p) job ≡ true → may_read accounts (holding_none first) class ≡ true
      in_it i = elim (longer_has p.chain (next_child me p) job i) [
        | inl t ↦ reads_inside accounts p first class refl (λ k u. longer_keeps p.chain (next_child me p) k u) (h.inside me p here t)
        | inr t ↦ absurd (not_next t)
      ]

  readers_changes : (call : UnixCall) → EachChange accounts s me p call (AreReaders accounts class job)
  unfolding readers_wrapped
  readers_changes call = record {
    stays = h;
    makes = λ n d x walked free w own mode made_is. record { inside = h.inside; holding = h.holding };
    overwrites = λ n d bytes file w. record { inside = h.inside; holding = h.holding };
    cuts = λ n d takes w. record { inside = h.inside; holding = h.holding };
    renames = λ n k d takes ne free w. record { inside = h.inside; holding = h.holding };
    spawns = λ is. readers_put
        (readers_put h me (grown p) (alike (grown p) refl refl) (λ i. reads_as accounts p (grown p) class refl (λ k c u. u) (h.holding me p here i)))
        (next_child me p) (child_of p p.chain)
        (alike (child_of p p.chain) refl refl) (λ i. absurd (true≢false (sym i)));
    exits = λ n is.
        readers_put h me (record p { exited = Some n }) (alike (record p { exited = Some n }) refl refl)
        (λ i. reads_as accounts p (record p { exited = Some n }) class refl (λ k c u. u) (h.holding me p here i));
    logs_in = λ name is known free.
        readers_put h me (login_of p name) (λ i. absurd (true≢false (sym free ∙ in_a_job p job i))) (λ i. absurd (true≢false (sym i)));
    kills = λ n. record {
      inside = λ x y there i. h.inside x y (left (under_process (n ∷ me) x) (s.processes x) y there) i;
      holding = λ x y there i. h.holding x y (left (under_process (n ∷ me) x) (s.processes x) y there) i;
    };
    wraps = λ n d is walked free w named. record { inside = readers_wrapped.inside; holding = readers_wrapped.holding };
  }

-- The fact holds after each line.
pub readers_after : {accounts : Accounts} {class : Class} {job : ProcName} {s : Flat} → AreReaders accounts class job s
    → is_given s.processes job ≡ true
    → (me : ProcName) (call : UnixCall) → AreReaders accounts class job (flat_after accounts s me call)
readers_after {accounts} {class} {job} {s} h given me call =
    by_line accounts s me call (AreReaders accounts class job) h (λ p runs. readers_changes h given me p (runs_is_there (s.processes me) p runs) call)

-- the class has a root: one of its jobs, such that all processes that know it may read the class
pub record HasRoot (accounts : Accounts) (s : Flat) (class : Class) : Type 0 where
  pub job : ProcName
  pub carried : carries job class ≡ true
  pub given : is_given s.processes job ≡ true
  pub readers : AreReaders accounts class job s

-- a root stays one
pub root_after : (accounts : Accounts) (class : Class) (s : Flat) → HasRoot accounts s class → (me : ProcName) (call : UnixCall)
    → HasRoot accounts (flat_after accounts s me call) class
root_after accounts class s h me call = record {
  job = h.job;
  carried = h.carried;
  given = given_stays accounts s me call h.job h.given;
  readers = readers_after h.readers h.given me call;
}

-- each scratch class of a file or a directory has a root, and so has the one that each process in a job makes
pub record AreRooted (accounts : Accounts) (s : Flat) : Type 0 where
  pub classes : (q : Path) (n : Node) → get s.files q ≡ Some n → is_scratch n.class ≡ true → HasRoot accounts s n.class
  pub chains : (x : ProcName) (y : Process) → s.processes x ≡ Some y → is_free y ≡ false → HasRoot accounts s (Scratch y.user y.chain)

-- the same in a later state, where some of these roots were roots before
record AreRootedFrom (accounts : Accounts) (s g : Flat) : Type 0 where
  classes : (q : Path) (n : Node) → get g.files q ≡ Some n → is_scratch n.class ≡ true → HasRoot accounts s n.class ⊎ HasRoot accounts g n.class
  chains : (x : ProcName) (y : Process) → g.processes x ≡ Some y → is_free y ≡ false
      → HasRoot accounts s (Scratch y.user y.chain) ⊎ HasRoot accounts g (Scratch y.user y.chain)

module _ (accounts : Accounts) (s : Flat) (h : AreRooted accounts s) (jobs : AreJobs s) (me : ProcName) (p : Process)
    (here : s.processes me ≡ Some p) where
  -- a scratch class that is made is that of a process in jobs
  made_root : (mode : Mode) → is_scratch (class_or_open (class_made accounts p mode)) ≡ true
      → HasRoot accounts s (class_or_open (class_made accounts p mode))
  made_root mode scratch = elim (cases_Bool (is_free p)) [
    | inl free ↦
        let made = ap (λ b. is_scratch (class_or_open (if b then free_class accounts p mode else Some (Scratch p.user p.chain)))) free in
        absurd (true≢false (sym scratch ∙ made ∙ plain mode))
    | inr busy ↦
        subst (HasRoot accounts s) (sym (ap (λ b. class_or_open (if b then free_class accounts p mode else Some (Scratch p.user p.chain))) busy))
        (h.chains me p here busy)
  ]
    where
      by : (b : Bool) (c d : Option Class) → is_scratch (class_or_open c) ≡ false → is_scratch (class_or_open d) ≡ false
          → is_scratch (class_or_open (if b then c else d)) ≡ false
      by true c d u v = u
      by false c d u v = v

      plain : (m : Mode) → is_scratch (class_or_open (free_class accounts p m)) ≡ false
      plain modes.Open = refl
      plain modes.Private = by (same p.user nobody) None (Some (Private p.user)) refl refl
      plain modes.Readable = by (same p.user nobody) None (Some (Readable p.user)) refl refl
      plain (modes.Group group) = by (is_member accounts p.user group) (Some (Grouped group)) None refl refl

  -- the fact holds if only files change
  rooted_files : (g : Flat) → g.processes ≡ s.processes
      → ((q : Path) (n : Node) → get g.files q ≡ Some n → is_scratch n.class ≡ true → HasRoot accounts s n.class) → AreRootedFrom accounts s g
  rooted_files g still each = record {
    classes = λ q n at scratch. inl (each q n at scratch);
    chains = λ x y there busy. inl (h.chains x y (sym (ap (λ ps. ps x) still) ∙ there) busy);
  }

  rooted_put : (q : Path) (x : Node) → (is_scratch x.class ≡ true → HasRoot accounts s x.class) → (r : Path) (n : Node)
      → get (insert s.files q x) r ≡ Some n → is_scratch n.class ≡ true → HasRoot accounts s n.class
  rooted_put q x root r n at scratch = elim (same_path_found r q) [
    | inl t ↦
        let found : Some x ≡ Some n = sym (get_new s.files q x) ∙ ap (get (insert s.files q x)) (sym t.1) ∙ at in
        let one : x ≡ n = cc in
        subst (λ (z : Node). HasRoot accounts s z.class) one (root (ap (λ (z : Node). is_scratch z.class) one ∙ scratch))
    | inr t ↦ h.classes r n (sym (get_other s.files q x r t.1) ∙ at) scratch
  ]

  -- a file that is written keeps its class
  written_root : (q : Path) (o : Option Node) → get s.files q ≡ o → is_scratch (class_of o) ≡ true → HasRoot accounts s (class_of o)
  written_root q None at scratch = absurd (true≢false (sym scratch))
  written_root q (Some n) at scratch = h.classes q n at scratch

  -- the same if only processes change, and each has the user and the jobs of one before
  alike_root : (y z : Process) → y.user ≡ z.user → y.chain ≡ z.chain → (x : ProcName) → s.processes x ≡ Some y → is_free z ≡ false
      → HasRoot accounts s (Scratch z.user z.chain)
  alike_root y z user chain x there busy =
      subst (HasRoot accounts s) (λ i. Scratch (user i) (chain i))
      (h.chains x y there (ap (λ c. let b : Bool = elim c [ [] ↦ true | k ∷ ks ↦ false ] in b) chain ∙ busy))

  -- the same if one process changed
  rooted_one : (q : Process) → (is_free q ≡ false → HasRoot accounts s (Scratch q.user q.chain)) → AreRootedFrom accounts s (with_process s me q)
  rooted_one q root = record {
    classes = λ r n at scratch. inl (h.classes r n at scratch);
    chains = λ x y there busy. elim (put_cases s me q x y there) [
      | inl t ↦ inl (subst (λ z. HasRoot accounts s (Scratch z.user z.chain)) t.1 (root (ap is_free t.1 ∙ busy)))
      | inr t ↦ inl (h.chains x y t busy)
    ];
  }

  -- the same if a child was born
  rooted_birth : (q child : Process) → p.user ≡ q.user → p.chain ≡ q.chain
      → (is_free child ≡ false → HasRoot accounts s (Scratch child.user child.chain))
      → AreRootedFrom accounts s (with_process (with_process s me q) (next_child me p) child)
  rooted_birth q child user chain root = record {
    classes = λ r n at scratch. inl (h.classes r n at scratch);
    chains = λ x y there busy. elim (born_cases s me q (next_child me p) child x y there) [
      | inl t ↦ inl (subst (λ z. HasRoot accounts s (Scratch z.user z.chain)) t.1 (root (ap is_free t.1 ∙ busy)))
      | inr v ↦ elim v [
        | inl t ↦ inl (subst (λ z. HasRoot accounts s (Scratch z.user z.chain)) t.1 (alike_root p q user chain me here (ap is_free t.1 ∙ busy)))
        | inr t ↦ inl (h.chains x y t busy)
      ]
    ];
  }

  -- a job that was started is a root of what it makes
  module _ (n : Name) (d : Path) (names : NamesAreGiven (changed accounts s me p (Wrap (n ∷ d)))) where
    abbrev after : Flat
    after = changed accounts s me p (Wrap (n ∷ d))

    abbrev starter : Process
    starter = starter_of me p

    abbrev newborn : Process
    newborn = child_of p (inner_chain me p)

    -- no process that was there knows the new job
    unknown : (x : ProcName) (y : Process) → s.processes x ≡ Some y → knows y (next_child me p) ≡ true → ⊥
    unknown x y there k = true≢false (sym (jobs.names.of_known_jobs x y (next_child me p) there k) ∙ next_is_new s me p here)

    reads_its_own : (y : Process) → p.user ≡ y.user → ((job : ProcName) → has (inner_chain me p) job ≡ true → knows y job ≡ true)
        → may_read accounts y (Scratch p.user (inner_chain me p)) ≡ true
    reads_its_own y user all = λ i. (ap (λ u. same u p.user) (sym user) ∙ same_itself p.user) i && all_if (inner_chain me p) (knows y) all i

    new_root : HasRoot accounts after (Scratch p.user (inner_chain me p))
    new_root = record {
      job = next_child me p;
      carried = has_last p.chain (next_child me p);
      given =
          let before = cond (same me (next_child me p)) (Some starter) (s.processes (next_child me p)) in
          names.of_processes (next_child me p) newborn (ap (λ b. cond b (Some newborn) before) (same_itself (next_child me p)));
      readers = record {
        inside = λ x y there i. elim (born_cases s me starter (next_child me p) newborn x y there) [
          | inl t ↦ subst (λ z. may_read accounts (holding_none z) (Scratch p.user (inner_chain me p)) ≡ true) t.1
              (reads_its_own (holding_none newborn) refl (λ job u. ap (λ b. b || false) u))
          | inr v ↦ elim v [
            | inl t ↦ absurd (unknown me p here (ap (λ b. b || has p.held (next_child me p)) (ap (λ z. has z.chain (next_child me p)) t.1 ∙ i)))
            | inr t ↦ absurd (unknown x y t (ap (λ b. b || has y.held (next_child me p)) i))
          ]
        ];
        holding = λ x y there i. elim (born_cases s me starter (next_child me p) newborn x y there) [
          | inl t ↦ absurd (true≢false (sym (ap (λ z. has z.held (next_child me p)) t.1 ∙ i)))
          | inr v ↦ elim v [
            | inl t ↦ subst (λ z. may_read accounts z (Scratch p.user (inner_chain me p)) ≡ true) t.1 (reads_its_own starter refl knows_all)
            | inr t ↦ absurd (unknown x y t (ap (λ b. has y.chain (next_child me p) || b) i ∙ or-true (has y.chain (next_child me p))))
          ]
        ];
      };
    }
      where
        knows_all : (job : ProcName) → has (inner_chain me p) job ≡ true → knows starter job ≡ true
        knows_all job u = elim (longer_has p.chain (next_child me p) job u) [
          | inl v ↦ ap (λ b. b || has (p.held ++ next_child me p ∷ []) job) v
          | inr v ↦
              ap (λ b. has p.chain job || b) (ap (has (p.held ++ next_child me p ∷ [])) v ∙ has_last p.held (next_child me p))
              ∙ or-true (has p.chain job)
        ]

    rooted_wrap : AreRootedFrom accounts s after
    rooted_wrap = record {
      classes = λ q x at scratch. elim (same_path_found q (n ∷ d)) [
        | inl t ↦
            let found : Some dir ≡ Some x = sym (get_new s.files (n ∷ d) dir) ∙ ap (get (insert s.files (n ∷ d) dir)) (sym t.1) ∙ at in
            let one : dir ≡ x = cc in
            inr (subst (λ (z : Node). HasRoot accounts after z.class) one new_root)
        | inr t ↦ inl (h.classes q x (sym (get_other s.files (n ∷ d) dir q t.1) ∙ at) scratch)
      ];
      chains = λ x y there busy. elim (born_cases s me starter (next_child me p) newborn x y there) [
        | inl t ↦ inr (subst (λ z. HasRoot accounts after (Scratch z.user z.chain)) t.1 new_root)
        | inr v ↦ elim v [
          | inl t ↦
              inl (subst (λ z. HasRoot accounts s (Scratch z.user z.chain)) t.1
              (alike_root p starter refl refl me here (ap is_free t.1 ∙ busy)))
          | inr t ↦ inl (h.chains x y t busy)
        ]
      ];
    }
      where
        dir : Node
        dir = record { class = Scratch p.user (inner_chain me p); content = Dir }

  rooted_changes : (call : UnixCall) → EachChange accounts s me p call (λ g. NamesAreGiven g → AreRootedFrom accounts s g)
  unfolding rooted_wrap
  rooted_changes call = record {
    stays = λ names. rooted_files s refl h.classes;
    makes = λ n d x walked free w own mode made_is names. rooted_files (with_node s (n ∷ d) x.class x.content) refl
        (rooted_put (n ∷ d) x (λ scratch. subst (HasRoot accounts s) (sym made_is) (made_root mode (sym (ap is_scratch made_is) ∙ scratch))));
    overwrites = λ n d bytes file w names. rooted_files _ refl
        (rooted_put (n ∷ d) (record { class = class_of (get s.files (n ∷ d)); content = File bytes })
        (written_root (n ∷ d) (get s.files (n ∷ d)) refl));
    cuts = λ n d takes w names. rooted_files _ refl (λ q x at scratch. h.classes q x
        (kept (not (under_path (n ∷ d) q)) (get s.files q) x (sym (get-keep s.files (λ t. not (under_path (n ∷ d) t)) q) ∙ at)) scratch);
    renames = λ n k d takes ne free w names. rooted_files _ refl (λ q x at scratch. h.classes (moved (k ∷ d) (n ∷ d) q) x
        (left (under_path (n ∷ d) q) (get s.files (moved (k ∷ d) (n ∷ d) q)) x
        (sym (get_renamed n k d ne s.files (nothing_below s jobs.tree (k ∷ d) free) q) ∙ at)) scratch);
    spawns = λ is names. rooted_birth (grown p) (child_of p p.chain) refl refl (h.chains me p here);
    exits = λ n is names. rooted_one (record p { exited = Some n }) (h.chains me p here);
    logs_in = λ name is known free names. rooted_one (login_of p name) (λ busy. absurd (true≢false (sym free ∙ busy)));
    kills = λ n names. record {
      classes = λ r x at scratch. inl (h.classes r x at scratch);
      chains = λ x y there busy. inl (h.chains x y (left (under_process (n ∷ me) x) (s.processes x) y there) busy);
    };
    wraps = λ n d is walked free w named names. rooted_wrap n d names;
  }

-- The fact holds after each line.
rooted_after : (accounts : Accounts) (s : Flat) → AreRooted accounts s → AreJobs s → (me : ProcName) (call : UnixCall)
    → AreRooted accounts (flat_after accounts s me call)
rooted_after accounts s h jobs me call = record {
  classes = λ q n at scratch. elim (from.classes q n at scratch) [
    | inl t ↦ root_after accounts n.class s t me call
    | inr t ↦ t
  ];
  chains = λ x y there busy. elim (from.chains x y there busy) [
    | inl t ↦ root_after accounts (Scratch y.user y.chain) s t me call
    | inr t ↦ t
  ];
}
  where
    from : AreRootedFrom accounts s (flat_after accounts s me call)
    from = by_line accounts s me call (λ g. NamesAreGiven g → AreRootedFrom accounts s g)
        (λ names. record { classes = λ q n at scratch. inl (h.classes q n at scratch); chains = λ x y there busy. inl (h.chains x y there busy) })
        (λ p runs. rooted_changes accounts s h jobs me p (runs_is_there (s.processes me) p runs) call)
        (given_after accounts s me call jobs.tree jobs.names)

-- At the start nothing is scratch, and no process is in a job.
rooted_at_start : (accounts : Accounts) → AreRooted accounts (boot accounts)
rooted_at_start accounts = record { classes = none; chains = free }
  where
    slash : Node
    slash = record { class = Readable (first_user accounts.users); content = Dir }

    none : (q : Path) (n : Node) → get (boot accounts).files q ≡ Some n → is_scratch n.class ≡ true → HasRoot accounts (boot accounts) n.class
    none [] n at scratch =
        let found : Some (record { class = Readable (first_user accounts.users); content = Dir }) ≡ Some n = at in
        let one : record { class = Readable (first_user accounts.users); content = Dir } ≡ n = cc in
        absurd (true≢false (sym scratch ∙ ap (λ (z : Node). is_scratch z.class) (sym one)))
    none (m ∷ d) n at scratch =
        let gone : None ≡ Some n = sym (get_other Rattle.histar_flat.specs.Files.empty [] slash (m ∷ d) (λ e. cc)) ∙ at in absurd (cc)

    free : (x : ProcName) (y : Process) → (boot accounts).processes x ≡ Some y → is_free y ≡ false
        → HasRoot accounts (boot accounts) (Scratch y.user y.chain)
    free [] y at busy =
        let found : Some first_process ≡ Some y = at in
        let one : first_process ≡ y = cc in
        absurd (true≢false (ap is_free one ∙ busy))
    free (m ∷ x) y at busy = let gone : None ≡ Some y = at in absurd (cc)

-- In each state that calls lead to, each scratch class has a root.
pub rooted_at_end : (accounts : Accounts) (calls : List CallLine) → AreRooted accounts (flat_end accounts (boot accounts) calls)
rooted_at_end accounts calls = go calls (boot accounts) (jobs_at_start accounts) (rooted_at_start accounts)
  where
    go : (calls : List CallLine) (s : Flat) → AreJobs s → AreRooted accounts s → AreRooted accounts (flat_end accounts s calls)
    go [] s jobs h = h
    go (c ∷ calls) s jobs h =
        go calls (flat_after accounts s c.process c.call) (jobs_after accounts s jobs c.process c.call)
        (rooted_after accounts s h jobs c.process c.call)

-- ---- ways

-- each scratch class of the way has a root
abbrev pub AreRootedOn : Accounts → Flat → List Class → Type 0
AreRootedOn accounts s [] = Unit {0}
AreRootedOn accounts s (c ∷ way) = (is_scratch c ≡ true → HasRoot accounts s c) × AreRootedOn accounts s way

pub roots_after : (accounts : Accounts) (s : Flat) (me : ProcName) (call : UnixCall) (way : List Class) → AreRootedOn accounts s way
    → AreRootedOn accounts (flat_after accounts s me call) way
roots_after accounts s me call [] h = tt
roots_after accounts s me call (c ∷ way) h = (λ scratch. root_after accounts c s (h.0 scratch) me call, roots_after accounts s me call way h.1)

module _ (accounts : Accounts) (way : List Class) (job : ProcName) where
  -- A process in the job reads all of the way by the jobs that it is in, and one that holds the job reads all of it.
  pub record AreWayReaders (s : Flat) : Type 0 where
    pub inside : (x : ProcName) (y : Process) → s.processes x ≡ Some y → has y.chain job ≡ true → reads_all accounts way (holding_none y) ≡ true
    pub holding : (x : ProcName) (y : Process) → s.processes x ≡ Some y → has y.held job ≡ true → reads_all accounts way y ≡ true

-- of no class all are readers; of one class more, if all are readers of that class
pub no_class : {accounts : Accounts} {job : ProcName} {s : Flat} → AreWayReaders accounts [] job s
no_class = record { inside = λ x y there i. refl; holding = λ x y there i. refl }

pub one_class_more : {accounts : Accounts} {class : Class} {way : List Class} {job : ProcName} {s : Flat} → AreReaders accounts class job s
    → AreWayReaders accounts way job s → AreWayReaders accounts (class ∷ way) job s
one_class_more one rest = record {
  inside = λ x y there i j. one.inside x y there i j && rest.inside x y there i j;
  holding = λ x y there i j. one.holding x y there i j && rest.holding x y there i j;
}
