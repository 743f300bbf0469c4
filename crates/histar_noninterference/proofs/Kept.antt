-- Each call keeps what holds after a job was started.
use Rattle.std.specs.Prelude.{Bool, None, Option, Some, [], cond, false, nat_eq, not, refl, true, ◌&&◌, ◌++◌, ◌+◌, ◌||◌, ◌∷◌, ◌≡◌, ◌≢◌, ◌⊎◌}
use Rattle.std.proofs.Common.{ap, inl, inr, sym, ◌∙◌}
use Rattle.std.proofs.lemmas.Bool.{not-true, true≢false, cases_Bool}
use Rattle.std.proofs.Math.Bool.{or-true}
use Rattle.histar_flat.specs.declared.calls.UnixCall.{UnixCall}
use Rattle.histar_flat.specs.Classes.{Process, carries, may_write}
use Rattle.histar_flat.specs.Classes.Class.{Scratch}
use Rattle.histar_flat.specs.Files.{get, insert}
use Rattle.histar_flat.specs.FlatCalls.{flat_after, inner_chain, next_child}
use Rattle.histar_flat.specs.FlatState.{Flat, IsTree, Node, class_of, is_dir, is_given, is_some_and, moved, with_node, with_process, with_renamed}
use Rattle.histar_flat.specs.FlatState.{without_below, without_process, writes}
use Rattle.histar_flat.specs.FlatState.Content.{Dir, File}
use Rattle.histar_base.specs.Paths.{same}
use Rattle.histar_flat.specs.PathOrder.{parent, under_path, under_process}
use Rattle.histar_flat.specs.Accounts.{Accounts, has}
use Rattle.histar_flat.specs.Words.{Name, Path, ProcName}
use Rattle.histar_flat.proofs.Changes.{EachChange, by_line, runs_is_there}
use Rattle.histar_flat.proofs.Choices.{chosen, left}
use Rattle.histar_flat.proofs.FileLemmas.{get-keep, get_new, get_other, same_name_found, same_path_found}
use Rattle.histar_flat.proofs.GivenNames.{given_stays, next_is_new}
use Rattle.histar_flat.proofs.JobLaws.{writes_of_job}
use Rattle.histar_flat.proofs.Trees.{nothing_below, tree_after}
use Rattle.histar_flat.proofs.Under.{apart}
use Rattle.histar_noninterference.specs.Comparison.{is_dir_of, lies_in_job}
use Rattle.histar_noninterference.proofs.Effects.{lies_cut, lies_inserted}
use Rattle.histar_noninterference.proofs.Relation.{IsStarted}
use Rattle.histar_noninterference.proofs.Renames.{gone_renamed, kept_renamed, lies_renamed, renamed}
use Rattle.histar_noninterference.proofs.TestLemmas.{has_longer, none_some}

-- after a process is put, each process is that one, or was there before
pub put_cases : (f : Flat) (me : ProcName) (p : Process) (q : ProcName) (y : Process) → (with_process f me p).processes q ≡ Some y
    → ((me ≡ q) × (p ≡ y)) ⊎ (f.processes q ≡ Some y)
put_cases f me p q y e = elim (same_name_found me q) [
  | inl t ↦ inl (t.1, chosen (same me q) p y (f.processes q) t.0 e)
  | inr t ↦ inr (sym (ap (λ b. cond b (Some p) (f.processes q)) t.0) ∙ e)
]

-- after a birth, each process is the child, its parent, or was there before
pub born_cases : (f : Flat) (me : ProcName) (p : Process) (name : ProcName) (child : Process) (q : ProcName) (y : Process)
    → (with_process (with_process f me p) name child).processes q ≡ Some y
    → ((name ≡ q) × (child ≡ y)) ⊎ (((me ≡ q) × (p ≡ y)) ⊎ (f.processes q ≡ Some y))
born_cases f me p name child q y e = elim (put_cases (with_process f me p) name child q y e) [
  | inl t ↦ inl t
  | inr t ↦ inr (put_cases f me p q y t)
]

-- a file is no directory of the job
pub file_is_no_dir : (job : ProcName) (o : Option Node) → is_some_and o (λ n. not (is_dir n)) ≡ true → is_dir_of job o ≡ false
file_is_no_dir job None h = refl
file_is_no_dir job (Some x) h = ap (λ b. b && carries job x.class) (not-true (is_dir x) h)

-- the name of the job is no next child's
pub not_next : (job : ProcName) (f : Flat) → is_given f.processes job ≡ true → (me : ProcName) (p : Process) → f.processes me ≡ Some p
    → same job (next_child me p) ≡ false
not_next job f given me p here =
    apart nat_eq same_name_found job (next_child me p) (λ e. true≢false (sym given ∙ ap (is_given f.processes) e ∙ next_is_new f me p here))

module _ (job : ProcName) (f : Flat) (h : IsStarted job f) where
  -- the facts hold in another state too, if it is a tree, and the name of the job was given there
  abbrev pub IsKept : Flat → Type 0
  IsKept g = IsTree g → is_given g.processes job ≡ true → IsStarted job g

  -- they hold after something is made, or a file is written; a file of the job has to lie in the job
  pub kept_put : (q : Path) (x : Node) → is_dir_of job (get f.files q) ≡ false
      → (carries job x.class ≡ true → is_dir x ≡ false → lies_in_job job f.files q ≡ true) → IsKept (with_node f q x.class x.content)
  kept_put q x plain own tree given = record {
    tree = tree;
    given = given;
    files = λ r y e c file. lies_inserted job f.files q x plain r (elim (same_path_found r q) [
      | inl t ↦
          let found : Some x ≡ Some y = sym (get_new f.files q x) ∙ ap (get (insert f.files q x)) (sym t.1) ∙ e in
          let one : x ≡ y = cc in
          ap (lies_in_job job f.files) t.1 ∙ own (ap (λ z. carries job z.class) one ∙ c) (ap is_dir one ∙ file)
      | inr t ↦ h.files r y (sym (get_other f.files q x r t.1) ∙ e) c file
    ]);
    inside = h.inside;
    held = h.held;
  }

  -- they hold after something is removed with all below it
  kept_cut : (n : Name) (d : Path) → IsKept (without_below f (n ∷ d))
  kept_cut n d tree given = record {
    tree = tree;
    given = given;
    files = λ q y e c file.
        let left : cond (not (under_path (n ∷ d) q)) (get f.files q) None ≡ Some y = sym
        (get-keep f.files (λ t. not (under_path (n ∷ d) t)) q) ∙ e in
        elim (cases_Bool (under_path (n ∷ d) q)) [
          | inl u ↦ absurd (none_some y (sym (ap (λ b. cond (not b) (get f.files q) None) u) ∙ left))
          | inr u ↦ lies_cut job f.files (n ∷ d) q u ∙ h.files q y (sym (ap (λ b. cond (not b) (get f.files q) None) u) ∙ left) c file
        ];
    inside = h.inside;
    held = h.held;
  }

  -- they hold after a rename
  kept_rename : (n k : Name) (d : Path) → n ≢ k → get f.files (k ∷ d) ≡ None → IsKept (with_renamed f (n ∷ d) (k ∷ d))
  unfolding renamed
  kept_rename n k d ne free tree given = record {
    tree = tree;
    given = given;
    files = λ q y e c file. elim (cases_Bool (under_path (n ∷ d) q)) [
      | inl u ↦ absurd (none_some y (sym (gone_renamed job n k d ne f.files below q u) ∙ e))
      | inr u ↦
          lies_renamed job n k d ne f.files below q u
          ∙ h.files (moved (k ∷ d) (n ∷ d) q) y (sym (kept_renamed job n k d ne f.files below q u) ∙ e) c file
    ];
    inside = h.inside;
    held = h.held;
  }
    where
      below : (q : Path) → under_path (k ∷ d) q ≡ true → get f.files q ≡ None
      below = nothing_below f h.tree (k ∷ d) free

  -- they hold after processes change, if each is in the job and holds it only as allowed
  kept_processes : (ps : ProcName → Option Process)
      → ((q : ProcName) (y : Process) → ps q ≡ Some y → (has y.chain job ≡ under_process job q) ×
      (same (parent job) q ≡ false → has y.held job ≡ false))
      → IsKept (record f { processes = ps })
  kept_processes ps each tree given = record {
    tree = tree;
    given = given;
    files = h.files;
    inside = λ q y e. (each q y e).0;
    held = λ q y e. (each q y e).1;
  }

  module _ (me : ProcName) (p : Process) (here : f.processes me ≡ Some p) where
    -- a process may be replaced by one that is in the same jobs and holds no more
    instead : (q : Process) → q.chain ≡ p.chain → (has p.held job ≡ false → has q.held job ≡ false)
        → (has q.chain job ≡ under_process job me) × (same (parent job) me ≡ false → has q.held job ≡ false)
    instead q jobs less = (ap (λ js. has js job) jobs ∙ h.inside me p here, λ out. less (h.held me p here out))

    kept_process : (q : Process) → q.chain ≡ p.chain → (has p.held job ≡ false → has q.held job ≡ false) → IsKept (with_process f me q)
    kept_process q jobs less = kept_processes (with_process f me q).processes (λ x y e. elim (put_cases f me q x y e) [
      | inl t ↦ let is =
          instead q jobs less in (
            ap (λ z. has z.chain job) (sym t.1) ∙ is.0 ∙ ap (under_process job) t.0,
            λ out. ap (λ z. has z.held job)
                (sym t.1) ∙ is.1 (ap (same (parent job)) t.0 ∙ out),
          )
      | inr t ↦ (h.inside x y t, h.held x y t)
    ])

    -- they hold after a child is born
    pub kept_birth : (q child : Process) → q.chain ≡ p.chain → (has p.held job ≡ false → has q.held job ≡ false)
        → has child.chain job ≡ has p.chain job → has child.held job ≡ false
        → IsKept (with_process (with_process f me q) (next_child me p) child)
    kept_birth q child jobs less same_jobs holds = kept_processes (with_process (with_process f me q) (next_child me p) child).processes
        (λ x y e. elim (born_cases f me q (next_child me p) child x y e) [
          | inl t ↦ (
            ap (λ z. has z.chain job) (sym t.1) ∙ same_jobs ∙ h.inside me p here
                ∙ sym (ap (λ b. b || under_process job me) (not_next job f h.given me p here)) ∙ ap (under_process job) t.0,
            λ out. ap (λ z. has z.held job) (sym t.1) ∙ holds,
          )
          | inr v ↦ elim v [
            | inl t ↦ let is =
                instead q jobs less in (
                  ap (λ z. has z.chain job) (sym t.1) ∙ is.0 ∙ ap (under_process job) t.0,
                  λ out. ap (λ z. has z.held job)
                      (sym t.1) ∙ is.1 (ap (same (parent job)) t.0 ∙ out),
                )
            | inr t ↦ (h.inside x y t, h.held x y t)
          ]
        ])

module _ (job : ProcName) (accounts : Accounts) (f : Flat) (h : IsStarted job f) (me : ProcName) (p : Process)
    (here : f.processes me ≡ Some p) where
  -- what a process of the job writes is a directory of the job, or lies in the job
  pub place : has p.chain job ≡ true → (q : Path) → writes accounts f p q ≡ true
      → (is_dir_of job (get f.files q) || lies_in_job job f.files q) ≡ true
  place i q = by (get f.files q) refl
    where
      dir : (n : Node) (b : Bool) → is_dir n ≡ b → get f.files q ≡ Some n → carries job n.class ≡ true
          → ((is_dir n && carries job n.class) || lies_in_job job f.files q) ≡ true
      dir n true e at c = ap (λ b. (b && carries job n.class) || lies_in_job job f.files q) e ∙ ap (λ b. b || lies_in_job job f.files q) c
      dir n false e at c = ap (λ b. (is_dir n && carries job n.class) || b) (h.files q n at c e) ∙ or-true (is_dir n && carries job n.class)

      by : (x : Option Node) → get f.files q ≡ x → is_some_and x (λ n. may_write accounts p n.class) ≡ true
          → (is_dir_of job x || lies_in_job job f.files q) ≡ true
      by None at w = absurd (true≢false (sym w))
      by (Some n) at w = dir n (is_dir n) refl at (writes_of_job accounts p job i n.class w)

  own_file : (q : Path) (o : Option Node) → get f.files q ≡ o → is_some_and o (λ n. not (is_dir n)) ≡ true → carries job (class_of o) ≡ true
      → lies_in_job job f.files q ≡ true
  own_file q None at e c = absurd (true≢false (sym e))
  own_file q (Some x) at e c = h.files q x at c (not-true (is_dir x) e)

  started_changes : (call : UnixCall) → EachChange accounts f me p call (IsKept job f h)
  unfolding own_file kept_birth
  started_changes call = record {
    stays = λ tree given. h;
    makes = λ n d x walked free w own mode made_is. kept_put job f h (n ∷ d) x (ap (is_dir_of job) free) (λ c file. place (own job c) d w);
    overwrites = λ n d bytes file w. kept_put job f h (n ∷ d) (record { class = class_of (get f.files (n ∷ d)); content = File bytes })
        (file_is_no_dir job (get f.files (n ∷ d)) file) (λ c k. own_file (n ∷ d) (get f.files (n ∷ d)) refl file c);
    cuts = λ n d takes w. kept_cut job f h n d;
    renames = λ n k d takes ne free w. kept_rename job f h n k d ne free;
    spawns = λ is. kept_birth job f h me p here (record p { born = p.born + 1 })
        (record { user = p.user; chain = p.chain; held = []; exited = None; born = 0 }) refl (λ e. e) refl refl;
    exits = λ n is. kept_process job f h me p here (record p { exited = Some n }) refl (λ e. e);
    logs_in = λ name is known free. kept_process job f h me p here (record p { user = name; held = [] }) refl (λ e. refl);
    kills = λ n. kept_processes job f h (without_process f (n ∷ me)).processes (λ q y e.
        let was = left (under_process (n ∷ me) q) (f.processes q) y e in (h.inside q y was, h.held q y was));
    wraps = λ n d is walked free w named tree given.
        let x : Node = record { class = Scratch p.user (inner_chain me p); content = Dir } in
        let made = kept_put job f h (n ∷ d) x (ap (is_dir_of job) free) (λ c file. absurd (true≢false file))
        (record { root = tree.root; below = tree.below }) h.given in
        kept_birth job (with_node f (n ∷ d) x.class x.content) made me p here
        (record p { held = p.held ++ next_child me p ∷ []; born = p.born + 1 })
        (record { user = p.user; chain = inner_chain me p; held = []; exited = None; born = 0 }) refl
        (λ e. has_longer p.held (next_child me p) job (not_next job f h.given me p here) ∙ e)
        (has_longer p.chain (next_child me p) job (not_next job f h.given me p here)) refl tree given;
  }

-- What holds after a job was started holds after each line.
pub started_after : (job : ProcName) (accounts : Accounts) (f : Flat) (me : ProcName) (call : UnixCall) → IsStarted job f
    → IsStarted job (flat_after accounts f me call)
started_after job accounts f me call h =
    by_line accounts f me call (IsKept job f h) (λ tree given. h)
    (λ p running. started_changes job accounts f h me p (runs_is_there (f.processes me) p running) call)
    (tree_after f h.tree accounts me call) (given_stays accounts f me call job h.given)
