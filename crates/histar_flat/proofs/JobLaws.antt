-- A process in a job changes nothing outside its scratch directories, no process but itself and those below it, and reads what its user may
-- read.
use Rattle.std.specs.Prelude.{◌≡◌, ◌≢◌, ◌⊎◌, ℕ, ◌+◌, Bool, true, false, cond, not, ◌&&◌, ◌||◌, List, [], ◌∷◌, ◌++◌, Option, Some, None, refl, nat_eq}
use Rattle.std.specs.List.{list_all}
use Rattle.std.proofs.Common.{ap, inl, inr, sym, ◌∙◌, subst}
use Rattle.std.proofs.lemmas.Bool.{true≢false, and_parts, or_parts, cases_Bool}
use Rattle.std.proofs.Math.Bool.{or-true}
use Rattle.histar_base.specs.Refusals.{◌orelse◌, unless}
use Rattle.histar_flat.specs.declared.calls.UnixCall.{UnixCall}
use Rattle.histar_flat.specs.declared.calls.UnixCall.TheVariants.{Read}
use Rattle.histar_flat.specs.declared.replies.Errno.{Errno}
use Rattle.histar_flat.specs.declared.replies.Errno.TheVariants.{EACCES, EISDIR, ENOENT, ENOTDIR}
use Rattle.histar_flat.specs.Words.{Name, Path, ProcName}
use Rattle.histar_base.specs.Paths.{same}
use Rattle.histar_flat.specs.PathOrder.{under_path, under_process}
use Rattle.histar_flat.specs.Accounts.{Accounts, has, is_member}
use Rattle.histar_flat.specs.Files.{get}
use Rattle.histar_flat.specs.Classes.{Class, Process, carries, is_free, knows, may_read, may_write}
use Rattle.histar_flat.specs.Classes.Class.{Open, Private, Readable, Scratch, Grouped}
use Rattle.histar_flat.specs.FlatState.{Flat, IsTree, Node, is_some_and, is_there, is_dir_at, is_file_at, reads, writes, into, moved, with_process}
use Rattle.histar_flat.specs.FlatCalls.{inner_chain, next_child, refused, reply_or, reply_by, flat_after, if_running, running}
use Rattle.histar_flat.specs.FlatCalls as flat
use Rattle.histar_flat.specs.JobLaws.{lies_in_scratch, runs_in, JobsStayInside, CallsChangeTheirOwnTree, is_scratch, lies_in_some_scratch}
use Rattle.histar_flat.specs.JobLaws.{out_of_jobs, JobsReadAsTheirUser}
use Rattle.histar_flat.proofs.FileLemmas.{same_itself, same_name_found, same_path_found, get_other, get-keep}
use Rattle.histar_flat.proofs.Under.{under_itself, under_child}
use Rattle.histar_flat.proofs.Renaming.{stays, get_renamed}
use Rattle.histar_flat.proofs.Changes.{EachChange, by_line, runs_is_there}
use Rattle.histar_flat.proofs.Trees.{nothing_below, tree_after}
use Rattle.histar_flat.proofs.Laws.{not_running_is_gone}

-- ---- files

-- if all jobs of a process are among these, each of them is
in_all : (jobs chain : List ProcName) (job : ProcName) → list_all (has jobs) chain ≡ true → has chain job ≡ true → has jobs job ≡ true
in_all jobs [] job all known = absurd (true≢false (sym known))
in_all jobs (k ∷ chain) job all known =
    let parts = and_parts (has jobs k) (list_all (has jobs) chain) all in
    elim (same_name_found job k) [
      | inl e ↦ ap (has jobs) e.1 ∙ parts.0
      | inr e ↦ in_all jobs chain job parts.1 (sym (ap (λ b. b || has chain job) e.0) ∙ known)
    ]

-- a process in a job is not in no job
not_free : (chain : List ProcName) (job : ProcName) → has chain job ≡ true
    → (let free : Bool = elim chain [ [] ↦ true | k ∷ ks ↦ false ] in free) ≡ false
not_free [] job known = absurd (true≢false (sym known))
not_free (k ∷ ks) job known = refl

module _ (accounts : Accounts) (p : Process) (job : ProcName) (inside : has p.chain job ≡ true) where
  busy : is_free p ≡ false
  busy = not_free p.chain job inside

  -- what a process in the job may write is of the job
  pub writes_of_job : (class : Class) → may_write accounts p class ≡ true → carries job class ≡ true
  writes_of_job (Private owner) w = absurd (true≢false (sym (and_parts (same p.user owner) (is_free p) w).1 ∙ busy))
  writes_of_job (Readable owner) w = absurd (true≢false (sym (and_parts (same p.user owner) (is_free p) w).1 ∙ busy))
  writes_of_job Open w = absurd (true≢false (sym w ∙ busy))
  writes_of_job (Scratch owner jobs) w =
      in_all jobs p.chain job (and_parts (same p.user owner && list_all (knows p) jobs) (list_all (has jobs) p.chain) w).1 inside
  writes_of_job (Grouped group) w = absurd (true≢false (sym (and_parts (is_member accounts p.user group) (is_free p) w).1 ∙ busy))

  -- what a process in the job may write lies in a scratch directory
  written_lies : (f : Flat) (q : Path) → writes accounts f p q ≡ true → lies_in_scratch f job q ≡ true
  written_lies f [] w = by (get f.files []) w
    where
      by : (o : Option Node) → is_some_and o (λ n. may_write accounts p n.class) ≡ true → is_some_and o (λ n. carries job n.class) ≡ true
      by None e = absurd (true≢false (sym e))
      by (Some n) e = writes_of_job n.class e
  written_lies f (m ∷ d) w = ap (λ b. b || lies_in_scratch f job d) (by (get f.files (m ∷ d)) w)
    where
      by : (o : Option Node) → is_some_and o (λ n. may_write accounts p n.class) ≡ true → is_some_and o (λ n. carries job n.class) ≡ true
      by None e = absurd (true≢false (sym e))
      by (Some n) e = writes_of_job n.class e

-- what lies below a path in a scratch directory lies in it too
lies_below : (f : Flat) (job : ProcName) (d q : Path) → lies_in_scratch f job d ≡ true → under_path d q ≡ true → lies_in_scratch f job q ≡ true
lies_below f job d [] lies under = elim (same_path_found d []) [
  | inl e ↦ subst (λ r. lies_in_scratch f job r ≡ true) e.1 lies
  | inr e ↦ absurd (true≢false (sym under ∙ e.0))
]
lies_below f job d (n ∷ q) lies under = elim (same_path_found d (n ∷ q)) [
  | inl e ↦ subst (λ r. lies_in_scratch f job r ≡ true) e.1 lies
  | inr e ↦
      ap (λ b. is_some_and (get f.files (n ∷ q)) (λ x. carries job x.class) || b)
      (lies_below f job d q lies (sym (ap (λ b. b || under_path d q) e.0) ∙ under))
      ∙ or-true (is_some_and (get f.files (n ∷ q)) (λ x. carries job x.class))
]

-- an entry of a scratch directory lies in it
lies_in : (f : Flat) (job : ProcName) (n : Name) (d : Path) → lies_in_scratch f job d ≡ true → lies_in_scratch f job (n ∷ d) ≡ true
lies_in f job n d lies =
    ap (λ b. is_some_and (get f.files (n ∷ d)) (λ x. carries job x.class) || b) lies
    ∙ or-true (is_some_and (get f.files (n ∷ d)) (λ x. carries job x.class))

module _ (accounts : Accounts) (f : Flat) (tree : IsTree f) (job : ProcName) (q : Path) (outside : lies_in_scratch f job q ≡ false) where
  -- the path is as it was
  abbrev IsKept : Flat → Type 0
  IsKept g = get g.files q ≡ get f.files q

  module _ (me : ProcName) (p : Process) (inside : has p.chain job ≡ true) where
    -- the path is no entry of a directory that the process may write
    apart : (n : Name) (d : Path) → writes accounts f p d ≡ true → q ≢ n ∷ d
    apart n d w e = true≢false (sym (lies_in f job n d (written_lies accounts p job inside f d w)) ∙ ap (lies_in_scratch f job) (sym e) ∙ outside)

    not_below : (n : Name) (d : Path) → writes accounts f p d ≡ true → under_path (n ∷ d) q ≡ false
    not_below n d w = elim (cases_Bool (under_path (n ∷ d) q)) [
      | inl u ↦ absurd (true≢false (sym (lies_below f job (n ∷ d) q (lies_in f job n d (written_lies accounts p job inside f d w)) u) ∙ outside))
      | inr u ↦ u
    ]

    not_there : (n : Name) (d : Path) → writes accounts f p (n ∷ d) ≡ true → q ≢ n ∷ d
    not_there n d w e = true≢false (sym (written_lies accounts p job inside f (n ∷ d) w) ∙ ap (lies_in_scratch f job) (sym e) ∙ outside)

    inside_changes : (call : UnixCall) → EachChange accounts f me p call IsKept
    inside_changes call = record {
      stays = refl;
      makes = λ n d x walked free w own mode made_is. get_other f.files (n ∷ d) x q (apart n d w);
      overwrites = λ n d bytes file w. get_other f.files (n ∷ d) _ q (not_there n d w);
      cuts = λ n d away w. get-keep f.files (λ t. not (under_path (n ∷ d) t)) q ∙ ap (λ b. cond (not b) (get f.files q) None) (not_below n d w);
      renames = λ n k d away other free w.
          get_renamed n k d other f.files (nothing_below f tree (k ∷ d) free) q
          ∙ ap (λ b. cond b None (get f.files (moved (k ∷ d) (n ∷ d) q))) (not_below n d w)
          ∙ ap (get f.files) (stays (k ∷ d) (n ∷ d) q (not_below k d w));
      spawns = λ is. refl;
      exits = λ n is. refl;
      logs_in = λ name is known free. refl;
      kills = λ n. refl;
      wraps = λ n d is walked free w named. get_other f.files (n ∷ d) _ q (apart n d w);
    }

  -- A call of a process in the job leaves the path as it is.
  kept_by_job : (me : ProcName) (call : UnixCall) → runs_in f me job ≡ true → IsKept (flat_after accounts f me call)
  kept_by_job me call inside =
      by_line accounts f me call IsKept refl (λ p runs. inside_changes me p (sym (ap (λ r. is_some_and r (λ p. has p.chain job)) runs) ∙ inside) call)

-- a call of a process in the job, or of one that doesn't run, leaves the path as it is
kept_by_one : (accounts : Accounts) (f : Flat) → IsTree f → (job : ProcName) (me : ProcName) (call : UnixCall)
    → (running f me ≡ None) ⊎ (runs_in f me job ≡ true)
    → (q : Path) → lies_in_scratch f job q ≡ false → get (flat_after accounts f me call).files q ≡ get f.files q
kept_by_one accounts f tree job me call (inl gone) q outside = ap (λ (g : Flat). get g.files q) (not_running_is_gone accounts f me call gone).1
kept_by_one accounts f tree job me call (inr inside) q outside = kept_by_job accounts f tree job q outside me call inside

-- after such a call the path lies outside the scratch directories as before
still_outside : (accounts : Accounts) (f : Flat) → IsTree f → (job : ProcName) (me : ProcName) (call : UnixCall)
    → (running f me ≡ None) ⊎ (runs_in f me job ≡ true)
    → (q : Path) → lies_in_scratch f job q ≡ false → lies_in_scratch (flat_after accounts f me call) job q ≡ false
still_outside accounts f tree job me call own [] outside =
    ap (λ (o : Option Node). is_some_and o (λ n. carries job n.class)) (kept_by_one accounts f tree job me call own [] outside) ∙ outside
still_outside accounts f tree job me call own (n ∷ d) outside =
    let above =
    still_outside accounts f tree job me call own d
    (by (is_some_and (get f.files (n ∷ d)) (λ x. carries job x.class)) (lies_in_scratch f job d) outside) in
    (λ i. is_some_and (kept_by_one accounts f tree job me call own (n ∷ d) outside i) (λ x. carries job x.class)
    || (above
    ∙ sym (by (is_some_and (get f.files (n ∷ d)) (λ x. carries job x.class)) (lies_in_scratch f job d)
    outside)) i) ∙ outside
  where
    by : (a b : Bool) → (a || b) ≡ false → b ≡ false
    by true b e = absurd (true≢false e)
    by false b e = e

-- Whatever the processes of a job call, each path that doesn't lie in a scratch directory of the job is as it was.
pub jobs_stay_inside : JobsStayInside
jobs_stay_inside accounts f tree job [] own q outside = refl
jobs_stay_inside accounts f tree job (c ∷ calls) own q outside =
    jobs_stay_inside accounts (flat_after accounts f c.process c.call) (tree_after f tree accounts c.process c.call) job
    calls own.1 q (still_outside accounts f tree job c.process c.call own.0 q outside)
    ∙ kept_by_one accounts f tree job c.process c.call own.0 q outside

-- ---- processes

module _ (me other : ProcName) (apart : under_process me other ≡ false) where
  -- a process that is not below another is not that process
  another : same me other ≡ false
  another = elim (same_name_found me other) [
    | inl e ↦ absurd (true≢false (sym (under_itself nat_eq same_name_found me) ∙ ap (under_process me) e.1 ∙ apart))
    | inr e ↦ e.0
  ]

  -- a process that is not below another is not its child either
  no_child_of : (n : ℕ) → same (n ∷ me) other ≡ false
  no_child_of n = elim (same_name_found (n ∷ me) other) [
    | inl e ↦
        absurd (true≢false (sym (under_child nat_eq same_name_found me me n (under_itself nat_eq same_name_found me))
        ∙ ap (under_process me) e.1 ∙ apart))
    | inr e ↦ e.0
  ]

-- a process below a child is below its parent
below_parent : (n : ℕ) (me other : ProcName) → under_process (n ∷ me) other ≡ true → under_process me other ≡ true
below_parent n me [] under = elim (same_name_found (n ∷ me) []) [
  | inl e ↦ absurd cc
  | inr e ↦ absurd (true≢false (sym under ∙ e.0))
]
below_parent n me (k ∷ other) under = elim (same_name_found (n ∷ me) (k ∷ other)) [
  | inl e ↦
      let above : me
      ≡ other = cc in under_child nat_eq same_name_found me other k
      (subst (λ x. under_process me x ≡ true) above (under_itself nat_eq same_name_found me))
  | inr e ↦ under_child nat_eq same_name_found me other k (below_parent n me other (sym (ap (λ b. b || under_process (n ∷ me) other) e.0) ∙ under))
]

module _ (f : Flat) (me : ProcName) (p : Process) (other : ProcName) (apart : under_process me other ≡ false) where
  -- a change of the process leaves the other as it is
  with_other : (q : Process) → (with_process f me q).processes other ≡ f.processes other
  with_other q = ap (λ b. cond b (Some q) (f.processes other)) (another me other apart)

  -- a birth leaves the other as it is
  born_other : (q child : Process) (n : ℕ) → (with_process (with_process f me q) (n ∷ me) child).processes other ≡ f.processes other
  born_other q child n = ap (λ b. cond b (Some child) ((with_process f me q).processes other)) (no_child_of me other apart n) ∙ with_other q

  -- a kill leaves the other as it is
  not_killed : (n : ℕ) → cond (under_process (n ∷ me) other) None (f.processes other) ≡ f.processes other
  not_killed n = elim (cases_Bool (under_process (n ∷ me) other)) [
    | inl under ↦ absurd (true≢false (sym (below_parent n me other under) ∙ apart))
    | inr under ↦ ap (λ b. cond b None (f.processes other)) under
  ]

  other_changes : (accounts : Accounts) (call : UnixCall) → EachChange accounts f me p call (λ g. g.processes other ≡ f.processes other)
  other_changes accounts call = record {
    stays = refl;
    makes = λ n d x walked free w own mode made_is. refl;
    overwrites = λ n d bytes file w. refl;
    cuts = λ n d away w. refl;
    renames = λ n k d away differs free w. refl;
    spawns =
        λ is. born_other (record p { born = p.born + 1 })
        (record { user = p.user; chain = p.chain; held = []; exited = None; born = 0 }) (p.born + 1);
    exits = λ n is. with_other (record p { exited = Some n });
    logs_in = λ name is known free. with_other (record p { user = name; held = [] });
    kills = λ n. not_killed n;
    wraps = λ n d is walked free w named.
        born_other (record p { held = p.held ++ next_child me p ∷ []; born = p.born + 1 })
        (record { user = p.user; chain = inner_chain me p; held = []; exited = None; born = 0 }) (p.born + 1);
  }

-- A call of a process changes no process but itself and those below it.
pub calls_change_their_own_tree : CallsChangeTheirOwnTree
calls_change_their_own_tree accounts f me call other apart =
    by_line accounts f me call (λ g. g.processes other ≡ f.processes other) refl
    (λ p runs. other_changes f me p other apart accounts call)

-- ---- what is read

-- a process that runs has not exited
not_exited : (p : Process) → if_running (Some p) ≡ Some p → p.exited ≡ None
not_exited p runs = by p.exited refl
  where
    by : (e : Option ℕ) → p.exited ≡ e → e ≡ None
    by None is = refl
    by (Some n) is =
        let none : None
        ≡ Some p = sym
        (ap (λ (x : Option ℕ). let r : Option Process = elim x [ None ↦ Some p | Some k ↦ None ] in r) is)
        ∙ runs in absurd cc

module _ (accounts : Accounts) (f : Flat) (me : ProcName) (p : Process) where
  -- the flat state in which the process is in no job
  abbrev freed : Flat
  freed = with_process f me (out_of_jobs p)

  -- a class of no job is read the same out of jobs
  read_alike : (class : Class) → is_scratch class ≡ false → may_read accounts p class ≡ may_read accounts (out_of_jobs p) class
  read_alike (Scratch owner jobs) is = absurd (true≢false is)
  read_alike class is = refl

  reads_alike : (q : Path) → is_some_and (get f.files q) (λ n. is_scratch n.class) ≡ false
      → reads accounts f p q ≡ reads accounts freed (out_of_jobs p) q
  reads_alike q = by (get f.files q)
    where
      by : (o : Option Node) → is_some_and o (λ n. is_scratch n.class) ≡ false
          → is_some_and o (λ n. may_read accounts p n.class)
          ≡ is_some_and o (λ n. may_read accounts (out_of_jobs p) n.class)
      by None is = refl
      by (Some n) is = read_alike n.class is

  into_alike : (d : Path) → lies_in_some_scratch f d ≡ false → into accounts f p d ≡ into accounts freed (out_of_jobs p) d
  into_alike [] outside = ap (λ b. unless b EACCES) (reads_alike [] outside)
  into_alike (n ∷ d) outside =
      let parts = or_parts (is_some_and (get f.files (n ∷ d)) (λ x. is_scratch x.class)) (lies_in_some_scratch f d) outside in
      λ i. into_alike d parts.1 i orelse unless (is_there f (n ∷ d)) ENOENT orelse unless (is_dir_at f (n ∷ d)) ENOTDIR
      orelse unless (reads_alike (n ∷ d) parts.0 i) EACCES

  refused_alike : (q : Path) → lies_in_some_scratch f q ≡ false
      → refused accounts f me p (Read q) ≡ refused accounts freed me (out_of_jobs p) (Read q)
  refused_alike [] outside = refl
  refused_alike (n ∷ d) outside =
      let parts = or_parts (is_some_and (get f.files (n ∷ d)) (λ x. is_scratch x.class)) (lies_in_some_scratch f d) outside in
      λ i.
      (into_alike d parts.1 i orelse unless (is_there f (n ∷ d)) ENOENT orelse unless (is_file_at f (n ∷ d)) EISDIR)
      orelse unless (reads_alike (n ∷ d) parts.0 i) EACCES

-- Outside all scratch directories a process in jobs gets the reply that it would get in none.
pub jobs_read_as_their_user : JobsReadAsTheirUser
jobs_read_as_their_user accounts f me p q runs outside =
    let there = runs_is_there (f.processes me) p runs in
    let alive = not_exited p (sym (ap if_running there) ∙ runs) in
    let free : running (with_process f me (out_of_jobs p)) me ≡ Some (out_of_jobs p) =
    ap (λ b. if_running (cond b (Some (out_of_jobs p)) (f.processes me))) (same_itself me)
    ∙ ap (λ (x : Option ℕ). let r : Option Process = elim x [ None ↦ Some (out_of_jobs p) | Some k ↦ None ] in r) alive in
    ap (λ (o : Option Process). reply_by accounts f me o (Read q)) runs
    ∙ ap (λ (r : Option Errno). reply_or r (flat.answer f me p (Read q))) (refused_alike accounts f me p q outside)
    ∙ sym (ap (λ (o : Option Process). reply_by accounts (with_process f me (out_of_jobs p)) me o (Read q)) free)
