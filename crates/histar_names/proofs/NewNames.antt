-- The names of categories that are used only after a call are those of the child that the call has started.
use Rattle.std.specs.Prelude.{◌≡◌, ℕ, ◌+◌, Bool, true, false, ◌||◌, not, cond, nat_lt, List, []}
use Rattle.std.specs.Prelude.{◌∷◌, ◌++◌, length, Option, Some, None, is_some, refl}
use Rattle.std.proofs.Common.{ap, ◌⊎◌, inl, inr, sym, ◌∙◌, arith, subst}
use Rattle.std.proofs.lemmas.Bool.{true≢false, or_cases}
use Rattle.std.proofs.Math.Bool.{or-true}
use Rattle.histar_flat.specs.declared.calls.UnixCall.{UnixCall}
use Rattle.histar_flat.specs.declared.calls.UnixCall.TheVariants.{Spawn, Wrap}
use Rattle.histar_flat.specs.declared.replies.Errno.{Errno}
use Rattle.histar_flat.specs.declared.replies.Errno.TheVariants.{EAGAIN}
use Rattle.histar_flat.specs.Words.{Path, ProcName, most_children, most_numbers}
use Rattle.histar_base.specs.Paths.{same}
use Rattle.histar_base.specs.Refusals.{◌orelse◌, unless}
use Rattle.histar_flat.specs.PathOrder.{under_path, under_process}
use Rattle.histar_flat.specs.Accounts.{Accounts, has}
use Rattle.histar_flat.specs.Files.{get, insert}
use Rattle.histar_flat.specs.Classes.{Class, Process, knows, carries}
use Rattle.histar_flat.specs.Classes.Class.{Private, Readable, Open, Scratch, Grouped}
use Rattle.histar_flat.specs.FlatState.{Flat, Node, IsTree, class_of, with_node, with_process, without_process, moved}
use Rattle.histar_flat.specs.FlatState.Content.{Dir, File}
use Rattle.histar_flat.specs.Effects.Effect.{Spawns, Wraps}
use Rattle.histar_flat.specs.CallRules.{rule}
use Rattle.histar_flat.specs.FlatCalls.{next_child, inner_chain, refused, changed, running, flat_or, flat_by, flat_after}
use Rattle.histar_flat.proofs.FileLemmas.{same_name_found, same_path_found, same_itself, get_other, get_new, get-keep}
use Rattle.histar_flat.proofs.Choices.{chosen, left, kept}
use Rattle.histar_flat.proofs.GivenNames.{longer_has}
use Rattle.histar_flat.proofs.Renaming.{get_renamed}
use Rattle.histar_flat.proofs.Changes.{EachChange, by_change, runs_is_there}
use Rattle.histar_flat.proofs.Refusals.{passes_first, passes_later, passed}
use Rattle.histar_flat.proofs.Trees.{nothing_below}
use Rattle.histar_refinement.specs.Categories.{CategoryName, is_for, IsKnown, IsServed, IsUsed}
use Rattle.histar_refinement.specs.Categories.CategoryName.{OfBoot, ReadsUser, WritesUser, ReadsGroup, WritesGroup}
use Rattle.histar_refinement.specs.Categories.CategoryName.{ReadsProcess, WritesProcess, OfJob}

-- some process knows the job, or some file or directory is for it
abbrev pub Uses : Flat → ProcName → Type 0
Uses f job = IsKnown f job ⊎ IsServed f job

-- a class is for a job exactly where it carries it
for_is : (class : Class) (job : ProcName) → is_for class job ≡ carries job class
for_is (Private owner) job = refl
for_is (Readable owner) job = refl
for_is Open job = refl
for_is (Scratch owner jobs) job = refl
for_is (Grouped group) job = refl

in_chain : (jobs : List ProcName) (job : ProcName) → (has jobs job || false) ≡ true → has jobs job ≡ true
in_chain jobs job k = elim (or_cases (has jobs job) false k) [ inl i ↦ i | inr i ↦ absurd (true≢false (sym i)) ]

-- this child was born to a process
pub record HasChild (me : ProcName) (p : Process) (g : Flat) (child : ProcName) : Type 0 where
  pub is : child ≡ next_child me p
  pub short : nat_lt (length me) most_numbers ≡ true
  pub now : Process
  pub there : g.processes me ≡ Some now
  pub born : now.born ≡ p.born + 1
  pub same_jobs : now.chain ≡ p.chain
  pub newborn : Process
  pub runs : g.processes child ≡ Some newborn
  pub running : newborn.exited ≡ None

-- the name is of a category of the child that was born to a process: that of a job, if the child is in it
abbrev pub IsOfChild : ProcName → Process → Flat → CategoryName → Type 0
IsOfChild me p g (ReadsProcess child) = HasChild me p g child
IsOfChild me p g (WritesProcess child) = HasChild me p g child
IsOfChild me p g (OfJob job) = (child : HasChild me p g job) × (has child.newborn.chain job ≡ true)
IsOfChild me p g name = ⊥

-- a job is among others and itself
has_last : (jobs : List ProcName) (job : ProcName) → has (jobs ++ job ∷ []) job ≡ true
has_last [] job = ap (λ b. b || false) (same_itself job)
has_last (j ∷ jobs) job = ap (λ b. same job j || b) (has_last jobs job) ∙ or-true (same job j)

-- what is left was there
was_there : (b : Bool) (o : Option Process) → is_some (cond b None o) ≡ true → is_some o ≡ true
was_there true o e = absurd (true≢false (sym e))
was_there false o e = e

-- a call of this process
module _ (f : Flat) (tree : IsTree f) (me : ProcName) (p : Process) (here : f.processes me ≡ Some p) (call : UnixCall) where
  -- the job is that of the child that a `wrap` starts
  abbrev IsNext : ProcName → Type 0
  IsNext job = (job ≡ next_child me p) × ((rule call).effect ≡ Wraps)

  -- each job that is used in the state was used before, or is the child's
  abbrev AreOld : Flat → Type 0
  AreOld g = (job : ProcName) → Uses g job → Uses f job ⊎ IsNext job

  abbrev Old : ProcName → Type 0
  Old job = Uses f job ⊎ IsNext job

  known_in_chain : (job : ProcName) → has p.chain job ≡ true → knows p job ≡ true
  known_in_chain job h = ap (λ b. b || has p.held job) h

  known_used : (job : ProcName) → knows p job ≡ true → Old job
  known_used job k = inl (inl (me, p, here, k))

  -- a process is as it was, or knows only such jobs
  abbrev IsOld : (ProcName → Option Process) → Type 0
  IsOld new = (q : ProcName) (y : Process) → new q ≡ Some y → (f.processes q ≡ Some y) ⊎ ((j : ProcName) → knows y j ≡ true → Old j)

  by_processes : (new : ProcName → Option Process) → IsOld new → AreOld (record f { processes = new })
  by_processes new each job (inl k) = elim (each k.0 k.1 k.2) [
    | inl i ↦ inl (inl (k.0, k.1, i, k.3))
    | inr i ↦ i job k.3
  ]
  by_processes new each job (inr served) = inl (inr served)

  by_node : (g : Flat) → AreOld g → (q : Path) (x : Node) → ((job : ProcName) → is_for x.class job ≡ true → Old job)
      → AreOld (with_node g q x.class x.content)
  by_node g old q x own job (inl known) = old job (inl known)
  by_node g old q x own job (inr (r, y, e, c)) = elim (same_path_found r q) [
    | inl t ↦
        let found : Some x ≡ Some y = sym (get_new g.files q x) ∙ ap (get (insert g.files q x)) (sym t.1) ∙ e in
        let one : x ≡ y = cc in
        own job (ap (λ v. is_for v.class job) one ∙ c)
    | inr t ↦ old job (inr (r, y, sym (get_other g.files q x r t.1) ∙ e, c))
  ]

  nothing_new : AreOld f
  nothing_new job u = inl u

  -- a process is replaced by one that knows such jobs alone
  by_instead : (q : Process) → ((job : ProcName) → knows q job ≡ true → Old job) → IsOld (with_process f me q).processes
  by_instead q known name y e = elim (same_name_found me name) [
    | inl t ↦ inr (λ job k. known job (ap (λ v. knows v job) (chosen (same me name) q y (f.processes name) t.0 e) ∙ k))
    | inr t ↦ inl (sym (ap (λ b. cond b (Some q) (f.processes name)) t.0) ∙ e)
  ]

  by_birth : (q newborn : Process) → ((j : ProcName) → knows q j ≡ true → Old j) → ((j : ProcName) → knows newborn j ≡ true → Old j)
      → IsOld (with_process (with_process f me q) (next_child me p) newborn).processes
  by_birth q newborn known known_too name y e = elim (same_name_found (next_child me p) name) [
    | inl t ↦ inr (λ job k. known_too job (ap (λ v. knows v job)
        (chosen (same (next_child me p) name) newborn y (cond (same me name) (Some q) (f.processes name)) t.0 e) ∙ k))
    | inr t ↦ by_instead q known name y (sym (ap (λ b. cond b (Some newborn) (cond (same me name) (Some q) (f.processes name))) t.0) ∙ e)
  ]

  old_class : (q : Path) (job : ProcName) (o : Option Node) → get f.files q ≡ o → is_for (class_of o) job ≡ true → Old job
  old_class q job None at c = absurd (true≢false (sym c))
  old_class q job (Some x) at c = inl (inr (q, x, at, c))

  holds_more : (rule call).effect ≡ Wraps → (j : ProcName) → (has p.chain j || has (p.held ++ next_child me p ∷ []) j) ≡ true → Old j
  holds_more is job k = elim (or_cases (has p.chain job) (has (p.held ++ next_child me p ∷ []) job) k) [
    | inl i ↦ known_used job (known_in_chain job i)
    | inr i ↦ elim (longer_has p.held (next_child me p) job i) [
      | inl v ↦ known_used job (ap (λ b. has p.chain job || b) v ∙ or-true (has p.chain job))
      | inr v ↦ inr (v, is)
    ]
  ]

  is_in_more : (rule call).effect ≡ Wraps → (job : ProcName) → has (p.chain ++ next_child me p ∷ []) job ≡ true → Old job
  is_in_more is job k = elim (longer_has p.chain (next_child me p) job k) [
    | inl v ↦ known_used job (known_in_chain job v)
    | inr v ↦ inr (v, is)
  ]

  each_change : (accounts : Accounts) → EachChange accounts f me p call AreOld
  each_change accounts = record {
    stays = nothing_new;
    makes = λ n d x walked free w own mode made_is.
        by_node f nothing_new (n ∷ d) x (λ job c. known_used job (known_in_chain job (own job (sym (for_is x.class job) ∙ c))));
    overwrites = λ n d bytes file w.
        by_node f nothing_new (n ∷ d) (record { class = class_of (get f.files (n ∷ d)); content = File bytes })
        (λ job c. old_class (n ∷ d) job (get f.files (n ∷ d)) refl c);
    cuts = λ n d takes w job u. elim u [
      | inl known ↦ inl (inl known)
      | inr s ↦ inl (inr (
        s.0,
        s.1,
        kept (not (under_path (n ∷ d) s.0)) (get f.files s.0) s.1
            (sym (get-keep f.files (λ t. not (under_path (n ∷ d) t)) s.0) ∙ s.2),
        s.3,
      ))
    ];
    renames = λ n k d takes apart free w job u. elim u [
      | inl known ↦ inl (inl known)
      | inr s ↦
          let from : Path = moved (k ∷ d) (n ∷ d) s.0 in
          inl (inr (
            from,
            s.1,
            left (under_path (n ∷ d) s.0) (get f.files from) s.1
                (sym (get_renamed n k d apart f.files (nothing_below f tree (k ∷ d) free) s.0) ∙ s.2),
            s.3,
          ))
    ];
    spawns = λ is. by_processes _ (by_birth (record p { born = p.born + 1 })
        (record { user = p.user; chain = p.chain; held = []; exited = None; born = 0 }) known_used
        (λ job k. known_used job (known_in_chain job (in_chain p.chain job k))));
    exits = λ n is. by_processes _ (by_instead (record p { exited = Some n }) known_used);
    logs_in = λ name is known free. by_processes _ (by_instead (record p { user = name; held = [] })
        (λ job k. known_used job (known_in_chain job (in_chain p.chain job k))));
    kills = λ n. by_processes (without_process f (n ∷ me)).processes (λ q y e. inl (left (under_process (n ∷ me) q) (f.processes q) y e));
    wraps = λ n d is walked free w named.
        by_node (record f {
          processes = (with_process (with_process f me (record p { held = p.held ++ next_child me p ∷ []; born = p.born + 1 }))
              (next_child me p) (record { user = p.user; chain = inner_chain me p; held = []; exited = None; born = 0 })).processes;
        })
        (by_processes _ (by_birth (record p { held = p.held ++ next_child me p ∷ []; born = p.born + 1 })
        (record { user = p.user; chain = inner_chain me p; held = []; exited = None; born = 0 }) (holds_more is)
        (λ job k. is_in_more is job (in_chain (inner_chain me p) job k))))
        (n ∷ d) (record { class = Scratch p.user (inner_chain me p); content = Dir }) (is_in_more is);
  }

  -- the process after a birth
  me_then : (q newborn : Process) → (with_process (with_process f me q) (next_child me p) newborn).processes me ≡ Some q
  me_then q newborn = elim (same_name_found (next_child me p) me) [
    | inl t ↦ absurd (no_cycle p.born me t.1)
    | inr t ↦
        ap (λ b. cond b (Some newborn) (cond (same me me) (Some q) (f.processes me))) t.0
        ∙ ap (λ b. cond b (Some q) (f.processes me)) (same_itself me)
  ]
    where
      no_cycle : (n : ℕ) (name : ProcName) → (n + 1) ∷ name ≡ name → ⊥
      no_cycle n name e = let longer = ap length e in omega (arith, longer)

  -- ---- processes

  -- the process is the child that is started
  abbrev IsStarted : ProcName → Type 0
  IsStarted q = (q ≡ next_child me p) × (((rule call).effect ≡ Spawns) ⊎ ((rule call).effect ≡ Wraps))

  -- each process that is there was there before, or is the child
  abbrev AreThere : (ProcName → Option Process) → Type 0
  AreThere new = (q : ProcName) → is_some (new q) ≡ true → (is_some (f.processes q) ≡ true) ⊎ IsStarted q

  there_instead : (q : Process) → AreThere (with_process f me q).processes
  there_instead q name t = elim (same_name_found me name) [
    | inl u ↦ inl (ap (λ x. is_some (f.processes x)) (sym u.1) ∙ ap is_some here)
    | inr u ↦ inl (sym (ap (λ b. is_some (cond b (Some q) (f.processes name))) u.0) ∙ t)
  ]

  there_born : (q newborn : Process) → ((rule call).effect ≡ Spawns) ⊎ ((rule call).effect ≡ Wraps)
      → AreThere (with_process (with_process f me q) (next_child me p) newborn).processes
  there_born q newborn is name t = elim (same_name_found (next_child me p) name) [
    | inl u ↦ inr (sym u.1, is)
    | inr u ↦ there_instead q name (sym (ap (λ b. is_some (cond b (Some newborn) (cond (same me name) (Some q) (f.processes name)))) u.0) ∙ t)
  ]

  each_process : (accounts : Accounts) → EachChange accounts f me p call (λ (g : Flat). AreThere g.processes)
  each_process accounts = record {
    stays = λ q t. inl t;
    makes = λ n d x walked free w own mode made_is q t. inl t;
    overwrites = λ n d bytes file w q t. inl t;
    cuts = λ n d takes w q t. inl t;
    renames = λ n k d takes apart free w q t. inl t;
    spawns = λ is. there_born _ _ (inl is);
    exits = λ n is. there_instead _;
    logs_in = λ name is known free. there_instead _;
    kills = λ n q t. inl (was_there (under_process (n ∷ me) q) (f.processes q) t);
    wraps = λ n d is walked free w named. there_born _ _ (inr is);
  }

  -- ---- the child

  -- a granted `spawn` or `wrap` has a name with room for a number
  has_room : (accounts : Accounts) → (unless (nat_lt p.born most_children) EAGAIN orelse unless (nat_lt (length me) most_numbers) EAGAIN) ≡ None
      → nat_lt (length me) most_numbers ≡ true
  has_room accounts passes = passed (nat_lt (length me) most_numbers) EAGAIN (passes_later (unless (nat_lt p.born most_children) EAGAIN) _ passes)

  child_then : (q newborn : Process) → (with_process (with_process f me q) (next_child me p) newborn).processes (next_child me p) ≡ Some newborn
  child_then q newborn =
      ap (λ b. cond b (Some newborn) (cond (same me (next_child me p)) (Some q) (f.processes (next_child me p)))) (same_itself (next_child me p))

  -- a process that was granted a `wrap` has a child, which is in its job
  wrapped : (accounts : Accounts) (asked : UnixCall) → (rule asked).effect ≡ Wraps → refused accounts f me p asked ≡ None
      → IsOfChild me p (changed accounts f me p asked) (OfJob (next_child me p))
  wrapped accounts (Wrap q) is passes = (
    record {
      is = refl;
      short = has_room accounts (passes_first (unless (nat_lt p.born most_children) EAGAIN
          orelse unless (nat_lt (length me) most_numbers) EAGAIN) _ passes);
      now = record p { held = p.held ++ next_child me p ∷ []; born = p.born + 1 };
      there = me_then _ _;
      born = refl;
      same_jobs = refl;
      newborn = record { user = p.user; chain = inner_chain me p; held = []; exited = None; born = 0 };
      runs = child_then _ _;
      running = refl;
    },
    has_last p.chain (next_child me p),
  )
  wrapped accounts _ is passes = absurd (cc)

  -- a process that was granted a `spawn` has a child
  spawned : (accounts : Accounts) (asked : UnixCall) → (rule asked).effect ≡ Spawns → refused accounts f me p asked ≡ None
      → HasChild me p (changed accounts f me p asked) (next_child me p)
  spawned accounts Spawn is passes = record {
    is = refl;
    short = has_room accounts passes;
    now = record p { born = p.born + 1 };
    there = me_then _ _;
    born = refl;
    same_jobs = refl;
    newborn = record { user = p.user; chain = p.chain; held = []; exited = None; born = 0 };
    runs = child_then _ _;
    running = refl;
  }
  spawned accounts _ is passes = absurd (cc)

-- what is said of a name that is used after a line: it was used before, or is of the child that was born to the line's process
abbrev pub Comes : Accounts → Flat → ProcName → Flat → CategoryName → Type 0
Comes accounts f me g name =
    IsUsed accounts g name → IsUsed accounts f name ⊎ ((p : Process) × (here : f.processes me ≡ Some p) × IsOfChild me p g name)

-- a call of a process that is there
module _ (accounts : Accounts) (f : Flat) (tree : IsTree f) (me : ProcName) (p : Process) (here : f.processes me ≡ Some p) (call : UnixCall)
    (passes : refused accounts f me p call ≡ None) where
  abbrev g : Flat
  g = changed accounts f me p call

  abbrev IsNew : CategoryName → Type 0
  IsNew name = (q : Process) × (there : f.processes me ≡ Some q) × IsOfChild me q g name

  started : (q : ProcName) → (is_some (f.processes q) ≡ true) ⊎ IsStarted f tree me p here call q
      → (is_some (f.processes q) ≡ true) ⊎ HasChild me p g q
  started q (inl before) = inl before
  started q (inr (is, inl spawns)) = inr (subst (HasChild me p g) (sym is) (spawned f tree me p here call accounts call spawns passes))
  started q (inr (is, inr wraps)) = inr (subst (HasChild me p g) (sym is) (wrapped f tree me p here call accounts call wraps passes).0)

  granted_then : (P : Flat → Type 0) → EachChange accounts f me p call P → P g
  granted_then P each = subst (λ (o : Option Errno). P (flat_or o f g)) passes (by_change accounts f me p P call each)

  process_comes : (q : ProcName) → is_some (g.processes q) ≡ true → (is_some (f.processes q) ≡ true) ⊎ HasChild me p g q
  process_comes q there =
      started q (granted_then (λ (x : Flat). AreThere f tree me p here call x.processes) (each_process f tree me p here call accounts) q there)

  job_comes : (job : ProcName) → Uses g job → Uses f job ⊎ IsOfChild me p g (OfJob job)
  job_comes job used = elim (granted_then (AreOld f tree me p here call) (each_change f tree me p here call accounts) job used) [
    | inl before ↦ inl before
    | inr next ↦
        let child = wrapped f tree me p here call accounts call next.1 passes in
        inr (subst (λ (q : ProcName). IsOfChild me p g (OfJob q)) (sym next.0) child)
  ]

  name_comes : (name : CategoryName) → IsUsed accounts g name → IsUsed accounts f name ⊎ IsNew name
  name_comes OfBoot used = inl used
  name_comes (ReadsUser i) used = inl used
  name_comes (WritesUser i) used = inl used
  name_comes (ReadsGroup k) used = inl used
  name_comes (WritesGroup k) used = inl used
  name_comes (ReadsProcess q) used = elim (process_comes q used) [ inl before ↦ inl before | inr child ↦ inr (p, here, child) ]
  name_comes (WritesProcess q) used = elim (process_comes q used) [ inl before ↦ inl before | inr child ↦ inr (p, here, child) ]
  name_comes (OfJob job) used = elim (job_comes job used) [ inl before ↦ inl before | inr child ↦ inr (p, here, child) ]

pub new_names : (accounts : Accounts) (f : Flat) → IsTree f → (me : ProcName) (call : UnixCall) (name : CategoryName)
    → Comes accounts f me (flat_after accounts f me call) name
new_names accounts f tree me call name = by (running f me) refl
  where
    granted : (p : Process) (here : f.processes me ≡ Some p) (o : Option Errno) → refused accounts f me p call ≡ o
        → Comes accounts f me (flat_or o f (changed accounts f me p call)) name
    granted p here (Some e) passes used = inl used
    granted p here None passes used = name_comes accounts f tree me p here call passes name used

    by : (o : Option Process) → running f me ≡ o → Comes accounts f me (flat_by accounts f me o call) name
    by None e = λ used. inl used
    by (Some p) e = granted p (runs_is_there (f.processes me) p e) (refused accounts f me p call) refl
