-- A wrapped job changes nothing outside its scratch directory: its processes are those of its name and below, each is in the job, and at
-- first only the directory is of the job.
use Rattle.std.specs.Prelude.{◌≡◌, ◌⊎◌, ◌+◌, Bool, true, false, cond, ◌||◌, List, [], ◌∷◌, ◌++◌, Option, Some, None, refl}
use Rattle.std.proofs.Common.{ap, inl, inr, sym, ◌∙◌, subst}
use Rattle.std.proofs.lemmas.Bool.{true≢false, and_parts, or_parts}
use Rattle.std.proofs.Math.Bool.{or-true}
use Rattle.histar_flat.specs.declared.calls.CallLine.{CallLine}
use Rattle.histar_flat.specs.declared.calls.UnixCall.{UnixCall}
use Rattle.histar_flat.specs.declared.calls.UnixCall.TheVariants.{Wrap}
use Rattle.histar_flat.specs.declared.replies.Errno.TheVariants.{EEXIST}
use Rattle.histar_flat.specs.declared.replies.Reply.TheVariants.{Child}
use Rattle.histar_flat.specs.Words.{Name, Path, ProcName}
use Rattle.histar_base.specs.Paths.{same, same_path}
use Rattle.histar_flat.specs.PathOrder.{under_path, under_process}
use Rattle.histar_flat.specs.Accounts.{Accounts, has}
use Rattle.histar_flat.specs.Files.{get}
use Rattle.histar_flat.specs.Classes.{Process, carries}
use Rattle.histar_flat.specs.Classes.Class.{Scratch}
use Rattle.histar_flat.specs.FlatState.{Flat, IsTree, Node, is_given, is_some_and, was_given, with_process}
use Rattle.histar_flat.specs.FlatState.Content.{Dir}
use Rattle.histar_flat.specs.FlatCalls.{changed, flat_after, inner_chain, next_child, reply_to, running}
use Rattle.histar_flat.proofs.CommonNeeds.{no_child}
use Rattle.histar_flat.specs.Meaning.{boot, flat_end}
use Rattle.histar_flat.specs.Laws.{NamesAreGiven}
use Rattle.histar_flat.specs.JobLaws.{lies_in_scratch, runs_in, AreOfJob, all_under, WrappedJobsStayInside}
use Rattle.histar_flat.proofs.Answered.{is_answered, changed_after}
use Rattle.histar_flat.proofs.Changes.{EachChange, by_line, runs_is_there}
use Rattle.histar_flat.proofs.FileLemmas.{get_other, same_itself, same_name_found, same_path_found}
use Rattle.histar_flat.proofs.GivenNames.{given_after, given_stays, names_are_given_once, next_is_new}
use Rattle.histar_flat.proofs.JobLaws.{jobs_stay_inside}
use Rattle.histar_flat.proofs.Laws.{states_go_on}
use Rattle.histar_flat.proofs.Refusals.{passes_later}
use Rattle.histar_flat.proofs.Trees.{paths_are_a_tree, tree_after}
use Rattle.histar_flat.proofs.Under.{under_itself}

-- ---- lists of jobs

-- a list contains what is put last
pub has_last : (jobs : List ProcName) (job : ProcName) → has (jobs ++ job ∷ []) job ≡ true
has_last [] job = ap (λ b. b || false) (same_itself job)
has_last (k ∷ jobs) job = ap (λ b. same job k || b) (has_last jobs job) ∙ or-true (same job k)

-- a list keeps what was in it
has_longer : (jobs : List ProcName) (job last : ProcName) → has jobs job ≡ true → has (jobs ++ last ∷ []) job ≡ true
has_longer [] job last h = absurd (true≢false (sym h))
has_longer (k ∷ jobs) job last h = by (same job k) refl (has_longer jobs job last)
  where
    by : (b : Bool) → same job k ≡ b → (has jobs job ≡ true → has (jobs ++ last ∷ []) job ≡ true) → (same job k || has (jobs ++ last ∷ []) job) ≡ true
    by true e later = ap (λ b. b || has (jobs ++ last ∷ []) job) e
    by false e later = ap (λ b. b || has (jobs ++ last ∷ []) job) e ∙ later (sym (ap (λ b. b || has jobs job) e) ∙ h)

-- ---- the processes of a job

-- if a longer name was given, the names above it were given
pub given_above : (processes : ProcName → Option Process) (above q : ProcName) → under_process above q ≡ true
    → is_given processes q ≡ true → is_given processes above ≡ true
given_above processes above [] under given = elim (same_name_found above []) [
  | inl e ↦ subst (λ x. is_given processes x ≡ true) (sym e.1) given
  | inr e ↦ absurd (true≢false (sym under ∙ e.0))
]
given_above processes above (n ∷ q) under given = elim (same_name_found above (n ∷ q)) [
  | inl e ↦ subst (λ x. is_given processes x ≡ true) (sym e.1) given
  | inr e ↦
      given_above processes above q (sym (ap (λ b. b || under_process above q) e.0) ∙ under)
      (and_parts (was_given (processes q) n) (is_given processes q) given).1
]

-- each process of the job's name, and each below it, is in the job
abbrev AreInJob : ProcName → Flat → Type 0
AreInJob job f = (q : ProcName) (p : Process) → f.processes q ≡ Some p → under_process job q ≡ true → has p.chain job ≡ true

module _ (job : ProcName) where
  -- processes stay in the job when one is put there that is in the job if it has to be
  put_in : (f : Flat) (me : ProcName) (p : Process) → AreInJob job f
      → (under_process job me ≡ true → has p.chain job ≡ true) → AreInJob job (with_process f me p)
  put_in f me p all own q x at under = elim (same_name_found me q) [
    | inl e ↦
        let found : Some p ≡ Some x = sym (ap (λ b. cond b (Some p) (f.processes q)) e.0) ∙ at in
        let one : p ≡ x = cc in
        subst (λ (y : Process). has y.chain job ≡ true) one (own (ap (under_process job) e.1 ∙ under))
    | inr e ↦ all q x (sym (ap (λ b. cond b (Some p) (f.processes q)) e.0) ∙ at) under
  ]

  module _ (f : Flat) (given : is_given f.processes job ≡ true) (all : AreInJob job f) (me : ProcName) (p : Process)
      (here : f.processes me ≡ Some p) where
    own_in : under_process job me ≡ true → has p.chain job ≡ true
    own_in under = all me p here under

    -- a child of a process in the job is in it, if it has the jobs of its parent
    born_in : (q child : Process) → q.chain ≡ p.chain → (has p.chain job ≡ true → has child.chain job ≡ true)
        → AreInJob job (with_process (with_process f me q) (next_child me p) child)
    born_in q child same_jobs inherits =
        put_in (with_process f me q) (next_child me p) child
        (put_in f me q all (λ under. ap (λ (jobs : List ProcName). has jobs job) same_jobs ∙ own_in under))
        (λ under. elim (same_name_found job (next_child me p)) [
          | inl e ↦ absurd (true≢false (sym given ∙ ap (is_given f.processes) e.1 ∙ next_is_new f me p here))
          | inr e ↦ inherits (own_in (sym (ap (λ b. b || under_process job me) e.0) ∙ under))
        ])

    left_in : (b : Bool) (o : Option Process) (x : Process) → cond b None o ≡ Some x → o ≡ Some x
    left_in true o x e = let none : None ≡ Some x = e in absurd cc
    left_in false o x e = e

    in_changes : (accounts : Accounts) (call : UnixCall) → EachChange accounts f me p call (AreInJob job)
    in_changes accounts call = record {
      stays = all;
      makes = λ n d x walked free w own mode made_is. all;
      overwrites = λ n d bytes file w. all;
      cuts = λ n d takes w. all;
      renames = λ n k d takes apart free w. all;
      spawns =
          λ is. born_in (record p { born = p.born + 1 })
          (record { user = p.user; chain = p.chain; held = []; exited = None; born = 0 }) refl (λ h. h);
      exits = λ n is. put_in f me (record p { exited = Some n }) all own_in;
      logs_in = λ name is known free. put_in f me (record p { user = name; held = [] }) all own_in;
      kills = λ n q x at under. all q x (left_in (under_process (n ∷ me) q) (f.processes q) x at) under;
      wraps = λ n d is walked free w named.
          born_in (record p { held = p.held ++ next_child me p ∷ []; born = p.born + 1 })
          (record { user = p.user; chain = inner_chain me p; held = []; exited = None; born = 0 }) refl
          (has_longer p.chain job (next_child me p));
    }

  -- each line leaves these processes in the job
  in_after : (accounts : Accounts) (f : Flat) → is_given f.processes job ≡ true → AreInJob job f
      → (me : ProcName) (call : UnixCall) → AreInJob job (flat_after accounts f me call)
  in_after accounts f given all me call =
      by_line accounts f me call (AreInJob job) all
      (λ p runs. in_changes f given all me p (runs_is_there (f.processes me) p runs) accounts call)

  -- the calls of these processes are calls of the job
  calls_of_job : (accounts : Accounts) (f : Flat) → is_given f.processes job ≡ true → AreInJob job f
      → (calls : List CallLine) → all_under job calls ≡ true → AreOfJob accounts job f calls
  calls_of_job accounts f given all [] under = tt
  calls_of_job accounts f given all (c ∷ calls) under =
      let parts = and_parts (under_process job c.process) (all_under job calls) under in (
        by (running f c.process) refl parts.0,
        calls_of_job accounts (flat_after accounts f c.process c.call)
            (given_stays accounts f c.process c.call job given) (in_after accounts f given all c.process c.call) calls
            parts.1,
      )
    where
      by : (o : Option Process) → running f c.process ≡ o → under_process job c.process ≡ true
          → (running f c.process ≡ None) ⊎ (runs_in f c.process job ≡ true)
      by None gone under = inl gone
      by (Some p) runs under =
          inr (ap (λ (r : Option Process). is_some_and r (λ x. has x.chain job)) runs
          ∙ all c.process p (runs_is_there (f.processes c.process) p runs) under)

-- ---- a wrap

module _ (accounts : Accounts) (f : Flat) (tree : IsTree f) (names : NamesAreGiven f) (me : ProcName) (p : Process)
    (here : f.processes me ≡ Some p) (n : Name) (d : Path) where
  abbrev job : ProcName
  job = next_child me p

  abbrev wrapped : Flat
  wrapped = changed accounts f me p (Wrap (n ∷ d))

  abbrev first : Process
  first = record { user = p.user; chain = inner_chain me p; held = []; exited = None; born = 0 }

  new : is_given f.processes job ≡ false
  new = next_is_new f me p here

  -- no process was of the job's name or below it
  none_before : AreInJob job f
  none_before q x at under = absurd (true≢false (sym (given_above f.processes job q under (names.of_processes q x at)) ∙ new))

  -- the process that calls `wrap` is not below the job
  wrapper_above : under_process job me ≡ true → has p.chain job ≡ true
  wrapper_above under = none_before me p here under

  in_wrapped : AreInJob job wrapped
  in_wrapped =
      put_in job (with_process f me (record p { held = p.held ++ job ∷ []; born = p.born + 1 })) job first
      (put_in job f me (record p { held = p.held ++ job ∷ []; born = p.born + 1 }) none_before wrapper_above) (λ under. has_last p.chain job)

  not_carried : (b : Bool) → (b ≡ true → is_given f.processes job ≡ true) → b ≡ false
  not_carried true c = absurd (true≢false (sym (c refl) ∙ new))
  not_carried false c = refl

  -- nothing was of the job before
  no_one : (q : Path) (o : Option Node) → get f.files q ≡ o → is_some_and o (λ y. carries job y.class) ≡ false
  no_one q None at = refl
  no_one q (Some y) at = not_carried (carries job y.class) (λ c. names.of_carried_jobs q y job at c)

  directory : Node
  directory = record { class = Scratch p.user (inner_chain me p); content = Dir }

  -- what is not the directory is as it was
  elsewhere : (q : Path) → under_path (n ∷ d) q ≡ false → get wrapped.files q ≡ get f.files q
  elsewhere q apart =
      get_other f.files (n ∷ d) (record { class = Scratch p.user (inner_chain me p); content = Dir }) q
      (λ e. true≢false (sym (under_itself same same_path_found (n ∷ d)) ∙ ap (under_path (n ∷ d)) (sym e) ∙ apart))

  -- only the directory, and what lies below it, lies in a scratch directory of the job
  outside : (q : Path) → under_path (n ∷ d) q ≡ false → lies_in_scratch wrapped job q ≡ false
  outside [] apart = ap (λ (x : Option Node). is_some_and x (λ y. carries job y.class)) (elsewhere [] apart) ∙ no_one [] (get f.files []) refl
  outside (m ∷ q) apart =
      let parts = or_parts (same_path (n ∷ d) (m ∷ q)) (under_path (n ∷ d) q) apart in
      (λ i. is_some_and (elsewhere (m ∷ q) apart i) (λ y. carries job y.class) || outside q parts.1 i)
      ∙ ap (λ b. b || false) (no_one (m ∷ q) (get f.files (m ∷ q)) refl)

  -- the job's first process is there, and its name was given
  first_there : wrapped.processes job ≡ Some first
  first_there =
      ap (λ b.
      cond b (Some first) (cond (same me job) (Some (record p { held = p.held ++ job ∷ []; born = p.born + 1 }))
      (f.processes job))) (same_itself job)

  -- after the wrap a path outside stays as it is, whatever the job's processes call
  inside_after : NamesAreGiven wrapped → IsTree wrapped → (calls : List CallLine) → all_under job calls ≡ true
      → (q : Path) → under_path (n ∷ d) q ≡ false → get (flat_end accounts wrapped calls).files q ≡ get f.files q
  inside_after later_names later_tree calls under q apart =
      jobs_stay_inside accounts wrapped later_tree job calls
      (calls_of_job job accounts wrapped (later_names.of_processes job first first_there) in_wrapped calls under) q (outside q apart)
      ∙ elsewhere q apart

-- A wrapped job changes nothing outside its scratch directory.
pub wrapped_jobs_stay_inside : WrappedJobsStayInside
wrapped_jobs_stay_inside accounts before wrap path job calls is_wrap said under q apart = by path is_wrap said apart
  where
    f : Flat
    f = flat_end accounts (boot accounts) before

    by : (x : Path) → wrap.call ≡ Wrap x → reply_to accounts f wrap.process (Wrap x) ≡ Child job
        → under_path x q ≡ false
        → get (flat_end accounts (boot accounts) (before ++ wrap ∷ calls)).files q ≡ get f.files q
    by [] is_call answered outside_it =
        let is = is_answered accounts f wrap.process (Wrap []) (Child job) (λ e. cc) (λ e g. cc) answered in
        let e : Some EEXIST ≡ None = passes_later (no_child wrap.process is.process) (Some EEXIST) is.passes in absurd cc
    by (n ∷ d) is_call answered outside_it =
        let is = is_answered accounts f wrap.process (Wrap (n ∷ d)) (Child job) (λ e. cc) (λ e g. cc) answered in
        let there = runs_is_there (f.processes wrap.process) is.process is.runs in
        let after = changed_after accounts f wrap.process (Wrap (n ∷ d)) (Child job) is in
        let name : Child (next_child wrap.process is.process) ≡ Child job = is.answers in
        let job_is : next_child wrap.process is.process ≡ job = cc in
        let line_after : flat_after accounts f wrap.process wrap.call
        ≡ changed accounts f wrap.process is.process (Wrap (n ∷ d)) =
        ap (flat_after accounts f wrap.process) is_call ∙ after in
        ap (λ (g : Flat). get g.files q) (states_go_on accounts (boot accounts) before (wrap ∷ calls))
        ∙ ap (λ (g : Flat). get (flat_end accounts g calls).files q) line_after
        ∙ inside_after accounts f (paths_are_a_tree accounts before) (names_are_given_once.old accounts before) wrap.process is.process there n d
        (subst NamesAreGiven after (given_after accounts f wrap.process (Wrap (n ∷ d)) (paths_are_a_tree accounts before)
        (names_are_given_once.old accounts before)))
        (subst IsTree after (tree_after f (paths_are_a_tree accounts before) accounts wrap.process (Wrap (n ∷ d))))
        calls (ap (λ (x : ProcName). all_under x calls) job_is ∙ under) q outside_it
