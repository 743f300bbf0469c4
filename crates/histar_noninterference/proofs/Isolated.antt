-- If a `wrap` started a job, and its caller calls no `rmdir` and no `wrap` after that, the job changes nothing outside.
use Rattle.std.specs.Prelude.{Bool, List, None, Option, Some, [], cond, false, filter, not, nat_eq, refl, true, ℕ, ◌++◌, ◌+◌, ◌||◌, ◌∷◌, ◌≡◌, ◌⊎◌}
use Rattle.std.proofs.Common.{ap, inl, inr, subst, sym, ◌∙◌}
use Rattle.std.proofs.lemmas.Bool.{and_parts, not-true, or_parts, true≢false, cases_Bool}
use Rattle.histar_base.specs.Refusals.{◌orelse◌}
use Rattle.histar_flat.specs.declared.calls.CallLine.{CallLine}
use Rattle.histar_flat.specs.declared.calls.UnixCall.{UnixCall}
use Rattle.histar_flat.specs.declared.calls.UnixCall.TheVariants.{Wrap}
use Rattle.histar_flat.specs.declared.replies.Errno.{Errno}
use Rattle.histar_flat.specs.declared.replies.Errno.TheVariants.{EEXIST}
use Rattle.histar_flat.specs.declared.replies.Reply.TheVariants.{Child}
use Rattle.histar_flat.specs.Classes.{Process, knows}
use Rattle.histar_flat.specs.Classes.Class.{Scratch}
use Rattle.histar_flat.specs.Files.{get, insert}
use Rattle.histar_flat.specs.FlatCalls.{changed, flat_after, flat_by, flat_or, inner_chain, next_child, refused, reply_by, reply_or, reply_to}
use Rattle.histar_flat.specs.FlatCalls.{running}
use Rattle.histar_flat.proofs.CommonNeeds.{no_child}
use Rattle.histar_flat.specs.FlatState.{Flat, IsTree, Node, is_dir, is_given}
use Rattle.histar_flat.specs.FlatState.Content.{Dir}
use Rattle.histar_flat.specs.Laws.{NamesAreGiven}
use Rattle.histar_flat.specs.Meaning.{RepliedCall, answered_from, boot, flat_end, meaning, without}
use Rattle.histar_base.specs.Paths.{same}
use Rattle.histar_flat.specs.PathOrder.{under_process}
use Rattle.histar_flat.specs.Accounts.{Accounts, has}
use Rattle.histar_flat.specs.Texts.{reply_text}
use Rattle.histar_flat.specs.Words.{Name, Path, ProcName}
use Rattle.histar_flat.proofs.Changes.{runs_is_there}
use Rattle.histar_flat.proofs.FileLemmas.{get_new, get_other, same_itself, same_name_found, same_path_found}
use Rattle.histar_flat.proofs.GivenNames.{given_after, given_stays, names_are_given_once, next_is_new}
use Rattle.histar_flat.proofs.Trees.{paths_are_a_tree, tree_after}
use Rattle.histar_flat.proofs.Under.{above_is_not_under, under_itself}
use Rattle.histar_flat.proofs.WrappedJobs.{given_above, has_last}
use Rattle.histar_noninterference.specs.Comparison.{first_line, first_path, is_wrap_reply, outsiders, starts}
use Rattle.histar_noninterference.specs.Isolation.{IsolatesJobs, OnlyReleasesDiffer, after_start, is_quiet, may_reveal, revealing}
use Rattle.histar_noninterference.proofs.Folds.{RunAlike, no_path_differs, runs_alike}
use Rattle.histar_noninterference.proofs.Kept.{born_cases}
use Rattle.histar_noninterference.proofs.Outside.{same_files_itself}
use Rattle.histar_noninterference.proofs.Relation.{IsStarted, SameOutside}
use Rattle.histar_noninterference.proofs.TestLemmas.{is_same}
use Rattle.histar_noninterference.proofs.Revealed.{all_steps}

-- the line of a `wrap` that was answered by the job's name
module _ (accounts : Accounts) (f : Flat) (me : ProcName) (job : ProcName) (P : Flat → Type 0) where
  abbrev pub Wraps : Type 0
  Wraps = (p : Process) (n : Name) (d : Path) → f.processes me ≡ Some p → job ≡ next_child me p → P (changed accounts f me p (Wrap (n ∷ d)))

  passed_or_not : (p : Process) (n : Name) (d : Path) (e : Option Errno) → f.processes me ≡ Some p → Wraps
      → is_wrap_reply job (Wrap (n ∷ d)) (reply_or e (Child (next_child me p))) ≡ true
      → P (flat_or e f (changed accounts f me p (Wrap (n ∷ d))))
  passed_or_not p n d (Some x) here k h = absurd (true≢false (sym h))
  passed_or_not p n d None here k h = k p n d here (is_same job (next_child me p) h)

  root_refused : (p : Process) (e : Option Errno)
      → is_wrap_reply job (Wrap []) (reply_or (e orelse Some EEXIST) (Child (next_child me p))) ≡ true → ⊥
  root_refused p None h = true≢false (sym h)
  root_refused p (Some x) h = true≢false (sym h)

  by_process : (q : Path) (o : Option Process) → running f me ≡ o → Wraps
      → is_wrap_reply job (Wrap q) (reply_by accounts f me o (Wrap q)) ≡ true → P (flat_by accounts f me o (Wrap q))
  by_process q None e k h = absurd (true≢false (sym h))
  by_process [] (Some p) e k h = absurd (root_refused p (no_child me p) h)
  by_process (n ∷ d) (Some p) e k h = passed_or_not p n d (refused accounts f me p (Wrap (n ∷ d))) (runs_is_there (f.processes me) p e) k h

  pub wrap_line : (call : UnixCall) → Wraps → is_wrap_reply job call (reply_to accounts f me call) ≡ true → P (flat_after accounts f me call)
  wrap_line (Wrap q) k h = by_process q (running f me) refl k h
  wrap_line _ k h = absurd (true≢false (sym h))

-- a name that was given is not given to a later job
pub never_again : (accounts : Accounts) (job : ProcName) (calls : List CallLine) (f : Flat) → is_given f.processes job ≡ true
    → starts job (answered_from accounts f calls) ≡ false
never_again accounts job [] f given = refl
never_again accounts job (c ∷ calls) f given =
    ap (λ b. b || starts job (answered_from accounts (flat_after accounts f c.process c.call) calls))
    (by (cases_Bool (is_wrap_reply job c.call (reply_to accounts f c.process c.call))))
    ∙ never_again accounts job calls (flat_after accounts f c.process c.call) (given_stays accounts f c.process c.call job given)
  where
    by : (is_wrap_reply job c.call (reply_to accounts f c.process c.call) ≡ true) ⊎
        (is_wrap_reply job c.call (reply_to accounts f c.process c.call) ≡ false)
        → is_wrap_reply job c.call (reply_to accounts f c.process c.call) ≡ false
    by (inl w) =
        absurd (wrap_line accounts f c.process job (λ x. ⊥) c.call
        (λ p n d here e. true≢false (sym given ∙ ap (is_given f.processes) e ∙ next_is_new f c.process p here)) w)
    by (inr w) = w

-- facts about the state right after the line of the wrap
module _ (accounts : Accounts) (f : Flat) (names : NamesAreGiven f) (me : ProcName) (p : Process) (here : f.processes me ≡ Some p) (n : Name)
    (d : Path) where
  abbrev pub new_job : ProcName
  new_job = next_child me p

  abbrev pub wrapped : Flat
  wrapped = changed accounts f me p (Wrap (n ∷ d))

  abbrev wrapper : Process
  wrapper = record p { held = p.held ++ new_job ∷ []; born = p.born + 1 }

  abbrev first : Process
  first = record { user = p.user; chain = inner_chain me p; held = []; exited = None; born = 0 }

  not_given : is_given f.processes new_job ≡ true → ⊥
  not_given given = true≢false (sym given ∙ next_is_new f me p here)

  -- a process that was there before neither is in the job nor holds it
  known_not : (q : ProcName) (y : Process) → f.processes q ≡ Some y → knows y new_job ≡ false
  known_not q y e = elim (cases_Bool (knows y new_job)) [
    | inl k ↦ absurd (not_given (names.of_known_jobs q y new_job e k))
    | inr k ↦ k
  ]

  in_not : (q : ProcName) (y : Process) → f.processes q ≡ Some y → has y.chain new_job ≡ under_process new_job q
  in_not q y e = (or_parts (has y.chain new_job) (has y.held new_job) (known_not q y e)).0 ∙ sym
      (elim (cases_Bool (under_process new_job q)) [
        | inl u ↦ absurd (not_given (given_above f.processes new_job q u (names.of_processes q y e)))
        | inr u ↦ u
      ])

  pub started_now : IsTree wrapped → NamesAreGiven wrapped → IsStarted new_job wrapped
  started_now tree now = record {
    tree = tree;
    given = now.of_processes new_job first
        (ap (λ b. cond b (Some first) (cond (same me new_job) (Some wrapper) (f.processes new_job))) (same_itself new_job));
    files = λ q y e c file. elim (same_path_found q (n ∷ d)) [
      | inl t ↦
          let found : Some scratch ≡ Some y = sym (get_new f.files (n ∷ d) scratch) ∙ ap (get (insert f.files (n ∷ d) scratch)) (sym t.1)
          ∙ e in
          let one : scratch ≡ y = cc in
          absurd (true≢false (ap is_dir one ∙ file))
      | inr t ↦ absurd (not_given (names.of_carried_jobs q y new_job (sym (get_other f.files (n ∷ d) scratch q t.1) ∙ e) c))
    ];
    inside = λ q y e. elim (born_cases f me wrapper new_job first q y e) [
      | inl t ↦
          ap (λ z. has z.chain new_job) (sym t.1) ∙ has_last p.chain new_job ∙ sym (under_itself nat_eq same_name_found new_job)
          ∙ ap (under_process new_job) t.0
      | inr v ↦ elim v [
        | inl t ↦ ap (λ z. has z.chain new_job) (sym t.1) ∙ in_not me p here ∙ ap (under_process new_job) t.0
        | inr t ↦ in_not q y t
      ]
    ];
    held = λ q y e out. elim (born_cases f me wrapper new_job first q y e) [
      | inl t ↦ ap (λ z. has z.held new_job) (sym t.1)
      | inr v ↦ elim v [
        | inl t ↦ absurd (true≢false (sym (same_itself me) ∙ ap (same me) t.0 ∙ out))
        | inr t ↦ (or_parts (has y.chain new_job) (has y.held new_job) (known_not q y t)).1
      ]
    ];
  }
    where
      scratch : Node
      scratch = record { class = Scratch p.user (inner_chain me p); content = Dir }

pub same_outside_itself : (job : ProcName) (f : Flat) → SameOutside job f f
same_outside_itself job f = record { files = same_files_itself job f.files; processes = λ q u. refl; chain = refl }

-- the two runs are in the same state up to the line of the wrap
module _ (m : ℕ) (w : ProcName) (accounts : Accounts) where
  abbrev job : ProcName
  job = m ∷ w

  before : (calls : List CallLine) (f : Flat) → IsTree f → NamesAreGiven f → starts job (answered_from accounts f calls) ≡ true
      → first_line (revealing job (answered_from accounts f calls)) (revealing job (answered_from accounts f (without job calls))) ≡ None
      → RunAlike job (answered_from accounts f calls) (answered_from accounts f (without job calls)) (flat_end accounts f calls)
      (flat_end accounts f (without job calls))
  before [] f tree names st told = absurd (true≢false (sym st))
  before (c ∷ calls) f tree names st told = elim (cases_Bool (is_wrap_reply job c.call (reply_to accounts f c.process c.call))) [
    | inl now ↦
        let is_wrapper : w ≡ c.process = wrap_line accounts f c.process job (λ x. w ≡ c.process) c.call (λ p n d here e. cc) now in
        let outside : under_process job c.process ≡ false = ap (under_process job) (sym is_wrapper)
        ∙ above_is_not_under nat_eq same_name_found w m in
        let is_parent : same w c.process ≡ true = ap (same w) (sym is_wrapper) ∙ same_itself w in
        let started : IsStarted job g = wrap_line accounts f c.process job (λ x. IsTree x → NamesAreGiven x → IsStarted job x) c.call
        (λ p n d here e. subst (λ z. IsTree (changed accounts f c.process p (Wrap (n ∷ d))) → NamesAreGiven
        (changed accounts f c.process p (Wrap (n ∷ d))) → IsStarted z (changed accounts f c.process p (Wrap (n ∷ d)))) (sym e)
        (started_now accounts f names c.process p here n d)) now tree_now names_now in
        let rest = runs_alike job accounts (all_steps m w accounts) calls g g (same_outside_itself job g) started started
        (sym (first_told true outside now) ∙ told) in
        record { lines = rw (outside, outside, is_parent) rest.lines; ends = rw outside rest.ends }
    | inr not_now ↦
        let go = before calls g tree_now names_now (sym (ap (λ b. b || starts job (answered_from accounts g calls)) not_now) ∙ st) in
        elim (cases_Bool (under_process job c.process)) [
          | inl u ↦ inside_line u (unmoved u) (go (sym (inside_told u (unmoved u) not_now) ∙ told))
          | inr u ↦ elim (cases_Bool (same w c.process)) [
            | inl v ↦
                let rest = go (sym (first_told false u not_now) ∙ told) in
                record { lines = rw (u, u, v) rest.lines; ends = rw u rest.ends }
            | inr v ↦ let rest = go (sym (first_told false u not_now) ∙ told) in record {
              lines = rw (u, u, v) (ap (λ b. cond b
                  (first_line (outsiders job (answered_from accounts g calls))
                  (outsiders job (answered_from accounts g (without job calls)))) (Some c.line))
                  (same_itself (reply_text (reply_to accounts f c.process c.call))) ∙ rest.lines);
              ends = rw u rest.ends;
            }
          ]
        ]
  ]
    where
      g : Flat
      g = flat_after accounts f c.process c.call

      tree_now : IsTree g
      tree_now = tree_after f tree accounts c.process c.call

      names_now : NamesAreGiven g
      names_now = given_after accounts f c.process c.call tree names

      -- no process of the job is there yet
      unmoved : under_process job c.process ≡ true → g ≡ f
      unmoved u = by (running f c.process) refl
        where
          by : (o : Option Process) → running f c.process ≡ o → flat_by accounts f c.process o c.call ≡ f
          by None e = refl
          by (Some p) e =
              absurd (true≢false (sym st ∙ never_again accounts job (c ∷ calls) f
              (given_above f.processes job c.process u (names.of_processes c.process p (runs_is_there (f.processes c.process) p e)))))

      -- the premise after the first line
      first_told : (b : Bool) → under_process job c.process ≡ false → is_wrap_reply job c.call (reply_to accounts f c.process c.call) ≡ b
          → first_line (revealing job (answered_from accounts f (c ∷ calls))) (revealing job (answered_from accounts f (without job (c ∷ calls))))
          ≡ first_line
          (filter (may_reveal job) (cond b (answered_from accounts g calls) (after_start job (answered_from accounts g calls))))
          (filter (may_reveal job) (cond b (answered_from accounts g (without job calls))
          (after_start job (answered_from accounts g (without job calls)))))
      first_told b u e = rw (u, e) refl

      inside_told : under_process job c.process ≡ true → g ≡ f → is_wrap_reply job c.call (reply_to accounts f c.process c.call) ≡ false
          → first_line (revealing job (answered_from accounts f (c ∷ calls))) (revealing job (answered_from accounts f (without job (c ∷ calls))))
          ≡ first_line (revealing job (answered_from accounts g calls)) (revealing job (answered_from accounts g (without job calls)))
      inside_told u e not_now =
          rw (u, not_now) (ap (λ x. first_line (revealing job (answered_from accounts g calls))
          (revealing job (answered_from accounts x (without job calls)))) (sym e))

      inside_line : under_process job c.process ≡ true → g ≡ f
          → RunAlike job (answered_from accounts g calls) (answered_from accounts g (without job calls)) (flat_end accounts g calls)
          (flat_end accounts g (without job calls))
          → RunAlike job (answered_from accounts f (c ∷ calls)) (answered_from accounts f (without job (c ∷ calls)))
          (flat_end accounts f (c ∷ calls)) (flat_end accounts f (without job (c ∷ calls)))
      inside_line u e rest = record {
        lines = rw u (subst (λ x. first_line (outsiders job (answered_from accounts g calls))
            (outsiders job (answered_from accounts x (without job calls))) ≡ None) e rest.lines);
        ends = rw u (subst (λ x. SameOutside job (flat_end accounts g calls)
            (flat_end accounts x (without job calls))) e rest.ends);
      }

-- A job that was started changes nothing outside it, if each `rmdir` and `wrap` of its holder is answered alike.
pub only_releases_differ : OnlyReleasesDiffer
only_releases_differ accounts calls [] st told = absurd (true≢false (sym st ∙ never_again accounts [] calls (boot accounts) refl))
only_releases_differ accounts calls (m ∷ w) st told =
    let run = before m w accounts calls (boot accounts) (paths_are_a_tree accounts []) (names_are_given_once.old accounts []) st told in
    let trees : first_path (m ∷ w) (flat_end accounts (boot accounts) calls)
    (flat_end accounts (boot accounts) (without (m ∷ w) calls)) ≡ None = no_path_differs (m ∷ w)
    (flat_end accounts (boot accounts) calls) (flat_end accounts (boot accounts) (without (m ∷ w) calls)) run.ends in
    rw (st, run.lines, trees) refl

-- if none of these calls is made, none is answered otherwise
none_made : (j : ProcName) (as' bs : List RepliedCall) → is_quiet j as' ≡ true → first_line (filter (may_reveal j) as') bs ≡ None
none_made j [] bs quiet = refl
none_made j (a ∷ as') bs quiet =
    let parts = and_parts (not (may_reveal j a)) (is_quiet j as') quiet in
    ap (λ b. first_line (cond b (a ∷ filter (may_reveal j) as') (filter (may_reveal j) as')) bs) (not-true (may_reveal j a) parts.0)
    ∙ none_made j as' bs parts.1

pub isolates_jobs : IsolatesJobs
isolates_jobs accounts calls job st quiet = only_releases_differ accounts calls job st
    (none_made job (after_start job (meaning accounts calls)) (revealing job (meaning accounts (without job calls))) quiet)
