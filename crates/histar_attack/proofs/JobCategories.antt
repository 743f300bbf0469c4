-- The category of a job is the one that its first process's container has at 3 and that of the process above hasn't.
use Rattle.std.proofs.Common.{◌≡◌, ℕ, zero, suc, ◌⊎◌, Bool, true, false, ◌&&◌, List, [], ◌∷◌}
use Rattle.std.proofs.Common.{map, Option, None, Some, Contains, length}
use Rattle.std.proofs.Common.{refl, sym, ap, ◌∙◌, subst, inl, inr, arith, if◌then◌else◌}
use Rattle.std.specs.Prelude.{MatchOption, is_some, nat_eq, not, option_and_then, option_map}
use Rattle.std.specs.Cmp.Lexicographic.{pointwise}
use Rattle.std.specs.List.{find}
use Rattle.std.proofs.lemmas.Bool.{and_parts, or_cases, or_left}
use mathlib.Core.Bool.{true≢false}
use Rattle.histar_flat.specs.Words.{ProcName}
use Rattle.histar_flat.specs.Accounts.{Accounts, has}
use Rattle.histar_flat.specs.Classes.{Process}
use Rattle.histar_flat.specs.FlatState.{Flat}
use Rattle.histar_flat.specs.FlatCalls.{if_running, running}
use Rattle.histar_flat.specs.PathOrder.{under_process}
use Rattle.histar_flat.proofs.FileLemmas.{same_name_found}
use Rattle.histar_flat.proofs.Under.{above_is_not_under}
use Rattle.histar_secrecy.specs.Leaks.{IsFamily}
use Rattle.histar_secrecy.specs.Noninterference.{IsReached}
use Rattle.histar_secrecy.proofs.Family.{processes_are_a_tree}
use Rattle.histar_secrecy.proofs.Knowing.{AreJobs, jobs_at_end}
use Rattle.histar_level.specs.declared.level.Level.{Level}
use Rattle.histar_level.specs.declared.level.Level.TheVariants.{L1, L3}
use Rattle.histar_level.specs.Levels.{Levels, exceptions_of, level_of}
use Rattle.histar_label.proofs.Listed.{ListsExceptions-exceptions_of}
use Rattle.histar_object.specs.Objects.{label_there}
use Rattle.histar_object.specs.State.{State}
use Rattle.histar_layout.specs.Jobs.{is_three}
use Rattle.histar_layout.specs.Reading.{◌>>=◌}
use Rattle.histar_layout.proofs.LabelLevels.{at_guarded, guarded_level}
use Rattle.histar_layout.proofs.Members.{is_in}
use Rattle.histar_programs.specs.declared.roots.Home.{Home}
use Rattle.histar_programs.specs.declared.caller.Caller.{Caller}
use Rattle.histar_programs.specs.Caller.{caller_at, home_at, read_category_in}
use Rattle.histar_programs.specs.Start.{roots_of}
use Rattle.histar_refinement.specs.Addresses.{home_address}
use Rattle.histar_refinement.specs.Agrees.{bare}
use Rattle.histar_refinement.specs.Asked.AsksFor.{AtHome}
use Rattle.histar_refinement.specs.Categories.{AreDifferent, Categories}
use Rattle.histar_refinement.specs.Categories.CategoryName.{OfJob, WritesProcess}
use Rattle.histar_refinement.specs.Guards.{guard_label}
use Rattle.histar_refinement.specs.Labels.{process_guard}
use Rattle.histar_refinement.specs.Represents.{ObjectsMatch, Represents}
use Rattle.histar_refinement.proofs.CallerFound.{caller_found, callers_are_there, home_is, is_or_zero, where_is}
use Rattle.histar_refinement.proofs.CallerLabels.{default_guarded}
use Rattle.histar_refinement.proofs.CategoryTests.{among_jobs, is_in_names, named_in}
use Rattle.histar_refinement.proofs.FileLabels.{label_bare}
use Rattle.histar_refinement.proofs.FoundCategories.{found_in_label}
use Rattle.histar_refinement.proofs.StatusFound.{numbered_home}
use Rattle.histar_refinement.proofs.Uses.{job_among}
use Rattle.histar_attack.specs.Confinement.{JobsHaveTheirCategories, RunsJob, job_category}

-- ---- labels

module _ (test : ℕ × Level → Bool) where
  -- where no exception passes, none is found
  none_found : (es : List (ℕ × Level)) → ((e : ℕ × Level) → Contains es e → test e ≡ true → ⊥)
      → option_map (λ (e : ℕ × Level). e.0) (find test es) ≡ None
  none_found [] none = refl
  none_found (e ∷ es) none =
      by (test e) refl (none_found es (λ x at. none x (suc at.0, let low = at.1 in omega (arith, low), at.2)))
    where
      by : (b : Bool) → test e ≡ b → option_map (λ (x : ℕ × Level). x.0) (find test es) ≡ None
          → option_map (λ (x : ℕ × Level). x.0) (if b then Some e else find test es) ≡ None
      by true is later = absurd (none e (zero, omega arith, refl) is)
      by false is later = later

  none_in_label : (L : Levels) → ((d : ℕ) (m : Level) → level_of L d ≡ m → test (d, m) ≡ true → ⊥)
      → option_map (λ (e : ℕ × Level). e.0) (find test (exceptions_of L)) ≡ None
  none_in_label L none =
      none_found (exceptions_of L)
      (λ e contains tested. none e.0 e.1 ((ListsExceptions-exceptions_of L e.0 e.1).0 contains).0 tested)

three_secret : (s w : Bool) → is_three (guarded_level s w) ≡ true → s ≡ true
three_secret s true e = absurd (true≢false (sym e))
three_secret true false e = refl
three_secret false false e = absurd (true≢false (sym e))

not_three : (s : Bool) → not (is_three (guarded_level s false)) ≡ true → s ≡ false
not_three true e = absurd (true≢false (sym e))
not_three false e = refl

-- ---- the categories of the container of a process, beside that of the process above

module _ (category : Categories) (different : AreDifferent category) (n : ℕ) (above : ProcName) (p parent : Process) where
  abbrev job : ProcName
  job = n ∷ above

  abbrev inner : Levels
  inner = guard_label category (process_guard job p)

  abbrev outer : Levels
  outer = guard_label category (process_guard above parent)

  abbrev test : ℕ × Level → Bool
  test e = is_three e.1 && not (is_three (level_of outer e.0))

  -- the level of a job's category in the label of a process's container
  level_at : (me : ProcName) (q : Process) (j : ProcName)
      → level_of (guard_label category (process_guard me q)) (category (OfJob j)) ≡ guarded_level (has q.chain j) false
  level_at me q j =
      at_guarded (map category (map OfJob q.chain)) (category (WritesProcess me) ∷ []) (category (OfJob j))
      ∙ (λ i. guarded_level ((is_in_names category different (map OfJob q.chain) (OfJob j) ∙ among_jobs q.chain j) i)
      (is_in_names category different (WritesProcess me ∷ []) (OfJob j) i))

  -- what passes is the category of a job that the process is in, and the one above isn't
  passing : (d : ℕ) (m : Level) → level_of inner d ≡ m → test (d, m) ≡ true
      → (j : ProcName) × (d ≡ category (OfJob j)) × (has p.chain j ≡ true) × (has parent.chain j ≡ false)
  passing d m at passes =
      let both = and_parts (is_three m) (not (is_three (level_of outer d))) passes in
      let secret =
      three_secret (is_in (map category (map OfJob p.chain)) d) (is_in (category (WritesProcess job) ∷ []) d)
      (ap is_three (sym (at_guarded (map category (map OfJob p.chain)) (category (WritesProcess job) ∷ []) d) ∙ at) ∙ both.0) in
      let named = named_in category (map OfJob p.chain) d secret in
      let of = job_among p.chain named.0 named.2 in
      let is : d ≡ category (OfJob of.0) = named.1 ∙ ap category of.1 in (
        of.0,
        is,
        of.2,
        not_three (has parent.chain of.0)
            (ap (λ (k : Level). not (is_three k)) (sym (level_at above parent of.0) ∙ ap (level_of outer) (sym is)) ∙ both.1),
      )

  module _ (inherits : (j : ProcName) → has p.chain j ≡ true → (j ≡ job) ⊎ (has parent.chain j ≡ true)) where
    only : (d : ℕ) (m : Level) → level_of inner d ≡ m → test (d, m) ≡ true → (d ≡ category (OfJob job)) × (has p.chain job ≡ true)
    only d m at passes =
        let is = passing d m at passes in
        elim (inherits is.0 is.2) [
          | inl same ↦ (is.1 ∙ ap (λ j. category (OfJob j)) same, ap (has p.chain) (sym same) ∙ is.2)
          | inr also ↦ absurd (true≢false (sym also ∙ is.3))
        ]

    pub job_found : has p.chain job ≡ true → has parent.chain job ≡ false → read_category_in outer inner ≡ Some (category (OfJob job))
    job_found is lost =
        found_in_label test (category (OfJob job)) inner L3
        (level_at job p job ∙ ap (λ b. guarded_level b false) is)
        (λ e. let wrong : L3 ≡ L1 = e ∙ default_guarded (map category (map OfJob p.chain)) (category (WritesProcess job) ∷ []) in
        true≢false (ap is_three wrong))
        (ap (λ (k : Level). not (is_three k)) (level_at above parent job ∙ ap (λ b. guarded_level b false) lost))
        (λ d m at passes. (only d m at passes).0)

    pub job_lost : has p.chain job ≡ false → read_category_in outer inner ≡ None
    job_lost lost = none_in_label test inner (λ d m at passes. true≢false (sym (only d m at passes).1 ∙ lost))

-- ---- states that represent flat states

module _ (accounts : Accounts) (s : State) (f : Flat) (rep : Represents accounts s f) (reached : IsReached accounts f) where
  abbrev l : ObjectsMatch accounts s f
  l = rep.matched

  abbrev first : Home
  first = (roots_of (length accounts.users)).home

  jobs : AreJobs f
  jobs = subst AreJobs reached.1 (jobs_at_end accounts reached.0)

  family : IsFamily f
  family = subst IsFamily reached.1 (processes_are_a_tree accounts reached.0)

  container_label : (me : ProcName) (p : Process) → f.processes me ≡ Some p → (q : ℕ) → l.naming.number (home_address me) ≡ Some q
      → label_there (s.objects q) ≡ Some (guard_label l.category (process_guard me p))
  container_label me p here q at =
      sym (label_bare (s.objects q))
      ∙ ap label_there (ap (λ (x : Option ℕ). bare (option_and_then s.objects x)) (sym at)
      ∙ (l.agrees.objects (home_address me) _).1 (AtHome me p here))

  module _ (n : ℕ) (above : ProcName) where
    abbrev me : ProcName
    me = n ∷ above

    abbrev Has : Option ℕ → Type 0
    Has found = MatchOption found (RunsJob f me → ⊥) (λ v. RunsJob f me × (l.category (OfJob me) ≡ v))

    -- the steps of the search for the category
    abbrev by_inner : Levels → Option Levels → Option ℕ
    by_inner outer o = o >>= λ inner. read_category_in outer inner

    abbrev by_outer : Caller → Option Levels → Option ℕ
    by_outer caller o = o >>= λ outer. by_inner outer (label_there (s.objects caller.home.container))

    abbrev by_parent : Caller → Option Home → Option ℕ
    by_parent caller o = o >>= λ parent. by_outer caller (label_there (s.objects parent.container))

    abbrev by_caller : Option Caller → Option ℕ
    by_caller o = o >>= λ caller. by_parent caller (home_at s first above)

    module _ (p : Process) (here : f.processes me ≡ Some p) where
      known : (j : ProcName) → has p.chain j ≡ true → (parent : Process) → f.processes above ≡ Some parent
          → (j ≡ me) ⊎ (has parent.chain j ≡ true)
      known j in_chain parent there =
          let started = jobs.started me p j here (or_left (has p.chain j) (has p.held j) in_chain) in
          elim (or_cases (pointwise nat_eq j me) (under_process j above) (sym (started.inside me p here) ∙ in_chain)) [
            | inl t ↦ elim (same_name_found j me) [
              | inl u ↦ inl u.1
              | inr u ↦ absurd (true≢false (sym t ∙ u.0))
            ]
            | inr t ↦ inr (started.inside above parent there ∙ t)
          ]

      no_parent : has p.chain me ≡ true → (parent : Process) → f.processes above ≡ Some parent → has parent.chain me ≡ false
      no_parent in_chain parent there =
          let started = jobs.started me p me here (or_left (has p.chain me) (has p.held me) in_chain) in
          started.inside above parent there ∙ above_is_not_under nat_eq same_name_found above n

      -- where the process runs, its category is found exactly if it is in the job of its name
      by_labels : p.exited ≡ None → (parent : Process) → (there : f.processes above ≡ Some parent)
          → Has (read_category_in (guard_label l.category (process_guard above parent)) (guard_label l.category (process_guard me p)))
      by_labels runs parent there = by (has p.chain me) refl
        where
          by : (b : Bool) → has p.chain me ≡ b
              → Has (read_category_in (guard_label l.category (process_guard above parent)) (guard_label l.category (process_guard me p)))
          by true is =
              subst Has
              (sym (job_found l.category l.different n above p parent (λ j e. known j e parent there) is (no_parent is parent there)))
              ((p, here, runs, is), refl)
          by false lost =
              subst Has (sym (job_lost l.category l.different n above p parent (λ j e. known j e parent there) lost))
              (λ r. let same : r.0 ≡ p = same_process r.0 p (sym r.1 ∙ here) in
              true≢false (sym r.3 ∙ ap (λ (q : Process). has q.chain me) same ∙ lost))
            where
              same_process : (a b : Process) → Some a ≡ Some b → a ≡ b
              same_process a b e = cc

    by_search : (o : Option Caller) → caller_at s first me ≡ o → Has (by_caller o)
    by_search None lost = λ r.
        let there = callers_are_there accounts s f l me in
        let runs : is_some (running f me) ≡ true =
        ap (λ (x : Option Process). is_some (if_running x)) r.1
        ∙ ap (λ (e : Option ℕ). is_some (if_running (Some (record r.0 { exited = e })))) r.2 in
        true≢false (sym runs ∙ sym there ∙ ap is_some lost)
    by_search (Some caller) found =
        let p = caller_found accounts s f l me caller found in
        let here = p.1.runs.0 in
        let parent = family n above p.0 here in
        let home = home_is accounts s f l above ∙ ap (option_map (λ (q : Process). where_is accounts s f l above)) parent.1 in
        let outer =
        container_label above parent.0 parent.1 (where_is accounts s f l above).container
        (is_or_zero _ (numbered_home accounts s f l above ∙ ap is_some parent.1)) in
        let inner = container_label me p.0 here caller.home.container p.1.home in
        subst Has (sym (ap (by_parent caller) home ∙ ap (by_outer caller) outer
        ∙ ap (by_inner (guard_label l.category (process_guard above parent.0))) inner))
        (by_labels p.0 here p.1.runs.1 parent.0 parent.1)

    below_first : Has (job_category s first me)
    below_first = subst (λ (o : Option Caller). Has (by_caller o)) refl (by_search (caller_at s first me) refl)

pub jobs_have_their_categories : JobsHaveTheirCategories
jobs_have_their_categories accounts s f rep [] reached = λ r.
    (jobs accounts s f rep reached).child [] r.0 [] r.1 (or_left (has r.0.chain []) (has r.0.held []) r.3) refl
jobs_have_their_categories accounts s f rep (n ∷ above) reached = below_first accounts s f rep reached n above
