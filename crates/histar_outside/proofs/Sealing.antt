-- A job is sealed: what is found below one of its processes is inside, and all that hangs below the container of a process is of its jobs.
use Rattle.std.proofs.Common.{◌≡◌, ℕ, ◌<◌, ◌==◌, Bool, true, false, ◌||◌, List, [], ◌∷◌, ◌++◌, map, Option, None, Some, inl, inr}
use Rattle.std.proofs.Common.{length, refl, sym, ap, ◌∙◌, subst, if◌then◌else◌}
use Rattle.std.specs.Prelude.{◌&&◌, option_and_then}
use mathlib.Core.Bool.{true≢false, false≢true}
use Rattle.std.proofs.lemmas.Bool.{and_parts, or_left, or_right}
use Rattle.std.proofs.lemmas.Bool.Decides.{eqb_tells, leb_tells}
use Rattle.std.proofs.lemmas.Option.{same_Some}
use Rattle.histar_flat.specs.Words.{ProcName, Path}
use Rattle.histar_flat.specs.Accounts.{Accounts}
use Rattle.histar_flat.specs.Classes.{Process}
use Rattle.histar_flat.specs.FlatState.{Flat}
use Rattle.histar_secrecy.specs.Leaks.{IsFamily}
use Rattle.histar_level.specs.declared.level.Level.TheVariants.{L3}
use Rattle.histar_level.specs.Levels.{Levels, level_of}
use Rattle.histar_object.specs.declared.objects.Object.{Object}
use Rattle.histar_object.specs.Objects.{label_there, is_thread}
use Rattle.histar_object.specs.State.{State}
use Rattle.histar_container.specs.Tree.{Address, Reached, here, there, wanted, objects_at, same_steps, under}
use Rattle.histar_container.proofs.Addresses.{same_is}
use Rattle.histar_container.proofs.Reaching.{reached_under}
use Rattle.histar_rules.proofs.Tainted.{if_some}
use Rattle.histar_layout.specs.Status.{ProcessStatus, child_at}
use Rattle.histar_layout.specs.declared.status.Child.{Child}
use Rattle.histar_layout.proofs.LabelLevels.{at_guarded, at_owning, guarded_level, owning_level}
use Rattle.histar_layout.proofs.Members.{is_in}
use Rattle.histar_syscall.specs.KernelModel.{state}
use Rattle.histar_programs.specs.declared.roots.Home.{Home}
use Rattle.histar_programs.specs.declared.caller.Caller.{Caller}
use Rattle.histar_programs.specs.Caller.{home_at, child_home, caller_by, caller_in, running_caller, labelled_caller, leads_to, is_linked, status_at}
use Rattle.histar_programs.specs.Caller.{if_runs, write_category_in, read_category_in}
use Rattle.histar_programs.specs.Start.{roots_of}
use Rattle.histar_refinement.specs.Addresses.{Step, same_step, address_of, home_address}
use Rattle.histar_refinement.specs.Addresses.Step.{Left, Listing, Status, Inside, Runner}
use Rattle.histar_refinement.specs.Agrees.{bare, kind_bare}
use Rattle.histar_refinement.specs.Asked.{AsksFor}
use Rattle.histar_refinement.specs.Asked.AsksFor.{AtRoot, AtLeft, AtFile, AtDirectory, AtListing, AtHome, AtStatus, AtInside, AtRunner}
use Rattle.histar_refinement.specs.Categories.{Categories}
use Rattle.histar_refinement.specs.Categories.CategoryName.{OfJob, WritesProcess, ReadsProcess}
use Rattle.histar_refinement.specs.Guards.{guard_label, rights_label}
use Rattle.histar_refinement.specs.Labels.{process_guard, inside_guard, thread_rights}
use Rattle.histar_refinement.specs.Represents.{ObjectsMatch}
use Rattle.histar_refinement.proofs.Agreeing.{home_found}
use Rattle.histar_refinement.proofs.Roots.{same_home}
use Rattle.histar_refinement.proofs.Steps.{step_tests_equality}
use Rattle.histar_unwinding.specs.Sealed.{IsSealed}
use Rattle.histar_unwinding.proofs.Moves.{or_case}
use Rattle.histar_outside.specs.Search.{IsInsideCaller}
use Rattle.histar_outside.specs.SealedJobs.{SealedSearch, JobsAreSealed, JobLinesStayInside}
use Rattle.histar_outside.proofs.Searches.{found_there, at_container}
use Rattle.histar_outside.proofs.AllPrograms.{attacks_keep_seals}

-- ---- the search

module _ (s : State) where
  -- the container of a process links that of a child that is found
  by_child : (up home : Home) (o : Option Child)
      → option_and_then (λ (child : Child). if is_linked s up.container child.container
      then Some (record { container = child.container; segment = child.segment }) else None) o ≡ Some home
      → is_linked s up.container home.container ≡ true
  by_child up home None e = cc
  by_child up home (Some child) e =
      let is =
      if_some (is_linked s up.container child.container) (Some (record { container = child.container; segment = child.segment })) home e in
      ap (λ (h : Home). is_linked s up.container h.container) (sym (same_Some _ home is.1)) ∙ is.0

  child_linked : (n : ℕ) (up home : Home) → child_home s up n ≡ Some home → is_linked s up.container home.container ≡ true
  child_linked n up home e = by (status_at s up.segment) e
    where
      by : (o : Option ProcessStatus)
          → option_and_then (λ (status : ProcessStatus). option_and_then (λ (child : Child). if is_linked s up.container child.container
          then Some (record { container = child.container; segment = child.segment }) else None) (child_at status.children n)) o ≡ Some home
          → is_linked s up.container home.container ≡ true
      by None k = cc
      by (Some status) k = by_child up home (child_at status.children n) k

  module _ (first : Home) (me : ProcName) (home : Home) (at : home_at s first me ≡ Some home) where
    -- links lead from the container of a process to those of the processes below it
    home_reached : (below : ProcName) (last : Home) → home_at s first (below ++ me) ≡ Some last → Reached s.objects home.container last.container
    home_reached [] last e =
        subst (λ (h : Home). Reached s.objects home.container h.container) (same_Some home last (sym at ∙ e)) here
    home_reached (n ∷ below) last e = by (home_at s first (below ++ me)) (home_reached below) e
      where
        by : (o : Option Home) → ((up : Home) → o ≡ Some up → Reached s.objects home.container up.container)
            → option_and_then (λ (up : Home). child_home s up n) o ≡ Some last → Reached s.objects home.container last.container
        by None above k = cc
        by (Some up) above k = there up.container last.container (above up refl) (child_linked n up last k)

  -- the thread of a process is the one that it was found by
  same_thread : (home : Home) (internal thread : ℕ) (caller : Caller) → labelled_caller s home internal thread ≡ Some caller → thread ≡ caller.thread
  same_thread home internal thread caller e = by (label_there (s.objects home.container)) (label_there (s.objects internal)) e
    where
      last : (read : Option ℕ) (write : ℕ)
          → option_and_then (λ r. Some (record { home = home; thread = thread; read = r; write = write })) read ≡ Some caller → thread ≡ caller.thread
      last None write k = cc
      last (Some read) write k = ap (λ (c : Caller). c.thread) (same_Some _ caller k)

      then_read : (write read : Option ℕ)
          → option_and_then (λ w. option_and_then (λ r. Some (record { home = home; thread = thread; read = r; write = w })) read) write ≡ Some caller
          → thread ≡ caller.thread
      then_read None read k = cc
      then_read (Some write) read k = last read write k

      by : (outer inner : Option Levels)
          → option_and_then (λ o. option_and_then (λ i. option_and_then (λ w. option_and_then
          (λ r. Some (record { home = home; thread = thread; read = r; write = w })) (read_category_in o i)) (write_category_in o)) inner) outer
          ≡ Some caller → thread ≡ caller.thread
      by None inner k = cc
      by (Some o) None k = cc
      by (Some o) (Some i) k = then_read (write_category_in o) (read_category_in o i) k

  -- links lead from the container of a process that is found to its thread
  thread_reached : (d : ℕ) (home : Home) (internal thread : ℕ) (caller : Caller) → Reached s.objects d home.container
      → running_caller s home internal thread ≡ Some caller → Reached s.objects d caller.thread
  thread_reached d home internal thread caller r e =
      let is = if_some (leads_to s home.container internal thread) (labelled_caller s home internal thread) caller e in
      let outer =
      and_parts (is_linked s home.container internal && is_linked s internal thread) (is_thread (s.objects thread)) is.0 in
      let both = and_parts (is_linked s home.container internal) (is_linked s internal thread) outer.0 in
      subst (Reached s.objects d) (same_thread home internal thread caller is.1)
      (there internal thread (there home.container internal r both.0) both.1)

  found_reached : (d : ℕ) (home : Home) (caller : Caller) → Reached s.objects d home.container → caller_in s home ≡ Some caller
      → Reached s.objects d caller.thread
  found_reached d home caller r e = by (status_at s home.segment) e
    where
      runs : (status : ProcessStatus) (o : Option ℕ) → if_runs o (running_caller s home status.internal status.thread) ≡ Some caller
          → Reached s.objects d caller.thread
      runs status None k = thread_reached d home status.internal status.thread caller r k
      runs status (Some n) k = cc

      by : (o : Option ProcessStatus) → option_and_then (caller_by s home) o ≡ Some caller → Reached s.objects d caller.thread
      by None k = cc
      by (Some status) k = runs status status.exited k

pub sealed_search : SealedSearch
sealed_search s v first me home at sealed below caller found o is thread =
    sealed.tainted caller.thread o (by (home_at s first (below ++ me)) refl found) is
  where
    by : (h : Option Home) → home_at s first (below ++ me) ≡ h → option_and_then (caller_in s) h ≡ Some caller
        → Reached s.objects home.container caller.thread
    by None i k = cc
    by (Some last) i k = found_reached s home.container last caller (home_reached s first me home at below last i) k

-- where a process is not found, none below it is
none_below : (s : State) (first : Home) (me : ProcName) → home_at s first me ≡ None → (below : ProcName) → home_at s first (below ++ me) ≡ None
none_below s first me none [] = none
none_below s first me none (n ∷ below) = ap (option_and_then (λ (up : Home). child_home s up n)) (none_below s first me none below)

-- so each process below one whose container is sealed, if it is found, is inside
pub below_sealed : (s : State) (v : ℕ) (first : Home) (job : ProcName)
    → ((now : Home) → home_at s first job ≡ Some now → IsSealed s v now.container) → (below : ProcName) → IsInsideCaller s v first (below ++ job)
below_sealed s v first job sealed below = by (home_at s first job) refl
  where
    by : (o : Option Home) → home_at s first job ≡ o → IsInsideCaller s v first (below ++ job)
    by None lost caller found =
        let none = ap (option_and_then (caller_in s)) (none_below s first job lost below) in
        let no : None ≡ Some caller = sym none ∙ found in cc
    by (Some now) is caller found = sealed_search s v first job now is (sealed now is) below caller found

-- ---- what hangs below the container of a process

-- the category of one of these jobs is v
abbrev IsOfOne : Categories → ℕ → List ProcName → Type 0
IsOfOne category v jobs = is_in (map category (map OfJob jobs)) v ≡ true

one_more : (category : Categories) (v : ℕ) (outer inner : List ProcName) → IsOfOne category v outer → IsOfOne category v (outer ++ inner)
one_more category v [] inner e = absurd (false≢true e)
one_more category v (j ∷ outer) inner e = elim (or_case (v == category (OfJob j)) (is_in (map category (map OfJob outer)) v) e) [
  | inl h ↦ or_left (v == category (OfJob j)) (is_in (map category (map OfJob (outer ++ inner))) v) h
  | inr h ↦ or_right (v == category (OfJob j)) (is_in (map category (map OfJob (outer ++ inner))) v) (one_more category v outer inner h)
]

the_job : (category : Categories) (v : ℕ) (jobs : List ProcName) → IsOfOne category v jobs → (job : ProcName) × (v ≡ category (OfJob job))
the_job category v [] e = absurd (false≢true e)
the_job category v (j ∷ jobs) e = elim (eqb_tells v (category (OfJob j))) [
  | inl h ↦ (j, h.1)
  | inr h ↦ the_job category v jobs (ap (λ b. b || is_in (map category (map OfJob jobs)) v) (sym h.0) ∙ e)
]

-- a guarded label has level 3 where the category is secret
pub secret_three : (a b : Bool) → guarded_level a b ≡ L3 → a ≡ true
secret_three true b e = refl
secret_three false true e = cc
secret_three false false e = cc

three_level : (a b : Bool) → a ≡ true → b ≡ false → guarded_level a b ≡ L3
three_level true false e h = refl
three_level true true e h = cc
three_level false b e h = cc

-- no address of a file or a directory is below that of a process
not_a_path : (me : ProcName) (q : Path) → under same_step (home_address me) (address_of q) ≡ false
not_a_path [] [] = refl
not_a_path (n ∷ me) [] = refl
not_a_path [] (m ∷ d) = not_a_path [] d
not_a_path (n ∷ me) (m ∷ d) = not_a_path (n ∷ me) d

not_a_listing : (me : ProcName) (q : Path) → under same_step (home_address me) (Listing ∷ address_of q) ≡ false
not_a_listing [] q = not_a_path [] q
not_a_listing (n ∷ me) q = not_a_path (n ∷ me) q

not_the_root : (me : ProcName) → under same_step (home_address me) [] ≡ false
not_the_root [] = refl
not_the_root (n ∷ me) = refl

not_left : (me : ProcName) (q : ℕ) → under same_step (home_address me) (Left q ∷ []) ≡ false
not_left [] q = refl
not_left (n ∷ me) q = refl

-- what is in a process is below where the process is
status_below : (me q : ProcName) → under same_step (home_address me) (Status ∷ home_address q) ≡ true
    → under same_step (home_address me) (home_address q) ≡ true
status_below [] q u = u
status_below (n ∷ me) q u = u

inside_below : (me q : ProcName) → under same_step (home_address me) (Inside ∷ home_address q) ≡ true
    → under same_step (home_address me) (home_address q) ≡ true
inside_below [] q u = u
inside_below (n ∷ me) q u = u

runner_below : (me q : ProcName) → under same_step (home_address me) (Runner ∷ Inside ∷ home_address q) ≡ true
    → under same_step (home_address me) (home_address q) ≡ true
runner_below [] q u = u
runner_below (n ∷ me) q u = u

module _ (accounts : Accounts) (v : ℕ) (s : State) (f : Flat) (l : ObjectsMatch accounts s f) (family : IsFamily f) (me : ProcName) where
  -- a process of a job has what is below it in the job
  module _ (p : Process) (at_me : f.processes me ≡ Some p) (of_one : IsOfOne l.category v p.chain) where
    same_process : (q : ProcName) (x : Process) → me ≡ q → f.processes q ≡ Some x → IsOfOne l.category v x.chain
    same_process q x same is =
        let one : Some p ≡ Some x = sym at_me ∙ ap f.processes same ∙ is in
        subst (λ (y : Process). IsOfOne l.category v y.chain) (same_Some p x one) of_one

    of_job : (q : ProcName) (x : Process) → f.processes q ≡ Some x → under same_step (home_address me) (home_address q) ≡ true
        → IsOfOne l.category v x.chain
    of_job [] x is u = elim (or_case (same_steps same_step (home_address me) (home_address [])) (under same_step (home_address me) []) u) [
      | inl h ↦ same_process [] x (same_home me [] (same_is same_step step_tests_equality (home_address me) (home_address []) h)) is
      | inr h ↦ absurd (true≢false (sym h ∙ not_the_root me))
    ]
    of_job (n ∷ q) x is u =
        elim (or_case (same_steps same_step (home_address me) (home_address (n ∷ q))) (under same_step (home_address me) (home_address q)) u) [
          | inl h ↦ same_process (n ∷ q) x (same_home me (n ∷ q) (same_is same_step step_tests_equality (home_address me) (home_address (n ∷ q)) h))
              is
          | inr h ↦
              let above = family n q x is in
              subst (IsOfOne l.category v) (sym above.3) (one_more l.category v above.0.chain above.2 (of_job q above.0 above.1 h))
        ]

    -- a process's own category to write by is not that of a job
    not_written : (q : ProcName) → is_in (l.category (WritesProcess q) ∷ []) v ≡ false
    not_written q =
        let job = the_job l.category v p.chain of_one in
        elim (eqb_tells v (l.category (WritesProcess q))) [
          | inl h ↦ let same : OfJob job.0 ≡ WritesProcess q = l.different (OfJob job.0) (WritesProcess q) (sym job.1 ∙ h.1) in cc
          | inr h ↦ ap (λ b. b || false) h.0
        ]

    home_three : (q : ProcName) (x : Process) → IsOfOne l.category v x.chain → level_of (guard_label l.category (process_guard q x)) v ≡ L3
    home_three q x of =
        at_guarded (map l.category (map OfJob x.chain)) (l.category (WritesProcess q) ∷ []) v ∙ three_level _ _ of (not_written q)

    inside_three : (q : ProcName) (x : Process) → IsOfOne l.category v x.chain → level_of (guard_label l.category (inside_guard q x)) v ≡ L3
    inside_three q x of =
        at_guarded (l.category (ReadsProcess q) ∷ map l.category (map OfJob x.chain)) (l.category (WritesProcess q) ∷ []) v
        ∙ three_level _ _ (or_right (v == l.category (ReadsProcess q)) (is_in (map l.category (map OfJob x.chain)) v) of) (not_written q)

    runner_three : (q : ProcName) (x : Process) → IsOfOne l.category v x.chain
        → level_of (rights_label l.category (thread_rights accounts q x)) v ≡ L3
    runner_three q x of =
        at_owning (map l.category (thread_rights accounts q x).owned) (map l.category (map OfJob x.chain)) v
        ∙ ap (owning_level (is_in (map l.category (thread_rights accounts q x).owned) v)) of

    -- so all that is asked for below the process is tainted in v
    asked_three : (a : Address Step) (o : Object Levels) → AsksFor accounts l.category f l.naming.number a o
        → under same_step (home_address me) a ≡ true → level_of o.label v ≡ L3
    asked_three a o AtRoot u = absurd (true≢false (sym u ∙ not_the_root me))
    asked_three a o (AtLeft q left is) u = absurd (true≢false (sym u ∙ not_left me q))
    asked_three a o (AtFile q bytes g guarded) u = absurd (true≢false (sym u ∙ not_a_path me q))
    asked_three a o (AtDirectory d g guarded) u = absurd (true≢false (sym u ∙ not_a_path me d))
    asked_three a o (AtListing d g guarded) u = absurd (true≢false (sym u ∙ not_a_listing me d))
    asked_three a o (AtHome q x is) u = home_three q x (of_job q x is u)
    asked_three a o (AtStatus q x is) u = home_three q x (of_job q x is (status_below me q u))
    asked_three a o (AtInside q x is runs) u = inside_three q x (of_job q x is (inside_below me q u))
    asked_three a o (AtRunner q x is runs) u = runner_three q x (of_job q x is (runner_below me q u))

    module _ (d : ℕ) (at_home : l.naming.number (home_address me) ≡ Some d) where
      given_number : d < s.next_object
      given_number = elim (leb_tells s.next_object d) [
        | inl h ↦ let no : None ≡ Some (home_address me) = sym (l.agrees.tree.unused d h.1)
            ∙ l.agrees.tree.addressed (home_address me) d at_home in cc
        | inr h ↦ h.1
      ]

      below_three : (q : ℕ) (o : Object Levels) → Reached s.objects d q → s.objects q ≡ Some o → level_of o.label v ≡ L3
      below_three q o r is =
          let tree = l.agrees.tree in
          let at =
          reached_under same_step step_tests_equality s.objects s.next_object (objects_at s.objects l.naming) l.naming tree d (home_address me)
          (tree.addressed (home_address me) d at_home) q r in
          let there_is : objects_at s.objects l.naming at.0 ≡ Some o =
          sym (tree.as_expected q ∙ ap (wanted (objects_at s.objects l.naming)) at.1) ∙ is in
          asked_three at.0 (record { label = o.label; kind = kind_bare o.kind })
          ((l.agrees.objects at.0 (record { label = o.label; kind = kind_bare o.kind })).0 (ap bare there_is)) at.2

      pub home_sealed : IsSealed s v d
      home_sealed = record { given = given_number; tainted = below_three }

pub jobs_sealed : JobsAreSealed
jobs_sealed accounts v s f me home rep family at tainted =
    let l = rep.matched in
    let there_is = found_there accounts s f l me home at in
    let number = at_container accounts s f l me home at in
    let object = home_found accounts s f l me there_is.0 there_is.1 home.container number in
    let p = there_is.0 in
    let label : guard_label l.category (process_guard me p) ≡ tainted.0.label =
    ap (λ (x : Object Levels). x.label) (same_Some _ tainted.0 (sym object.1 ∙ tainted.1)) in
    let level : guarded_level (is_in (map l.category (map OfJob p.chain)) v) (is_in (l.category (WritesProcess me) ∷ []) v) ≡ L3 =
    sym (at_guarded (map l.category (map OfJob p.chain)) (l.category (WritesProcess me) ∷ []) v) ∙ ap (λ (L : Levels). level_of L v) label
    ∙ tainted.2 in
    let of_one = secret_three (is_in (map l.category (map OfJob p.chain)) v) (is_in (l.category (WritesProcess me) ∷ []) v) level in
    home_sealed accounts v s f l family me p there_is.1 of_one home.container number

pub lines_stay_inside : JobLinesStayInside
lines_stay_inside accounts v m end f lines job home later alike family made at tainted same =
    below_sealed (state end.kernel) v end.roots.home job (λ now is. subst (IsSealed (state end.kernel) v) (sym (same now is)) still)
  where
    roots : m.roots.home ≡ (roots_of (length accounts.users)).home
    roots = ap (λ r. r.home) alike.shows.roots

    sealed : IsSealed (state m.kernel) v home.container
    sealed =
        jobs_sealed accounts v (state m.kernel) f job home alike.shows.represents family
        (subst (λ (h : Home). home_at (state m.kernel) h job ≡ Some home) roots at) tainted

    still : IsSealed (state end.kernel) v home.container
    still = attacks_keep_seals accounts v home.container m m end f lines later alike made sealed
