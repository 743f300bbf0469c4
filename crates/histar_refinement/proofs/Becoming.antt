-- A thread takes another label and another clearance: its process is another user's, or holds other jobs.
use Rattle.std.proofs.Common.{◌≡◌, ◌≢◌, ℕ, ◌≤◌, ◌⊎◌, inl, inr, Bool, true, false, ◌&&◌, ◌||◌, cond, if◌then◌else◌, List, [], ◌∷◌, Option, None, Some}
use Rattle.std.proofs.Common.{arith, refl, sym, ap, ◌∙◌, subst}
use Rattle.std.specs.Prelude.{is_some, option_map}
use Rattle.std.proofs.lemmas.Bool.Decides.{eqb_tells}
use Rattle.std.proofs.lemmas.Option.{none-some, same_Some}
use Rattle.std.proofs.lemmas.Bool.{or_left, or_cases}
use Rattle.histar_flat.specs.Words.{Name, ProcName}
use Rattle.histar_flat.proofs.FileLemmas.{same_name_found}
use Rattle.histar_level.specs.Levels.{Levels}
use Rattle.histar_object.specs.declared.objects.Kind.{Kind}
use Rattle.histar_object.specs.declared.objects.Kind.TheVariants.{Segment, Container, Thread, Gate}
use Rattle.histar_object.specs.declared.objects.Object.{Object}
use Rattle.histar_object.specs.Objects.{changed_at, kind_links, thread_of}
use Rattle.histar_rules.specs.Rights.{with_label, with_clearance, kind_with_clearance}
use Rattle.histar_object.specs.State.{State, Found, with_own}
use Rattle.histar_container.specs.Tree.{Address, set_at}
use Rattle.histar_container.proofs.Addresses.{same_tests_equality}
use Rattle.histar_container.proofs.TableMoves.{put_here, put_other, changed_here, changed_other}
use Rattle.histar_rules.specs.Rules.{greatest}
use Rattle.histar_programs.specs.Start.{boot_thread_number}
use Rattle.histar_flat.specs.Accounts.{Accounts, has, user_number}
use Rattle.histar_flat.specs.Classes.{Process, nobody, knows}
use Rattle.histar_flat.specs.FlatState.{Flat, with_process, was_given, is_given}
use Rattle.histar_refinement.specs.Categories.{CategoryName, IsKnown, IsServed, IsUsed}
use Rattle.histar_refinement.specs.Categories.CategoryName.{OfBoot, ReadsUser, WritesUser, ReadsGroup, WritesGroup, ReadsProcess, WritesProcess}
use Rattle.histar_refinement.specs.Categories.CategoryName.{OfJob}
use Rattle.histar_refinement.specs.Guards.{guard_label, rights_label, rights_clearance}
use Rattle.histar_refinement.specs.Labels.{process_guard, thread_rights}
use Rattle.histar_refinement.specs.Addresses.{Step, same_step, home_address}
use Rattle.histar_refinement.specs.Addresses.Step.{Inside, Runner}
use Rattle.histar_refinement.specs.Processes.{process_bytes}
use Rattle.histar_refinement.specs.Agrees.{kind_bare, bare}
use Rattle.histar_refinement.proofs.Expected.{home_object, status_object, inside_object, thread_object, bytes_for, expected_status, expected}
use Rattle.histar_programs.specs.Start.{segment}
use Rattle.histar_refinement.specs.Represents.{AreInOrder, IsProcess, ObjectsMatch}
use Rattle.histar_refinement.proofs.ProcessBytes.{alike_bytes}
use Rattle.histar_refinement.proofs.Roots.{AsksAlike, asked_alike, asked_runner}
use Rattle.histar_refinement.proofs.Steps.{step_tests_equality}
use Rattle.histar_refinement.proofs.Moving.{at_number, bare_is, agrees_changed, agrees_same}
use Rattle.histar_refinement.proofs.Agreement.{agreement, as_asked}

-- a thread is given another label and another clearance
abbrev becoming : Levels → Levels → Object Levels → Object Levels
becoming label clearance o = with_clearance clearance (with_label label o)

same_links : (label clearance : Levels) (o : Object Levels) → kind_links (becoming label clearance o).kind ≡ kind_links o.kind
same_links label clearance o = by o.kind
  where
    by : (k : Kind Levels) → kind_links (kind_with_clearance clearance k) ≡ kind_links k
    by (Segment bytes) = refl
    by (Container links) = refl
    by (Thread old) = refl
    by (Gate old entry) = refl

bared : (label clearance : Levels) (o : Found) → bare (option_map (becoming label clearance) o) ≡ option_map (becoming label clearance) (bare o)
bared label clearance None = refl
bared label clearance (Some o) = ap (λ (k : Kind Levels). Some (record { label = label; kind = k })) (by o.kind)
  where
    by : (k : Kind Levels) → kind_bare (kind_with_clearance clearance k) ≡ kind_with_clearance clearance (kind_bare k)
    by (Segment bytes) = refl
    by (Container links) = refl
    by (Thread old) = refl
    by (Gate old entry) = refl

module _ (accounts : Accounts) (s : State) (f : Flat) (l : ObjectsMatch accounts s f) (me : ProcName) (p : Process)
    (here : f.processes me ≡ Some p) (runs : p.exited ≡ None)
    (name : Name) (known_user : (name ≡ nobody) ⊎ (is_some (user_number accounts name) ≡ true)) (held : List ProcName)
    (held_used : (job : ProcName) → has held job ≡ true → IsUsed accounts f (OfJob job))
    (held_ordered : AreInOrder l.category held)
    (held_apart : (job : ProcName) → has p.chain job ≡ true → has held job ≡ false)
    (held_free : is_some (user_number accounts name) ≡ false → (p.chain ≡ []) × (held ≡ [])) (T : ℕ)
    (at_thread : l.naming.number (Runner ∷ Inside ∷ home_address me) ≡ Some T) where
  -- the process as the new user's, which holds these jobs
  abbrev changed : Process
  changed = record { user = name; chain = p.chain; held = held; exited = p.exited; born = p.born }

  abbrev after : Flat
  after = with_process f me changed

  abbrev label : Levels
  label = rights_label l.category (thread_rights accounts me changed)

  abbrev clearance : Levels
  clearance = rights_clearance l.category (thread_rights accounts me changed)

  abbrev old_thread : Object Levels
  old_thread = thread_of (rights_label l.category (thread_rights accounts me p)) (rights_clearance l.category (thread_rights accounts me p))

  abbrev old_asked : Address Step → Found
  old_asked = expected accounts l.category f l.naming.number

  abbrev wish : Address Step → Found
  wish = expected accounts l.category after l.naming.number

  abbrev runner : Address Step
  runner = Runner ∷ Inside ∷ home_address me

  pub at_me : after.processes me ≡ Some changed
  at_me = elim (same_name_found me me) [ inl e ↦ ap (λ b. cond b (Some changed) (f.processes me)) e.0 | inr e ↦ absurd (e.1 refl) ]

  pub at_other : (x : ProcName) → x ≢ me → after.processes x ≡ f.processes x
  at_other x other = elim (same_name_found me x) [ inl e ↦ absurd (other (sym e.1)) | inr e ↦ ap (λ b. cond b (Some changed) (f.processes x)) e.0 ]

  which : (x : ProcName) → (x ≡ me) ⊎ (x ≢ me)
  which x = elim (same_name_found me x) [ inl e ↦ inl (sym e.1) | inr e ↦ inr (λ k. e.1 (sym k)) ]

  old_runner : old_asked runner ≡ Some old_thread
  old_runner = asked_runner accounts l.category f l.naming.number me ∙ ap (thread_object accounts l.category me) here
      ∙ ap (λ (e : Option ℕ). elim e as (λ _. Found) [ None ↦ Some old_thread | Some n ↦ None ]) runs

  new_runner : wish runner ≡ Some (thread_of label clearance)
  new_runner = asked_runner accounts l.category after l.naming.number me ∙ ap (thread_object accounts l.category me) at_me
      ∙ ap (λ (e : Option ℕ). elim e as (λ _. Found) [ None ↦ Some (thread_of label clearance) | Some n ↦ None ]) runs

  pub thread_agrees : s.objects T ≡ Some old_thread
  thread_agrees =
      bare_is (s.objects T) old_thread refl
      (at_number same_step step_tests_equality s l.naming old_asked (agreement l) runner T at_thread ∙ old_runner)

  there_alike : (x : ProcName) → is_some (f.processes x) ≡ is_some (after.processes x)
  there_alike x = elim (which x) [
    | inl e ↦
        ap (λ (y : ProcName). is_some (f.processes y)) e ∙ ap is_some here ∙ sym (ap is_some at_me)
        ∙ ap (λ (y : ProcName). is_some (after.processes y)) (sym e)
    | inr other ↦ ap is_some (sym (at_other x other))
  ]

  same_bytes : (q : ProcName) (x : Process) → process_bytes f.processes l.naming.number q x ≡ process_bytes after.processes l.naming.number q x
  same_bytes q x =
      alike_bytes f.processes after.processes l.naming.number l.naming.number q x refl refl (λ k. refl) (λ k. refl)
      (λ k. there_alike (k ∷ q))

  -- the object of a process is the same after the change, unless it is its thread
  object_alike : (object : ProcName → Option Process → Found) → object me (Some p) ≡ object me (Some changed)
      → (q : ProcName) → object q (f.processes q) ≡ object q (after.processes q)
  object_alike object same_me q = elim (which q) [
    | inl e ↦
        subst (λ (x : ProcName). object x (f.processes x) ≡ object x (after.processes x)) (sym e)
        (ap (object me) here ∙ same_me ∙ sym (ap (object me) at_me))
    | inr other ↦ ap (object q) (sym (at_other q other))
  ]

  status_alike : (q : ProcName)
      → expected_status accounts l.category f l.naming.number (Some q)
      ≡ expected_status accounts l.category after l.naming.number (Some q)
  status_alike q =
      by (f.processes q)
      ∙ object_alike
      (λ x o. status_object accounts l.category (bytes_for accounts l.category after l.naming.number x o) x o)
      refl q
    where
      by : (o : Option Process)
          → status_object accounts l.category (bytes_for accounts l.category f l.naming.number q o) q o
          ≡ status_object accounts l.category (bytes_for accounts l.category after l.naming.number q o) q o
      by None = refl
      by (Some x) = ap (segment (guard_label l.category (process_guard q x))) (same_bytes q x)

  files_alike : AsksAlike accounts l.category l.category f after l.naming.number l.naming.number
  files_alike = record { at_path = λ q. refl; in_directory = λ d. refl }

  wish_other : (a : Address Step) → runner ≢ a → old_asked a ≡ wish a
  wish_other a other = asked_alike accounts l.category l.category f after l.naming.number l.naming.number files_alike a (record {
    home = λ q is. object_alike (home_object accounts l.category) refl q;
    status = λ q is. status_alike q;
    inside = λ q is. object_alike (inside_object accounts l.category) refl q;
    runner = λ q is. elim (which q) [
      | inl e ↦ absurd (other (ap (λ (x : ProcName). Runner ∷ Inside ∷ home_address x) (sym e) ∙ sym is))
      | inr not_me ↦ ap (thread_object accounts l.category q) (sym (at_other q not_me))
    ];
  })

  asks : (a : Address Step) → set_at same_step old_asked runner (option_map (becoming label clearance) (old_asked runner)) a ≡ wish a
  asks a = elim (same_tests_equality same_step step_tests_equality runner a) [
    | inl e ↦
        ap (λ (t : Bool). if t then option_map (becoming label clearance) (old_asked runner) else old_asked a) e.0
        ∙ ap (option_map (becoming label clearance)) old_runner ∙ sym new_runner ∙ ap wish e.1
    | inr e ↦ ap (λ (t : Bool). if t then option_map (becoming label clearance) (old_asked runner) else old_asked a) e.0 ∙ wish_other a e.1
  ]

  same_objects : (q : ℕ) → (with_own s T label clearance).objects q ≡ changed_at s.objects T (becoming label clearance) q
  same_objects q = elim (eqb_tells q T) [
    | inl e ↦
        ap (with_own s T label clearance).objects e.1 ∙ put_here s.objects T (thread_of label clearance)
        ∙ sym (ap (changed_at s.objects T (becoming label clearance)) e.1
        ∙ changed_here s.objects T (becoming label clearance)
        ∙ ap (option_map (becoming label clearance)) thread_agrees)
    | inr e ↦ put_other s.objects T (thread_of label clearance) q e.1 ∙ sym (changed_other s.objects T (becoming label clearance) q e.1)
  ]

  -- a job that is known and used after the change was used before
  known_then : (job x : ProcName) (px : Process) → after.processes x ≡ Some px → knows px job ≡ true → IsUsed accounts f (OfJob job)
  known_then job x px at known = elim (which x) [
    | inl e ↦
        let is : changed ≡ px = same_Some changed px (sym at_me ∙ ap after.processes (sym e) ∙ at) in
        let known_here : (has p.chain job || has held job) ≡ true = subst (λ (y : Process). knows y job ≡ true) (sym is) known in
        elim (or_cases (has p.chain job) (has held job) known_here)
        [ inl k ↦ inl (me, p, here, or_left (has p.chain job) (has p.held job) k) | inr k ↦ held_used job k ]
    | inr other ↦ inl (x, px, sym (at_other x other) ∙ at, known)
  ]

  pub job_used : (job : ProcName) → IsKnown after job ⊎ IsServed after job → IsUsed accounts f (OfJob job)
  job_used job (inl k) = known_then job k.0 k.1 k.2 k.3
  job_used job (inr served) = inr served

  pub used_then : (c : CategoryName) → IsUsed accounts after c → IsUsed accounts f c
  used_then OfBoot u = u
  used_then (ReadsUser i) u = u
  used_then (WritesUser i) u = u
  used_then (ReadsGroup k) u = u
  used_then (WritesGroup k) u = u
  used_then (ReadsProcess x) u = there_alike x ∙ u
  used_then (WritesProcess x) u = there_alike x ∙ u
  used_then (OfJob job) u = job_used job u

  given_alike : (y : ProcName) (k : ℕ) → was_given (f.processes y) k ≡ was_given (after.processes y) k
  given_alike y k = elim (which y) [
    | inl e ↦
        subst (λ (x : ProcName). was_given (f.processes x) k ≡ was_given (after.processes x) k) (sym e)
        (ap (λ (o : Option Process). was_given o k) here ∙ sym (ap (λ (o : Option Process). was_given o k) at_me))
    | inr other ↦ ap (λ (o : Option Process). was_given o k) (sym (at_other y other))
  ]

  pub given_then : (x : ProcName) → is_given f.processes x ≡ is_given after.processes x
  given_then [] = refl
  given_then (k ∷ y) = λ i. given_alike y k i && given_then y i

  process_then : (x : ProcName) (px : Process) → after.processes x ≡ Some px → IsProcess accounts l.category px
  process_then x px at = elim (which x) [
    | inl e ↦
        let o = l.processes me p here in
        subst (IsProcess accounts l.category) (same_Some changed px (sym at_me ∙ ap after.processes (sym e) ∙ at))
        (record {
          someone = λ r. known_user;
          free = λ r u. held_free u;
          apart = λ r. held_apart;
          chain = o.chain;
          held = λ r. held_ordered;
          few = o.few;
          status = o.status;
        })
    | inr other ↦ l.processes x px (sym (at_other x other) ∙ at)
  ]

  gone_then : (with_own s T label clearance).objects boot_thread_number ≡ None
  gone_then =
      put_other s.objects T (thread_of label clearance) boot_thread_number
      (λ e. none-some old_thread (sym l.boot_thread_gone ∙ ap s.objects e ∙ thread_agrees)) ∙ l.boot_thread_gone

  -- The kernel represents the flat state with the changed process.
  pub becomes : (new : State) → ((q : ℕ) → new.objects q ≡ (with_own s T label clearance).objects q)
      → new.next_object ≡ s.next_object → s.next_category ≤ new.next_category
      → (later : ObjectsMatch accounts new after) × (later.naming ≡ l.naming) × (later.category ≡ l.category)
  becomes new objects next_is categories = (
    record {
      naming = l.naming;
      category = l.category;
      agrees = as_asked accounts l.category after l.naming.number new l.naming
          (agrees_same same_step _ new l.naming _ wish
          (agrees_changed same_step step_tests_equality s l.naming old_asked (agreement l) T runner
          (becoming label clearance) at_thread (same_links label clearance) (bared label clearance)) asks
          (λ q. objects q ∙ same_objects q) next_is);
      numbered = subst (λ (m : ℕ). m ≤ greatest) (sym next_is) l.numbered;
      as_booted = l.as_booted;
      different = l.different;
      made = λ c u. let m = l.made c (used_then c u) in (m.0, omega (arith, m.1, categories));
      as_made = l.as_made;
      guarded = l.guarded;
      in_order = l.in_order;
      listable = l.listable;
      first = sym (there_alike []) ∙ l.first;
      processes = process_then;
      processes_given = λ x u. sym (given_then x) ∙ l.processes_given x (there_alike x ∙ u);
      boot_thread_gone = objects boot_thread_number ∙ gone_then;
    },
    refl,
    refl,
  )
