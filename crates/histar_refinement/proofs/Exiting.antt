-- After a process exits the kernel represents the flat state with its exit: its process segment is written, and its internal container is
-- unlinked, with its thread.
use Rattle.std.proofs.Common.{◌≡◌, ◌≢◌, ℕ, ◌+◌, ◌*◌, ◌≤◌, ◌⊎◌, inl, inr, Bool, true, false, ◌&&◌, ◌||◌, cond, if◌then◌else◌, List, [], ◌∷◌, length}
use Rattle.std.proofs.Common.{Option, None, Some, refl, sym, ap, ◌∙◌, subst, map}
use Rattle.std.specs.Prelude.{is_some, option_map}
use Rattle.std.specs.List.{filter, range_with_len}
use Rattle.std.proofs.lemmas.Option.{none-some, same_Some}
use mathlib.Core.Bool.{true≢false}
use Rattle.histar_flat.specs.Words.{Path, ProcName, greatest_status}
use Rattle.histar_flat.specs.Files.{get}
use Rattle.histar_flat.proofs.FileLemmas.{same_name_found}
use Rattle.histar_layout.specs.Directory.{Entries, IsListable, spelling}
use Rattle.histar_object.specs.Objects.{holding}
use Rattle.histar_object.specs.State.{State, Found, with_segment_bytes}
use Rattle.histar_container.specs.ObjectsModel.{CutsOff}
use Rattle.histar_container.specs.Tree.{Address, Naming, wanted, without_below, under, is_under, set_at, cut, objects_at}
use Rattle.histar_container.proofs.Addresses.{same_tests_equality, same_itself, same_other}
use Rattle.histar_container.proofs.Trees.{kind_held_links}
use Rattle.histar_rules.specs.Rules.{greatest}
use Rattle.histar_programs.specs.Start.{boot_thread_number}
use Rattle.histar_flat.specs.Accounts.{Accounts}
use Rattle.histar_flat.specs.Classes.{Process, knows}
use Rattle.histar_flat.specs.FlatState.{Flat, with_process, was_given, is_given}
use Rattle.histar_layout.specs.declared.status.Child.{Child as Listed}
use Rattle.histar_layout.specs.Status.{status_bytes}
use Rattle.histar_refinement.specs.Categories.{CategoryName, IsMade, IsKnown, IsServed, IsUsed}
use Rattle.histar_refinement.specs.Categories.CategoryName.{OfBoot, ReadsUser, WritesUser, ReadsGroup, WritesGroup, ReadsProcess, WritesProcess}
use Rattle.histar_refinement.specs.Categories.CategoryName.{OfJob}
use Rattle.histar_refinement.specs.Guards.{guard_label}
use Rattle.histar_refinement.specs.Labels.{process_guard}
use Rattle.histar_refinement.specs.Addresses.{Step, same_step, address_of, home_address, boot_number}
use Rattle.histar_refinement.proofs.KeepingNames.{keeps_above}
use Rattle.histar_refinement.proofs.Expected.{path_at, process_at, inside_at}
use Rattle.histar_refinement.specs.Addresses.Step.{Left, Slash, Listing, Named, Home, Status, Inside, Runner, Child}
use Rattle.histar_refinement.specs.Processes.{or_zero, children, listed_by, process_bytes}
use Rattle.histar_refinement.proofs.AgreesAt.{AgreesAt}
use Rattle.histar_refinement.proofs.Expected.{listing_object, home_object, status_object, inside_object, thread_object, expected_node, listing_at}
use Rattle.histar_refinement.proofs.Expected.{expected_home, bytes_for, expected_status, container_inside, thread_at, expected}
use Rattle.histar_programs.specs.Start.{segment}
use Rattle.histar_refinement.specs.Represents.{IsProcess, AreJobsGiven, ObjectsMatch}
use Rattle.histar_refinement.specs.KeptNames.{RepresentsStill}
use Rattle.histar_refinement.proofs.ProcessBytes.{alike_bytes}
use Rattle.histar_refinement.proofs.Roots.{address_path, address_process, address_inside, same_home, same_directory, AsksAlike, asked_alike}
use Rattle.histar_refinement.proofs.Roots.{asked_status}
use Rattle.histar_refinement.proofs.Steps.{step_tests_equality}
use Rattle.histar_refinement.proofs.Moving.{bare_held, agrees_changed, agrees_cut, agrees_same, no_address}
use Rattle.histar_refinement.proofs.Agreement.{agreement, as_asked}

module _ (accounts : Accounts) (s : State) (f : Flat) (l : ObjectsMatch accounts s f) (me : ProcName) (p : Process)
    (here : f.processes me ≡ Some p) (n : ℕ) (small : n ≤ greatest_status) (C S o : ℕ)
    (at_home : l.naming.number (home_address me) ≡ Some C)
    (at_own : l.naming.number (Status ∷ home_address me) ≡ Some S)
    (at_inside : l.naming.number (Inside ∷ home_address me) ≡ Some o) where
  -- the process then
  abbrev pub changed : Process
  changed = record { user = p.user; chain = p.chain; held = p.held; exited = Some n; born = p.born }

  abbrev pub after : Flat
  after = with_process f me changed

  abbrev top : Address Step
  top = Inside ∷ home_address me

  abbrev naming : Naming Step
  naming = without_below same_step l.naming top

  abbrev old_asked : Address Step → Found
  old_asked = expected accounts l.category f l.naming.number

  abbrev wish : Address Step → Found
  wish = expected accounts l.category after naming.number

  -- the bytes that are written: the process has no number for an internal container and a thread any more
  abbrev pub written : List ℕ
  written = process_bytes after.processes naming.number me changed

  abbrev pub state_written : State
  state_written = with_segment_bytes s S written

  at_me : after.processes me ≡ Some changed
  at_me = elim (same_name_found me me) [ inl e ↦ ap (λ b. cond b (Some changed) (f.processes me)) e.0 | inr e ↦ absurd (e.1 refl) ]

  at_other : (x : ProcName) → x ≢ me → after.processes x ≡ f.processes x
  at_other x other = elim (same_name_found me x) [ inl e ↦ absurd (other (sym e.1)) | inr e ↦ ap (λ b. cond b (Some changed) (f.processes x)) e.0 ]

  which : (x : ProcName) → (x ≡ me) ⊎ (x ≢ me)
  which x = elim (same_name_found me x) [ inl e ↦ inl (sym e.1) | inr e ↦ inr (λ k. e.1 (sym k)) ]

  there_alike : (x : ProcName) → is_some (f.processes x) ≡ is_some (after.processes x)
  there_alike x = elim (which x) [
    | inl e ↦
        ap (λ (y : ProcName). is_some (f.processes y)) e ∙ ap is_some here ∙ sym (ap is_some at_me)
        ∙ ap (λ (y : ProcName). is_some (after.processes y)) (sym e)
    | inr other ↦ ap is_some (sym (at_other x other))
  ]

  -- no container of a process and no path lies below the internal container
  under_home : (q : ProcName) → under same_step top (home_address q) ≡ false
  under_home [] = refl
  under_home (k ∷ q) = under_home q

  under_path : (q : Path) → under same_step top (address_of q) ≡ false
  under_path [] = refl
  under_path (m ∷ d) = under_path d

  -- the internal container of another process doesn't lie below it
  inside_other : (q : ProcName) → q ≢ me → under same_step top (Inside ∷ home_address q) ≡ false
  inside_other q other = λ i. same_other same_step step_tests_equality top (Inside ∷ home_address q) apart i || under_home q i
    where
      apart : top ≢ Inside ∷ home_address q
      apart e = let same_place : home_address me ≡ home_address q = cc in other (sym (same_home me q same_place))

  kept : (b : Address Step) → under same_step top b ≡ false → l.naming.number b ≡ naming.number b
  kept b e = sym (ap (λ (t : Bool). if t then None else l.naming.number b) e)

  abbrev asked_first : Address Step → Found
  asked_first = set_at same_step old_asked (Status ∷ home_address me) (option_map (holding written) (old_asked (Status ∷ home_address me)))

  agrees_first : AgreesAt same_step state_written l.naming asked_first
  agrees_first =
      agrees_changed same_step step_tests_equality s l.naming old_asked (agreement l) S (Status ∷ home_address me)
      (holding written) at_own (λ x. kind_held_links written x.kind) (bare_held written)

  -- no path leads below the internal container
  no_path : (a : Address Step) → under same_step top a ≡ true → path_at a ≡ None
  no_path a e = by (path_at a) refl
    where
      by : (q : Option Path) → path_at a ≡ q → q ≡ None
      by None is = refl
      by (Some q) is = absurd (true≢false (sym e ∙ ap (under same_step top) (address_path a q is) ∙ under_path q))

  no_process : (a : Address Step) → under same_step top a ≡ true → process_at a ≡ None
  no_process a e = by (process_at a) refl
    where
      by : (q : Option ProcName) → process_at a ≡ q → q ≡ None
      by None is = refl
      by (Some q) is = absurd (true≢false (sym e ∙ ap (under same_step top) (address_process a q is) ∙ under_home q))

  -- the process, whose internal container this is, has none any more
  none_inside : (q : ProcName) → under same_step top (Inside ∷ home_address q) ≡ true → inside_object accounts l.category q (after.processes q) ≡ None
  none_inside q e = elim (which q) [
    | inl is ↦ ap (λ (x : ProcName). inside_object accounts l.category x (after.processes x)) is ∙ ap (inside_object accounts l.category me) at_me
    | inr other ↦ absurd (true≢false (sym e ∙ inside_other q other))
  ]

  none_runs : (q : ProcName) → under same_step top (Inside ∷ home_address q) ≡ true → thread_object accounts l.category q (after.processes q) ≡ None
  none_runs q e = elim (which q) [
    | inl is ↦ ap (λ (x : ProcName). thread_object accounts l.category x (after.processes x)) is ∙ ap (thread_object accounts l.category me) at_me
    | inr other ↦ absurd (true≢false (sym e ∙ inside_other q other))
  ]

  -- nothing is asked for below the internal container
  nothing_below : (a : Address Step) → under same_step top a ≡ true → wish a ≡ None
  nothing_below [] e = absurd (true≢false (sym e))
  nothing_below (Left k ∷ []) e = absurd (true≢false (sym e))
  nothing_below (Left k ∷ x ∷ a) e = refl
  nothing_below (Slash ∷ []) e = absurd (true≢false (sym e))
  nothing_below (Slash ∷ x ∷ a) e = refl
  nothing_below (Listing ∷ a) e = ap (listing_at accounts l.category after naming.number) (no_path a e)
  nothing_below (Named m ∷ a) e = ap (expected_node accounts l.category after naming.number) (no_path (Named m ∷ a) e)
  nothing_below (Home ∷ []) e = absurd (true≢false (sym e))
  nothing_below (Home ∷ x ∷ a) e = refl
  nothing_below (Status ∷ a) e = ap (expected_status accounts l.category after naming.number) (no_process a e)
  nothing_below (Inside ∷ a) e = by (process_at a) refl
    where
      by : (q : Option ProcName) → process_at a ≡ q → container_inside accounts l.category after naming.number q ≡ None
      by None is = refl
      by (Some q) is = none_inside q (ap (λ (b : Address Step). under same_step top (Inside ∷ b)) (sym (address_process a q is)) ∙ e)
  nothing_below (Runner ∷ a) e = by (inside_at a) refl
    where
      by : (q : Option ProcName) → inside_at a ≡ q → thread_at accounts l.category after naming.number q ≡ None
      by None is = refl
      by (Some q) is = none_runs q (ap (under same_step top) (sym (address_inside a q is)) ∙ e)
  nothing_below (Child k ∷ a) e = ap (expected_home accounts l.category after naming.number) (no_process (Child k ∷ a) e)

  kept_path : (q : Path) → l.naming.number (address_of q) ≡ naming.number (address_of q)
  kept_path q = kept (address_of q) (under_path q)

  kept_listing : (q : Path) → l.naming.number (Listing ∷ address_of q) ≡ naming.number (Listing ∷ address_of q)
  kept_listing q = kept (Listing ∷ address_of q) (under_path q)

  files_alike : AsksAlike accounts l.category l.category f after l.naming.number naming.number
  files_alike = record {
    at_path = λ q. refl;
    in_directory =
        λ d. ap (λ (dir : Entries). listing_object accounts l.category (spelling dir) (get f.files d))
        (same_directory f l.naming.number naming.number kept_path kept_listing d);
  }

  -- another process keeps its process segment
  same_bytes : (q : ProcName) (x : Process) → q ≢ me → process_bytes f.processes l.naming.number q x ≡ process_bytes after.processes naming.number q x
  same_bytes q x not_me =
      alike_bytes f.processes after.processes l.naming.number naming.number q x
      (kept (Inside ∷ home_address q) (inside_other q not_me))
      (kept (Runner ∷ Inside ∷ home_address q) (inside_other q not_me))
      (λ k. kept (home_address (k ∷ q)) (under_home (k ∷ q)))
      (λ k. kept (Status ∷ home_address (k ∷ q)) (under_home (k ∷ q))) (λ k. there_alike (k ∷ q))

  object_alike : (object : ProcName → Option Process → Found) → (q : ProcName) → q ≢ me → object q (f.processes q) ≡ object q (after.processes q)
  object_alike object q other = ap (object q) (sym (at_other q other))

  home_alike : (q : ProcName) → home_object accounts l.category q (f.processes q) ≡ home_object accounts l.category q (after.processes q)
  home_alike q = elim (which q) [
    | inl e ↦
        subst (λ (x : ProcName).
        home_object accounts l.category x (f.processes x) ≡ home_object accounts l.category x (after.processes x))
        (sym e) (ap (home_object accounts l.category me) here ∙ sym (ap (home_object accounts l.category me) at_me))
    | inr other ↦ object_alike (home_object accounts l.category) q other
  ]

  status_alike : (q : ProcName) → q ≢ me
      → expected_status accounts l.category f l.naming.number (Some q)
      ≡ expected_status accounts l.category after naming.number (Some q)
  status_alike q other =
      by (f.processes q)
      ∙ object_alike
      (λ x r. status_object accounts l.category (bytes_for accounts l.category after naming.number x r) x r) q
      other
    where
      by : (x : Option Process)
          → status_object accounts l.category (bytes_for accounts l.category f l.naming.number q x) q x
          ≡ status_object accounts l.category (bytes_for accounts l.category after naming.number q x) q x
      by None = refl
      by (Some x) = ap (segment (guard_label l.category (process_guard q x))) (same_bytes q x other)

  not_this : (a : Address Step) (q : ProcName) → under same_step top a ≡ false
      → under same_step top a ≡ under same_step top (Inside ∷ home_address q) → q ≢ me
  not_this a q e is same_one =
      true≢false (sym (ap (λ (t : Bool). t || under same_step top (home_address me))
      (same_itself same_step step_tests_equality top))
      ∙ ap (λ (x : ProcName). under same_step top (Inside ∷ home_address x)) (sym same_one) ∙ sym is ∙ e)

  wish_other : (a : Address Step) → under same_step top a ≡ false → Status ∷ home_address me ≢ a → old_asked a ≡ wish a
  wish_other a e not_own = asked_alike accounts l.category l.category f after l.naming.number naming.number files_alike a (record {
    home = λ q is. home_alike q;
    status = λ q is. status_alike q (λ k. not_own (ap (λ (x : ProcName). Status ∷ home_address x) (sym k) ∙ sym is));
    inside = λ q is. object_alike (inside_object accounts l.category) q (not_this a q e (ap (under same_step top) is));
    runner = λ q is. object_alike (thread_object accounts l.category) q (not_this a q e (ap (under same_step top) is));
  })

  wish_own : option_map (holding written) (old_asked (Status ∷ home_address me)) ≡ wish (Status ∷ home_address me)
  wish_own =
      ap (option_map (holding written)) (asked_status accounts l.category f l.naming.number me
      ∙ ap (λ (x : Option Process).
      status_object accounts l.category (bytes_for accounts l.category f l.naming.number me x) me x) here)
      ∙ sym (asked_status accounts l.category after naming.number me
      ∙ ap (λ (x : Option Process).
      status_object accounts l.category (bytes_for accounts l.category after naming.number me x) me x)
      at_me)

  asks : (a : Address Step) → cut same_step asked_first top a ≡ wish a
  asks a = by (under same_step top a) refl
    where
      outside : under same_step top a ≡ false → asked_first a ≡ wish a
      outside e = elim (same_tests_equality same_step step_tests_equality (Status ∷ home_address me) a) [
        | inl k ↦
            ap (λ (t : Bool).
            if t then option_map (holding written) (old_asked (Status ∷ home_address me)) else old_asked a) k.0
            ∙ wish_own ∙ ap wish k.1
        | inr k ↦
            ap (λ (t : Bool).
            if t then option_map (holding written) (old_asked (Status ∷ home_address me)) else old_asked a) k.0
            ∙ wish_other a e k.1
      ]

      by : (t : Bool) → under same_step top a ≡ t → (if t then None else asked_first a) ≡ wish a
      by true e = sym (nothing_below a e)
      by false e = outside e

  -- The bytes that are written: the children's part stays, and the two numbers are none.
  number_gone : (b : Address Step) → under same_step top b ≡ true → naming.number b ≡ None
  number_gone b e = ap (λ (t : Bool). if t then None else l.naming.number b) e

  top_under : under same_step top top ≡ true
  top_under = ap (λ (t : Bool). t || under same_step top (home_address me)) (same_itself same_step step_tests_equality top)

  -- the bytes that are written: the old status, with the number that the process has exited with, and no internal container and no thread
  pub written_is : written
      ≡ status_bytes (record {
        exited = Some n;
        born = p.born;
        internal = 0;
        thread = 0;
        children = map (listed_by l.naming.number me) (children f.processes me p.born);
      })
  written_is = λ i. status_bytes (record {
    exited = Some n;
    born = p.born;
    internal = or_zero (number_gone top top_under i);
    thread = or_zero (number_gone (Runner ∷ top) top_under i);
    children =
        map {B = Listed} (λ k. record {
          number = k;
          container = or_zero (sym (kept (home_address (k ∷ me)) (under_home (k ∷ me))) i);
          segment = or_zero (sym (kept (Status ∷ home_address (k ∷ me)) (under_home (k ∷ me))) i);
        })
        (filter (λ k. sym (there_alike (k ∷ me)) i) (range_with_len 1 p.born));
  })

  -- a job that is known and used after the exit was used before
  known_then : (job x : ProcName) (px : Process) → after.processes x ≡ Some px → knows px job ≡ true → IsKnown f job
  known_then job x px at known = elim (which x) [
    | inl e ↦
        let is : changed ≡ px = same_Some changed px (sym at_me ∙ ap after.processes (sym e) ∙ at) in
        (me, p, here, subst (λ (y : Process). knows y job ≡ true) (sym is) known)
    | inr other ↦ (x, px, sym (at_other x other) ∙ at, known)
  ]

  used_then : (c : CategoryName) → IsUsed accounts after c → IsUsed accounts f c
  used_then OfBoot u = u
  used_then (ReadsUser i) u = u
  used_then (WritesUser i) u = u
  used_then (ReadsGroup k) u = u
  used_then (WritesGroup k) u = u
  used_then (ReadsProcess x) u = there_alike x ∙ u
  used_then (WritesProcess x) u = there_alike x ∙ u
  used_then (OfJob job) (inl k) = inl (known_then job k.0 k.1 k.2 k.3)
  used_then (OfJob job) (inr served) = inr served

  given_alike : (y : ProcName) (k : ℕ) → was_given (f.processes y) k ≡ was_given (after.processes y) k
  given_alike y k = elim (which y) [
    | inl e ↦
        subst (λ (x : ProcName). was_given (f.processes x) k ≡ was_given (after.processes x) k) (sym e)
        (ap (λ (r : Option Process). was_given r k) here ∙ sym (ap (λ (r : Option Process). was_given r k) at_me))
    | inr other ↦ ap (λ (r : Option Process). was_given r k) (sym (at_other y other))
  ]

  given_then : (x : ProcName) → is_given f.processes x ≡ is_given after.processes x
  given_then [] = refl
  given_then (k ∷ y) = λ i. given_alike y k i && given_then y i

  process_then : (x : ProcName) (px : Process) → after.processes x ≡ Some px → IsProcess accounts l.category px
  process_then x px at = elim (which x) [
    | inl e ↦
        let old = l.processes me p here in
        subst (IsProcess accounts l.category) (same_Some changed px (sym at_me ∙ ap after.processes (sym e) ∙ at))
        (record {
          someone = λ r. absurd (none-some n (sym r));
          free = λ r. absurd (none-some n (sym r));
          apart = λ r. absurd (none-some n (sym r));
          chain = old.chain;
          held = λ r. absurd (none-some n (sym r));
          few = old.few;
          status = λ k r. subst (λ (j : ℕ). j ≤ 255) (same_Some n k r) small;
        })
    | inr other ↦ l.processes x px (sym (at_other x other) ∙ at)
  ]

  -- boot made nothing for good below an internal container
  not_boot : (a : Address Step) → under same_step top a ≡ true → boot_number (length accounts.users) a ≡ None
  not_boot [] e = absurd (true≢false (sym e))
  not_boot (Left k ∷ []) e = absurd (true≢false (sym e))
  not_boot (Left k ∷ x ∷ a) e = refl
  not_boot (Slash ∷ []) e = absurd (true≢false (sym e))
  not_boot (Slash ∷ x ∷ a) e = refl
  not_boot (Listing ∷ a) e = elim (same_tests_equality same_step step_tests_equality (Slash ∷ []) a) [
    | inl i ↦ absurd (true≢false (sym e ∙ ap (under same_step top) (sym i.1)))
    | inr i ↦ ap (λ t. cond t (Some (5 + 2 * length accounts.users)) None) i.0
  ]
  not_boot (Named m ∷ a) e = refl
  not_boot (Home ∷ []) e = absurd (true≢false (sym e))
  not_boot (Home ∷ x ∷ a) e = refl
  not_boot (Status ∷ a) e = elim (same_tests_equality same_step step_tests_equality (Home ∷ []) a) [
    | inl i ↦ absurd (true≢false (sym e ∙ ap (under same_step top) (sym i.1)))
    | inr i ↦ ap (λ t. cond t (Some (9 + 2 * length accounts.users)) None) i.0
  ]
  not_boot (Inside ∷ a) e = refl
  not_boot (Runner ∷ a) e = refl
  not_boot (Child k ∷ a) e = refl

  as_booted_then : (a : Address Step) (q : ℕ) → boot_number (length accounts.users) a ≡ Some q → naming.number a ≡ Some q
  as_booted_then a q e = by (under same_step top a) refl
    where
      by : (t : Bool) → under same_step top a ≡ t → naming.number a ≡ Some q
      by true i = absurd (none-some q (sym (not_boot a i) ∙ e))
      by false i = sym (kept a i) ∙ l.as_booted a q e

  module _ (new : State) (cuts : CutsOff state_written C o new) where
    agrees_then : AgreesAt same_step new naming (cut same_step asked_first top)
    agrees_then =
        agrees_cut same_step step_tests_equality state_written l.naming asked_first agrees_first new C o
        (home_address me) Inside cuts at_inside at_home

    gone_then : new.objects boot_thread_number ≡ None
    gone_then =
        agrees_then.tree.as_expected boot_thread_number
        ∙ ap (wanted (objects_at new.objects naming)) (ap (λ (x : Option (Address Step)). if is_under same_step top x then None else x)
        (no_address same_step s l.naming old_asked (agreement l) boot_thread_number l.boot_thread_gone))

    -- the numbers in the names of jobs were given as before
    pub jobs_exited : AreJobsGiven f → AreJobsGiven after
    jobs_exited given job u = sym (given_then job) ∙ given job (by job u)
      where
        by : (job : ProcName) → IsKnown after job ⊎ IsServed after job → IsKnown f job ⊎ IsServed f job
        by job (inl k) = inl (known_then job k.0 k.1 k.2 k.3)
        by job (inr served) = inr served

    -- The kernel has the objects of the flat state in which the process has exited.
    pub matched_exited : (later : ObjectsMatch accounts new after) × (later.naming ≡ naming) × (later.category ≡ l.category)
    matched_exited = (
      record {
        naming = naming;
        category = l.category;
        agrees = as_asked accounts l.category after naming.number new naming
            (agrees_same same_step new new naming _ wish agrees_then asks (λ q. refl) refl);
        numbered = subst (λ (m : ℕ). m ≤ greatest) (sym cuts.next_object) l.numbered;
        as_booted = as_booted_then;
        different = l.different;
        made = λ c u. subst (λ (m : ℕ). IsMade m (l.category c)) (sym cuts.next_category) (l.made c (used_then c u));
        as_made = l.as_made;
        guarded = l.guarded;
        in_order = l.in_order;
        listable = λ d is. subst IsListable (same_directory f l.naming.number naming.number kept_path kept_listing d) (l.listable d is);
        first = sym (there_alike []) ∙ l.first;
        processes = process_then;
        processes_given = λ x u. sym (given_then x) ∙ l.processes_given x (there_alike x ∙ u);
        boot_thread_gone = gone_then;
      },
      refl,
      refl,
    )

    -- the kernel represents the flat state in which the process has exited, and names keep their numbers
    pub still_exited : (given : AreJobsGiven f) → RepresentsStill (record { matched = l; jobs_given = given }) new after
    still_exited given = record {
      represents = record { matched = matched_exited.0; jobs_given = jobs_exited given };
      names = keeps_above l matched_exited.0 top matched_exited.1 matched_exited.2 used_then;
    }
