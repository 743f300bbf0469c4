-- After a process is killed the kernel represents the flat state without it and all below it.
use Rattle.std.proofs.Common.{◌≡◌, ◌≢◌, ℕ, ◌+◌, ◌*◌, ◌⊎◌, inl, inr, Bool, true, false, ◌||◌, cond, if◌then◌else◌, List, [], ◌∷◌, length, Option, None}
use Rattle.std.proofs.Common.{Some, refl, sym, ap, ◌∙◌, subst, ◌≤◌}
use Rattle.std.specs.Prelude.{is_some, option_map, nat_eq}
use Rattle.std.proofs.lemmas.Option.{none-some}
use Rattle.std.proofs.lemmas.Bool.{and_from}
use mathlib.Core.Bool.{true≢false}
use Rattle.histar_flat.specs.Words.{Path, ProcName}
use Rattle.histar_base.specs.Paths.{same as same_name}
use Rattle.histar_level.specs.Levels.{Levels}
use Rattle.histar_flat.specs.Files.{get}
use Rattle.histar_flat.proofs.FileLemmas.{same_name_found}
use Rattle.histar_layout.specs.Directory.{Entries, IsListable, spelling}
use Rattle.histar_object.specs.Objects.{Objects, changed_at, holding}
use Rattle.histar_object.specs.State.{State, Found, with_segment_bytes}
use Rattle.histar_container.specs.ObjectsModel.{CutsOff}
use Rattle.histar_container.specs.Tree.{Address, Naming, wanted, without_below, under, is_under, set_at, cut, same_steps, objects_at}
use Rattle.histar_container.proofs.Addresses.{same_tests_equality, same_itself, same_other, above}
use Rattle.histar_container.proofs.Trees.{kind_held_links}
use Rattle.histar_rules.specs.Rules.{greatest}
use Rattle.histar_programs.specs.Start.{boot_thread_number}
use Rattle.histar_flat.specs.Accounts.{Accounts}
use Rattle.histar_flat.specs.Classes.{Process}
use Rattle.histar_flat.specs.PathOrder.{under_process}
use Rattle.histar_flat.specs.FlatState.{Flat, without_process, was_given, is_given}
use Rattle.histar_refinement.specs.Categories.{CategoryName, IsMade, IsKnown, IsServed, IsUsed}
use Rattle.histar_refinement.specs.Categories.CategoryName.{OfBoot, ReadsUser, WritesUser, ReadsGroup, WritesGroup, ReadsProcess, WritesProcess}
use Rattle.histar_refinement.specs.Categories.CategoryName.{OfJob}
use Rattle.histar_refinement.specs.Guards.{guard_label}
use Rattle.histar_refinement.specs.Labels.{process_guard}
use Rattle.histar_refinement.specs.Addresses.{Step, same_step, address_of, home_address, boot_number}
use Rattle.histar_refinement.proofs.KeepingNames.{keeps_above}
use Rattle.histar_refinement.proofs.Expected.{path_at, process_at, inside_at}
use Rattle.histar_refinement.specs.Addresses.Step.{Left, Slash, Listing, Named, Home, Status, Inside, Runner, Child}
use Rattle.histar_refinement.specs.Processes.{process_bytes}
use Rattle.histar_refinement.proofs.AgreesAt.{AgreesAt}
use Rattle.histar_refinement.proofs.Expected.{listing_object, home_object, status_object, inside_object, thread_object, expected_node, listing_at}
use Rattle.histar_refinement.proofs.Expected.{expected_home, bytes_for, expected_status, container_inside, thread_at, expected}
use Rattle.histar_programs.specs.Start.{segment}
use Rattle.histar_refinement.specs.Represents.{AreJobsGiven, ObjectsMatch}
use Rattle.histar_refinement.specs.KeptNames.{RepresentsStill}
use Rattle.histar_refinement.proofs.ProcessBytes.{alike_bytes}
use Rattle.histar_layout.proofs.Members.{first_of, second_of}
use Rattle.histar_refinement.proofs.Roots.{address_path, address_process, address_inside, same_home, same_directory, AsksAlike, asked_alike}
use Rattle.histar_refinement.proofs.Roots.{asked_status}
use Rattle.histar_refinement.proofs.Steps.{step_tests_equality}
use Rattle.histar_refinement.proofs.Moving.{bare_held, agrees_changed, agrees_cut, agrees_same, no_address}
use Rattle.histar_refinement.proofs.Agreement.{agreement, as_asked}

module _ (accounts : Accounts) (s : State) (f : Flat) (l : ObjectsMatch accounts s f) (me : ProcName) (p : Process)
    (here : f.processes me ≡ Some p) (n C S o : ℕ)
    (at_home : l.naming.number (home_address me) ≡ Some C)
    (at_own : l.naming.number (Status ∷ home_address me) ≡ Some S)
    (at_victim : l.naming.number (home_address (n ∷ me)) ≡ Some o)
    (mid : State) (cuts : CutsOff s C o mid) where
  abbrev top : ProcName
  top = n ∷ me

  abbrev after : Flat
  after = without_process f top

  abbrev naming : Naming Step
  naming = without_below same_step l.naming (home_address top)

  abbrev old_asked : Address Step → Found
  old_asked = expected accounts l.category f l.naming.number

  -- an address of a process is the victim's, or below it, exactly where its name is
  same_homes : (x y : ProcName) → same_steps same_step (home_address x) (home_address y) ≡ same_name x y
  same_homes x y = elim (same_name_found x y) [
    | inl e ↦
        ap (λ (z : ProcName). same_steps same_step (home_address x) (home_address z)) (sym e.1)
        ∙ same_itself same_step step_tests_equality (home_address x) ∙ sym e.0
    | inr e ↦ same_other same_step step_tests_equality (home_address x) (home_address y) (λ k. e.1 (same_home x y k)) ∙ sym e.0
  ]

  under_home : (q : ProcName) → under same_step (home_address top) (home_address q) ≡ under_process top q
  under_home [] = refl
  under_home (k ∷ q) = λ i. same_homes top (k ∷ q) i || under_home q i

  under_path : (q : Path) → under same_step (home_address top) (address_of q) ≡ false
  under_path [] = refl
  under_path (m ∷ d) = under_path d

  gone : (q : ProcName) → under_process top q ≡ true → after.processes q ≡ None
  gone q e = ap (λ b. cond b None (f.processes q)) e

  stays : (q : ProcName) → under_process top q ≡ false → after.processes q ≡ f.processes q
  stays q e = ap (λ b. cond b None (f.processes q)) e

  own_outside : under same_step (home_address top) (Status ∷ home_address me) ≡ false
  own_outside = above same_step step_tests_equality (home_address me) (Child n)

  kept : (b : Address Step) → under same_step (home_address top) b ≡ false → l.naming.number b ≡ naming.number b
  kept b e = sym (ap (λ (t : Bool). if t then None else l.naming.number b) e)

  kept_path : (q : Path) → l.naming.number (address_of q) ≡ naming.number (address_of q)
  kept_path q = kept (address_of q) (under_path q)

  kept_listing : (q : Path) → l.naming.number (Listing ∷ address_of q) ≡ naming.number (Listing ∷ address_of q)
  kept_listing q = kept (Listing ∷ address_of q) (under_path q)

  abbrev own_written : List ℕ
  own_written = process_bytes after.processes naming.number me p

  -- the state once the victim is unlinked and its parent's segment is written
  abbrev pub state_left : State
  state_left = with_segment_bytes mid S own_written

  agrees_mid : AgreesAt same_step mid naming (cut same_step old_asked (home_address top))
  agrees_mid = agrees_cut same_step step_tests_equality s l.naming old_asked (agreement l) mid C o (home_address me) (Child n) cuts at_victim at_home

  agrees_left : AgreesAt same_step state_left naming (set_at same_step (cut same_step old_asked (home_address top)) (Status ∷ home_address me)
      (option_map (holding own_written) (cut same_step old_asked (home_address top) (Status ∷ home_address me))))
  agrees_left =
      agrees_changed same_step step_tests_equality mid naming (cut same_step old_asked (home_address top)) agrees_mid S
      (Status ∷ home_address me) (holding own_written)
      (sym (kept (Status ∷ home_address me) own_outside) ∙ at_own) (λ x. kind_held_links own_written x.kind) (bare_held own_written)

  abbrev wish : Address Step → Found
  wish = expected accounts l.category after naming.number

  -- no path leads below the victim
  no_path : (a : Address Step) → under same_step (home_address top) a ≡ true → path_at a ≡ None
  no_path a e = by (path_at a) refl
    where
      by : (q : Option Path) → path_at a ≡ q → q ≡ None
      by None is = refl
      by (Some q) is = absurd (true≢false (sym e ∙ ap (under same_step (home_address top)) (address_path a q is) ∙ under_path q))

  below : (a : Address Step) (q : ProcName) → under same_step (home_address top) a ≡ true → a ≡ home_address q → after.processes q ≡ None
  below a q e is = gone q (sym (under_home q) ∙ ap (under same_step (home_address top)) (sym is) ∙ e)

  -- nothing is asked for below the victim's address
  nothing_below : (a : Address Step) → under same_step (home_address top) a ≡ true → wish a ≡ None
  nothing_below [] e = absurd (true≢false (sym e))
  nothing_below (Left k ∷ []) e = absurd (true≢false (sym e))
  nothing_below (Left k ∷ x ∷ a) e = refl
  nothing_below (Slash ∷ []) e = absurd (true≢false (sym e))
  nothing_below (Slash ∷ x ∷ a) e = refl
  nothing_below (Listing ∷ a) e = ap (listing_at accounts l.category after naming.number) (no_path a e)
  nothing_below (Named m ∷ a) e = ap (expected_node accounts l.category after naming.number) (no_path (Named m ∷ a) e)
  nothing_below (Home ∷ []) e = absurd (true≢false (sym e))
  nothing_below (Home ∷ x ∷ a) e = refl
  nothing_below (Status ∷ a) e = by (process_at a) refl
    where
      by : (q : Option ProcName) → process_at a ≡ q → expected_status accounts l.category after naming.number q ≡ None
      by None is = refl
      by (Some q) is =
          ap (λ (x : Option Process).
          status_object accounts l.category (bytes_for accounts l.category after naming.number q x) q x)
          (below a q e (address_process a q is))
  nothing_below (Inside ∷ a) e = by (process_at a) refl
    where
      by : (q : Option ProcName) → process_at a ≡ q → container_inside accounts l.category after naming.number q ≡ None
      by None is = refl
      by (Some q) is = ap (inside_object accounts l.category q) (below a q e (address_process a q is))
  nothing_below (Runner ∷ a) e = by (inside_at a) refl
    where
      by : (q : Option ProcName) → inside_at a ≡ q → thread_at accounts l.category after naming.number q ≡ None
      by None is = refl
      by (Some q) is =
          ap (thread_object accounts l.category q)
          (gone q (sym (under_home q) ∙ ap (under same_step (home_address top)) (sym (address_inside a q is)) ∙ e))
  nothing_below (Child k ∷ a) e = by (process_at (Child k ∷ a)) refl
    where
      by : (q : Option ProcName) → process_at (Child k ∷ a) ≡ q → expected_home accounts l.category after naming.number q ≡ None
      by None is = refl
      by (Some q) is = ap (home_object accounts l.category q) (below (Child k ∷ a) q e (address_process (Child k ∷ a) q is))

  files_alike : AsksAlike accounts l.category l.category f after l.naming.number naming.number
  files_alike = record {
    at_path = λ q. refl;
    in_directory =
        λ d. ap (λ (dir : Entries). listing_object accounts l.category (spelling dir) (get f.files d))
        (same_directory f l.naming.number naming.number kept_path kept_listing d);
  }

  -- another process that is not below the victim keeps its process segment
  same_bytes : (q : ProcName) (x : Process) → under_process top q ≡ false → q ≢ me
      → process_bytes f.processes l.naming.number q x ≡ process_bytes after.processes naming.number q x
  same_bytes q x out not_me =
      alike_bytes f.processes after.processes l.naming.number naming.number q x (kept (Inside ∷ home_address q) outside)
      (kept (Runner ∷ Inside ∷ home_address q) outside)
      (λ k. kept (home_address (k ∷ q)) (child_outside k)) (λ k. kept (Status ∷ home_address (k ∷ q)) (child_outside k))
      (λ k. ap is_some (sym (stays (k ∷ q) (child_out k))))
    where
      outside : under same_step (home_address top) (home_address q) ≡ false
      outside = under_home q ∙ out

      child_out : (k : ℕ) → under_process top (k ∷ q) ≡ false
      child_out k = elim (same_name_found top (k ∷ q)) [
        | inl e ↦ let is : me ≡ q = cc in absurd (not_me (sym is))
        | inr e ↦ (λ i. e.0 i || out i)
      ]

      child_outside : (k : ℕ) → under same_step (home_address top) (home_address (k ∷ q)) ≡ false
      child_outside k = under_home (k ∷ q) ∙ child_out k

  outside_of : (a : Address Step) (q : ProcName) → under same_step (home_address top) a ≡ false
      → under same_step (home_address top) a ≡ under same_step (home_address top) (home_address q)
      → under_process top q ≡ false
  outside_of a q e is = sym (under_home q) ∙ sym is ∙ e

  wish_other : (a : Address Step) → under same_step (home_address top) a ≡ false → Status ∷ home_address me ≢ a → old_asked a ≡ wish a
  wish_other a e not_own = asked_alike accounts l.category l.category f after l.naming.number naming.number files_alike a (record {
    home = λ q is. ap (home_object accounts l.category q) (sym (stays q (outside_of a q e (ap (under same_step (home_address top)) is))));
    status =
        λ q is. status_alike q (outside_of a q e (ap (under same_step (home_address top)) is))
        (λ k. not_own (ap (λ (x : ProcName). Status ∷ home_address x) (sym k) ∙ sym is));
    inside = λ q is. ap (inside_object accounts l.category q) (sym (stays q (outside_of a q e (ap (under same_step (home_address top)) is))));
    runner = λ q is. ap (thread_object accounts l.category q) (sym (stays q (outside_of a q e (ap (under same_step (home_address top)) is))));
  })
    where
      status_alike : (q : ProcName) → under_process top q ≡ false → q ≢ me
          → expected_status accounts l.category f l.naming.number (Some q)
          ≡ expected_status accounts l.category after naming.number (Some q)
      status_alike q out not_me =
          by (f.processes q)
          ∙ sym (ap (λ (x : Option Process).
          status_object accounts l.category (bytes_for accounts l.category after naming.number q x) q x)
          (stays q out))
        where
          by : (x : Option Process)
              → status_object accounts l.category (bytes_for accounts l.category f l.naming.number q x) q x
              ≡ status_object accounts l.category (bytes_for accounts l.category after naming.number q x) q x
          by None = refl
          by (Some x) = ap (segment (guard_label l.category (process_guard q x))) (same_bytes q x out not_me)

  me_out : under_process top me ≡ false
  me_out = sym (under_home me) ∙ own_outside

  wish_own : option_map (holding own_written) (old_asked (Status ∷ home_address me)) ≡ wish (Status ∷ home_address me)
  wish_own =
      ap (option_map (holding own_written)) (asked_status accounts l.category f l.naming.number me
      ∙ ap (λ (x : Option Process).
      status_object accounts l.category (bytes_for accounts l.category f l.naming.number me x) me x) here)
      ∙ sym (asked_status accounts l.category after naming.number me
      ∙ ap (λ (x : Option Process).
      status_object accounts l.category (bytes_for accounts l.category after naming.number me x) me x)
      (stays me me_out ∙ here))

  left_asks : (a : Address Step)
      → set_at same_step (cut same_step old_asked (home_address top)) (Status ∷ home_address me)
      (option_map (holding own_written) (cut same_step old_asked (home_address top) (Status ∷ home_address me))) a
      ≡ wish a
  left_asks a = elim (same_tests_equality same_step step_tests_equality (Status ∷ home_address me) a) [
    | inl e ↦
        ap (λ (t : Bool). if t then option_map (holding own_written)
        (cut same_step old_asked (home_address top) (Status ∷ home_address me)) else cut same_step old_asked
        (home_address top) a) e.0
        ∙ ap (λ (t : Bool). option_map (holding own_written) (if t then None else old_asked (Status ∷ home_address me))) own_outside
        ∙ wish_own ∙ ap wish e.1
    | inr e ↦
        ap (λ (t : Bool). if t then option_map (holding own_written)
        (cut same_step old_asked (home_address top) (Status ∷ home_address me)) else cut same_step old_asked
        (home_address top) a) e.0
        ∙ by (under same_step (home_address top) a) refl e.1
  ]
    where
      by : (t : Bool) → under same_step (home_address top) a ≡ t → Status ∷ home_address me ≢ a → (if t then None else old_asked a) ≡ wish a
      by true e other = sym (nothing_below a e)
      by false e other = wish_other a e other

  -- what is there and used after the kill was there and used before
  was_there : (x : ProcName) (px : Process) → after.processes x ≡ Some px → f.processes x ≡ Some px
  was_there x px at = by (under_process top x) refl
    where
      by : (t : Bool) → under_process top x ≡ t → f.processes x ≡ Some px
      by true e = absurd (none-some px (sym (gone x e) ∙ at))
      by false e = sym (stays x e) ∙ at

  some_there : (x : ProcName) → is_some (after.processes x) ≡ true → is_some (f.processes x) ≡ true
  some_there x u = by (under_process top x) refl
    where
      by : (t : Bool) → under_process top x ≡ t → is_some (f.processes x) ≡ true
      by true e = absurd (true≢false (sym u ∙ ap is_some (gone x e)))
      by false e = ap is_some (sym (stays x e)) ∙ u

  used_then : (c : CategoryName) → IsUsed accounts after c → IsUsed accounts f c
  used_then OfBoot u = u
  used_then (ReadsUser i) u = u
  used_then (WritesUser i) u = u
  used_then (ReadsGroup k) u = u
  used_then (WritesGroup k) u = u
  used_then (ReadsProcess x) u = some_there x u
  used_then (WritesProcess x) u = some_there x u
  used_then (OfJob job) (inl k) = inl (k.0, k.1, was_there k.0 k.1 k.2, k.3)
  used_then (OfJob job) (inr served) = inr served

  given_then : (x : ProcName) → is_given f.processes x ≡ true → is_given after.processes x ≡ true
  given_then [] e = refl
  given_then (k ∷ y) e =
      and_from _ _ (by (under_process top y) refl (first_of (was_given (f.processes y) k) (is_given f.processes y) e))
      (given_then y (second_of (was_given (f.processes y) k) (is_given f.processes y) e))
    where
      by : (t : Bool) → under_process top y ≡ t → was_given (f.processes y) k ≡ true → was_given (after.processes y) k ≡ true
      by true i given = ap (λ (x : Option Process). was_given x k) (gone y i)
      by false i given = ap (λ (x : Option Process). was_given x k) (stays y i) ∙ given

  -- boot made nothing below the victim's address
  not_boot : (a : Address Step) → under same_step (home_address top) a ≡ true → boot_number (length accounts.users) a ≡ None
  not_boot [] e = absurd (true≢false (sym e))
  not_boot (Left k ∷ []) e = absurd (true≢false (sym e))
  not_boot (Left k ∷ x ∷ a) e = refl
  not_boot (Slash ∷ []) e = absurd (true≢false (sym e))
  not_boot (Slash ∷ x ∷ a) e = refl
  not_boot (Listing ∷ a) e = elim (same_tests_equality same_step step_tests_equality (Slash ∷ []) a) [
    | inl i ↦ absurd (true≢false (sym e ∙ ap (under same_step (home_address top)) (sym i.1)))
    | inr i ↦ ap (λ t. cond t (Some (5 + 2 * length accounts.users)) None) i.0
  ]
  not_boot (Named m ∷ a) e = refl
  not_boot (Home ∷ []) e = absurd (true≢false (sym e))
  not_boot (Home ∷ x ∷ a) e = refl
  not_boot (Status ∷ a) e = elim (same_tests_equality same_step step_tests_equality (Home ∷ []) a) [
    | inl i ↦ absurd (true≢false (sym e ∙ ap (under same_step (home_address top)) (sym i.1)))
    | inr i ↦ ap (λ t. cond t (Some (9 + 2 * length accounts.users)) None) i.0
  ]
  not_boot (Inside ∷ a) e = refl
  not_boot (Runner ∷ a) e = refl
  not_boot (Child k ∷ a) e = refl

  as_booted_then : (a : Address Step) (q : ℕ) → boot_number (length accounts.users) a ≡ Some q → naming.number a ≡ Some q
  as_booted_then a q e = by (under same_step (home_address top) a) refl
    where
      by : (t : Bool) → under same_step (home_address top) a ≡ t → naming.number a ≡ Some q
      by true i = absurd (none-some q (sym (not_boot a i) ∙ e))
      by false i = sym (kept a i) ∙ l.as_booted a q e

  gone_then : mid.objects boot_thread_number ≡ None
  gone_then =
      agrees_mid.tree.as_expected boot_thread_number
      ∙ ap (wanted (objects_at mid.objects naming)) (ap
      (λ (x : Option (Address Step)). if is_under same_step (home_address top) x then None else x)
      (no_address same_step s l.naming old_asked (agreement l) boot_thread_number l.boot_thread_gone))

  -- the numbers in the names of jobs were given as before
  pub jobs_left : AreJobsGiven f → AreJobsGiven after
  jobs_left given job u = given_then job (given job (by job u))
    where
      by : (job : ProcName) → IsKnown after job ⊎ IsServed after job → IsKnown f job ⊎ IsServed f job
      by job (inl k) = inl (k.0, k.1, was_there k.0 k.1 k.2, k.3)
      by job (inr served) = inr served

  -- The kernel has the objects of the flat state without the victim.
  pub matched_left : (later : ObjectsMatch accounts state_left after) × (later.naming ≡ naming) × (later.category ≡ l.category)
  matched_left = (
    record {
      naming = naming;
      category = l.category;
      agrees = as_asked accounts l.category after naming.number state_left naming
          (agrees_same same_step state_left state_left naming _ wish agrees_left left_asks (λ q. refl) refl);
      numbered = subst (λ (m : ℕ). m ≤ greatest) (sym cuts.next_object) l.numbered;
      as_booted = as_booted_then;
      different = l.different;
      made = λ c u. subst (λ (m : ℕ). IsMade m (l.category c)) (sym cuts.next_category) (l.made c (used_then c u));
      as_made = l.as_made;
      guarded = l.guarded;
      in_order = l.in_order;
      listable = λ d is. subst IsListable (same_directory f l.naming.number naming.number kept_path kept_listing d) (l.listable d is);
      first = l.first;
      processes = λ x px at. l.processes x px (was_there x px at);
      processes_given = λ x u. given_then x (l.processes_given x (some_there x u));
      boot_thread_gone = by_bytes (mid.objects) S boot_thread_number gone_then;
    },
    refl,
    refl,
  )
    where
      by_bytes : (objects : Objects Levels) (q k : ℕ) → objects k ≡ None → changed_at objects q (holding own_written) k ≡ None
      by_bytes objects q k e = elim (nat_eq k q) as (λ t. (if t then option_map (holding own_written) (objects k) else objects k) ≡ None) [
        | true ↦ ap (option_map (holding own_written)) e
        | false ↦ e
      ]

  -- the kernel represents the flat state without the victim, and names keep their numbers
  pub still_left : (given : AreJobsGiven f) → RepresentsStill (record { matched = l; jobs_given = given }) state_left after
  still_left given = record {
    represents = record { matched = matched_left.0; jobs_given = jobs_left given };
    names = keeps_above l matched_left.0 (home_address top) matched_left.1 matched_left.2 used_then;
  }
