-- After a birth the kernel represents the flat state with the child.
use Rattle.std.proofs.Common.{◌≡◌, ◌≢◌, ℕ, ◌+◌, ◌*◌, ◌<◌, ◌≤◌, ◌⊎◌, inl, inr, true, false, ◌&&◌, ◌||◌, cond, List, [], ◌∷◌, length, Option, None}
use Rattle.std.proofs.Common.{Some, arith, refl, sym, ap, ◌∙◌, subst}
use Rattle.std.specs.Prelude.{is_some, option_map, nat_le}
use Rattle.std.proofs.lemmas.Bool.Decides.{nat_tests}
use Rattle.std.proofs.lemmas.Option.{none-some, same_Some}
use Rattle.std.proofs.lemmas.Bool.{and_from, or_left, or_right, or_cases}
use mathlib.Core.Bool.{true≢false}
use Rattle.histar_flat.specs.Words.{Path, ProcName}
use Rattle.histar_base.specs.Paths.{same}
use Rattle.histar_level.specs.Levels.{Levels}
use Rattle.histar_flat.specs.Files.{get}
use Rattle.histar_flat.proofs.FileLemmas.{same_name_found}
use Rattle.histar_layout.specs.Directory.{Entries, IsListable, spelling}
use Rattle.histar_object.specs.Objects.{holding, is_present, is_container}
use Rattle.histar_object.specs.State.{State, Found}
use Rattle.histar_container.specs.Tree.{Address, Naming}
use Rattle.histar_rules.specs.Rules.{greatest}
use Rattle.histar_programs.specs.Start.{boot_thread_number}
use Rattle.histar_flat.specs.Accounts.{Accounts, has, user_number}
use Rattle.histar_flat.specs.Classes.{Class, Process, knows}
use Rattle.histar_flat.specs.Classes.Class.{Private, Readable, Open, Scratch, Grouped}
use Rattle.histar_flat.specs.FlatState.{Node, Flat, with_child, was_given, is_given}
use Rattle.histar_refinement.specs.Categories.{CategoryName, Categories, AreDifferent, IsMade, split_category, naming_next, is_for, IsKnown, IsServed}
use Rattle.histar_refinement.specs.Categories.{IsUsed}
use Rattle.histar_refinement.specs.Categories.CategoryName.{OfBoot, ReadsUser, WritesUser, ReadsGroup, WritesGroup, ReadsProcess, WritesProcess}
use Rattle.histar_refinement.specs.Categories.CategoryName.{OfJob}
use Rattle.histar_refinement.specs.Guards.{guard_label, rights_label, rights_clearance}
use Rattle.histar_refinement.specs.Labels.{process_guard, inside_guard, thread_rights}
use Rattle.histar_refinement.specs.Addresses.{Step, same_step, address_of, home_address, boot_number}
use Rattle.histar_refinement.proofs.KeepingNames.{Grows}
use Rattle.histar_refinement.proofs.Expected.{path_at}
use Rattle.histar_refinement.specs.Addresses.Step.{Left, Slash, Listing, Named, Home, Status, Inside, Runner, Child}
use Rattle.histar_refinement.specs.Processes.{process_bytes}
use Rattle.histar_refinement.specs.Directories.{directory_of}
use Rattle.histar_refinement.proofs.AgreesAt.{AgreesAt}
use Rattle.histar_refinement.proofs.Expected.{listing_object, home_object, status_object, inside_object, thread_object, bytes_for, expected_status}
use Rattle.histar_refinement.proofs.Expected.{expected}
use Rattle.histar_programs.specs.Start.{segment}
use Rattle.histar_refinement.specs.Represents.{IsInOrder, AreInOrder, IsProcess, ObjectsMatch}
use Rattle.histar_refinement.proofs.ProcessBytes.{alike_bytes}
use Rattle.histar_layout.proofs.Members.{first_of, second_of}
use Rattle.histar_layout.proofs.Declared.{equal_tested}
use Rattle.histar_refinement.proofs.Growing.{new_number, old_number, still_different}
use Rattle.histar_refinement.proofs.Roots.{path_address, same_home, same_directory, AsksAlike, asked_alike, asked_home, asked_status, asked_inside}
use Rattle.histar_refinement.proofs.Roots.{asked_runner}
use Rattle.histar_refinement.proofs.Moving.{number_below, agrees_same}
use Rattle.histar_refinement.proofs.Counting.{boot_used}
use Rattle.histar_refinement.proofs.Steps.{step_tests_equality}
use Rattle.histar_refinement.proofs.Uses.{keep_node, keep_listing, keep_process_label, keep_home, keep_inside, keep_runner, keep_order}
use Rattle.histar_refinement.proofs.Birth.{born_state, born_naming, agrees_born, number_kept, asks_born, gone_born}
use Rattle.histar_refinement.proofs.Agreement.{agreement, as_asked}

-- an address with no path is the address of no path
not_path : (p : Path) (a : Address Step) → path_at a ≡ None → a ≢ address_of p
not_path p a none e = none-some p (sym none ∙ ap path_at e ∙ path_address p)

-- the first step of an address
kind_of : Address Step → ℕ
kind_of [] = 99
kind_of (Left q ∷ a) = 0
kind_of (Slash ∷ a) = 1
kind_of (Listing ∷ a) = 2
kind_of (Named n ∷ a) = 3
kind_of (Home ∷ a) = 4
kind_of (Status ∷ a) = 5
kind_of (Inside ∷ a) = 6
kind_of (Runner ∷ a) = 7
kind_of (Child n ∷ a) = 8

-- the address above an address
above : Address Step → Address Step
above [] = []
above (x ∷ a) = a

module _ (accounts : Accounts) (s : State) (f : Flat) (l : ObjectsMatch accounts s f) (me : ProcName) (p : Process)
    (here : f.processes me ≡ Some p) (runs : p.exited ≡ None) (room : p.born < 64)
    (chain : List ProcName) (chain_used : (job : ProcName) → has chain job ≡ true → IsUsed accounts f (OfJob job))
    (chain_ordered : AreInOrder l.category chain)
    (chain_free : is_some (user_number accounts p.user) ≡ false → chain ≡ [])
    (C S : ℕ) (at_home : l.naming.number (home_address me) ≡ Some C) (at_status : l.naming.number (Status ∷ home_address me) ≡ Some S) where
  -- the child, and its parent after the birth
  abbrev pub child : ProcName
  child = (p.born + 1) ∷ me

  abbrev pub newborn : Process
  newborn = record { user = p.user; chain = chain; held = []; exited = None; born = 0 }

  abbrev pub parent : Process
  parent = record { user = p.user; chain = p.chain; held = p.held; exited = p.exited; born = p.born + 1 }

  abbrev pub after : Flat
  after = with_child f me p chain

  -- the processes after the birth
  pub child_not_me : child ≢ me
  child_not_me e = let k : length child ≡ length me = ap length e in absurd (omega (arith, k))

  pub at_child : after.processes child ≡ Some newborn
  at_child = ap (λ b. cond b (Some newborn) (cond (same me child) (Some parent) (f.processes child))) (equal_tested child child refl)

  apart_from : (x y : ProcName) → x ≢ y → same x y ≡ false
  apart_from x y other = elim (same_name_found x y) [ inl e ↦ absurd (other e.1) | inr e ↦ e.0 ]

  pub at_me : after.processes me ≡ Some parent
  at_me = (λ i. cond (apart_from child me child_not_me i) (Some newborn) (cond (equal_tested me me refl i) (Some parent) (f.processes me)))

  pub at_other : (x : ProcName) → x ≢ child → x ≢ me → after.processes x ≡ f.processes x
  at_other x not_child not_me =
      (λ i. cond (apart_from child x (λ e. not_child (sym e)) i) (Some newborn)
      (cond (apart_from me x (λ e. not_me (sym e)) i) (Some parent) (f.processes x)))

  -- a name is the child's, its parent's, or another
  which : (x : ProcName) → (x ≡ child) ⊎ ((x ≡ me) ⊎ ((x ≢ child) × (x ≢ me)))
  which x = elim (same_name_found child x) [
    | inl e ↦ inl (sym e.1)
    | inr not_child ↦ elim (same_name_found me x) [
      | inl e ↦ inr (inl (sym e.1))
      | inr not_me ↦ inr (inr (λ e. not_child.1 (sym e), λ e. not_me.1 (sym e)))
    ]
  ]

  -- the child's name was never given
  pub not_given : is_given f.processes child ≡ true → ⊥
  not_given e =
      let given : was_given (f.processes me) (p.born + 1) ≡ true = first_of (was_given (f.processes me) (p.born + 1)) (is_given f.processes me) e in
      let within : (nat_le 1 (p.born + 1) && nat_le (p.born + 1) p.born) ≡ true =
      ap (λ (o : Option Process). was_given o (p.born + 1)) (sym here) ∙ given in
      let top : nat_le (p.born + 1) p.born ≡ true = second_of (nat_le 1 (p.born + 1)) (nat_le (p.born + 1) p.born) within in
      absurd (grind (arith, nat_tests, top))

  pub no_child : f.processes child ≡ None
  no_child = by (f.processes child) refl
    where
      by : (o : Option Process) → f.processes child ≡ o → o ≡ None
      by None e = refl
      by (Some x) e = absurd (not_given (l.processes_given child (ap is_some e)))

  -- the two new categories
  abbrev next : ℕ
  next = s.next_category

  abbrev pub reads : CategoryName
  reads = ReadsProcess child

  abbrev pub writes : CategoryName
  writes = WritesProcess child

  abbrev pub with_reads : Categories
  with_reads = naming_next l.category next reads

  abbrev pub category : Categories
  category = naming_next with_reads (next + 1) writes

  pub different_reads : AreDifferent with_reads
  different_reads = still_different l.category l.different next reads

  pub different : AreDifferent category
  different = still_different with_reads different_reads (next + 1) writes

  not_reads : (c : CategoryName) → IsUsed accounts f c → c ≢ reads
  not_reads c used e = let k : is_some (f.processes child) ≡ true = subst (IsUsed accounts f) e used in true≢false (sym k ∙ ap is_some no_child)

  not_writes : (c : CategoryName) → IsUsed accounts f c → c ≢ writes
  not_writes c used e = let k : is_some (f.processes child) ≡ true = subst (IsUsed accounts f) e used in true≢false (sym k ∙ ap is_some no_child)

  pub keeps_first : (c : CategoryName) → IsUsed accounts f c → with_reads c ≡ l.category c
  keeps_first c used = old_number l.category l.different next reads c (not_reads c used) (l.made c used).1

  pub keeps : (c : CategoryName) → IsUsed accounts f c → category c ≡ l.category c
  keeps c used =
      let first = keeps_first c used in
      let below = (l.made c used).1 in
      old_number with_reads different_reads (next + 1) writes c (not_writes c used) (omega (arith, first, below)) ∙ first

  pub reads_number : category reads ≡ next
  reads_number =
      let first = new_number l.category l.different next reads in
      old_number with_reads different_reads (next + 1) writes reads
      (λ e. let k : 5 ≡ 6 = ap (λ (c : CategoryName). (split_category c).0) e in absurd (omega (arith, k)))
      (omega (arith, first)) ∙ first

  pub writes_number : category writes ≡ next + 1
  writes_number = new_number with_reads different_reads (next + 1) writes

  -- the labels of what is made for the child
  abbrev pub outer : Levels
  outer = guard_label category (process_guard child newborn)

  abbrev pub inner : Levels
  inner = guard_label category (inside_guard child newborn)

  abbrev pub label : Levels
  label = rights_label category (thread_rights accounts child newborn)

  abbrev pub clearance : Levels
  clearance = rights_clearance category (thread_rights accounts child newborn)

  abbrev old_asked : Address Step → Found
  old_asked = expected accounts l.category f l.naming.number

  -- the address of the child has no object yet, and its parent's container is there
  pub holder : is_container (old_asked (home_address me)) ≡ true
  holder =
      ap is_container (asked_home accounts l.category f l.naming.number me)
      ∙ ap (λ (o : Option Process). is_container (home_object accounts l.category me o)) here

  pub no_home : is_present (old_asked (home_address child)) ≡ false
  no_home =
      ap is_present (asked_home accounts l.category f l.naming.number child)
      ∙ ap (λ (o : Option Process). is_present (home_object accounts l.category child o)) no_child

  pub no_inside : is_present (old_asked (Inside ∷ home_address child)) ≡ false
  no_inside =
      ap is_present (asked_inside accounts l.category f l.naming.number child)
      ∙ ap (λ (o : Option Process). is_present (inside_object accounts l.category child o)) no_child

  pub no_runner : is_present (old_asked (Runner ∷ Inside ∷ home_address child)) ≡ false
  no_runner =
      ap is_present (asked_runner accounts l.category f l.naming.number child)
      ∙ ap (λ (o : Option Process). is_present (thread_object accounts l.category child o)) no_child

  pub no_status : is_present (old_asked (Status ∷ home_address child)) ≡ false
  no_status = ap is_present (asked_status accounts l.category f l.naming.number child)
      ∙ ap (λ (o : Option Process). is_present
      (status_object accounts l.category (bytes_for accounts l.category f l.naming.number child o) child o))
      no_child

  -- the numbers after the birth don't depend on what is written
  abbrev pub naming : Naming Step
  naming =
      born_naming s l.naming old_asked (agreement l) me (p.born + 1) C S at_home at_status holder no_home no_inside no_runner
      no_status outer inner label clearance [] []

  abbrev pub child_written : List ℕ
  child_written = process_bytes after.processes naming.number child newborn

  abbrev pub own_written : List ℕ
  own_written = process_bytes after.processes naming.number me parent

  -- the state after the birth, once the new categories are counted and the thread has its own labels again
  abbrev pub state_born : State
  state_born =
      born_state s l.naming old_asked (agreement l) me (p.born + 1) C S at_home at_status holder no_home no_inside no_runner
      no_status outer inner label clearance child_written own_written

  kept : (b : Address Step) → home_address child ≢ b → Inside ∷ home_address child ≢ b
      → Runner ∷ Inside ∷ home_address child ≢ b → Status ∷ home_address child ≢ b → naming.number b ≡ l.naming.number b
  kept =
      number_kept s l.naming old_asked (agreement l) me (p.born + 1) C S at_home at_status holder no_home no_inside no_runner
      no_status outer inner label clearance [] []

  -- addresses of paths, and of other processes
  pub kept_path : (q : Path) → l.naming.number (address_of q) ≡ naming.number (address_of q)
  kept_path q =
      sym (kept (address_of q) (not_path q (home_address child) refl) (not_path q (Inside ∷ home_address child) refl)
      (not_path q (Runner ∷ Inside ∷ home_address child) refl) (not_path q (Status ∷ home_address child) refl))

  unlike : (a b : Address Step) → kind_of a ≢ kind_of b → a ≢ b
  unlike a b other e = other (ap kind_of e)

  kept_listing : (q : Path) → l.naming.number (Listing ∷ address_of q) ≡ naming.number (Listing ∷ address_of q)
  unfolding kind_of
  kept_listing q =
      sym (kept (Listing ∷ address_of q) (unlike _ _ (λ k. absurd (omega (arith, k))))
      (unlike _ _ (λ k. absurd (omega (arith, k)))) (unlike _ _ (λ k. absurd (omega (arith, k))))
      (unlike _ _ (λ k. absurd (omega (arith, k)))))

  home_apart : (q : ProcName) → q ≢ child → home_address child ≢ home_address q
  home_apart q other e = other (sym (same_home child q e))

  not_status : (q : ProcName) → kind_of (home_address q) ≢ 5
  unfolding kind_of
  not_status [] e = absurd (omega (arith, e))
  not_status (n ∷ q) e = absurd (omega (arith, e))

  not_inside : (q : ProcName) → kind_of (home_address q) ≢ 6
  unfolding kind_of
  not_inside [] e = absurd (omega (arith, e))
  not_inside (n ∷ q) e = absurd (omega (arith, e))

  not_runner : (q : ProcName) → kind_of (home_address q) ≢ 7
  unfolding kind_of
  not_runner [] e = absurd (omega (arith, e))
  not_runner (n ∷ q) e = absurd (omega (arith, e))

  pub kept_home : (q : ProcName) → q ≢ child → l.naming.number (home_address q) ≡ naming.number (home_address q)
  unfolding kind_of
  kept_home q other =
      sym (kept (home_address q) (home_apart q other) (λ e. not_inside q (sym (ap kind_of e)))
      (λ e. not_runner q (sym (ap kind_of e))) (λ e. not_status q (sym (ap kind_of e))))

  pub kept_status : (q : ProcName) → q ≢ child → l.naming.number (Status ∷ home_address q) ≡ naming.number (Status ∷ home_address q)
  unfolding kind_of above
  kept_status q other =
      sym (kept (Status ∷ home_address q) (unlike _ _ (λ k. absurd (omega (arith, k))))
      (unlike _ _ (λ k. absurd (omega (arith, k)))) (unlike _ _ (λ k. absurd (omega (arith, k))))
      (λ e. home_apart q other (ap above e)))

  pub kept_inside : (q : ProcName) → q ≢ child → l.naming.number (Inside ∷ home_address q) ≡ naming.number (Inside ∷ home_address q)
  unfolding kind_of above
  kept_inside q other =
      sym (kept (Inside ∷ home_address q) (unlike _ _ (λ k. absurd (omega (arith, k))))
      (λ e. home_apart q other (ap above e)) (unlike _ _ (λ k. absurd (omega (arith, k))))
      (unlike _ _ (λ k. absurd (omega (arith, k)))))

  pub kept_runner : (q : ProcName) → q ≢ child → l.naming.number (Runner ∷ Inside ∷ home_address q) ≡ naming.number (Runner ∷ Inside ∷ home_address q)
  unfolding kind_of above
  kept_runner q other =
      sym (kept (Runner ∷ Inside ∷ home_address q) (unlike _ _ (λ k. absurd (omega (arith, k))))
      (unlike _ _ (λ k. absurd (omega (arith, k))))
      (λ e. home_apart q other (ap (λ (a : Address Step). above (above a)) e))
      (unlike _ _ (λ k. absurd (omega (arith, k)))))

  -- whether another process is there hasn't changed
  pub there_alike : (x : ProcName) → x ≢ child → is_some (f.processes x) ≡ is_some (after.processes x)
  there_alike x not_child = elim (which x) [
    | inl e ↦ absurd (not_child e)
    | inr (inl e) ↦
        ap (λ (y : ProcName). is_some (f.processes y)) e ∙ ap is_some here ∙ sym (ap is_some at_me)
        ∙ ap (λ (y : ProcName). is_some (after.processes y)) (sym e)
    | inr (inr e) ↦ ap is_some (sym (at_other x e.0 e.1))
  ]

  -- the process segment of another process
  same_bytes : (q : ProcName) (x : Process) → q ≢ child → q ≢ me
      → process_bytes f.processes l.naming.number q x ≡ process_bytes after.processes naming.number q x
  same_bytes q x not_child not_me =
      alike_bytes f.processes after.processes l.naming.number naming.number q x (kept_inside q not_child)
      (kept_runner q not_child)
      (λ k. kept_home (k ∷ q) (no_child_of k)) (λ k. kept_status (k ∷ q) (no_child_of k)) (λ k. there_alike (k ∷ q) (no_child_of k))
    where
      no_child_of : (k : ℕ) → k ∷ q ≢ child
      no_child_of k e = not_me (cc)

  -- what is asked for after the birth
  abbrev wish : Address Step → Found
  wish = expected accounts category after naming.number

  files_alike : AsksAlike accounts l.category category f after l.naming.number naming.number
  files_alike = record {
    at_path = λ q. keep_node accounts f l.category category keeps q (get f.files q) refl;
    in_directory = λ d.
        ap (λ (dir : Entries). listing_object accounts l.category (spelling dir) (get f.files d))
        (same_directory f l.naming.number naming.number kept_path kept_listing d)
        ∙ keep_listing accounts f l.category category keeps d (spelling (directory_of f.files naming.number d)) (get f.files d) refl;
  }

  -- the object of a process is as before, except its process segment and what is the child's
  object_alike : (object : Categories → ProcName → Option Process → Found)
      → ((q : ProcName) → object l.category q (f.processes q) ≡ object category q (f.processes q))
      → object category me (Some p) ≡ object category me (Some parent) → (q : ProcName) → q ≢ child
      → object l.category q (f.processes q) ≡ object category q (after.processes q)
  object_alike object keep same_me q not_child = keep q ∙ elim (which q) [
    | inl e ↦ absurd (not_child e)
    | inr (inl e) ↦
        subst (λ (x : ProcName). object category x (f.processes x) ≡ object category x (after.processes x)) (sym e)
        (ap (object category me) here ∙ same_me ∙ sym (ap (object category me) at_me))
    | inr (inr e) ↦ ap (object category q) (sym (at_other q e.0 e.1))
  ]

  status_alike : (q : ProcName) → q ≢ child → q ≢ me
      → expected_status accounts l.category f l.naming.number (Some q)
      ≡ expected_status accounts category after naming.number (Some q)
  status_alike q not_child not_me =
      by (f.processes q) refl
      ∙ sym (ap (λ (o : Option Process).
      status_object accounts category (bytes_for accounts category after naming.number q o) q o)
      (at_other q not_child not_me))
    where
      by : (o : Option Process) → f.processes q ≡ o
          → status_object accounts l.category (bytes_for accounts l.category f l.naming.number q o) q o
          ≡ status_object accounts category (bytes_for accounts category after naming.number q o) q o
      by None e = refl
      by (Some x) e = λ i. segment (keep_process_label accounts f l.category category keeps q x e i) (same_bytes q x not_child not_me i)

  wish_other : (a : Address Step) → home_address child ≢ a → Inside ∷ home_address child ≢ a
      → Runner ∷ Inside ∷ home_address child ≢ a → Status ∷ home_address child ≢ a → Status ∷ home_address me ≢ a
      → old_asked a ≡ wish a
  wish_other a not_home not_inner not_thread not_segment not_own =
      asked_alike accounts l.category category f after l.naming.number naming.number files_alike a
      (record {
        home =
            λ q is. object_alike (home_object accounts)
            (λ x. keep_home accounts f l.category category keeps x (f.processes x) refl) refl q
            (λ e. not_home (ap home_address (sym e) ∙ sym is));
        status =
            λ q is. status_alike q (λ e. not_segment (ap (λ (x : ProcName). Status ∷ home_address x) (sym e) ∙ sym is))
            (λ e. not_own (ap (λ (x : ProcName). Status ∷ home_address x) (sym e) ∙ sym is));
        inside =
            λ q is. object_alike (inside_object accounts)
            (λ x. keep_inside accounts f l.category category keeps x (f.processes x) refl) refl q
            (λ e. not_inner (ap (λ (x : ProcName). Inside ∷ home_address x) (sym e) ∙ sym is));
        runner =
            λ q is. object_alike (thread_object accounts)
            (λ x. keep_runner accounts f l.category category keeps x (f.processes x) refl) refl q
            (λ e. not_thread (ap (λ (x : ProcName). Runner ∷ Inside ∷ home_address x) (sym e) ∙ sym is));
      })

  wish_own : option_map (holding own_written) (old_asked (Status ∷ home_address me)) ≡ wish (Status ∷ home_address me)
  wish_own =
      ap (option_map (holding own_written)) (asked_status accounts l.category f l.naming.number me
      ∙ ap (λ (o : Option Process).
      status_object accounts l.category (bytes_for accounts l.category f l.naming.number me o) me o) here)
      ∙ ap (λ (m : Levels). segment m own_written) (keep_process_label accounts f l.category category keeps me p here)
      ∙ sym (asked_status accounts category after naming.number me
      ∙ ap (λ (o : Option Process).
      status_object accounts category (bytes_for accounts category after naming.number me o) me o) at_me)

  -- the kernel's objects are what the flat state with the child asks for
  agrees_after : AgreesAt same_step state_born naming wish
  agrees_after = agrees_same same_step state_born state_born naming _ wish
      (agrees_born s l.naming old_asked (agreement l) me (p.born + 1) C S at_home at_status holder no_home no_inside
      no_runner no_status outer inner label clearance child_written own_written)
      (asks_born s l.naming old_asked (agreement l) me (p.born + 1) C S at_home at_status holder no_home no_inside no_runner
      no_status outer inner label clearance child_written own_written wish
      (sym (asked_home accounts category after naming.number child ∙ ap (home_object accounts category child) at_child))
      (sym (asked_inside accounts category after naming.number child ∙ ap (inside_object accounts category child) at_child))
      (sym (asked_runner accounts category after naming.number child ∙ ap (thread_object accounts category child) at_child))
      (sym (asked_status accounts category after naming.number child
      ∙ ap (λ (o : Option Process).
      status_object accounts category (bytes_for accounts category after naming.number child o) child
      o) at_child))
      wish_own wish_other)
      (λ q. refl) refl

  -- the jobs that some process knows after the birth were used before, and the names that are used then
  known_then : (job x : ProcName) (px : Process) → after.processes x ≡ Some px → knows px job ≡ true → IsUsed accounts f (OfJob job)
  known_then job x px at known = elim (which x) [
    | inl e ↦
        let is : newborn ≡ px = same_Some newborn px (sym at_child ∙ ap after.processes (sym e) ∙ at) in
        let in_chain : (has chain job || false) ≡ true = subst (λ (y : Process). knows y job ≡ true) (sym is) known in
        chain_used job (elim (or_cases (has chain job) false in_chain) [ inl k ↦ k | inr k ↦ absurd (true≢false (sym k)) ])
    | inr (inl e) ↦
        let is : parent ≡ px = same_Some parent px (sym at_me ∙ ap after.processes (sym e) ∙ at) in
        inl (me, p, here, subst (λ (y : Process). knows y job ≡ true) (sym is) known)
    | inr (inr e) ↦ inl (x, px, sym (at_other x e.0 e.1) ∙ at, known)
  ]

  pub job_used : (job : ProcName) → IsKnown after job ⊎ IsServed after job → IsUsed accounts f (OfJob job)
  job_used job (inl k) = known_then job k.0 k.1 k.2 k.3
  job_used job (inr served) = inr served

  used_process : (x : ProcName) → is_some (after.processes x) ≡ true → (is_some (f.processes x) ≡ true) ⊎ (x ≡ child)
  used_process x u = elim (which x) [
    | inl e ↦ inr e
    | inr (inl e) ↦ inl (ap (λ (y : ProcName). is_some (f.processes y)) e ∙ ap is_some here)
    | inr (inr e) ↦ inl (ap is_some (sym (at_other x e.0 e.1)) ∙ u)
  ]

  pub used_then : (c : CategoryName) → IsUsed accounts after c → IsUsed accounts f c ⊎ ((c ≡ reads) ⊎ (c ≡ writes))
  used_then OfBoot u = inl u
  used_then (ReadsUser i) u = inl u
  used_then (WritesUser i) u = inl u
  used_then (ReadsGroup k) u = inl u
  used_then (WritesGroup k) u = inl u
  used_then (ReadsProcess x) u = elim (used_process x u) [ inl old ↦ inl old | inr e ↦ inr (inl (ap ReadsProcess e)) ]
  used_then (WritesProcess x) u = elim (used_process x u) [ inl old ↦ inl old | inr e ↦ inr (inr (ap WritesProcess e)) ]
  used_then (OfJob job) u = inl (job_used job u)

  pub made_then : (c : CategoryName) → IsUsed accounts after c → IsMade (s.next_category + 2) (category c)
  made_then c u = elim (used_then c u) [
    | inl old ↦ let m = l.made c old in let k = keeps c old in (omega (arith, m.0, k), omega (arith, m.1, k))
    | inr (inl e) ↦
        let k : category c
        ≡ next = ap category e
        ∙ reads_number in let m = l.made OfBoot tt in (omega (arith, m.0, m.1, k), omega (arith, k))
    | inr (inr e) ↦ let k : category c ≡ next + 1 = ap category e ∙ writes_number in (omega (arith, k), omega (arith, k))
  ]

  as_booted_then : (a : Address Step) (q : ℕ) → boot_number (length accounts.users) a ≡ Some q → naming.number a ≡ Some q
  as_booted_then a q e =
      kept a (λ k. none-some q (ap (boot_number (length accounts.users)) k ∙ e)) (λ k. none-some q (ap (boot_number (length accounts.users)) k ∙ e))
      (λ k. none-some q (ap (boot_number (length accounts.users)) k ∙ e))
      (λ k. none-some q (ap (boot_number (length accounts.users)) k ∙ e)) ∙ l.as_booted a q e

  -- numbers that were given stay given
  higher : (k : ℕ) → was_given (Some p) k ≡ true → was_given (Some parent) k ≡ true
  higher k e =
      let low : nat_le 1 k ≡ true = first_of (nat_le 1 k) (nat_le k p.born) e in
      let high : nat_le k p.born ≡ true = second_of (nat_le 1 k) (nat_le k p.born) e in
      and_from _ _ low (grind (arith, nat_tests, high))

  given_by : (y : ProcName) (k : ℕ) → is_given f.processes y ≡ true → was_given (f.processes y) k ≡ true → was_given (after.processes y) k ≡ true
  given_by y k whole e = elim (which y) [
    | inl is ↦ absurd (not_given (subst (λ (x : ProcName). is_given f.processes x ≡ true) is whole))
    | inr (inl is) ↦
        ap (λ (x : ProcName). was_given (after.processes x) k) is ∙ ap (λ (o : Option Process). was_given o k) at_me
        ∙ higher k (ap (λ (o : Option Process). was_given o k) (sym here) ∙ ap (λ (x : ProcName). was_given (f.processes x) k) (sym is) ∙ e)
    | inr (inr is) ↦ ap (λ (o : Option Process). was_given o k) (at_other y is.0 is.1) ∙ e
  ]

  pub given_then : (x : ProcName) → is_given f.processes x ≡ true → is_given after.processes x ≡ true
  given_then [] e = refl
  given_then (k ∷ y) e =
      let whole = second_of (was_given (f.processes y) k) (is_given f.processes y) e in
      and_from _ _ (given_by y k whole (first_of (was_given (f.processes y) k) (is_given f.processes y) e)) (given_then y whole)

  pub own_given : is_given f.processes me ≡ true
  own_given = l.processes_given me (ap is_some here)

  pub child_given : is_given after.processes child ≡ true
  child_given =
      let low : nat_le 1 (p.born + 1) ≡ true = grind (arith, nat_tests) in
      let high : nat_le (p.born + 1) (p.born + 1) ≡ true = grind (arith, nat_tests) in
      and_from _ _ (ap (λ (o : Option Process). was_given o (p.born + 1)) at_me ∙ and_from _ _ low high) (given_then me own_given)

  processes_given_then : (x : ProcName) → is_some (after.processes x) ≡ true → is_given after.processes x ≡ true
  processes_given_then x u = elim (used_process x u) [
    | inl old ↦ given_then x (l.processes_given x old)
    | inr e ↦ subst (λ (y : ProcName). is_given after.processes y ≡ true) (sym e) child_given
  ]

  -- classes and processes stay in order
  in_order_by : (q : Path) (there : Node) → get f.files q ≡ Some there → (class : Class) → there.class ≡ class
      → IsInOrder l.category class → IsInOrder category class
  in_order_by q there at (Private owner) is o = tt
  in_order_by q there at (Readable owner) is o = tt
  in_order_by q there at Open is o = tt
  in_order_by q there at (Scratch owner jobs) is o =
      keep_order accounts f l.category category keeps jobs
      (λ job e. inr (q, there, at, ap (λ (c : Class). is_for c job) is ∙ e)) o
  in_order_by q there at (Grouped group) is o = tt

  process_kept : (x : ProcName) (px : Process) → f.processes x ≡ Some px → IsProcess accounts category px
  process_kept x px at =
      let o = l.processes x px at in
      record {
        someone = o.someone;
        free = o.free;
        apart = o.apart;
        chain =
            keep_order accounts f l.category category keeps px.chain
            (λ job e. inl (x, px, at, or_left (has px.chain job) (has px.held job) e)) o.chain;
        held =
            λ r. keep_order accounts f l.category category keeps px.held
            (λ job e. inl (x, px, at, or_right (has px.chain job) (has px.held job) e)) (o.held r);
        few = o.few;
        status = o.status;
      }

  newborn_is : IsProcess accounts category newborn
  newborn_is =
      let o = process_kept me p here in
      record {
        someone = λ r. o.someone runs;
        free = λ r u. (chain_free u, refl);
        apart = λ r job e. refl;
        chain = keep_order accounts f l.category category keeps chain chain_used chain_ordered;
        held = λ r. tt;
        few = omega arith;
        status = λ n e. absurd (none-some n e);
      }

  parent_is : IsProcess accounts category parent
  parent_is =
      let o = process_kept me p here in
      record { someone = o.someone; free = o.free; apart = o.apart; chain = o.chain; held = o.held; few = omega (arith, room); status = o.status }

  process_then : (x : ProcName) (px : Process) → after.processes x ≡ Some px → IsProcess accounts category px
  process_then x px at = elim (which x) [
    | inl e ↦ subst (IsProcess accounts category) (same_Some newborn px (sym at_child ∙ ap after.processes (sym e) ∙ at)) newborn_is
    | inr (inl e) ↦ subst (IsProcess accounts category) (same_Some parent px (sym at_me ∙ ap after.processes (sym e) ∙ at)) parent_is
    | inr (inr e) ↦ process_kept x px (sym (at_other x e.0 e.1) ∙ at)
  ]

  -- the boot thread stays gone
  boot_below : boot_thread_number < s.next_object
  boot_below =
      let below =
      number_below same_step step_tests_equality s l.naming old_asked (agreement l) (Slash ∷ [])
      (4 + 2 * length accounts.users) (l.as_booted (Slash ∷ []) (4 + 2 * length accounts.users) refl) in
      omega (arith, below)

  gone_then : state_born.objects boot_thread_number ≡ None
  gone_then =
      gone_born s l.naming old_asked (agreement l) me (p.born + 1) C S at_home at_status holder no_home no_inside no_runner
      no_status outer inner label clearance child_written own_written boot_thread_number l.boot_thread_gone
      boot_below

  -- The kernel has the objects of the flat state with the child.
  pub matched_born : (new : State) → ((q : ℕ) → new.objects q ≡ state_born.objects q)
      → new.next_object ≡ state_born.next_object → new.next_category ≡ s.next_category + 2
      → s.next_object + 3 < greatest
      → (born : ObjectsMatch accounts new after) × (born.naming ≡ naming) × (born.category ≡ category)
  matched_born new objects next_is categories few = (
    record {
      naming = naming;
      category = category;
      agrees = as_asked accounts category after naming.number new naming
          (agrees_same same_step state_born new naming wish wish agrees_after (λ a. refl) objects next_is);
      numbered = omega (arith, next_is, few);
      as_booted = as_booted_then;
      different = different;
      made = λ c u. subst (λ (m : ℕ). IsMade m (category c)) (sym categories) (made_then c u);
      as_made = λ c q e. keeps c (boot_used accounts f l.first c q e) ∙ l.as_made c q e;
      guarded = l.guarded;
      in_order = λ q there at. in_order_by q there at there.class refl (l.in_order q there at);
      listable = λ d is. subst IsListable (same_directory f l.naming.number naming.number kept_path kept_listing d) (l.listable d is);
      first = sym (there_alike [] (λ e. let k : length {A = ℕ} [] ≡ length child = ap length e in absurd (omega (arith, k)))) ∙ l.first;
      processes = process_then;
      processes_given = processes_given_then;
      boot_thread_gone = objects boot_thread_number ∙ gone_then;
    },
    refl,
    refl,
  )

  -- An address that had a number keeps it.
  none_there : (b a : Address Step) (q : ℕ) → is_present (old_asked b) ≡ false → l.naming.number a ≡ Some q → b ≢ a
  none_there b a q none at e = true≢false (sym (ap is_some (ap l.naming.number e ∙ at)) ∙ (agreement l).named b ∙ none)

  old_numbers : (a : Address Step) (q : ℕ) → l.naming.number a ≡ Some q → naming.number a ≡ Some q
  old_numbers a q at =
      kept a (none_there (home_address child) a q no_home at) (none_there (Inside ∷ home_address child) a q no_inside at)
      (none_there (Runner ∷ Inside ∷ home_address child) a q no_runner at)
      (none_there (Status ∷ home_address child) a q no_status at) ∙ at

  -- Names are added, in each state that has these names and whose flat state uses no others.
  pub grows_born : (t : State) (g : Flat) (born : ObjectsMatch accounts t g) → born.naming ≡ naming → born.category ≡ category
      → ((c : CategoryName) → IsUsed accounts g c → IsUsed accounts after c) → Grows l born
  grows_born t g born naming_is category_is used = record {
    categories = λ c before. ap (λ (names : Categories). names c) category_is ∙ keeps c before;
    fresh = λ c late. elim (used_then c (used c late)) as (λ _. IsUsed accounts f c ⊎ (s.next_category ≤ born.category c)) [
      | inl old ↦ inl old
      | inr (inl e) ↦
          let k : born.category c ≡ next = ap (λ (names : Categories). names c) category_is ∙ ap category e ∙ reads_number in
          inr (omega (arith, k))
      | inr (inr e) ↦
          let k : born.category c ≡ next + 1 = ap (λ (names : Categories). names c) category_is ∙ ap category e ∙ writes_number in
          inr (omega (arith, k))
    ];
    addresses = λ a q at. ap (λ (names : Naming Step). names.number a) naming_is ∙ old_numbers a q at;
  }
