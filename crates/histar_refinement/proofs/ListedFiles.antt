-- Lemmas for each call that changes files: the processes stay the same, and only what is asked for at paths and directory segments differs.
use Rattle.std.proofs.Common.{◌≡◌, ◌≢◌, ℕ, ◌≤◌, ◌⊎◌, inl, inr, Bool, true, false, List, [], ◌∷◌, length, Option, None, Some, refl, sym, ap, ◌∙◌}
use Rattle.std.proofs.Common.{subst, if◌then◌else◌}
use Rattle.std.specs.Prelude.{is_some, option_map, option_and_then, nat_eq}
use Rattle.std.specs.FinMap as finmap
use Rattle.std.specs.Cmp.Lexicographic.{nat_list_cmp_total}
use Rattle.std.proofs.lemmas.Option.{none-some, same_Some}
use Rattle.std.proofs.lemmas.Bool.{or_left}
use mathlib.Core.Bool.{true≢false}
use Rattle.histar_flat.specs.Words.{Name, Path, ProcName}
use Rattle.histar_flat.specs.Files.{Files, get}
use Rattle.histar_level.specs.Levels.{Levels}
use Rattle.histar_layout.specs.Directory.{IsListable, spelling}
use Rattle.histar_layout.specs.Status.{status_bytes}
use Rattle.histar_layout.specs.declared.entry.Target.{Target}
use Rattle.histar_layout.specs.declared.entry.Target.TheVariants as targets
use Rattle.histar_layout.proofs.MapLemmas.{antisymmetric}
use Rattle.histar_object.specs.declared.objects.Kind.{Kind}
use Rattle.histar_object.specs.declared.objects.Kind.TheVariants.{Segment}
use Rattle.histar_object.specs.Objects.{Objects, changed_at, holding, is_present}
use Rattle.histar_object.specs.State.{State, Found, with_segment_bytes}
use Rattle.histar_container.specs.Tree.{Address, Naming, set_at, same_steps}
use Rattle.histar_container.proofs.Addresses.{same_tests_equality}
use Rattle.histar_container.proofs.Trees.{kind_held_links}
use Rattle.histar_rules.specs.Rules.{greatest}
use Rattle.histar_programs.specs.Start.{boot_thread_number}
use Rattle.histar_flat.specs.Accounts.{Accounts, has}
use Rattle.histar_flat.specs.Classes.{Class, Process}
use Rattle.histar_flat.specs.Classes.Class.{Private, Readable, Open, Scratch, Grouped}
use Rattle.histar_flat.specs.FlatState.{Node, Content, Flat, is_dir_at}
use Rattle.histar_flat.specs.FlatState.Content.{Dir, File}
use Rattle.histar_refinement.specs.Categories.{CategoryName, Categories, IsMade, is_for, IsKnown, IsServed, IsUsed}
use Rattle.histar_refinement.specs.Categories.CategoryName.{OfBoot, ReadsUser, WritesUser, ReadsGroup, WritesGroup, ReadsProcess, WritesProcess}
use Rattle.histar_refinement.specs.Categories.CategoryName.{OfJob}
use Rattle.histar_refinement.specs.Guards.{Guard, guard_label}
use Rattle.histar_refinement.specs.Labels.{class_guard, process_guard}
use Rattle.histar_refinement.specs.Addresses.{Step, AddressNumbers, same_step, address_of, home_address, boot_number}
use Rattle.histar_refinement.proofs.Expected.{path_at}
use Rattle.histar_refinement.specs.Addresses.Step.{Listing, Named, Status, Inside, Runner}
use Rattle.histar_refinement.specs.Processes.{status_by, process_bytes}
use Rattle.histar_refinement.specs.Directories.{both_numbers, target_for, directory_of}
use Rattle.histar_refinement.proofs.AgreesAt.{AgreesAt}
use Rattle.histar_refinement.proofs.Expected.{guarded_object, content_kind, node_object, listing_object, status_object, bytes_for, expected_status}
use Rattle.histar_refinement.proofs.Expected.{expected}
use Rattle.histar_programs.specs.Start.{segment}
use Rattle.histar_refinement.specs.Represents.{IsInOrder, AreJobsGiven, ObjectsMatch}
use Rattle.histar_refinement.proofs.ProcessBytes.{alike_status}
use Rattle.histar_refinement.proofs.Roots.{path_address, AsksAlikeAt, asked_alike_at, asked_path, asked_listing}
use Rattle.histar_refinement.proofs.Steps.{step_tests_equality}
use Rattle.histar_refinement.proofs.Moving.{bare_held, agrees_changed, agrees_same}
use Rattle.histar_refinement.proofs.DirectoryLaws.{get_directory}
use Rattle.histar_refinement.proofs.Agreement.{agreement, as_asked}

-- the same processes, and these files
abbrev pub with_files : Flat → Files Node → Flat
with_files f files = record f { files = files }

-- ---- numbers at the addresses of processes

pub record SameNumbers (number numbers : AddressNumbers) : Type 0 where
  pub home : (q : ProcName) → number (home_address q) ≡ numbers (home_address q)
  pub status : (q : ProcName) → number (Status ∷ home_address q) ≡ numbers (Status ∷ home_address q)
  pub inside : (q : ProcName) → number (Inside ∷ home_address q) ≡ numbers (Inside ∷ home_address q)
  pub runner : (q : ProcName) → number (Runner ∷ Inside ∷ home_address q) ≡ numbers (Runner ∷ Inside ∷ home_address q)

-- two namings with the same numbers give each process the same status
pub same_process_status : (number numbers : AddressNumbers) → SameNumbers number numbers
    → (processes : ProcName → Option Process) (q : ProcName) (x : Process)
    → status_by processes number q x ≡ status_by processes numbers q x
same_process_status number numbers same_steps processes q x =
    alike_status processes processes number numbers q x (same_steps.inside q) (same_steps.runner q)
    (λ k. same_steps.home (k ∷ q)) (λ k. same_steps.status (k ∷ q)) (λ k. refl)

-- two namings with the same numbers give each process segment the same bytes
pub same_process_bytes : (number numbers : AddressNumbers) → SameNumbers number numbers
    → (processes : ProcName → Option Process) (q : ProcName) (x : Process)
    → process_bytes processes number q x ≡ process_bytes processes numbers q x
same_process_bytes number numbers same_steps processes q x = ap status_bytes (same_process_status number numbers same_steps processes q x)

-- ---- addresses of paths

-- two paths of one address are the same
pub same_address_path : (p q : Path) → address_of p ≡ address_of q → p ≡ q
same_address_path p q e = same_Some p q (sym (path_address p) ∙ ap path_at e ∙ path_address q)

-- no path leads to a process
no_path_home : (q : ProcName) → path_at (home_address q) ≡ None
no_path_home [] = refl
no_path_home (n ∷ p) = refl

pub not_home : (p : Path) (q : ProcName) → address_of p ≢ home_address q
not_home p q e = none-some p (sym (no_path_home q) ∙ ap path_at (sym e) ∙ path_address p)

-- a path's address does not begin with these steps
pub not_begun : (p : Path) (a : Address Step) (x : Step) → path_at (x ∷ a) ≡ None → address_of p ≢ x ∷ a
not_begun p a x nothing e = none-some p (sym nothing ∙ ap path_at (sym e) ∙ path_address p)

-- ---- objects of nodes

module _ (accounts : Accounts) (category : Categories) where
  held_guarded : (old bytes : List ℕ) (g : Option Guard)
      → option_map (holding bytes) (guarded_object accounts category (Segment old) g)
      ≡ guarded_object accounts category (Segment bytes) g
  held_guarded old bytes None = refl
  held_guarded old bytes (Some g) = refl

  -- a directory segment with other bytes
  pub held_listing : (old bytes : List ℕ) (o : Option Node)
      → option_map (holding bytes) (listing_object accounts category old o) ≡ listing_object accounts category bytes o
  held_listing old bytes None = refl
  held_listing old bytes (Some there) =
      elim there.content as (λ (c : Content). option_map (holding bytes)
      (listing_object accounts category old (Some (record { class = there.class; content = c })))
      ≡ listing_object accounts category bytes (Some (record { class = there.class; content = c }))) [
        | Dir ↦ held_guarded old bytes (class_guard accounts there.class)
        | File was ↦ refl
      ]

  -- a file with other bytes
  pub held_node : (old bytes : List ℕ) (class : Class)
      → option_map (holding bytes) (node_object accounts category (Some (record { class = class; content = File old })))
      ≡ node_object accounts category (Some (record { class = class; content = File bytes }))
  held_node old bytes class = held_guarded old bytes (class_guard accounts class)

-- ---- where entries lead

-- where the entry of a path leads
abbrev pub leads_at : Files Node → AddressNumbers → Path → Option Target
leads_at files number p = option_and_then (λ (there : Node). target_for number (p, there)) (get files p)

-- two directories are the same, where their entries lead to the same
pub directories_alike : (files other : Files Node) (number numbers : AddressNumbers) (d e : Path)
    → ((n : Name) → leads_at files number (n ∷ d) ≡ leads_at other numbers (n ∷ e))
    → directory_of files number d ≡ directory_of other numbers e
directories_alike files other number numbers d e alike =
    finmap.same_map nat_list_cmp_total antisymmetric _ _ (λ n. get_directory files number d n ∙ alike n ∙ sym (get_directory other numbers e n))

-- where an entry leads is determined by two numbers
pub same_leads : (files other : Files Node) (number numbers : AddressNumbers) (p q : Path) → get files p ≡ get other q
    → number (address_of p) ≡ numbers (address_of q)
    → number (Listing ∷ address_of p) ≡ numbers (Listing ∷ address_of q)
    → leads_at files number p ≡ leads_at other numbers q
same_leads files other number numbers p q found here listing =
    ap (option_and_then (λ (there : Node). target_for number (p, there))) found ∙ by (get other q)
  where
    target_same : (there : Node) → target_for number (p, there) ≡ target_for numbers (q, there)
    target_same there =
        elim there.content as (λ (c : Content). target_for number (p, record { class = there.class; content = c })
        ≡ target_for numbers (q, record { class = there.class; content = c })) [
          | Dir ↦ λ i. both_numbers (here i) (listing i)
          | File bytes ↦ ap (option_map targets.File) here
        ]

    by : (o : Option Node)
        → option_and_then (λ (there : Node). target_for number (p, there)) o
        ≡ option_and_then (λ (there : Node). target_for numbers (q, there)) o
    by None = refl
    by (Some there) = target_same there

-- ---- what is asked for

module _ (accounts : Accounts) (category : Categories) (f : Flat) (files : Files Node) (number numbers : AddressNumbers)
    (same_steps : SameNumbers number numbers) where
  -- process segments
  pub same_status : (q : ProcName)
      → expected_status accounts category f number (Some q)
      ≡ expected_status accounts category (with_files f files) numbers (Some q)
  same_status q = by (f.processes q)
    where
      by : (x : Option Process)
          → status_object accounts category (bytes_for accounts category f number q x) q x
          ≡ status_object accounts category (bytes_for accounts category (with_files f files) numbers q x) q x
      by None = refl
      by (Some x) = ap (segment (guard_label category (process_guard q x))) (same_process_bytes number numbers same_steps f.processes q x)

  -- where nothing has changed the same is asked for
  pub asked_same : (a : Address Step) → AsksAlikeAt accounts category category f (with_files f files) number numbers a
      → expected accounts category f number a ≡ expected accounts category (with_files f files) numbers a
  asked_same a alike = asked_alike_at accounts category category f (with_files f files) number numbers a alike
      (record { home = λ q is. refl; status = λ q is. same_status q; inside = λ q is. refl; runner = λ q is. refl })

-- ---- what a state that is represented has

module _ (accounts : Accounts) (s : State) (f : Flat) (l : ObjectsMatch accounts s f) where
  guard_there : (kind : Kind Levels) (g : Option Guard) → g ≢ None → is_present (guarded_object accounts l.category kind g) ≡ true
  guard_there kind None some = absurd (some refl)
  guard_there kind (Some g) some = refl

  -- the object at a path has a number
  pub numbered_path : (q : Path) (there : Node) → get f.files q ≡ Some there → is_some (l.naming.number (address_of q)) ≡ true
  numbered_path q there at =
      (agreement l).named (address_of q) ∙ ap is_present (asked_path accounts l.category f l.naming.number q ∙ ap (node_object accounts l.category)
      at)
      ∙ guard_there (content_kind there.content) (class_guard accounts there.class) (l.guarded q there at)

  -- where there is a number there is an object
  pub nothing_unnumbered : (q : Path) → get f.files q ≡ None → is_some (l.naming.number (address_of q)) ≡ false
  nothing_unnumbered q at =
      (agreement l).named (address_of q)
      ∙ ap is_present (asked_path accounts l.category f l.naming.number q ∙ ap (node_object accounts l.category) at)

  -- a directory's segment has a number
  pub numbered_listing : (q : Path) (class : Class) → get f.files q ≡ Some (record { class = class; content = Dir })
      → is_some (l.naming.number (Listing ∷ address_of q)) ≡ true
  numbered_listing q class at =
      (agreement l).named (Listing ∷ address_of q)
      ∙ ap is_present (asked_listing accounts l.category f l.naming.number q
      ∙ ap (listing_object accounts l.category (spelling (directory_of f.files l.naming.number q))) at)
      ∙ guard_there (Segment (spelling (directory_of f.files l.naming.number q))) (class_guard accounts class)
      (l.guarded q (record { class = class; content = Dir }) at)

  -- where nothing is at a path, nothing is below it
  pub nothing_in : (n : Name) (d : Path) → get f.files d ≡ None → get f.files (n ∷ d) ≡ None
  nothing_in n d nothing = by (get f.files (n ∷ d)) refl
    where
      by : (o : Option Node) → get f.files (n ∷ d) ≡ o → o ≡ None
      by None at = refl
      by (Some there) at =
          absurd (true≢false (sym ((agreement l).tree.held (Named n) (address_of d) (numbered_path (n ∷ d) there at))
          ∙ nothing_unnumbered d nothing))

  -- a class that can be represented: it has a guard, its jobs are in order, and the category of each was made
  pub record ClassFits (class : Class) : Type 0 where
    pub guard : class_guard accounts class ≢ None
    pub order : IsInOrder l.category class
    pub made : (job : ProcName) → is_for class job ≡ true → IsMade s.next_category (l.category (OfJob job))

  -- each job of the class is known, or some file or directory is for it
  abbrev pub AreKnown : Class → Type 0
  AreKnown class = (job : ProcName) → is_for class job ≡ true → IsKnown f job ⊎ IsServed f job

  -- what was there is of such a class
  pub old_known : (q : Path) (there : Node) → get f.files q ≡ Some there → AreKnown there.class
  old_known q there at job is = inr (q, there, at, is)

  pub old_fits : (q : Path) (there : Node) → get f.files q ≡ Some there → ClassFits there.class
  old_fits q there at = record {
    guard = l.guarded q there at;
    order = l.in_order q there at;
    made = λ job is. l.made (OfJob job) (old_known q there at job is);
  }

  -- what a process makes has a known class, if the class has a guard: a Scratch class has the jobs of the process
  pub made_known : (me : ProcName) (p : Process) → f.processes me ≡ Some p → (class : Class)
      → ((owner : Name) (jobs : List ProcName) → class ≡ Scratch owner jobs → jobs ≡ p.chain) → AreKnown class
  made_known me p here (Private owner) own job is = absurd (true≢false (sym is))
  made_known me p here (Readable owner) own job is = absurd (true≢false (sym is))
  made_known me p here Open own job is = absurd (true≢false (sym is))
  made_known me p here (Grouped group) own job is = absurd (true≢false (sym is))
  made_known me p here (Scratch owner jobs) own job is =
      inl (
        me,
        p,
        here,
        or_left (has p.chain job) (has p.held job)
            (ap (λ (js : List ProcName). has js job) (sym (own owner jobs refl)) ∙ is),
      )

  made_order : (me : ProcName) (p : Process) → f.processes me ≡ Some p → (class : Class)
      → ((owner : Name) (jobs : List ProcName) → class ≡ Scratch owner jobs → jobs ≡ p.chain)
      → IsInOrder l.category class
  made_order me p here (Private owner) own = tt
  made_order me p here (Readable owner) own = tt
  made_order me p here Open own = tt
  made_order me p here (Grouped group) own = tt
  made_order me p here (Scratch owner jobs) own =
      subst (λ (js : List ProcName). IsInOrder l.category (Scratch owner js)) (sym (own owner jobs refl))
      (l.processes me p here).chain

  pub made_fits : (me : ProcName) (p : Process) → f.processes me ≡ Some p → (class : Class) → class_guard accounts class ≢ None
      → ((owner : Name) (jobs : List ProcName) → class ≡ Scratch owner jobs → jobs ≡ p.chain) → ClassFits class
  made_fits me p here class some own = record {
    guard = some;
    order = made_order me p here class own;
    made = λ job is. l.made (OfJob job) (made_known me p here class own job is);
  }

  module _ (files : Files Node) where
    abbrev pub refiled : Flat
    refiled = with_files f files

    -- the numbers in the names of jobs were given as before, where each job of a class is known
    pub jobs_kept : ((q : Path) (there : Node) → get files q ≡ Some there → AreKnown there.class) → AreJobsGiven f → AreJobsGiven refiled
    jobs_kept known given job (inl k) = given job (inl k)
    jobs_kept known given job (inr served) = given job (known served.0 served.1 served.2 job served.3)

    -- the names that are used then were used before, where each job of a class is known
    pub used_kept : ((q : Path) (there : Node) → get files q ≡ Some there → AreKnown there.class) → (c : CategoryName)
        → IsUsed accounts refiled c → IsUsed accounts f c
    used_kept known OfBoot u = u
    used_kept known (ReadsUser i) u = u
    used_kept known (WritesUser i) u = u
    used_kept known (ReadsGroup k) u = u
    used_kept known (WritesGroup k) u = u
    used_kept known (ReadsProcess x) u = u
    used_kept known (WritesProcess x) u = u
    used_kept known (OfJob job) (inl k) = inl k
    used_kept known (OfJob job) (inr served) = known served.0 served.1 served.2 job served.3

    module _ (fits : (q : Path) (there : Node) → get files q ≡ Some there → ClassFits there.class) where
      made_then : (c : CategoryName) → IsUsed accounts refiled c → IsMade s.next_category (l.category c)
      made_then OfBoot u = l.made OfBoot u
      made_then (ReadsUser i) u = l.made (ReadsUser i) u
      made_then (WritesUser i) u = l.made (WritesUser i) u
      made_then (ReadsGroup k) u = l.made (ReadsGroup k) u
      made_then (WritesGroup k) u = l.made (WritesGroup k) u
      made_then (ReadsProcess x) u = l.made (ReadsProcess x) u
      made_then (WritesProcess x) u = l.made (WritesProcess x) u
      made_then (OfJob job) (inl k) = l.made (OfJob job) (inl k)
      made_then (OfJob job) (inr served) = (fits served.0 served.1 served.2).made job served.3

      -- A state with the objects that are asked for, whose directories can be listed, has the objects of the flat state with these
      -- files.
      pub matched_files : (new : State) (naming : Naming Step)
          → AgreesAt same_step new naming (expected accounts l.category refiled naming.number)
          → new.next_object ≤ greatest
          → ((a : Address Step) (q : ℕ) → boot_number (length accounts.users) a ≡ Some q → naming.number a ≡ Some q)
          → ((d : Path) → is_dir_at refiled d ≡ true → IsListable (directory_of files naming.number d))
          → new.next_category ≡ s.next_category → new.objects boot_thread_number ≡ None
          → (later : ObjectsMatch accounts new refiled) × (later.naming ≡ naming) × (later.category ≡ l.category)
      matched_files new naming agrees numbered booted listable same_next gone = (
        record {
          naming = naming;
          category = l.category;
          agrees = as_asked accounts l.category refiled naming.number new naming agrees;
          numbered = numbered;
          as_booted = booted;
          different = l.different;
          made = λ c u. subst (λ (m : ℕ). IsMade m (l.category c)) (sym same_next) (made_then c u);
          as_made = l.as_made;
          guarded = λ q there at. (fits q there at).guard;
          in_order = λ q there at. (fits q there at).order;
          listable = listable;
          first = l.first;
          processes = l.processes;
          processes_given = l.processes_given;
          boot_thread_gone = gone;
        },
        refl,
        refl,
      )

      -- The same after the write of one directory segment, where all other objects are those asked for.
      pub matched_listed : (mid : State) (naming : Naming Step) (asked : Address Step → Found)
          → AgreesAt same_step mid naming asked → mid.next_object ≤ greatest
          → (d : Path) (N : ℕ) → naming.number (Listing ∷ address_of d) ≡ Some N
          → (old : List ℕ) → asked (Listing ∷ address_of d) ≡ listing_object accounts l.category old (get files d)
          → ((a : Address Step) → Listing ∷ address_of d ≢ a → asked a ≡ expected accounts l.category refiled naming.number a)
          → ((a : Address Step) (q : ℕ) → boot_number (length accounts.users) a ≡ Some q → naming.number a ≡ Some q)
          → ((e : Path) → is_dir_at refiled e ≡ true → IsListable (directory_of files naming.number e))
          → mid.next_category ≡ s.next_category → mid.objects boot_thread_number ≡ None
          → (later : ObjectsMatch accounts (with_segment_bytes mid N (spelling (directory_of files naming.number d)))
          refiled) × (later.naming ≡ naming) × (later.category ≡ l.category)
      matched_listed mid naming asked agrees numbered d N at_listing old asked_here asked_else booted listable same_next gone =
          matched_files (with_segment_bytes mid N (spelling (directory_of files naming.number d))) naming
          (agrees_same same_step (with_segment_bytes mid N (spelling (directory_of files naming.number d)))
          (with_segment_bytes mid N (spelling (directory_of files naming.number d))) naming _
          (expected accounts l.category refiled naming.number) written asks (λ q. refl) refl) numbered
          booted listable same_next (by_bytes mid.objects N boot_thread_number gone)
        where
          written : AgreesAt same_step (with_segment_bytes mid N (spelling (directory_of files naming.number d))) naming
              (set_at same_step asked (Listing ∷ address_of d) (option_map (holding (spelling (directory_of files naming.number d)))
              (asked (Listing ∷ address_of d))))
          written =
              agrees_changed same_step step_tests_equality mid naming asked agrees N (Listing ∷ address_of d)
              (holding (spelling (directory_of files naming.number d))) at_listing
              (λ x. kind_held_links (spelling (directory_of files naming.number d)) x.kind)
              (bare_held (spelling (directory_of files naming.number d)))

          wish_here : option_map (holding (spelling (directory_of files naming.number d)))
              (asked (Listing ∷ address_of d))
              ≡ expected accounts l.category refiled naming.number (Listing ∷ address_of d)
          wish_here =
              ap (option_map (holding (spelling (directory_of files naming.number d)))) asked_here
              ∙ held_listing accounts l.category old (spelling (directory_of files naming.number d)) (get files d)
              ∙ sym (asked_listing accounts l.category refiled naming.number d)

          asks : (a : Address Step)
              → set_at same_step asked (Listing ∷ address_of d)
              (option_map (holding (spelling (directory_of files naming.number d)))
              (asked (Listing ∷ address_of d))) a ≡ expected accounts l.category refiled naming.number a
          asks a = elim (same_tests_equality same_step step_tests_equality (Listing ∷ address_of d) a) [
            | inl e ↦
                ap (λ (t : Bool). if t then option_map (holding (spelling (directory_of files naming.number d)))
                (asked (Listing ∷ address_of d)) else asked a) e.0
                ∙ wish_here ∙ ap (expected accounts l.category refiled naming.number) e.1
            | inr e ↦
                ap (λ (t : Bool). if t then option_map (holding (spelling (directory_of files naming.number d)))
                (asked (Listing ∷ address_of d)) else asked a) e.0 ∙ asked_else a e.1
          ]

          by_bytes : (objects : Objects Levels) (q k : ℕ) → objects k ≡ None
              → changed_at objects q (holding (spelling (directory_of files naming.number d))) k ≡ None
          by_bytes objects q k e =
              elim (nat_eq k q) as (λ t. (if t then option_map (holding (spelling (directory_of files naming.number d))) (objects k) else
              objects k) ≡ None) [
                | true ↦ ap (option_map (holding (spelling (directory_of files naming.number d)))) e
                | false ↦ e
              ]
