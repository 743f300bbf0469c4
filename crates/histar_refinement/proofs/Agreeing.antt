-- The objects at the numbers of a state that is represented: threads, directories with their segments, and files.
use Rattle.std.proofs.Common.{◌≡◌, ◌≢◌, ℕ, true, List, [], ◌∷◌, Option, None, Some, refl, sym, ap, ◌∙◌}
use Rattle.std.specs.Prelude.{is_some}
use Rattle.std.specs.FinSet as set
use Rattle.std.proofs.lemmas.Option.{none-some, same_Some}
use mathlib.Core.Bool.{true≢false}
use Rattle.histar_flat.specs.Words.{Name, Path, ProcName}
use Rattle.histar_flat.specs.Accounts.{Accounts}
use Rattle.histar_flat.specs.Files.{get}
use Rattle.histar_flat.specs.Classes.{Class, Process}
use Rattle.histar_flat.specs.FlatState.{Node, Content, Flat, is_some_and, is_dir, is_dir_at}
use Rattle.histar_flat.specs.FlatState.Content.{Dir, File}
use Rattle.histar_level.specs.Levels.{Levels}
use Rattle.histar_object.specs.declared.objects.Kind.{Kind}
use Rattle.histar_object.specs.declared.objects.Kind.TheVariants.{Segment, Container, Thread, Gate}
use Rattle.histar_object.specs.Objects.{Numbers as Links, links_in, label_there, is_present, is_container, thread_of}
use Rattle.histar_object.specs.State.{State, Found}
use Rattle.histar_container.specs.Tree.{Address, is_one_below}
use Rattle.histar_container.proofs.Addresses.{same_itself}
use Rattle.histar_container.proofs.Links.{none_linked}
use Rattle.histar_layout.specs.Directory.{spelling}
use Rattle.histar_refinement.specs.Guards.{Guard, guard_label, rights_label, rights_clearance}
use Rattle.histar_refinement.specs.Labels.{class_guard, process_guard, thread_rights}
use Rattle.histar_refinement.specs.Addresses.{Step, same_step, address_of, home_address}
use Rattle.histar_refinement.specs.Addresses.Step.{Slash, Listing, Named, Inside, Runner}
use Rattle.histar_refinement.specs.Directories.{directory_of}
use Rattle.histar_refinement.specs.Agrees.{kind_bare, bare}
use Rattle.histar_refinement.proofs.Expected.{bare_container, content_kind, guarded_object, node_object, listing_object, home_object, thread_object}
use Rattle.histar_refinement.proofs.Expected.{expected}
use Rattle.histar_programs.specs.Start.{segment}
use Rattle.histar_refinement.specs.Represents.{ObjectsMatch}
use Rattle.histar_refinement.proofs.Steps.{step_tests_equality}
use Rattle.histar_refinement.proofs.Moving.{bare_is, at_number}
use Rattle.histar_refinement.proofs.Roots.{asked_home, asked_runner, asked_path, asked_listing}
use Rattle.histar_refinement.proofs.ListedFiles.{numbered_path, nothing_in}
use Rattle.histar_refinement.proofs.Agreement.{agreement}

-- a container but for its links is one with some links
container_kind : (label : Levels) (k : Kind Levels) (m : Levels)
    → ◌≡◌ {A = Found} (Some (record { label = label; kind = kind_bare k })) (bare_container m)
    → (links : Links) × (◌≡◌ {A = Found} (Some (record { label = label; kind = k })) (Some (record { label = m; kind = Container links })))
container_kind label (Segment bytes) m e = absurd (true≢false (sym (ap is_container e)))
container_kind label (Container links) m e =
    let same : label ≡ m = same_Some label m (ap label_there e) in
    (links, ap (λ (x : Levels). Some (record { label = x; kind = Container links })) same)
container_kind label (Thread clearance) m e = absurd (true≢false (sym (ap is_container e)))
container_kind label (Gate clearance entry) m e = absurd (true≢false (sym (ap is_container e)))

pub bare_container_is : (found : Found) (m : Levels) → bare found ≡ bare_container m
    → (links : Links) × (found ≡ Some (record { label = m; kind = Container links }))
bare_container_is None m e = absurd (none-some (record { label = m; kind = Container set.empty }) e)
bare_container_is (Some x) m e = container_kind x.label x.kind m e

-- a value that is there
pub some_of : {A : Type 0} (o : Option A) → is_some o ≡ true → (x : A) × (o ≡ Some x)
some_of None e = absurd (true≢false (sym e))
some_of (Some x) e = (x, refl)

pub some_unless_none : {A : Type 0} (o : Option A) → o ≢ None → (x : A) × (o ≡ Some x)
some_unless_none None e = absurd (e refl)
some_unless_none (Some x) e = (x, refl)

module _ (accounts : Accounts) (s : State) (f : Flat) (l : ObjectsMatch accounts s f) where
  abbrev asked : Address Step → Found
  asked = expected accounts l.category f l.naming.number

  -- the thread of a process that runs
  pub thread_found : (me : ProcName) (p : Process) → f.processes me ≡ Some p → p.exited ≡ None → (t : ℕ)
      → l.naming.number (Runner ∷ Inside ∷ home_address me) ≡ Some t
      → s.objects t
      ≡ Some (thread_of (rights_label l.category (thread_rights accounts me p))
      (rights_clearance l.category (thread_rights accounts me p)))
  thread_found me p here running t at_thread =
      bare_is (s.objects t) (thread_of (rights_label l.category (thread_rights accounts me p))
      (rights_clearance l.category (thread_rights accounts me p))) refl
      (at_number same_step step_tests_equality s l.naming asked (agreement l) (Runner ∷ Inside ∷ home_address me) t at_thread
      ∙ asked_runner accounts l.category f l.naming.number me ∙ ap (thread_object accounts l.category me) here
      ∙ (λ i. elim (running i) as (λ _. Found) [
        | None ↦ Some (thread_of (rights_label l.category (thread_rights accounts me p))
            (rights_clearance l.category (thread_rights accounts me p)))
        | Some n ↦ None
      ]))

  -- the container of a process
  pub home_found : (me : ProcName) (p : Process) → f.processes me ≡ Some p → (C : ℕ) → l.naming.number (home_address me) ≡ Some C
      → (links : Links) × (s.objects C ≡ Some (record { label = guard_label l.category (process_guard me p); kind = Container links }))
  home_found me p here C at_home = bare_container_is (s.objects C) (guard_label l.category (process_guard me p))
      (at_number same_step step_tests_equality s l.naming asked (agreement l) (home_address me) C at_home
      ∙ asked_home accounts l.category f l.naming.number me ∙ ap (home_object accounts l.category me) here)

  -- the guard of the object at a path
  pub guard_at : (q : Path) (there : Node) → get f.files q ≡ Some there → (g : Guard) × (class_guard accounts there.class ≡ Some g)
  guard_at q there at = some_unless_none (class_guard accounts there.class) (l.guarded q there at)

  -- the object at a path, but for its links
  pub path_agrees : (q : Path) (there : Node) → get f.files q ≡ Some there → (g : Guard)
      → class_guard accounts there.class ≡ Some g → (o : ℕ) → l.naming.number (address_of q) ≡ Some o
      → bare (s.objects o) ≡ Some (record { label = guard_label l.category g; kind = content_kind there.content })
  path_agrees q there at g is o at_object =
      at_number same_step step_tests_equality s l.naming asked (agreement l) (address_of q) o at_object
      ∙ asked_path accounts l.category f l.naming.number q ∙ ap (node_object accounts l.category) at
      ∙ ap (guarded_object accounts l.category (content_kind there.content)) is

  -- a file
  pub file_found : (q : Path) (class : Class) (bytes : List ℕ)
      → get f.files q ≡ Some (record { class = class; content = File bytes }) → (g : Guard)
      → class_guard accounts class ≡ Some g → (o : ℕ) → l.naming.number (address_of q) ≡ Some o
      → s.objects o ≡ segment (guard_label l.category g) bytes
  file_found q class bytes at g is o at_object =
      bare_is (s.objects o) (record { label = guard_label l.category g; kind = Segment bytes }) refl
      (path_agrees q (record { class = class; content = File bytes }) at g is o at_object)

  module _ (d : Path) (class : Class) (at : get f.files d ≡ Some (record { class = class; content = Dir })) (g : Guard)
      (is : class_guard accounts class ≡ Some g) where
    -- a directory's container, with what it links
    pub container_found : (D : ℕ) → l.naming.number (address_of d) ≡ Some D
        → (links : Links) × (s.objects D ≡ Some (record { label = guard_label l.category g; kind = Container links }))
    container_found D at_directory =
        bare_container_is (s.objects D) (guard_label l.category g)
        (path_agrees d (record { class = class; content = Dir }) at g is D at_directory)

    -- the directory segment of the directory
    pub listing_found : (N : ℕ) → l.naming.number (Listing ∷ address_of d) ≡ Some N
        → s.objects N ≡ segment (guard_label l.category g) (spelling (directory_of f.files l.naming.number d))
    listing_found N at_listing =
        bare_is (s.objects N) (record {
          label = guard_label l.category g;
          kind = Segment (spelling (directory_of f.files l.naming.number d));
        }) refl
        (at_number same_step step_tests_equality s l.naming asked (agreement l) (Listing ∷ address_of d) N at_listing
        ∙ asked_listing accounts l.category f l.naming.number d
        ∙ ap (listing_object accounts l.category (spelling (directory_of f.files l.naming.number d))) at
        ∙ ap (guarded_object accounts l.category (Segment (spelling (directory_of f.files l.naming.number d)))) is)

  -- an object one step below an address is linked there
  pub step_linked : (x : Step) (a : Address Step) (above below : ℕ) → l.naming.number a ≡ Some above
      → l.naming.number (x ∷ a) ≡ Some below → set.contains (links_in (s.objects above)) below ≡ true
  step_linked x a above below at_above at_below =
      (agreement l).tree.links above below a ((agreement l).tree.addressed a above at_above)
      ∙ ap (is_one_below same_step a) ((agreement l).tree.addressed (x ∷ a) below at_below)
      ∙ same_itself same_step step_tests_equality a

  -- what has a directory segment is a directory
  pub listed_is_dir : (d : Path) → is_some (l.naming.number (Listing ∷ address_of d)) ≡ true
      → (class : Class) × (get f.files d ≡ Some (record { class = class; content = Dir }))
  listed_is_dir d numbered = by (get f.files d) refl
    where
      there : is_present (listing_object accounts l.category (spelling (directory_of f.files l.naming.number d)) (get f.files d)) ≡ true
      there = sym ((agreement l).named (Listing ∷ address_of d) ∙ ap is_present (asked_listing accounts l.category f l.naming.number d)) ∙ numbered

      by : (o : Option Node) → get f.files d ≡ o → (class : Class) × (get f.files d ≡ Some (record { class = class; content = Dir }))
      by None is =
          absurd (true≢false (sym there
          ∙ ap (λ (x : Option Node). is_present (listing_object accounts l.category
          (spelling (directory_of f.files l.naming.number d)) x)) is))
      by (Some x) is = of x.content refl
        where
          of : (c : Content) → x.content ≡ c → (class : Class) × (get f.files d ≡ Some (record { class = class; content = Dir }))
          of Dir same = (x.class, is ∙ ap (λ (c : Content). Some (record { class = x.class; content = c })) same)
          of (File old) same = absurd (true≢false (sym there ∙ ap (λ (y : Option Node). is_present
              (listing_object accounts l.category (spelling (directory_of f.files l.naming.number d)) y))
              (is ∙ ap (λ (c : Content). Some (record { class = x.class; content = c })) same)))

  -- `/` is a directory
  pub root_is_dir : (class : Class) × (get f.files [] ≡ Some (record { class = class; content = Dir }))
  root_is_dir = listed_is_dir [] (ap is_some (l.as_booted (Listing ∷ Slash ∷ []) _ refl))

  -- an entry of a path is an entry of a directory, since a file links nothing
  pub parent_is_dir : (n : Name) (d : Path) (there : Node) → get f.files (n ∷ d) ≡ Some there → is_dir_at f d ≡ true
  parent_is_dir n d there at = by (get f.files d) refl
    where
      no_file : (x : Node) (old : List ℕ) → get f.files d ≡ Some x → x.content ≡ File old → ⊥
      no_file x old above same =
          let g = guard_at d x above in
          let c = some_of (l.naming.number (address_of (n ∷ d))) (numbered_path accounts s f l (n ∷ d) there at) in
          let q = some_of (l.naming.number (address_of d)) (numbered_path accounts s f l d x above) in
          let found = file_found d x.class old (above ∙ ap (λ (c : Content). Some (record { class = x.class; content = c })) same) g.0 g.1 q.0 q.1 in
          true≢false (sym (step_linked (Named n) (address_of d) q.0 c.0 q.1 c.1)
          ∙ ap (λ (o : Found). set.contains (links_in o) c.0) found ∙ sym (none_linked c.0))

      by : (o : Option Node) → get f.files d ≡ o → is_dir_at f d ≡ true
      by None is = absurd (none-some there (sym (nothing_in accounts s f l n d is) ∙ at))
      by (Some x) is = of x.content refl
        where
          of : (c : Content) → x.content ≡ c → is_dir_at f d ≡ true
          of Dir same = ap (λ (o : Option Node). is_some_and o is_dir) (is ∙ ap (λ (c : Content). Some (record { class = x.class; content = c }))
              same)
          of (File old) same = absurd (no_file x old is same)
