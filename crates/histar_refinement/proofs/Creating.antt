-- The states that `create` and `mkdir` leave: the object is linked in its directory, and a directory has an empty segment.
use Rattle.std.proofs.Common.{◌≡◌, ◌≢◌, ℕ, ◌+◌, ◌<◌, Bool, true, false, [], ◌∷◌, length, Option, None, Some, arith, refl, sym, ap, ◌∙◌, if◌then◌else◌}
use Rattle.std.specs.Prelude.{IsTrue, option_map}
use Rattle.std.specs.FinMap as map
use Rattle.std.specs.FinSet as set
use Rattle.histar_flat.specs.Words.{Name, Path, is_name}
use Rattle.histar_flat.specs.Files.{get}
use Rattle.histar_level.specs.Levels.{Levels}
use Rattle.histar_layout.specs.Directory.{spelling}
use Rattle.histar_layout.specs.declared.entry.Target.TheVariants as targets
use Rattle.histar_object.specs.declared.objects.Kind.TheVariants.{Segment, Container}
use Rattle.histar_object.specs.declared.objects.Object.{Object}
use Rattle.histar_object.specs.Objects.{is_present, is_container}
use Rattle.histar_object.specs.State.{State, Found, with_object, with_segment_bytes}
use Rattle.histar_container.specs.Tree.{Address, Naming, with_number, set_at}
use Rattle.histar_container.proofs.Addresses.{same_itself, same_other, longer}
use Rattle.histar_container.proofs.Links.{none_linked}
use Rattle.histar_container.proofs.TableMoves.{new_none}
use Rattle.histar_rules.specs.Rules.{greatest}
use Rattle.histar_programs.specs.Start.{boot_thread_number}
use Rattle.histar_flat.specs.Accounts.{Accounts}
use Rattle.histar_flat.specs.Classes.{Class}
use Rattle.histar_flat.specs.FlatState.{Node, Flat, is_dir_at, is_some_and, is_dir, entries_in, with_node}
use Rattle.histar_flat.specs.FlatCalls.{most_entries}
use Rattle.histar_flat.specs.FlatState.Content.{Dir, File}
use Rattle.histar_refinement.specs.Categories.{Categories}
use Rattle.histar_refinement.specs.Guards.{Guard, guard_label}
use Rattle.histar_refinement.specs.Labels.{class_guard}
use Rattle.histar_refinement.specs.Addresses.{Step, same_step, address_of}
use Rattle.histar_refinement.specs.Addresses.Step.{Listing, Named}
use Rattle.histar_refinement.specs.Directories.{both_numbers, directory_of}
use Rattle.histar_refinement.proofs.AgreesAt.{AgreesAt}
use Rattle.histar_refinement.proofs.Expected.{bare_container, guarded_object, node_object, listing_object, expected}
use Rattle.histar_programs.specs.Start.{segment}
use Rattle.histar_refinement.specs.Represents.{ObjectsMatch}
use Rattle.histar_refinement.specs.KeptNames.{KeepsNames}
use Rattle.histar_refinement.proofs.Steps.{step_tests_equality}
use Rattle.histar_refinement.proofs.Moving.{number_below, agrees_added, number_new, number_old}
use Rattle.histar_refinement.proofs.Roots.{asked_path, asked_listing}
use Rattle.histar_refinement.proofs.ListedFiles.{SameNumbers, ClassFits, AreKnown}
use Rattle.histar_refinement.proofs.Making.{boot_thread_below, Agreeing, old_numbers, names_made, same_numbers, matched_made}
use Rattle.histar_refinement.proofs.Agreement.{agreement}

-- what was nothing and is not the next number stays nothing
gone_added : (s : State) (d b : ℕ) (o : Object Levels) → s.objects b ≡ None → b ≢ s.next_object → (with_object s d o).objects b ≡ None
gone_added s d b o nothing other = new_none s.objects s.next_object d o b nothing other

-- what has a guard is a container, where its kind is one
container_there : (accounts : Accounts) (category : Categories) (g : Option Guard) → g ≢ None
    → is_container (guarded_object accounts category (Container set.empty) g) ≡ true
container_there accounts category None some = absurd (some refl)
container_there accounts category (Some g) some = refl

module _ (accounts : Accounts) (s : State) (f : Flat) (l : ObjectsMatch accounts s f) (d : Path) (above : Class)
    (at_parent : get f.files d ≡ Some (record { class = above; content = Dir }))
    (D N : ℕ) (at_directory : l.naming.number (address_of d) ≡ Some D) (at_listing : l.naming.number (Listing ∷ address_of d) ≡ Some N)
    (m : Name) (absent : get f.files (m ∷ d) ≡ None) (class : Class) (fits : ClassFits accounts s f l class) (g : Guard)
    (class_has : class_guard accounts class ≡ Some g) where
  abbrev label : Levels
  label = guard_label l.category g

  abbrev old_asked : Address Step → Found
  old_asked = expected accounts l.category f l.naming.number

  abbrev here : Address Step
  here = Named m ∷ address_of d

  holder : is_container (old_asked (address_of d)) ≡ true
  holder =
      ap is_container
      (asked_path accounts l.category f l.naming.number d ∙ ap (node_object accounts l.category) at_parent)
      ∙ container_there accounts l.category (class_guard accounts above)
      (l.guarded d (record { class = above; content = Dir }) at_parent)

  free : is_present (old_asked here) ≡ false
  free = ap is_present (asked_path accounts l.category f l.naming.number (m ∷ d) ∙ ap (node_object accounts l.category) absent)

  nothing_inner : old_asked (Listing ∷ here) ≡ None
  nothing_inner = asked_listing accounts l.category f l.naming.number (m ∷ d) ∙ ap (listing_object accounts l.category _) absent

  parent_is_dir : is_dir_at f d ≡ true
  parent_is_dir = ap (λ (o : Option Node). is_some_and o is_dir) at_parent

  below : D < s.next_object
  below = number_below same_step step_tests_equality s l.naming old_asked (agreement l) (address_of d) D at_directory

  not_boot : boot_thread_number ≢ s.next_object
  not_boot e = let low = boot_thread_below accounts s f l in absurd (omega (arith, low, e))

  other_set : (asked : Address Step → Found) (a b : Address Step) (o : Found) → a ≢ b → set_at same_step asked a o b ≡ asked b
  other_set asked a b o other = ap (λ (t : Bool). if t then o else asked b) (same_other same_step step_tests_equality a b other)

  itself_set : (asked : Address Step → Found) (a : Address Step) (o : Found) → set_at same_step asked a o a ≡ o
  itself_set asked a o = ap (λ (t : Bool). if t then o else asked a) (same_itself same_step step_tests_equality a)

  -- ---- a file

  abbrev empty_segment : Object Levels
  empty_segment = record { label = label; kind = Segment [] }

  -- the state once the file is linked
  abbrev pub with_file : State
  with_file = with_object s D (record { label = guard_label l.category g; kind = Segment [] })

  abbrev pub file_naming : Naming Step
  file_naming = with_number same_step l.naming s.next_object (Named m ∷ address_of d)

  abbrev file_asked : Address Step → Found
  file_asked = set_at same_step old_asked here (segment label [])

  file_agrees : s.next_object < greatest → Agreeing accounts s f l d m class (File []) absent fits with_file file_naming file_asked
  file_agrees few = record {
    agrees =
        agrees_added same_step step_tests_equality s l.naming old_asked (agreement l) D (address_of d) (Named m)
        empty_segment at_directory holder free (λ c. sym (none_linked c));
    elsewhere =
        λ a not_here not_inner.
        number_old same_step step_tests_equality s l.naming old_asked (agreement l) D (address_of d) (Named m)
        empty_segment at_directory holder free (λ c. sym (none_linked c)) a not_here;
    asked_new = itself_set old_asked here (segment label []) ∙ sym (ap (guarded_object accounts l.category (Segment [])) class_has);
    asked_inner =
        other_set old_asked here (Listing ∷ here) (segment label [])
        (λ e. longer same_step step_tests_equality Listing here (sym e)) ∙ nothing_inner;
    asked_old = λ a not_here not_inner. other_set old_asked here a (segment label []) not_here;
    numbered = omega (arith, few);
    same_next = refl;
    gone = gone_added s D boot_thread_number empty_segment l.boot_thread_gone not_boot;
  }

  -- The file is made, and the parent's segment is written: `create` at any depth.
  pub matched_created : IsTrue (is_name m) → length (entries_in f d) < most_entries → s.next_object < greatest
      → (later : ObjectsMatch accounts (with_segment_bytes with_file N
      (spelling (map.insert (directory_of f.files l.naming.number d) m (targets.File s.next_object))))
      (with_node f (m ∷ d) class (File []))) × (later.naming ≡ file_naming) × (later.category ≡ l.category)
  matched_created name room few =
      matched_made accounts s f l d m class (File []) absent fits with_file file_naming file_asked (file_agrees few) N
      at_listing (targets.File s.next_object)
      (ap (option_map targets.File) (number_new same_step step_tests_equality s l.naming old_asked (agreement l) D (address_of d) (Named m)
      empty_segment at_directory holder free (λ c. sym (none_linked c))))
      name (omega (arith, below), omega (arith, few)) parent_is_dir room

  -- names keep their numbers, where each job of the class is known
  pub names_created : s.next_object < greatest → AreKnown accounts s f l class → (new : State)
      → (later : ObjectsMatch accounts new (with_node f (m ∷ d) class (File []))) → later.naming ≡ file_naming → later.category ≡ l.category
      → KeepsNames l later
  names_created few known new later naming category =
      names_made accounts s f l d m class (File []) absent fits with_file new file_naming file_asked (file_agrees few) later naming category known

  -- ---- a directory

  abbrev empty_container : Object Levels
  empty_container = record { label = label; kind = Container set.empty }

  -- the state once the container is linked, and once its segment is
  abbrev pub with_container : State
  with_container = with_object s D (record { label = guard_label l.category g; kind = Container set.empty })

  abbrev pub with_directory : State
  with_directory = with_object with_container s.next_object (record { label = guard_label l.category g; kind = Segment [] })

  abbrev container_asked : Address Step → Found
  container_asked = set_at same_step old_asked here (bare_container label)

  abbrev container_naming : Naming Step
  container_naming = with_number same_step l.naming s.next_object (Named m ∷ address_of d)

  abbrev pub directory_naming : Naming Step
  directory_naming = with_number same_step container_naming (s.next_object + 1) (Listing ∷ Named m ∷ address_of d)

  abbrev directory_asked : Address Step → Found
  directory_asked = set_at same_step container_asked (Listing ∷ here) (segment label [])

  container_agrees : AgreesAt same_step with_container container_naming container_asked
  container_agrees =
      agrees_added same_step step_tests_equality s l.naming old_asked (agreement l) D (address_of d) (Named m)
      empty_container at_directory holder free (λ c. sym (none_linked c))

  number_here : container_naming.number here ≡ Some s.next_object
  number_here =
      number_new same_step step_tests_equality s l.naming old_asked (agreement l) D (address_of d) (Named m) empty_container
      at_directory holder free (λ c. sym (none_linked c))

  holder_here : is_container (container_asked here) ≡ true
  holder_here = ap is_container (itself_set old_asked here (bare_container label))

  inner_other : here ≢ Listing ∷ here
  inner_other e = longer same_step step_tests_equality Listing here (sym e)

  free_here : is_present (container_asked (Listing ∷ here)) ≡ false
  free_here = ap is_present (other_set old_asked here (Listing ∷ here) (bare_container label) inner_other ∙ nothing_inner)

  directory_agrees : s.next_object + 1 < greatest → Agreeing accounts s f l d m class Dir absent fits with_directory directory_naming directory_asked
  directory_agrees few = record {
    agrees =
        agrees_added same_step step_tests_equality with_container container_naming container_asked container_agrees
        s.next_object here Listing empty_segment number_here holder_here free_here (λ c. sym (none_linked c));
    elsewhere = λ a not_here not_inner.
        number_old same_step step_tests_equality with_container container_naming container_asked container_agrees
        s.next_object here Listing empty_segment number_here holder_here free_here (λ c. sym (none_linked c)) a
        not_inner
        ∙ number_old same_step step_tests_equality s l.naming old_asked (agreement l) D (address_of d) (Named m)
        empty_container at_directory holder free (λ c. sym (none_linked c)) a not_here;
    asked_new =
        other_set container_asked (Listing ∷ here) here (segment label []) (λ e. inner_other (sym e))
        ∙ itself_set old_asked here (bare_container label)
        ∙ sym (ap (guarded_object accounts l.category (Container set.empty)) class_has);
    asked_inner =
        itself_set container_asked (Listing ∷ here) (segment label [])
        ∙ sym (ap (guarded_object accounts l.category (Segment [])) class_has);
    asked_old =
        λ a not_here not_inner. other_set container_asked (Listing ∷ here) a (segment label []) not_inner
        ∙ other_set old_asked here a (bare_container label) not_here;
    numbered = omega (arith, few);
    same_next = refl;
    gone =
        gone_added with_container s.next_object boot_thread_number empty_segment
        (gone_added s D boot_thread_number empty_container l.boot_thread_gone not_boot)
        (λ e. let low = boot_thread_below accounts s f l in absurd (omega (arith, low, e)));
  }

  -- what had an address keeps its number
  pub directory_old_numbers : s.next_object + 1 < greatest → (a : Address Step) (q : ℕ) → l.naming.number a ≡ Some q
      → directory_naming.number a ≡ Some q
  directory_old_numbers few =
      old_numbers accounts s f l d m class Dir absent fits with_directory directory_naming directory_asked (directory_agrees few)

  -- names keep their numbers, where each job of the class is known
  pub names_of_directory : s.next_object + 1 < greatest → AreKnown accounts s f l class → (new : State)
      → (later : ObjectsMatch accounts new (with_node f (m ∷ d) class Dir)) → later.naming ≡ directory_naming → later.category ≡ l.category
      → KeepsNames l later
  names_of_directory few known new later naming category =
      names_made accounts s f l d m class Dir absent fits with_directory new directory_naming directory_asked (directory_agrees few) later
      naming category known

  -- what processes have keeps its numbers
  pub directory_numbers : s.next_object + 1 < greatest → SameNumbers l.naming.number directory_naming.number
  directory_numbers few =
      same_numbers accounts s f l d m class Dir absent fits with_directory directory_naming directory_asked
      (directory_agrees few) N at_listing

  -- The directory is made, and the parent's segment is written: `mkdir` at any depth.
  pub matched_directory_created : IsTrue (is_name m) → length (entries_in f d) < most_entries → s.next_object + 1 < greatest
      → (later : ObjectsMatch accounts (with_segment_bytes with_directory N
      (spelling (map.insert (directory_of f.files l.naming.number d) m
      (targets.Directory s.next_object (s.next_object + 1))))) (with_node f (m ∷ d) class Dir))
      × (later.naming ≡ directory_naming) × (later.category ≡ l.category)
  matched_directory_created name room few =
      matched_made accounts s f l d m class Dir absent fits with_directory directory_naming directory_asked
      (directory_agrees few) N at_listing (targets.Directory s.next_object (s.next_object + 1))
      ((λ i. both_numbers (here_then i) (inner_then i)))
      name ((omega (arith, below), omega (arith, few)), (omega (arith, below), omega (arith, few))) parent_is_dir room
    where
      here_then : directory_naming.number here ≡ Some s.next_object
      here_then =
          number_old same_step step_tests_equality with_container container_naming container_asked container_agrees
          s.next_object here Listing empty_segment number_here holder_here free_here (λ c. sym (none_linked c)) here
          (λ e. inner_other (sym e)) ∙ number_here

      inner_then : directory_naming.number (Listing ∷ here) ≡ Some (s.next_object + 1)
      inner_then =
          number_new same_step step_tests_equality with_container container_naming container_asked container_agrees
          s.next_object here Listing empty_segment number_here holder_here free_here (λ c. sym (none_linked c))
