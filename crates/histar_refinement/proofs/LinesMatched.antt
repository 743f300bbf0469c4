-- In a state that is represented, the directory segments lead to each directory's numbers.
use Rattle.std.proofs.Common.{◌≡◌, ◌≢◌, ℕ, Bool, true, false, List, [], ◌∷◌, Option, None, Some, refl, sym, ap, ◌∙◌}
use Rattle.std.specs.Prelude.{is_some, option_map, option_and_then}
use Rattle.std.specs.FinMap as map
use Rattle.std.proofs.lemmas.Option.{none-some, same_Some}
use mathlib.Core.Bool.{true≢false}
use Rattle.histar_flat.specs.Words.{Path}
use Rattle.histar_flat.specs.Files.{get}
use Rattle.histar_level.specs.Levels.{Levels}
use Rattle.histar_object.specs.declared.objects.Kind.{Kind}
use Rattle.histar_object.specs.declared.objects.Kind.TheVariants.{Segment, Container, Thread, Gate}
use Rattle.histar_object.specs.Objects.{bytes_in, is_present}
use Rattle.histar_object.specs.State.{State, Found}
use Rattle.histar_layout.specs.Directory.{Entries, IsDirectory, spelling}
use Rattle.histar_layout.specs.declared.entry.Target.{Target}
use Rattle.histar_layout.specs.declared.entry.Target.TheVariants as targets
use Rattle.histar_flat.specs.Accounts.{Accounts}
use Rattle.histar_flat.specs.FlatState.{Node, Content, Flat, is_some_and, is_dir, is_dir_at}
use Rattle.histar_flat.specs.FlatState.Content.{Dir, File}
use Rattle.histar_refinement.specs.Categories.{Categories}
use Rattle.histar_refinement.specs.Guards.{Guard, guard_label}
use Rattle.histar_refinement.specs.Labels.{class_guard}
use Rattle.histar_refinement.specs.Addresses.{AddressNumbers, address_of}
use Rattle.histar_refinement.specs.Addresses.Step.{Slash, Listing, Named}
use Rattle.histar_refinement.specs.Agrees.{bare}
use Rattle.histar_refinement.specs.Directories.{both_numbers, target_for, directory_of}
use Rattle.histar_refinement.proofs.Expected.{guarded_object, listing_object}
use Rattle.histar_programs.specs.Start.{segment}
use Rattle.histar_refinement.specs.Represents.{ObjectsMatch}
use Rattle.histar_refinement.specs.Lines.{IsDirectoryAt}
use Rattle.histar_refinement.proofs.Roots.{asked_listing}
use Rattle.histar_refinement.proofs.DirectoryLaws.{get_directory}
use Rattle.histar_refinement.proofs.Agreeing.{some_of, root_is_dir, parent_is_dir}
use Rattle.histar_refinement.proofs.ListedFiles.{leads_at}
use Rattle.histar_layout.proofs.DirectoryLemmas.{same_directory}
use Rattle.histar_refinement.proofs.SameLines.{container_in, listing_in}
use Rattle.histar_refinement.proofs.Agreement.{agreement}

-- an object has the same bytes without its links
pub bytes_bare : (o : Found) → bytes_in (bare o) ≡ bytes_in o
bytes_bare None = refl
bytes_bare (Some o) = by o.kind
  where
    by : (k : Kind Levels) → bytes_in (bare (Some (record { label = o.label; kind = k }))) ≡ bytes_in (Some (record { label = o.label; kind = k }))
    by (Segment old) = refl
    by (Container links) = refl
    by (Thread clearance) = refl
    by (Gate clearance entry) = refl

module _ (accounts : Accounts) (category : Categories) (bytes : List ℕ) where
  guarded_there : (g : Option Guard) → g ≢ None → (label : Levels) × (guarded_object accounts category (Segment bytes) g ≡ segment label bytes)
  guarded_there None h = absurd (h refl)
  guarded_there (Some g) h = (guard_label category g, refl)

  -- the object of the directory segment of a directory
  listing_there : (o : Option Node) → is_some_and o is_dir ≡ true → ((there : Node) → o ≡ Some there → class_guard accounts there.class ≢ None)
      → (label : Levels) × (listing_object accounts category bytes o ≡ segment label bytes)
  listing_there None e h = absurd (true≢false (sym e))
  listing_there (Some there) e h = by there.content e
    where
      by : (c : Content) → is_dir (record { class = there.class; content = c }) ≡ true
          → (label : Levels)
          × (listing_object accounts category bytes (Some (record { class = there.class; content = c }))
          ≡ segment label bytes)
      by Dir is = guarded_there (class_guard accounts there.class) (h there refl)
      by (File old) is = absurd (true≢false (sym is))

-- where a directory's entry leads
pub leads_to : (number : AddressNumbers) (q : Path) (o : Option Node) → is_some_and o is_dir ≡ true
    → option_and_then (λ (there : Node). target_for number (q, there)) o ≡ both_numbers (number (address_of q)) (number (Listing ∷ address_of q))
leads_to number q None e = absurd (true≢false (sym e))
leads_to number q (Some there) e = by there.content e
  where
    by : (c : Content) → is_dir (record { class = there.class; content = c }) ≡ true
        → target_for number (q, record { class = there.class; content = c })
        ≡ both_numbers (number (address_of q)) (number (Listing ∷ address_of q))
    by Dir is = refl
    by (File old) is = absurd (true≢false (sym is))

-- the target is a directory
abbrev is_directory_target : Target → Bool
is_directory_target (targets.File file) = false
is_directory_target (targets.Directory container listing) = true

-- what leads to two numbers is a directory
led_to_dir : (number : AddressNumbers) (q : Path) (o : Option Node) (c g : ℕ)
    → option_and_then (λ (there : Node). target_for number (q, there)) o ≡ Some (targets.Directory c g)
    → is_some_and o is_dir ≡ true
led_to_dir number q None c g e = absurd (none-some (targets.Directory c g) e)
led_to_dir number q (Some there) c g e = by there.content e
  where
    leads_to_file : (x : Option ℕ) → option_map targets.File x ≡ Some (targets.Directory c g) → ⊥
    leads_to_file None k = none-some (targets.Directory c g) k
    leads_to_file (Some x) k = true≢false (sym (ap is_directory_target (same_Some (targets.File x) (targets.Directory c g) k)))

    by : (content : Content)
        → target_for number (q, record { class = there.class; content = content }) ≡ Some (targets.Directory c g)
        → is_dir (record { class = there.class; content = content }) ≡ true
    by Dir k = refl
    by (File old) k = absurd (leads_to_file (number (address_of q)) k)

-- the numbers in an entry are those of its addresses
revealed_numbers : (x y : Option ℕ) (c g : ℕ) → both_numbers x y ≡ Some (targets.Directory c g) → (x ≡ Some c) × (y ≡ Some g)
revealed_numbers None y c g e = absurd (none-some (targets.Directory c g) e)
revealed_numbers (Some x) None c g e = absurd (none-some (targets.Directory c g) e)
revealed_numbers (Some x) (Some y) c g e =
    let same = same_Some (targets.Directory x y) (targets.Directory c g) e in
    (ap (λ (t : Target). Some (container_in t)) same, ap (λ (t : Target). Some (listing_in t)) same)

-- what is a directory is there
pub node_there : (o : Option Node) → is_some_and o is_dir ≡ true → (there : Node) × (o ≡ Some there)
node_there None e = absurd (true≢false (sym e))
node_there (Some there) e = (there, refl)

module _ (accounts : Accounts) (s : State) (f : Flat) (l : ObjectsMatch accounts s f) where
  -- the segment at a directory's listing
  listed_here : (d : Path) → is_dir_at f d ≡ true
      → (label : Levels)
      × (listing_object accounts l.category (spelling (directory_of f.files l.naming.number d)) (get f.files d)
      ≡ segment label (spelling (directory_of f.files l.naming.number d)))
  listed_here d is = listing_there accounts l.category (spelling (directory_of f.files l.naming.number d)) (get f.files d) is (l.guarded d)

  has_listing : (d : Path) → is_dir_at f d ≡ true → is_some (l.naming.number (Listing ∷ address_of d)) ≡ true
  has_listing d is =
      (agreement l).named (Listing ∷ address_of d)
      ∙ ap is_present (asked_listing accounts l.category f l.naming.number d ∙ (listed_here d is).1)

  pub holds_directory : (d : Path) (g : ℕ) → is_dir_at f d ≡ true → l.naming.number (Listing ∷ address_of d) ≡ Some g
      → IsDirectory (bytes_in (s.objects g)) (directory_of f.files l.naming.number d)
  holds_directory d g is at = record {
    listable = l.listable d is;
    spelled =
        sym (bytes_bare (s.objects g))
        ∙ ap (λ (q : Option ℕ). bytes_in (bare (option_and_then s.objects q))) (sym at)
        ∙ ap bytes_in ((agreement l).objects (Listing ∷ address_of d) ∙ asked_listing accounts l.category f l.naming.number d ∙ (listed_here d is).1);
  }

  -- The segments lead to the numbers of each directory.
  pub directory_found : (d : Path) (c g : ℕ) → is_dir_at f d ≡ true → l.naming.number (address_of d) ≡ Some c
      → l.naming.number (Listing ∷ address_of d) ≡ Some g → IsDirectoryAt accounts s d c g
  directory_found [] c g is here listing =
      (same_Some c _ (sym here ∙ l.as_booted (Slash ∷ []) _ refl), same_Some g _ (sym listing ∙ l.as_booted (Listing ∷ Slash ∷ []) _ refl))
  directory_found (n ∷ d) c g is here listing =
      let there = node_there (get f.files (n ∷ d)) is in
      let dir = parent_is_dir accounts s f l n d there.0 there.1 in
      let above = some_of (l.naming.number (address_of d)) ((agreement l).tree.held (Named n) (address_of d) (ap is_some here)) in
      let segment_above = some_of (l.naming.number (Listing ∷ address_of d)) (has_listing d dir) in (
        above.0,
        segment_above.0,
        directory_of f.files l.naming.number d,
        directory_found d above.0 segment_above.0 dir above.1 segment_above.1,
        holds_directory d segment_above.0 dir segment_above.1,
        get_directory f.files l.naming.number d n ∙ leads_to l.naming.number (n ∷ d) (get f.files (n ∷ d)) is
            ∙ (λ i. both_numbers (here i) (listing i)),
      )

  -- The directory segments lead to no other numbers.
  pub directory_back : (d : Path) (c g : ℕ) → IsDirectoryAt accounts s d c g
      → (is_dir_at f d ≡ true) × (l.naming.number (address_of d) ≡ Some c)
      × (l.naming.number (Listing ∷ address_of d) ≡ Some g)
  directory_back [] c g found = (
    ap (λ (o : Option Node). is_some_and o is_dir) (root_is_dir accounts s f l).1,
    l.as_booted (Slash ∷ []) _ refl
        ∙ ap Some (sym found.0),
    l.as_booted (Listing ∷ Slash ∷ []) _ refl ∙ ap Some (sym found.1),
  )
  directory_back (n ∷ d) c g found =
      let above = directory_back d found.0 found.1 found.3 in
      let same =
      same_directory (bytes_in (s.objects found.1)) found.2 (directory_of f.files l.naming.number d) found.4
      (holds_directory d found.1 above.0 above.2) in
      let goal : leads_at f.files l.naming.number (n ∷ d) ≡ Some (targets.Directory c g) =
      sym (get_directory f.files l.naming.number d n) ∙ ap (λ (x : Entries). map.get x n) (sym same) ∙ found.5 in
      let dir = led_to_dir l.naming.number (n ∷ d) (get f.files (n ∷ d)) c g goal in
      let both : both_numbers (l.naming.number (address_of (n ∷ d))) (l.naming.number (Listing ∷ address_of (n ∷ d)))
      ≡ Some (targets.Directory c g) =
      sym (leads_to l.naming.number (n ∷ d) (get f.files (n ∷ d)) dir) ∙ goal in
      let numbers = revealed_numbers (l.naming.number (address_of (n ∷ d))) (l.naming.number (Listing ∷ address_of (n ∷ d))) c g both in
      (dir, numbers.0, numbers.1)
