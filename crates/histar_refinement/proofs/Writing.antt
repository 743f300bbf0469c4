-- After a write to a file at any depth the kernel represents the flat state with the new bytes.
use Rattle.std.proofs.Common.{◌≡◌, ◌≢◌, ℕ, inl, inr, Bool, true, false, List, ◌∷◌, Option, None, Some, refl, sym, ap, ◌∙◌, subst, if◌then◌else◌}
use Rattle.std.specs.Prelude.{nat_eq, option_map, option_and_then}
use Rattle.std.proofs.lemmas.Option.{same_Some}
use mathlib.Core.Bool.{true≢false}
use Rattle.histar_flat.specs.Words.{Path}
use Rattle.histar_flat.specs.Files.{get}
use Rattle.histar_flat.proofs.FileLemmas.{same_path_found, get_other, get_new}
use Rattle.histar_level.specs.Levels.{Levels}
use Rattle.histar_layout.specs.Directory.{IsListable, spelling}
use Rattle.histar_object.specs.Objects.{Objects, changed_at, holding}
use Rattle.histar_object.specs.State.{State, Found, with_segment_bytes}
use Rattle.histar_container.specs.Tree.{Address, set_at}
use Rattle.histar_container.proofs.Addresses.{same_tests_equality}
use Rattle.histar_container.proofs.Trees.{kind_held_links}
use Rattle.histar_programs.specs.Start.{boot_thread_number}
use Rattle.histar_flat.specs.Accounts.{Accounts}
use Rattle.histar_flat.specs.Classes.{Class}
use Rattle.histar_flat.specs.FlatState.{Node, Flat, is_some_and, is_dir, is_dir_at, class_of, with_node, with_bytes as with_file_bytes}
use Rattle.histar_flat.specs.FlatState.Content.{File}
use Rattle.histar_refinement.specs.Addresses.{Step, same_step, address_of}
use Rattle.histar_refinement.specs.Directories.{target_for, directory_of}
use Rattle.histar_refinement.proofs.AgreesAt.{AgreesAt}
use Rattle.histar_refinement.proofs.Expected.{node_object, listing_object, listing_at, expected}
use Rattle.histar_refinement.specs.Represents.{AreJobsGiven, ObjectsMatch}
use Rattle.histar_refinement.specs.KeptNames.{RepresentsStill}
use Rattle.histar_refinement.proofs.Steps.{step_tests_equality}
use Rattle.histar_refinement.proofs.Moving.{bare_held, agrees_changed, agrees_same}
use Rattle.histar_refinement.proofs.Roots.{asked_path}
use Rattle.histar_refinement.proofs.ListedFiles.{asked_same, held_node, leads_at, directories_alike, same_leads, ClassFits, AreKnown, old_known}
use Rattle.histar_refinement.proofs.ListedFiles.{old_fits, jobs_kept, used_kept, matched_files}
use Rattle.histar_refinement.proofs.Agreement.{agreement}
use Rattle.histar_refinement.proofs.KeepingNames.{keeps_all}
use Rattle.histar_refinement.specs.Categories.{CategoryName, IsUsed}

module _ (accounts : Accounts) (s : State) (f : Flat) (l : ObjectsMatch accounts s f) (q : Path) (class : Class)
    (old bytes : List ℕ) (at : get f.files q ≡ Some (record { class = class; content = File old })) (O : ℕ)
    (at_file : l.naming.number (address_of q) ≡ Some O) where
  abbrev after : Flat
  after = with_node f q class (File bytes)

  abbrev written : Node
  written = record { class = class; content = File bytes }

  abbrev old_asked : Address Step → Found
  old_asked = expected accounts l.category f l.naming.number

  got_new : get after.files q ≡ Some written
  got_new = get_new f.files q written

  got_else : (p : Path) → p ≢ q → get after.files p ≡ get f.files p
  got_else p other = get_other f.files q written p other

  leads_all : (p : Path) → leads_at f.files l.naming.number p ≡ leads_at after.files l.naming.number p
  leads_all p = elim (same_path_found p q) [
    | inl e ↦
        ap (option_and_then (λ (there : Node). target_for l.naming.number (p, there))) (ap (get f.files) e.1 ∙ at)
        ∙ sym (ap (option_and_then (λ (there : Node). target_for l.naming.number (p, there)))
        (ap (get after.files) e.1 ∙ got_new))
    | inr e ↦ same_leads f.files after.files l.naming.number l.naming.number p p (sym (got_else p e.1)) refl refl
  ]

  directory_all : (d : Path) → directory_of f.files l.naming.number d ≡ directory_of after.files l.naming.number d
  directory_all d = directories_alike f.files after.files l.naming.number l.naming.number d d (λ n. leads_all (n ∷ d))

  listing_all : (d : Path) → listing_at accounts l.category f l.naming.number (Some d) ≡ listing_at accounts l.category after l.naming.number (Some d)
  listing_all d = elim (same_path_found d q) [
    | inl e ↦
        ap (listing_object accounts l.category (spelling (directory_of f.files l.naming.number d)))
        (ap (get f.files) e.1 ∙ at)
        ∙ sym (ap (listing_object accounts l.category (spelling (directory_of after.files l.naming.number d)))
        (ap (get after.files) e.1 ∙ got_new))
    | inr e ↦ λ i. listing_object accounts l.category (spelling (directory_all d i)) (sym (got_else d e.1) i)
  ]

  agrees_then : AgreesAt same_step (with_segment_bytes s O bytes) l.naming
      (set_at same_step old_asked (address_of q) (option_map (holding bytes) (old_asked (address_of q))))
  agrees_then =
      agrees_changed same_step step_tests_equality s l.naming old_asked (agreement l) O (address_of q) (holding bytes)
      at_file (λ x. kind_held_links bytes x.kind) (bare_held bytes)

  asks : (a : Address Step)
      → set_at same_step old_asked (address_of q) (option_map (holding bytes) (old_asked (address_of q))) a
      ≡ expected accounts l.category after l.naming.number a
  asks a = elim (same_tests_equality same_step step_tests_equality (address_of q) a) [
    | inl e ↦
        ap (λ (t : Bool). if t then option_map (holding bytes) (old_asked (address_of q)) else old_asked a) e.0
        ∙ ap (option_map (holding bytes))
        (asked_path accounts l.category f l.naming.number q ∙ ap (node_object accounts l.category) at)
        ∙ held_node accounts l.category old bytes class
        ∙ sym (ap (expected accounts l.category after l.naming.number) (sym e.1)
        ∙ asked_path accounts l.category after l.naming.number q ∙ ap (node_object accounts l.category) got_new)
    | inr e ↦
        ap (λ (t : Bool). if t then option_map (holding bytes) (old_asked (address_of q)) else old_asked a) e.0
        ∙ asked_same accounts l.category f after.files l.naming.number l.naming.number
        (record { home = λ p. refl; status = λ p. refl; inside = λ p. refl; runner = λ p. refl }) a
        (record {
          at_path = λ p is. ap (node_object accounts l.category) (sym (got_else p (λ k. e.1 (ap address_of (sym k) ∙ sym is))));
          in_directory = λ p is. listing_all p;
        })
  ]

  all_fit : (p : Path) (there : Node) → get after.files p ≡ Some there → ClassFits accounts s f l there.class
  all_fit p there is = elim (same_path_found p q) [
    | inl e ↦
        let same : written ≡ there = same_Some written there (sym got_new ∙ ap (get after.files) (sym e.1) ∙ is) in
        subst (λ (x : Node). ClassFits accounts s f l x.class) same (old_fits accounts s f l q (record { class = class; content = File old }) at)
    | inr e ↦ old_fits accounts s f l p there (sym (got_else p e.1) ∙ is)
  ]

  was_dir : (d : Path) → is_dir_at after d ≡ true → is_dir_at f d ≡ true
  was_dir d is = elim (same_path_found d q) [
    | inl e ↦ absurd (true≢false (sym is ∙ ap (λ (o : Option Node). is_some_and o is_dir) (ap (get after.files) e.1 ∙ got_new)))
    | inr e ↦ ap (λ (o : Option Node). is_some_and o is_dir) (sym (got_else d e.1)) ∙ is
  ]

  by_bytes : (objects : Objects Levels) (k : ℕ) → objects k ≡ None → changed_at objects O (holding bytes) k ≡ None
  by_bytes objects k e = elim (nat_eq k O) as (λ t. (if t then option_map (holding bytes) (objects k) else objects k) ≡ None) [
    | true ↦ ap (option_map (holding bytes)) e
    | false ↦ e
  ]

  -- The kernel has the objects of the flat state with the new bytes: `write`, and `append` where these are the old ones with more.
  pub matched_overwritten : (later : ObjectsMatch accounts (with_segment_bytes s O bytes) (with_file_bytes f q bytes))
      × (later.naming ≡ l.naming) × (later.category ≡ l.category)
  matched_overwritten =
      subst (λ (c : Class). (later : ObjectsMatch accounts (with_segment_bytes s O bytes) (with_node f q c (File bytes)))
      × (later.naming ≡ l.naming) × (later.category ≡ l.category)) (sym (ap class_of at))
      (matched_files accounts s f l after.files all_fit (with_segment_bytes s O bytes) l.naming
      (agrees_same same_step (with_segment_bytes s O bytes) (with_segment_bytes s O bytes) l.naming _
      (expected accounts l.category after l.naming.number) agrees_then asks (λ k. refl) refl) l.numbered
      l.as_booted (λ d is. subst IsListable (directory_all d) (l.listable d (was_dir d is))) refl
      (by_bytes s.objects boot_thread_number l.boot_thread_gone))

  all_known : (p : Path) (there : Node) → get after.files p ≡ Some there → AreKnown accounts s f l there.class
  all_known p there is = elim (same_path_found p q) [
    | inl e ↦
        let same : written ≡ there = same_Some written there (sym got_new ∙ ap (get after.files) (sym e.1) ∙ is) in
        subst (λ (x : Node). AreKnown accounts s f l x.class) same (old_known accounts s f l q (record { class = class; content = File old }) at)
    | inr e ↦ old_known accounts s f l p there (sym (got_else p e.1) ∙ is)
  ]

  -- the numbers in the names of jobs were given as before
  pub jobs_overwritten : AreJobsGiven f → AreJobsGiven (with_file_bytes f q bytes)
  jobs_overwritten =
      subst (λ (c : Class). AreJobsGiven f → AreJobsGiven (with_node f q c (File bytes))) (sym (ap class_of at))
      (jobs_kept accounts s f l after.files all_known)

  used_overwritten : (c : CategoryName) → IsUsed accounts (with_file_bytes f q bytes) c → IsUsed accounts f c
  used_overwritten =
      subst (λ (c : Class). (x : CategoryName) → IsUsed accounts (with_node f q c (File bytes)) x → IsUsed accounts f x) (sym (ap class_of at))
      (used_kept accounts s f l after.files all_known)

  -- the kernel represents the flat state with the new bytes, and names keep their numbers
  pub still_overwritten : (given : AreJobsGiven f)
      → RepresentsStill (record { matched = l; jobs_given = given }) (with_segment_bytes s O bytes) (with_file_bytes f q bytes)
  still_overwritten given = record {
    represents = record { matched = matched_overwritten.0; jobs_given = jobs_overwritten given };
    names = keeps_all l matched_overwritten.0 matched_overwritten.1 matched_overwritten.2 used_overwritten;
  }
