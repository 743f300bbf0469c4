-- The kernel's checks of raw calls on a directory that is represented, and on a file in it, by the thread of a process: a read is
-- refused Observe exactly where the process may not read; a write, an unlink and a make call are refused Modify where it may not write.
use Rattle.std.proofs.Common.{◌≡◌, ℕ, ◌+◌, ◌≤◌, ◌&&◌, Bool, true, false, List, [], ◌∷◌, length, None, Some, arith, refl, sym, ap, ◌∙◌}
use Rattle.std.specs.Prelude.{min, not}
use Rattle.std.specs.FinSet as set
use Rattle.std.proofs.lemmas.Bool.Decides.{nat_tests}
use Rattle.histar_base.specs.Refusals.{◌orelse◌, unless}
use Rattle.histar_flat.specs.Words.{Name, Path, ProcName}
use Rattle.histar_flat.specs.Accounts.{Accounts}
use Rattle.histar_flat.specs.Files.{get}
use Rattle.histar_flat.specs.Classes.{Class, Process, may_read, may_write}
use Rattle.histar_flat.specs.FlatState.{Flat}
use Rattle.histar_flat.specs.FlatState.Content.{Dir, File}
use Rattle.histar_level.specs.Levels.{Levels}
use Rattle.histar_label.specs.Levels.{is_below, is_below_raised, has_star}
use Rattle.histar_layout.specs.Directory.{Entries, IsListable, spelling}
use Rattle.histar_object.specs.declared.objects.Kind.TheVariants.{Segment, Container, Thread}
use Rattle.histar_object.specs.Objects.{Numbers as Links, links_in, is_thread}
use Rattle.histar_object.specs.State.{State, Found, in_range}
use Rattle.histar_rules.specs.declared.raw.Denied.TheVariants.{Observe, Modify, Range, TooBig}
use Rattle.histar_rules.specs.declared.raw.RawCall.TheVariants.{Read, Write, Unlink, LabelOf, MakeSegment, MakeContainer}
use Rattle.histar_rules.specs.Rules.{no_making, fits_segment, has_number, known, check}
use Rattle.histar_refinement.specs.Accounts.{AreAccounts}
use Rattle.histar_refinement.specs.Categories.{IsUsed}
use Rattle.histar_refinement.specs.Guards.{Guard, guard_label, rights_label, rights_clearance}
use Rattle.histar_refinement.specs.Labels.{class_guard, thread_rights}
use Rattle.histar_refinement.specs.Addresses.{address_of}
use Rattle.histar_refinement.specs.Addresses.Step.{Listing, Named}
use Rattle.histar_refinement.specs.Directories.{directory_of}
use Rattle.histar_refinement.specs.Represents.{ObjectsMatch}
use Rattle.histar_refinement.specs.Laws.{RunsAs}
use Rattle.histar_refinement.proofs.ClassTests.{observes_class, modifies_class}
use Rattle.histar_refinement.proofs.DirectoryLaws.{spelling_fits}
use Rattle.histar_refinement.proofs.RawChecks.{object, read_blocked, read_check, write_check, unlink_check, label_check, making_check, or_none}
use Rattle.histar_refinement.proofs.MakingRanges.{is_made_within}
use Rattle.histar_refinement.proofs.Growing.{GuardHas}
use Rattle.histar_refinement.proofs.Tested.{guard_made, guard_owns_nothing}
use Rattle.histar_refinement.proofs.Uses.{names_used}
use Rattle.histar_refinement.proofs.ListedFiles.{AreKnown}
use Rattle.histar_refinement.proofs.Agreeing.{thread_found, guard_at, file_found, container_found, listing_found, step_linked}

-- bytes that fit, where nothing is kept
pub fits : (held bytes : List ℕ) → length bytes ≤ 4096 → fits_segment (min 0 (length held) + length bytes) ≡ true
fits held bytes h = grind (arith, nat_tests, h)

module _ (accounts : Accounts) (s : State) (f : Flat) (l : ObjectsMatch accounts s f) (ok : AreAccounts accounts)
    (me : ProcName) (p : Process) (t : ℕ) (runs : RunsAs accounts s f l me p t)
    (d : Path) (class : Class) (at : get f.files d ≡ Some (record { class = class; content = Dir })) (D N : ℕ)
    (at_directory : l.naming.number (address_of d) ≡ Some D)
    (at_listing : l.naming.number (Listing ∷ address_of d) ≡ Some N) where
  abbrev label : Levels
  label = rights_label l.category (thread_rights accounts me p)

  abbrev clearance : Levels
  clearance = rights_clearance l.category (thread_rights accounts me p)

  thread : s.objects t
      ≡ object (rights_label l.category (thread_rights accounts me p))
      (Thread (rights_clearance l.category (thread_rights accounts me p)))
  thread = thread_found accounts s f l me p runs.0 runs.1 t runs.2

  guard : (g : Guard) × (class_guard accounts class ≡ Some g)
  guard = guard_at accounts s f l d (record { class = class; content = Dir }) at

  abbrev above : Levels
  above = guard_label l.category guard.0

  abbrev links : Links
  links = (container_found accounts s f l d class at guard.0 guard.1 D at_directory).0

  holder : s.objects D ≡ object above (Container links)
  holder = (container_found accounts s f l d class at guard.0 guard.1 D at_directory).1

  listing : s.objects N ≡ object above (Segment (spelling (directory_of f.files l.naming.number d)))
  listing = listing_found accounts s f l d class at guard.0 guard.1 N at_listing

  sees : is_below_raised above label ≡ may_read accounts p class
  sees = observes_class accounts me p l.category l.different ok class guard.0 guard.1

  may_change : (is_below label above && is_below_raised above label) ≡ may_write accounts p class
  may_change = modifies_class accounts me p l.category l.different ok class guard.0 guard.1

  listing_inside : set.contains links N ≡ true
  listing_inside =
      sym (ap (λ (o : Found). set.contains (links_in o) N) holder)
      ∙ step_linked accounts s f l Listing (address_of d) D N at_directory at_listing

  -- the read of the directory segment
  pub read_listing_said : check s t (Read D N) ≡ unless (may_read accounts p class) Observe
  read_listing_said = by (may_read accounts p class) refl
    where
      by : (b : Bool) → may_read accounts p class ≡ b → check s t (Read D N) ≡ unless (may_read accounts p class) Observe
      by true may =
          read_check s t label clearance thread D above links holder (sees ∙ may) N listing_inside above
          (spelling (directory_of f.files l.naming.number d)) listing ∙ ap (λ b. unless b Observe) sees
      by false may = read_blocked s t label clearance thread D above links holder (sees ∙ may) N ∙ sym (ap (λ b. unless b Observe) may)

  module _ (may : may_read accounts p class ≡ true) where
    observed : is_below_raised above label ≡ true
    observed = sees ∙ may

    -- the write of the directory segment, with a directory that can be listed
    pub write_listing_said : (dir : Entries) → IsListable dir → check s t (Write D N 0 (spelling dir)) ≡ unless (may_write accounts p class) Modify
    write_listing_said dir h =
        write_check s t label clearance thread D above links holder observed N listing_inside above
        (spelling (directory_of f.files l.naming.number d)) listing 0 (spelling dir)
        ∙ (λ i. unless (may_change i) Modify
        orelse unless
        (fits (spelling (directory_of f.files l.naming.number d)) (spelling dir) (spelling_fits dir h) i)
        TooBig)
        ∙ or_none (may_write accounts p class) Modify

    -- the first tests of a make call in the directory
    pub making_said : no_making s t D ≡ unless (may_write accounts p class) Modify
    making_said = making_check s t label clearance thread D above links holder observed ∙ ap (λ b. unless b Modify) may_change

    -- a label that the thread may not give is refused for that, where the directory may be written
    refused_range : (g : Guard) → is_made_within accounts l.category l.different me p g ≡ false
        → in_range (s.objects t) (guard_label l.category g) ≡ false
    refused_range g outside = ap (λ (o : Found). in_range o (guard_label l.category g)) thread ∙ outside

    pub segment_out_of_range : (g : Guard) → is_made_within accounts l.category l.different me p g ≡ false
        → (bytes : List ℕ)
        → check s t (MakeSegment D (guard_label l.category g) bytes)
        ≡ (unless (may_write accounts p class) Modify orelse Some Range)
    segment_out_of_range g outside bytes = λ i. making_said i
        orelse unless (refused_range g outside i) Range
        orelse unless (known s (guard_label l.category g)) Range
        orelse unless (not (has_star (guard_label l.category g))) Range
        orelse unless (fits_segment (length bytes)) TooBig
        orelse unless (has_number s) TooBig

    pub container_out_of_range : (g : Guard) → is_made_within accounts l.category l.different me p g ≡ false
        → check s t (MakeContainer D (guard_label l.category g))
        ≡ (unless (may_write accounts p class) Modify orelse Some Range)
    container_out_of_range g outside = λ i. making_said i
        orelse unless (refused_range g outside i) Range
        orelse unless (known s (guard_label l.category g)) Range
        orelse unless (not (has_star (guard_label l.category g))) Range
        orelse unless (has_number s) TooBig

    -- a segment or a container is made in the directory for what is of a class, unless the directory may not be written, the thread may
    -- not give the label, or there is no number for it
    module _ (of : Class) (known_jobs : AreKnown accounts s f l of) (g : Guard) (is : class_guard accounts of ≡ Some g) where
      names : GuardHas (IsUsed accounts f) g
      names = names_used accounts f of known_jobs g is

      pub is_known : known s (guard_label l.category g) ≡ true
      is_known = guard_made s.next_category l.category g (λ c e. l.made c (names.0 c e)) (λ c e. l.made c (names.1 c e))

      in_its_range : in_range (s.objects t) (guard_label l.category g) ≡ is_made_within accounts l.category l.different me p g
      in_its_range = ap (λ (o : Found). in_range o (guard_label l.category g)) thread

      pub make_segment_said : check s t (MakeSegment D (guard_label l.category g) [])
          ≡ (unless (may_write accounts p class) Modify
          orelse unless (is_made_within accounts l.category l.different me p g) Range
          orelse unless (has_number s) TooBig)
      make_segment_said = λ i. making_said i
          orelse unless (in_its_range i) Range
          orelse unless (is_known i) Range
          orelse unless (not (guard_owns_nothing l.category g i)) Range
          orelse unless (has_number s) TooBig

      pub make_container_said : check s t (MakeContainer D (guard_label l.category g))
          ≡ (unless (may_write accounts p class) Modify
          orelse unless (is_made_within accounts l.category l.different me p g) Range
          orelse unless (has_number s) TooBig)
      make_container_said = λ i. making_said i
          orelse unless (in_its_range i) Range
          orelse unless (is_known i) Range
          orelse unless (not (guard_owns_nothing l.category g i)) Range
          orelse unless (has_number s) TooBig

    -- what is in the directory
    module _ (n : Name) (O : ℕ) (at_object : l.naming.number (address_of (n ∷ d)) ≡ Some O) where
      inside : set.contains links O ≡ true
      inside =
          sym (ap (λ (o : Found). set.contains (links_in o) O) holder)
          ∙ step_linked accounts s f l (Named n) (address_of d) D O at_directory at_object

      -- the entry is unlinked, file or directory, unless the directory may not be written
      pub unlink_said : check s t (Unlink D O) ≡ unless (may_write accounts p class) Modify
      unlink_said = unlink_check s t label clearance thread D above links holder observed O inside ∙ ap (λ b. unless b Modify) may_change

      -- the label of the object is returned, if it is no thread
      pub label_said : is_thread (s.objects O) ≡ false → check s t (LabelOf D O) ≡ None
      label_said = label_check s t label clearance thread D above links holder observed O inside

      module _ (kind : Class) (old : List ℕ) (at_file : get f.files (n ∷ d) ≡ Some (record { class = kind; content = File old })) where
        file_guard : (g : Guard) × (class_guard accounts kind ≡ Some g)
        file_guard = guard_at accounts s f l (n ∷ d) (record { class = kind; content = File old }) at_file

        file : s.objects O ≡ object (guard_label l.category file_guard.0) (Segment old)
        file = file_found accounts s f l (n ∷ d) kind old at_file file_guard.0 file_guard.1 O at_object

        -- a file is read unless the process may not read it
        pub read_file_said : check s t (Read D O) ≡ unless (may_read accounts p kind) Observe
        read_file_said = read_check s t label clearance thread D above links holder observed O inside (guard_label l.category file_guard.0) old file
            ∙ ap (λ b. unless b Observe) (observes_class accounts me p l.category l.different ok kind file_guard.0 file_guard.1)

        -- a file is written unless the process may not write it, or the bytes are too many
        pub write_file_said : (keep : ℕ) (bytes : List ℕ)
            → check s t (Write D O keep bytes)
            ≡ (unless (may_write accounts p kind) Modify
            orelse unless (fits_segment (min keep (length old) + length bytes)) TooBig)
        write_file_said keep bytes =
            write_check s t label clearance thread D above links holder observed O inside
            (guard_label l.category file_guard.0) old file keep bytes
            ∙ ap (λ b. unless b Modify orelse unless (fits_segment (min keep (length old) + length bytes)) TooBig)
            (modifies_class accounts me p l.category l.different ok kind file_guard.0 file_guard.1)
