-- What a call finds where the way into a directory is open: the thread, the directory and its directory segment, and a file in it.
use Rattle.std.proofs.Common.{◌≡◌, ℕ, ◌+◌, ◌<◌, ◌&&◌, inl, inr, Bool, true, false, List, [], ◌∷◌, Option, None, Some, refl, sym, ap, ◌∙◌, length}
use Rattle.std.specs.Prelude.{min, is_some}
use Rattle.std.specs.FinSet as set
use mathlib.Core.Bool.{true≢false}
use Rattle.histar_base.specs.Refusals.{◌orelse◌, unless}
use Rattle.histar_flat.specs.Words.{Name, Path, ProcName}
use Rattle.histar_base.specs.Paths.{same}
use Rattle.histar_level.specs.Levels.{Levels}
use Rattle.histar_flat.specs.Accounts.{Accounts, user_number}
use Rattle.histar_flat.specs.Files.{get}
use Rattle.histar_flat.specs.Classes.{Class, Process, nobody, may_read, may_write}
use Rattle.histar_flat.specs.FlatState.{Flat, Node, is_some_and, is_dir_at, bytes_of, bytes_at, reads, writes, into}
use Rattle.histar_flat.specs.FlatState.Content.{Dir, File}
use Rattle.histar_label.specs.Levels.{is_below, is_below_raised}
use Rattle.histar_object.specs.declared.objects.Kind.TheVariants.{Container, Thread}
use Rattle.histar_object.specs.declared.objects.Object.{Object}
use Rattle.histar_object.specs.Objects.{links_in, bytes_in}
use Rattle.histar_object.specs.State.{State, Found, with_object}
use Rattle.histar_container.specs.Tree.{Address}
use Rattle.histar_rules.specs.declared.raw.Denied.{Denied}
use Rattle.histar_rules.specs.declared.raw.Denied.TheVariants.{Observe, Modify, Range, TooBig}
use Rattle.histar_rules.specs.declared.raw.RawCall.{RawCall}
use Rattle.histar_rules.specs.declared.raw.RawCall.TheVariants as raw
use Rattle.histar_rules.specs.Rules.{check, no_making, has_number, fits_segment}
use Rattle.histar_layout.specs.Directory.{Entries, spelling}
use Rattle.histar_programs.specs.Refusals.{errno_of, errno_for}
use Rattle.histar_refinement.specs.Accounts.{AreAccounts}
use Rattle.histar_refinement.specs.Guards.{Guard, guard_label, rights_label, rights_clearance}
use Rattle.histar_refinement.specs.Labels.{class_guard, thread_rights}
use Rattle.histar_refinement.specs.Addresses.{Step, same_step, address_of, home_address}
use Rattle.histar_refinement.specs.Addresses.Step.{Listing, Inside, Runner}
use Rattle.histar_refinement.specs.Directories.{directory_of}
use Rattle.histar_refinement.proofs.Expected.{expected}
use Rattle.histar_refinement.specs.Represents.{ObjectsMatch}
use Rattle.histar_refinement.specs.Processes.{or_zero}
use Rattle.histar_refinement.proofs.Steps.{step_tests_equality}
use Rattle.histar_refinement.proofs.Moving.{number_below}
use Rattle.histar_refinement.proofs.RawChecks.{object}
use Rattle.histar_refinement.proofs.FileChecks.{read_file_said, write_file_said, make_segment_said, segment_out_of_range, make_container_said}
use Rattle.histar_refinement.proofs.FileChecks.{container_out_of_range}
use Rattle.histar_refinement.proofs.ListedFiles.{AreKnown}
use Rattle.histar_refinement.proofs.MakingRanges.{is_made_within}
use Rattle.histar_layout.proofs.Declared.{equal_tested}
use Rattle.histar_refinement.proofs.Agreeing.{thread_found, guard_at, container_found, listing_found, file_found, step_linked}
use Rattle.histar_sim.proofs.Ready.{Ready}
use Rattle.histar_sim.specs.Named.{IsMaking, IsFileAt}
use Rattle.histar_sim.proofs.Walks.{runs, place_at, agrees, at_container, at_listing, dir, seen, file_number, file_is_at}
use Rattle.histar_sim.proofs.NewEntries.{HasSegment, still_there, there_then, making_inside}
use Rattle.histar_refinement.proofs.Agreement.{agreement}

module _ {M : Type 0} (accounts : Accounts) (ok : AreAccounts accounts) (s : State) (f : Flat) (me : ProcName) (t : ℕ)
    (ready : Ready M accounts s f me t) where
  abbrev p : Process
  p = ready.caller.process

  abbrev l : ObjectsMatch accounts s f
  l = ready.represents.matched

  abbrev runner : Address Step
  runner = Runner ∷ Inside ∷ home_address me

  -- the label and the clearance of the thread
  abbrev pub label : Levels
  label = rights_label ready.represents.matched.category (thread_rights accounts me ready.caller.process)

  abbrev pub clearance : Levels
  clearance = rights_clearance ready.represents.matched.category (thread_rights accounts me ready.caller.process)

  pub thread : s.objects t ≡ object label (Thread clearance)
  thread = thread_found accounts s f l me p ready.caller.agrees ready.caller.runs t (runs accounts ok s f me t ready).2

  -- a number that is given is below the next one
  pub below : (a : Address Step) (q : ℕ) → l.naming.number a ≡ Some q → q < s.next_object
  below a q at = number_below same_step step_tests_equality s l.naming (expected accounts l.category f l.naming.number) (agreement l) a q at

  pub thread_below : t < s.next_object
  thread_below = below runner t (runs accounts ok s f me t ready).2

  -- a user that is not declared is nobody
  pub is_nobody : is_some (user_number accounts ready.caller.process.user) ≡ false → same ready.caller.process.user nobody ≡ true
  is_nobody none = elim ((l.processes me p ready.caller.agrees).someone ready.caller.runs) [
    | inl e ↦ equal_tested p.user nobody e
    | inr e ↦ absurd (true≢false (sym e ∙ none))
  ]

  module _ (d : Path) where
    abbrev pub container : ℕ
    container = (place_at accounts ok s f me t ready d).container

    abbrev pub listing : ℕ
    listing = (place_at accounts ok s f me t ready d).listing

    abbrev pub entries : Entries
    entries = directory_of f.files ready.represents.matched.naming.number d

    -- where the file of a name in it is found
    abbrev pub segment : Name → ℕ
    segment m = or_zero (ready.represents.matched.naming.number (address_of (m ∷ d)))

    module _ (open_so_far : into accounts f p d ≡ None) where
      pub is_dir : is_dir_at f d ≡ true
      is_dir = dir accounts ok s f me t ready d open_so_far

      -- the class of the directory
      abbrev pub directory_class : Class
      directory_class = (agrees accounts ok s f me t ready d (dir accounts ok s f me t ready d open_so_far)).0

      pub directory_agrees : get f.files d ≡ Some (record { class = directory_class; content = Dir })
      directory_agrees = (agrees accounts ok s f me t ready d (dir accounts ok s f me t ready d open_so_far)).1

      pub container_numbered : l.naming.number (address_of d) ≡ Some container
      container_numbered = at_container accounts ok s f me t ready d is_dir

      pub listing_numbered : l.naming.number (Listing ∷ address_of d) ≡ Some listing
      listing_numbered = at_listing accounts ok s f me t ready d is_dir

      pub may_look : may_read accounts p directory_class ≡ true
      may_look = seen accounts ok s f me t ready d open_so_far

      pub writes_as_class : writes accounts f p d ≡ may_write accounts p directory_class
      writes_as_class = ap (λ (o : Option Node). is_some_and o (λ n. may_write accounts p n.class)) directory_agrees

      -- the guard of the directory
      pub directory_guard : (g : Guard) × (class_guard accounts directory_class ≡ Some g)
      directory_guard = guard_at accounts s f l d (record { class = directory_class; content = Dir }) directory_agrees

      -- the thread, the container of the directory and its directory segment are in a state as they were
      abbrev pub HasListing : State → Type 0
      HasListing later =
          HasSegment later t container listing label clearance
          (guard_label ready.represents.matched.category directory_guard.0) (spelling entries)

      pub has_listing : HasListing s
      has_listing =
          let holder =
          container_found accounts s f l d directory_class directory_agrees directory_guard.0 directory_guard.1
          container container_numbered in
          record {
            links = holder.0;
            thread = thread;
            holder = holder.1;
            segment = listing_found accounts s f l d directory_class directory_agrees directory_guard.0 directory_guard.1 listing listing_numbered;
            linked =
                sym (ap (λ (o : Found). set.contains (links_in o) listing) holder.1)
                ∙ step_linked accounts s f l Listing (address_of d) container listing container_numbered
                listing_numbered;
          }

      -- they are there once an object is added to the directory, and once one more is made in that
      pub listing_still : (o : Object Levels) → HasListing (with_object s container o)
      listing_still o =
          still_there s t container listing label clearance (guard_label l.category directory_guard.0)
          (spelling entries) has_listing thread_below (below (address_of d) container container_numbered)
          (below (Listing ∷ address_of d) listing listing_numbered) o

      pub listing_then : (o inner : Object Levels) → HasListing (with_object (with_object s container o) s.next_object inner)
      listing_then o inner =
          there_then s t container listing label clearance (guard_label l.category directory_guard.0) (spelling entries)
          has_listing thread_below (below (address_of d) container container_numbered)
          (below (Listing ∷ address_of d) listing listing_numbered) o inner

      -- in a container that was added to the directory something may be made, as its label says
      pub inside_passes : (inner : Levels) → is_below_raised inner label ≡ true
          → (is_below label inner && is_below_raised inner label) ≡ true
          → no_making (with_object s container (record { label = inner; kind = Container set.empty })) t s.next_object
          ≡ None
      inside_passes inner =
          making_inside s t container listing label clearance (guard_label l.category directory_guard.0)
          (spelling entries) has_listing thread_below (below (address_of d) container container_numbered)
          (below (Listing ∷ address_of d) listing listing_numbered) inner

      -- A raw call that makes an object in the directory with this label: its denials have errnos, and the kernel refuses a label
      -- out of the thread's range, and else only where the directory may not be written or there is no number for the object.
      pub record MakesObject (make : Levels → RawCall) : Type 0 where
        pub reveals : (x : Levels) (denied : Denied) → errno_for (make x) denied ≡ errno_of denied
        pub makes : (x : Levels) → IsMaking container (make x)
        pub outside : (g : Guard) → is_made_within accounts l.category l.different me p g ≡ false
            → check s t (make (guard_label l.category g))
            ≡ (unless (may_write accounts p directory_class) Modify orelse Some Range)
        pub within : (class : Class) → AreKnown accounts s f l class → (g : Guard) → class_guard accounts class ≡ Some g
            → check s t (make (guard_label l.category g))
            ≡ (unless (may_write accounts p directory_class) Modify
            orelse unless (is_made_within accounts l.category l.different me p g) Range
            orelse unless (has_number s) TooBig)

      -- making an empty segment is such a raw call, and making a container too
      pub segment_made : MakesObject (λ x. raw.MakeSegment container x [])
      segment_made = record {
        reveals = λ x denied. refl;
        makes = λ x. refl;
        outside =
            λ g out. segment_out_of_range accounts s f l ok me p t (runs accounts ok s f me t ready) d directory_class
            directory_agrees container listing container_numbered listing_numbered may_look g out [];
        within =
            λ class known g is.
            make_segment_said accounts s f l ok me p t (runs accounts ok s f me t ready) d directory_class
            directory_agrees container listing container_numbered listing_numbered may_look class known g is;
      }

      pub container_made : MakesObject (λ x. raw.MakeContainer container x)
      container_made = record {
        reveals = λ x denied. refl;
        makes = λ x. refl;
        outside =
            λ g out. container_out_of_range accounts s f l ok me p t (runs accounts ok s f me t ready) d directory_class
            directory_agrees container listing container_numbered listing_numbered may_look g out;
        within =
            λ class known g is.
            make_container_said accounts s f l ok me p t (runs accounts ok s f me t ready) d directory_class
            directory_agrees container listing container_numbered listing_numbered may_look class known g is;
      }

      -- a file in it
      module _ (m : Name) (class : Class) (held : List ℕ) (at : get f.files (m ∷ d) ≡ Some (record { class = class; content = File held })) where
        pub file_numbered : l.naming.number (address_of (m ∷ d)) ≡ Some (segment m)
        file_numbered = file_number accounts ok s f me t ready m d class held at

        -- the segments lead to the file
        pub file_led_to : IsFileAt accounts s (m ∷ d) container (segment m)
        file_led_to = file_is_at accounts ok s f me t ready m d is_dir class held at

        pub holds_bytes : bytes_at f (m ∷ d) ≡ held
        holds_bytes = ap bytes_of at

        pub reads_is : reads accounts f p (m ∷ d) ≡ may_read accounts p class
        reads_is = ap (λ (x : Option Node). is_some_and x (λ n. may_read accounts p n.class)) at

        pub writes_is : writes accounts f p (m ∷ d) ≡ may_write accounts p class
        writes_is = ap (λ (x : Option Node). is_some_and x (λ n. may_write accounts p n.class)) at

        -- the segment of a file holds its bytes
        pub held_there : bytes_in (s.objects (segment m)) ≡ bytes_at f (m ∷ d)
        held_there =
            let guard = guard_at accounts s f l (m ∷ d) (record { class = class; content = File held }) at in
            ap bytes_in (file_found accounts s f l (m ∷ d) class held at guard.0 guard.1 (segment m) file_numbered) ∙ sym holds_bytes

        -- a file is read and written as the flat rules say
        pub read_said : check s t (raw.Read container (segment m)) ≡ unless (reads accounts f p (m ∷ d)) Observe
        read_said =
            read_file_said accounts s f l ok me p t (runs accounts ok s f me t ready) d directory_class directory_agrees
            container listing container_numbered listing_numbered may_look m (segment m) file_numbered class held at
            ∙ sym (ap (λ (b : Bool). unless b Observe) reads_is)

        pub write_said : (keep : ℕ) (bytes : List ℕ)
            → check s t (raw.Write container (segment m) keep bytes)
            ≡ (unless (writes accounts f p (m ∷ d)) Modify
            orelse unless (fits_segment (min keep (length (bytes_at f (m ∷ d))) + length bytes)) TooBig)
        write_said keep bytes =
            write_file_said accounts s f l ok me p t (runs accounts ok s f me t ready) d directory_class
            directory_agrees container listing container_numbered listing_numbered may_look m (segment m)
            file_numbered class held at keep bytes
            ∙ sym (λ i. unless (writes_is i) Modify orelse unless (fits_segment (min keep (length (holds_bytes i)) + length bytes)) TooBig)
