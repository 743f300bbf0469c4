-- Where processes are found in a state that is represented, and the kernel's checks of raw calls on them by the thread of a process.
use Rattle.std.proofs.Common.{◌≡◌, ℕ, ◌&&◌, Bool, true, false, [], ◌∷◌, length, Option, Some, refl, sym, ap, ◌∙◌}
use Rattle.std.specs.Prelude.{is_some}
use Rattle.std.specs.List.{list_all}
use Rattle.std.specs.FinSet as set
use Rattle.std.proofs.lemmas.Option.{same_Some}
use Rattle.std.proofs.Math.Bool.{and-true, and-false}
use Rattle.histar_base.specs.Refusals.{unless}
use Rattle.histar_base.specs.Paths.{same}
use Rattle.histar_level.specs.Levels.{Levels}
use Rattle.histar_flat.specs.Words.{ProcName}
use Rattle.histar_flat.specs.Accounts.{Accounts, has}
use Rattle.histar_flat.specs.Classes.{Process, sees}
use Rattle.histar_flat.specs.FlatState.{Flat}
use Rattle.histar_label.specs.Levels.{is_below, is_below_raised}
use Rattle.histar_object.specs.declared.objects.Kind.TheVariants.{Segment, Container, Thread}
use Rattle.histar_object.specs.Objects.{Numbers as Links, links_in}
use Rattle.histar_object.specs.State.{State, Found}
use Rattle.histar_rules.specs.declared.raw.Denied.TheVariants.{Observe, Modify}
use Rattle.histar_rules.specs.declared.raw.RawCall.TheVariants.{Read, Unlink}
use Rattle.histar_rules.specs.Rules.{check}
use Rattle.histar_programs.specs.Start.{roots_of}
use Rattle.histar_refinement.specs.Guards.{guard_label, rights_label, rights_clearance}
use Rattle.histar_refinement.specs.Labels.{process_guard, thread_rights}
use Rattle.histar_refinement.specs.Addresses.{Step, same_step, home_address, home_number, status_number}
use Rattle.histar_refinement.specs.Addresses.Step.{Home as HomeStep, Status}
use Rattle.histar_refinement.proofs.Expected.{home_object, status_object, bytes_for, expected}
use Rattle.histar_refinement.specs.Represents.{ObjectsMatch}
use Rattle.histar_refinement.specs.Laws.{RunsAs}
use Rattle.histar_refinement.specs.Lines.{IsStatusSegment}
use Rattle.histar_refinement.specs.Processes.{or_zero, process_bytes}
use Rattle.histar_refinement.proofs.CallerFound.{where_is}
use Rattle.histar_refinement.proofs.Steps.{step_tests_equality}
use Rattle.histar_refinement.proofs.ClassTests.{sees_process, below_process}
use Rattle.histar_refinement.proofs.MakingRanges.{all_had}
use Rattle.histar_refinement.proofs.Moving.{bare_is, at_number}
use Rattle.histar_refinement.proofs.Roots.{asked_home, asked_status}
use Rattle.histar_refinement.proofs.RawChecks.{object, read_blocked, read_check, unlink_check}
use Rattle.histar_layout.proofs.Declared.{equal_names}
use Rattle.histar_refinement.proofs.Agreeing.{bare_container_is, thread_found, step_linked}
use Rattle.histar_refinement.proofs.StatusFound.{numbered_home, numbered_status, zero_there, status_found}
use Rattle.histar_refinement.proofs.Agreement.{agreement}

module _ (accounts : Accounts) (s : State) (f : Flat) (l : ObjectsMatch accounts s f) where
  -- process 0 is found where boot left it
  pub first_place : (roots_of (length accounts.users)).home ≡ where_is accounts s f l []
  first_place =
      let container = sym (l.as_booted (HomeStep ∷ []) (home_number (length accounts.users)) refl) in
      let segment = sym (l.as_booted (Status ∷ HomeStep ∷ []) (status_number (length accounts.users)) refl) in
      λ i. record { container = or_zero (container i); segment = or_zero (segment i) }

  module _ (name : ProcName) (other : Process) (here : f.processes name ≡ Some other) where
    abbrev container : ℕ
    container = (where_is accounts s f l name).container

    abbrev segment : ℕ
    segment = (where_is accounts s f l name).segment

    pub at_container : l.naming.number (home_address name) ≡ Some (where_is accounts s f l name).container
    at_container = zero_there (l.naming.number (home_address name)) container (numbered_home accounts s f l name ∙ ap is_some here) refl

    pub at_segment : l.naming.number (Status ∷ home_address name) ≡ Some (where_is accounts s f l name).segment
    at_segment = zero_there (l.naming.number (Status ∷ home_address name)) segment (numbered_status accounts s f l name ∙ ap is_some here) refl

    -- the process segments lead to the process
    pub led_to : IsStatusSegment accounts s name (where_is accounts s f l name).container (where_is accounts s f l name).segment
    led_to = status_found accounts s f l name other container segment here at_container at_segment

    -- the label of the container and of the process segment
    abbrev pub due : Levels
    due = guard_label l.category (process_guard name other)

    pub container_found : (links : Links)
        × (s.objects (where_is accounts s f l name).container
        ≡ object (guard_label l.category (process_guard name other)) (Container links))
    container_found = bare_container_is (s.objects container) due
        (at_number same_step step_tests_equality s l.naming (expected accounts l.category f l.naming.number) (agreement l)
        (home_address name) container at_container
        ∙ asked_home accounts l.category f l.naming.number name ∙ ap (home_object accounts l.category name) here)

    pub segment_found : s.objects (where_is accounts s f l name).segment
        ≡ object (guard_label l.category (process_guard name other))
        (Segment (process_bytes f.processes l.naming.number name other))
    segment_found = bare_is (s.objects segment) (record { label = due; kind = Segment (process_bytes f.processes l.naming.number name other) }) refl
        (at_number same_step step_tests_equality s l.naming (expected accounts l.category f l.naming.number) (agreement l)
        (Status ∷ home_address name) segment at_segment
        ∙ asked_status accounts l.category f l.naming.number name
        ∙ ap (λ (x : Option Process).
        status_object accounts l.category (bytes_for accounts l.category f l.naming.number name x) name x)
        here)

    -- an object one step below the container of a process is linked there
    pub step_below : (x : Step) (o : ℕ) → l.naming.number (x ∷ home_address name) ≡ Some o → set.contains container_found.0 o ≡ true
    step_below x o at =
        sym (ap (λ (found : Found). set.contains (links_in found) o) container_found.1)
        ∙ step_linked accounts s f l x (home_address name) container o at_container at

    module _ (me : ProcName) (p : Process) where
      abbrev own : Levels
      own = rights_label l.category (thread_rights accounts me p)

      abbrev clearance : Levels
      clearance = rights_clearance l.category (thread_rights accounts me p)

      -- the container of a process is observed where the caller sees the process
      pub observed : is_below_raised (guard_label l.category (process_guard name other))
          (rights_label l.category (thread_rights accounts me p)) ≡ sees p other
      observed = sees_process accounts me p l.category l.different name other

      -- what is its own is secret to the jobs that the process is in
      own_secret : f.processes me ≡ Some p → (b : Bool) → same name me ≡ b → (list_all (has other.chain) p.chain && b) ≡ b
      own_secret agrees true is =
          let one : other ≡ p = same_Some other p (sym here ∙ ap f.processes (equal_names name me is) ∙ agrees) in
          and-true (list_all (has other.chain) p.chain) ∙ ap (λ (q : Process). list_all (has q.chain) p.chain) one ∙ all_had p.chain
      own_secret agrees false is = and-false (list_all (has other.chain) p.chain)

      -- a process that sees another modifies its container only where it is its own
      pub modified : f.processes me ≡ Some p → sees p other ≡ true
          → (is_below (rights_label l.category (thread_rights accounts me p))
          (guard_label l.category (process_guard name other))
          && is_below_raised (guard_label l.category (process_guard name other))
          (rights_label l.category (thread_rights accounts me p))) ≡ same name me
      modified agrees seen =
          (λ i. below_process accounts me p l.category l.different name other i && (observed ∙ seen) i)
          ∙ and-true (list_all (has other.chain) p.chain && same name me) ∙ own_secret agrees (same name me) refl

      module _ (t : ℕ) (runs : RunsAs accounts s f l me p t) where
        pub thread : s.objects t
            ≡ object (rights_label l.category (thread_rights accounts me p))
            (Thread (rights_clearance l.category (thread_rights accounts me p)))
        thread = thread_found accounts s f l me p runs.0 runs.1 t runs.2

        -- The process segment is read unless the caller may not see the process.
        pub read_said : check s t (Read (where_is accounts s f l name).container (where_is accounts s f l name).segment)
            ≡ unless (sees p other) Observe
        read_said = by (sees p other) refl
          where
            by : (b : Bool) → sees p other ≡ b → check s t (Read container segment) ≡ unless b Observe
            by false is = read_blocked s t own clearance thread container due container_found.0 container_found.1 (observed ∙ is) segment
            by true is =
                read_check s t own clearance thread container due container_found.0 container_found.1 (observed ∙ is)
                segment (step_below Status segment at_segment) due
                (process_bytes f.processes l.naming.number name other) segment_found
                ∙ ap (λ (b : Bool). unless b Observe) (observed ∙ is)

        -- What a process's container links is unlinked by the process alone.
        pub unlink_said : sees p other ≡ true → (x : Step) (o : ℕ) → l.naming.number (x ∷ home_address name) ≡ Some o
            → check s t (Unlink (where_is accounts s f l name).container o) ≡ unless (same name me) Modify
        unlink_said seen x o at =
            unlink_check s t own clearance thread container due container_found.0 container_found.1 (observed ∙ seen) o
            (step_below x o at) ∙ ap (λ (b : Bool). unless b Modify) (modified runs.0 seen)
