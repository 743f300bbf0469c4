-- The kernel's checks of a raw call on a container and what it links, where the caller and the objects are known.
use Rattle.std.proofs.Common.{◌≡◌, ℕ, ◌+◌, ◌&&◌, Bool, true, false, List, length, Option, None, Some, refl, ap, ◌∙◌}
use Rattle.std.specs.Prelude.{min, not}
use Rattle.std.specs.FinSet as set
use Rattle.histar_base.specs.Refusals.{◌orelse◌, unless}
use Rattle.histar_level.specs.Levels.{Levels}
use Rattle.histar_label.specs.Levels.{is_below, is_below_raised}
use Rattle.histar_object.specs.declared.objects.Kind.TheVariants.{Segment, Container, Thread}
use Rattle.histar_object.specs.Objects.{Numbers, links_in, bytes_in, is_present, is_thread, is_container, is_segment}
use Rattle.histar_object.specs.declared.objects.Kind.{Kind}
use Rattle.histar_object.specs.State.{State, Found, observes, modifies}
use Rattle.histar_rules.specs.declared.raw.Denied.{Denied}
use Rattle.histar_rules.specs.declared.raw.Denied.TheVariants.{Observe, Modify, NoEntry, NoThread, BadKind, TooBig}
use Rattle.histar_rules.specs.declared.raw.RawCall.TheVariants.{Read, Write, Unlink, LabelOf}
use Rattle.histar_rules.specs.Rules.{no_thread, no_container, no_link, no_segment, no_making, fits_segment, check}

-- an object with a label and a kind
abbrev pub object : Levels → Kind Levels → Found
object label kind = Some (record { label = label; kind = kind })

-- a test after which nothing refuses
pub or_none : (b : Bool) (denied : Denied) → (unless b denied orelse None) ≡ unless b denied
or_none true denied = refl
or_none false denied = refl

module _ (s : State) (t : ℕ) (label clearance : Levels) (thread : s.objects t ≡ object label (Thread clearance)) where
  -- a thread may call
  pub caller_passes : no_thread s t ≡ None
  caller_passes = λ i. unless (is_thread (thread i)) NoThread

  module _ (d : ℕ) (above : Levels) (links : Numbers) (holder : s.objects d ≡ object above (Container links)) where
    -- a call on a container is refused only where the thread may not observe it
    pub container_check : no_container s t d ≡ unless (is_below_raised above label) Observe
    container_check = λ i. unless (is_thread (thread i)) NoThread
        orelse unless (is_present (holder i)) NoEntry
        orelse unless (is_container (holder i)) BadKind
        orelse unless (observes (thread i) (holder i)) Observe

    -- a read in a container that may not be observed is refused Observe
    pub read_blocked : is_below_raised above label ≡ false → (o : ℕ) → check s t (Read d o) ≡ Some Observe
    read_blocked unseen o =
        ap (λ (c : Option Denied). ((c orelse unless (set.contains (links_in (s.objects d)) o) NoEntry)
        orelse unless (is_segment (s.objects o)) BadKind)
        orelse unless (observes (s.objects t) (s.objects o)) Observe)
        (container_check ∙ ap (λ (b : Bool). unless b Observe) unseen)

    module _ (seen : is_below_raised above label ≡ true) where
      container_passes : no_container s t d ≡ None
      container_passes = container_check ∙ ap (λ (b : Bool). unless b Observe) seen

      module _ (o : ℕ) (linked : set.contains links o ≡ true) where
        -- what the container links is found
        pub link_passes : no_link s t d o ≡ None
        link_passes = ap (λ (c : Option Denied). c orelse unless (set.contains (links_in (s.objects d)) o) NoEntry) container_passes
            ∙ (λ i. unless (set.contains (links_in (holder i)) o) NoEntry)
            ∙ ap (λ (b : Bool). unless b NoEntry) linked

        module _ (below : Levels) (held : List ℕ) (segment : s.objects o ≡ object below (Segment held)) where
          segment_passes : no_segment s t d o ≡ None
          segment_passes =
              ap (λ (c : Option Denied). c orelse unless (is_segment (s.objects o)) BadKind) link_passes
              ∙ (λ i. unless (is_segment (segment i)) BadKind)

          -- a segment is read unless it may not be observed
          pub read_check : check s t (Read d o) ≡ unless (is_below_raised below label) Observe
          read_check =
              ap (λ (c : Option Denied). c orelse unless (observes (s.objects t) (s.objects o)) Observe) segment_passes
              ∙ (λ i. unless (observes (thread i) (segment i)) Observe)

          -- what is linked is written unless it may not be modified, or would hold too many bytes
          pub write_check : (keep : ℕ) (bytes : List ℕ)
              → check s t (Write d o keep bytes)
              ≡ (unless (is_below label below && is_below_raised below label) Modify
              orelse unless (fits_segment (min keep (length held) + length bytes)) TooBig)
          write_check keep bytes =
              ap (λ (c : Option Denied). c orelse unless (modifies (s.objects t) (s.objects o)) Modify
              orelse unless (fits_segment (min keep (length (bytes_in (s.objects o))) + length bytes)) TooBig)
              segment_passes
              ∙ (λ i. unless (modifies (thread i) (segment i)) Modify
              orelse unless (fits_segment (min keep (length (bytes_in (segment i))) + length bytes)) TooBig)

        -- the label of what is linked is returned, if it is no thread
        pub label_check : is_thread (s.objects o) ≡ false → check s t (LabelOf d o) ≡ None
        label_check other =
            ap (λ (c : Option Denied). c orelse unless (not (is_thread (s.objects o))) BadKind) link_passes
            ∙ ap (λ (b : Bool). unless (not b) BadKind) other

        -- what is linked is unlinked unless the container may not be modified
        pub unlink_check : check s t (Unlink d o) ≡ unless (is_below label above && is_below_raised above label) Modify
        unlink_check =
            ap (λ (c : Option Denied). c orelse unless (modifies (s.objects t) (s.objects d)) Modify) link_passes
            ∙ (λ i. unless (modifies (thread i) (holder i)) Modify)

      -- an object is made unless the container may not be modified, or a later test refuses it
      pub making_check : no_making s t d ≡ unless (is_below label above && is_below_raised above label) Modify
      making_check =
          ap (λ (c : Option Denied). c orelse unless (modifies (s.objects t) (s.objects d)) Modify) container_passes
          ∙ (λ i. unless (modifies (thread i) (holder i)) Modify)
