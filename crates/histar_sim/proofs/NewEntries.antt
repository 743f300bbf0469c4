-- What a new entry needs: a name, and that the directory segment may be written once the new object is linked in the directory.
use Rattle.std.proofs.Common.{◌≡◌, ◌≢◌, ℕ, ◌+◌, ◌<◌, ◌≤◌, ◌&&◌, ◌||◌, Bool, true, List, length, None, arith, sym, ap, ◌∙◌}
use Rattle.std.specs.Prelude.{IsTrue, ◌∷◌, nat_le, option_map}
use Rattle.std.specs.List.{list_all}
use Rattle.std.proofs.lemmas.Bool.{and_parts}
use Rattle.std.specs.FinSet as set
use Rattle.std.specs.Ordering.{eq_by_cmp}
use Rattle.std.specs.Ordering.{nat_cmp}
use Rattle.std.specs.Cmp.{nat_cmp_total}
use Rattle.std.proofs.Math.Bool.{or-true}
use mathlib.Core.Bool.{true≢false}
use Rattle.histar_base.specs.Refusals.{◌orelse◌, unless}
use Rattle.histar_flat.specs.Words.{Name, Path, is_name, is_path, most_names}
use Rattle.histar_level.specs.Levels.{Levels}
use Rattle.histar_label.specs.Levels.{is_below, is_below_raised}
use Rattle.histar_object.specs.declared.objects.Kind.TheVariants.{Segment, Container, Thread}
use Rattle.histar_object.specs.declared.objects.Object.{Object}
use Rattle.histar_object.specs.Objects.{Numbers as Links, is_container, linking}
use Rattle.histar_object.specs.State.{State, with_object}
use Rattle.histar_container.proofs.TableMoves.{new_there, new_holder, new_other}
use Rattle.histar_rules.specs.declared.raw.Denied.TheVariants.{Modify, TooBig}
use Rattle.histar_rules.specs.declared.raw.RawCall.TheVariants.{Write}
use Rattle.histar_rules.specs.Rules.{check, no_making}
use Rattle.histar_refinement.proofs.RawChecks.{object, write_check, making_check}
use Rattle.histar_refinement.proofs.FileChecks.{fits}

-- the last name of a path that can be named is a name
pub last_name : (m : Name) (d : Path) → IsTrue (is_path (m ∷ d)) → IsTrue (is_name m)
last_name m d right =
    (and_parts (is_name m) (list_all is_name d)
    (and_parts (nat_le (length (m ∷ d)) most_names) (list_all is_name (m ∷ d)) right).1).0

-- The state has a thread, and a container that links a segment of these bytes, both of the same label.
pub record HasSegment (s : State) (t d n : ℕ) (label clearance above : Levels) (old : List ℕ) : Type 0 where
  pub links : Links
  pub thread : s.objects t ≡ object label (Thread clearance)
  pub holder : s.objects d ≡ object above (Container links)
  pub segment : s.objects n ≡ object above (Segment old)
  pub linked : set.contains links n ≡ true

module _ (s : State) (t d n : ℕ) (label clearance above : Levels) (old : List ℕ) (there : HasSegment s t d n label clearance above old) where
  -- the segment is written
  pub segment_written : is_below_raised above label ≡ true
      → (is_below label above && is_below_raised above label) ≡ true → (bytes : List ℕ) → length bytes ≤ 4096
      → check s t (Write d n 0 bytes) ≡ None
  segment_written seen may bytes few =
      write_check s t label clearance there.thread d above there.links there.holder seen n there.linked above old there.segment 0 bytes
      ∙ (λ i. unless (may i) Modify orelse unless (fits old bytes few i) TooBig)

  module _ (below_thread : t < s.next_object) (below_holder : d < s.next_object) (below_segment : n < s.next_object) where
    -- neither the thread nor the segment is the container
    other_thread : t ≢ d
    other_thread e = true≢false (sym (ap is_container (ap s.objects e ∙ there.holder)) ∙ ap is_container there.thread)

    other_segment : n ≢ d
    other_segment e = true≢false (sym (ap is_container (ap s.objects e ∙ there.holder)) ∙ ap is_container there.segment)

    module _ (o : Object Levels) where
      -- what was there before stays
      stays : (q : ℕ) → q < s.next_object → q ≢ d → (with_object s d o).objects q ≡ s.objects q
      stays q low = new_other s.objects s.next_object d o q (λ e. absurd (omega (arith, low, e)))

      -- all of it is there once an object is added to the container
      pub still_there : HasSegment (with_object s d o) t d n label clearance above old
      still_there = record {
        links = set.insert there.links s.next_object;
        thread = stays t below_thread other_thread ∙ there.thread;
        holder =
            new_holder s.objects s.next_object d o (λ e. absurd (omega (arith, below_holder, e)))
            ∙ ap (option_map (linking s.next_object)) there.holder;
        segment = stays n below_segment other_segment ∙ there.segment;
        linked =
            set.contains-insert nat_cmp_total there.links s.next_object n
            ∙ ap (λ (b : Bool). eq_by_cmp nat_cmp n s.next_object || b) there.linked
            ∙ or-true (eq_by_cmp nat_cmp n s.next_object);
      }

      module _ (inner : Object Levels) where
        -- what was there before both stays once something is made in what was added
        stays_then : (q : ℕ) → q < s.next_object → (with_object (with_object s d o) s.next_object inner).objects q ≡ (with_object s d o).objects q
        stays_then q low =
            new_other (with_object s d o).objects (s.next_object + 1) s.next_object inner q
            (λ e. absurd (omega (arith, low, e))) (λ e. absurd (omega (arith, low, e)))

        -- all of it is there once something is made in that object too
        pub there_then : HasSegment (with_object (with_object s d o) s.next_object inner) t d n label clearance above old
        there_then = record {
          links = still_there.links;
          thread = stays_then t below_thread ∙ still_there.thread;
          holder = stays_then d below_holder ∙ still_there.holder;
          segment = stays_then n below_segment ∙ still_there.segment;
          linked = still_there.linked;
        }

    module _ (label_inside : Levels) where
      abbrev bare : Object Levels
      bare = record { label = label_inside; kind = Container set.empty }

      inside : (with_object s d bare).objects s.next_object ≡ object label_inside (Container set.empty)
      inside = new_there s.objects s.next_object d bare

      -- in a container that was added something may be made, as its label says
      pub making_inside : is_below_raised label_inside label ≡ true
          → (is_below label label_inside && is_below_raised label_inside label) ≡ true
          → no_making (with_object s d bare) t s.next_object ≡ None
      making_inside seen may =
          making_check (with_object s d bare) t label clearance (still_there bare).thread s.next_object label_inside
          set.empty inside seen ∙ ap (λ (b : Bool). unless b Modify) may
