-- The kernel's checks of the raw calls of a birth: each is granted, but for the number of a new object or category.
use Rattle.std.proofs.Common.{◌≡◌, ℕ, ◌+◌, ◌&&◌, true, false, List, length, None, arith, ap, ◌∙◌}
use Rattle.std.specs.Prelude.{not, min, nat_lt}
use Rattle.std.specs.FinSet as set
use Rattle.std.proofs.lemmas.Bool.{and_from}
use Rattle.histar_base.specs.Refusals.{◌orelse◌, unless}
use Rattle.histar_level.specs.Levels.{Levels}
use Rattle.histar_label.specs.Levels.{is_below, is_below_raised, is_below_join_raised, is_made, has_star}
use Rattle.histar_object.specs.declared.objects.Kind.TheVariants.{Segment, Container, Thread}
use Rattle.histar_object.specs.declared.objects.Object.{Object}
use Rattle.histar_object.specs.Objects.{thread_of, is_thread}
use Rattle.histar_rules.specs.Rights.{in_span, may_clear, with_label, with_changed}
use Rattle.histar_object.specs.State.{State, Found, in_range, with_object, with_segment_bytes}
use Rattle.histar_rules.specs.declared.raw.Denied.TheVariants.{Modify, NoThread, Range, TooBig}
use Rattle.histar_rules.specs.declared.raw.RawCall.TheVariants.{MakeCategory, SetLabel, SetClearance, MakeSegment, MakeContainer, MakeThread, Write}
use Rattle.histar_rules.specs.Rules.{no_making, fits_segment, has_number, greatest, check}
use Rattle.histar_refinement.proofs.RawChecks.{object, caller_passes, making_check, write_check}
use Rattle.histar_sim.proofs.BirthObjects.{IsHolder, holder_stays, holder_made, Around, around_added, thread_written, thread_relabelled}

-- a category is made unless there is no number for it
pub category_said : (s : State) (T : ℕ) (own own_clearance : Levels) → s.objects T ≡ object own (Thread own_clearance)
    → check s T MakeCategory ≡ unless (nat_lt s.next_category greatest) TooBig
category_said s T own own_clearance thread = λ i. caller_passes s T own own_clearance thread i orelse unless (nat_lt s.next_category greatest) TooBig

-- A thread may give this label to what it makes, and modify what has it.
pub record IsModified (own own_clearance label : Levels) (next : ℕ) : Type 0 where
  pub above : is_below own label ≡ true
  pub below : is_below label own_clearance ≡ true
  pub seen : is_below_raised label own ≡ true
  pub made : is_made next label ≡ true
  pub plain : has_star label ≡ false

-- The thread may make a thread with this label and this clearance.
pub record IsLesser (own own_clearance label clearance : Levels) (next : ℕ) : Type 0 where
  pub above : is_below own label ≡ true
  pub below : is_below label clearance ≡ true
  pub within : is_below clearance own_clearance ≡ true
  pub made : is_made next label ≡ true
  pub cleared : is_made next clearance ≡ true

-- The thread may take this label and then this clearance.
pub record IsTaken (own own_clearance label clearance : Levels) (next : ℕ) : Type 0 where
  pub above : is_below own label ≡ true
  pub below : is_below label own_clearance ≡ true
  pub capped : is_below label clearance ≡ true
  pub within : is_below_join_raised clearance own_clearance label ≡ true
  pub made : is_made next label ≡ true
  pub cleared : is_made next clearance ≡ true

module _ (s : State) (T : ℕ) (own own_clearance : Levels) (thread : s.objects T ≡ object own (Thread own_clearance)) where
  -- objects are made in a container that the thread modifies
  module _ (d : ℕ) (above : Levels) (holder : IsHolder above (s.objects d)) (under : is_below own above ≡ true)
      (seen : is_below_raised above own ≡ true) where
    making_passes : no_making s T d ≡ unless true Modify
    making_passes = making_check s T own own_clearance thread d above holder.0 holder.1 seen ∙ (λ i. unless (under i && seen i) Modify)

    ranged : (label : Levels) → IsModified own own_clearance label s.next_category → in_range (s.objects T) label ≡ true
    ranged label is = ap (λ (x : Found). in_range x label) thread ∙ and_from _ _ is.above is.below

    pub container_said : (label : Levels) → IsModified own own_clearance label s.next_category
        → check s T (MakeContainer d label) ≡ unless (has_number s) TooBig
    container_said label is = λ i. making_passes i
        orelse unless (ranged label is i) Range
        orelse unless (is.made i) Range
        orelse unless (not (is.plain i)) Range
        orelse unless (has_number s) TooBig

    pub segment_said : (label : Levels) → IsModified own own_clearance label s.next_category → (bytes : List ℕ)
        → fits_segment (length bytes) ≡ true → check s T (MakeSegment d label bytes) ≡ unless (has_number s) TooBig
    segment_said label is bytes few = λ i. making_passes i
        orelse unless (ranged label is i) Range
        orelse unless (is.made i) Range
        orelse unless (not (is.plain i)) Range
        orelse unless (few i) TooBig
        orelse unless (has_number s) TooBig

    pub thread_said : (label clearance : Levels) → IsLesser own own_clearance label clearance s.next_category
        → check s T (MakeThread d label clearance) ≡ unless (has_number s) TooBig
    thread_said label clearance is = λ i. making_passes i
        orelse unless ((ap (λ (x : Found). in_span x label clearance) thread ∙ (λ j. is.above j && is.below j && is.within j)) i) Range
        orelse unless (is.made i) Range
        orelse unless (is.cleared i) Range
        orelse unless (has_number s) TooBig

  -- labels are taken
  pub label_said : (label clearance : Levels) → IsTaken own own_clearance label clearance s.next_category
      → check s T (SetLabel label) ≡ unless true Range
  label_said label clearance is = λ i. unless (is_thread (thread i)) NoThread
      orelse unless ((ap (λ (x : Found). in_range x label) thread ∙ and_from _ _ is.above is.below) i) Range
      orelse unless (is.made i) Range

-- after the label the thread may take the clearance
pub clearance_said : (s : State) (T : ℕ) (own own_clearance label clearance : Levels)
    → s.objects T ≡ object label (Thread own_clearance) → IsTaken own own_clearance label clearance s.next_category
    → check s T (SetClearance clearance) ≡ unless true Range
clearance_said s T own own_clearance label clearance thread is = λ i. unless (is_thread (thread i)) NoThread
    orelse unless ((ap (λ (x : Found). may_clear x clearance) thread ∙ and_from _ _ is.capped is.within) i) Range
    orelse unless (is.cleared i) Range

-- The raw calls of a birth from the state u on, in which the thread has made the child's two categories: by the labels of the thread, of
-- its container, of the child's container, its internal container and its thread, and by the bytes of both process segments.
module _ (T C S : ℕ) (grown grown_clearance home : Levels) (held : List ℕ) (u : State) (around : Around T C S grown grown_clearance home held u)
    (outer inner label clearance own own_clearance : Levels) (child_bytes own_bytes : List ℕ) where
  abbrev pub container : Object Levels
  container = record { label = outer; kind = Container set.empty }

  abbrev pub internal : Object Levels
  internal = record { label = inner; kind = Container set.empty }

  abbrev pub segment : Object Levels
  segment = record { label = outer; kind = Segment child_bytes }

  abbrev pub with_container : State
  with_container = with_object u C container

  abbrev pub with_internal : State
  with_internal = with_object with_container u.next_object internal

  abbrev pub with_thread : State
  with_thread = with_object with_internal (u.next_object + 1) (thread_of label clearance)

  abbrev pub with_segment : State
  with_segment = with_object with_thread u.next_object segment

  abbrev pub with_child : State
  with_child = with_segment_bytes with_segment S own_bytes

  abbrev pub with_own_label : State
  with_own_label = with_changed with_child T (with_label own)

  module _ (under : is_below grown home ≡ true) (seen : is_below_raised home grown ≡ true)
      (outer_is : IsModified grown grown_clearance outer u.next_category)
      (inner_is : IsModified grown grown_clearance inner u.next_category)
      (lesser : IsLesser grown grown_clearance label clearance u.next_category)
      (taken : IsTaken grown grown_clearance own own_clearance u.next_category) where
    around_first : Around T C S grown grown_clearance home held with_container
    around_first = around_added T C S grown grown_clearance home held u around C container

    around_second : Around T C S grown grown_clearance home held with_internal
    around_second = around_added T C S grown grown_clearance home held with_container around_first u.next_object internal

    around_third : Around T C S grown grown_clearance home held with_thread
    around_third = around_added T C S grown grown_clearance home held with_internal around_second (u.next_object + 1) (thread_of label clearance)

    around_fourth : Around T C S grown grown_clearance home held with_segment
    around_fourth = around_added T C S grown grown_clearance home held with_thread around_third u.next_object segment

    pub make_container_said : check u T (MakeContainer C outer) ≡ unless (has_number u) TooBig
    make_container_said = container_said u T grown grown_clearance around.thread C home (around.home.0, around.home.1) under seen outer outer_is

    pub make_internal_said : check with_container T (MakeContainer u.next_object inner) ≡ unless (has_number with_container) TooBig
    make_internal_said =
        container_said with_container T grown grown_clearance around_first.thread u.next_object outer
        (holder_made u C outer) outer_is.above outer_is.seen inner inner_is

    pub make_thread_said : check with_internal T (MakeThread (u.next_object + 1) label clearance) ≡ unless (has_number with_internal) TooBig
    make_thread_said =
        thread_said with_internal T grown grown_clearance around_second.thread (u.next_object + 1) inner
        (holder_made with_container u.next_object inner) inner_is.above inner_is.seen label clearance lesser

    container_second : IsHolder outer (with_internal.objects u.next_object)
    container_second = holder_stays with_container u.next_object internal u.next_object outer (omega arith) (holder_made u C outer)

    container_third : IsHolder outer (with_thread.objects u.next_object)
    container_third = holder_stays with_internal (u.next_object + 1) (thread_of label clearance) u.next_object outer (omega arith) container_second

    pub make_segment_said : fits_segment (length child_bytes) ≡ true
        → check with_thread T (MakeSegment u.next_object outer child_bytes) ≡ unless (has_number with_thread) TooBig
    make_segment_said few =
        segment_said with_thread T grown grown_clearance around_third.thread u.next_object outer container_third
        outer_is.above outer_is.seen outer outer_is child_bytes few

    pub write_said : fits_segment (min 0 (length held) + length own_bytes) ≡ true → check with_segment T (Write C S 0 own_bytes) ≡ None
    write_said few =
        write_check with_segment T grown grown_clearance around_fourth.thread C home around_fourth.home.0
        around_fourth.home.1 seen S around_fourth.home.2 home held around_fourth.segment 0 own_bytes
        ∙ (λ i. unless (under i && seen i) Modify orelse unless (few i) TooBig)

    pub set_label_said : check with_child T (SetLabel own) ≡ None
    set_label_said =
        label_said with_child T grown grown_clearance
        (thread_written T C S grown grown_clearance home held with_segment around_fourth own_bytes) own
        own_clearance taken

    pub set_clearance_said : check with_own_label T (SetClearance own_clearance) ≡ None
    set_clearance_said = clearance_said with_own_label T grown grown_clearance own own_clearance
        (thread_relabelled with_child T grown grown_clearance own
        (thread_written T C S grown grown_clearance home held with_segment around_fourth own_bytes)) taken
