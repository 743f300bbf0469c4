-- The raw calls of boot that the rules allow.
use Rattle.std.proofs.Common.{◌≡◌, ℕ, suc, ◌+◌, ◌<◌, ◌≤◌, Bool, true, ◌&&◌, List, [], ◌∷◌, ◌++◌, length, get_or, Option, None, Some, refl, ap, ◌∙◌}
use Rattle.std.proofs.Common.{arith}
use Rattle.std.specs.Prelude.{not}
use Rattle.std.proofs.lemmas.Bool.Decides.{nat_tests}
use Rattle.std.specs.FinSet as set
use Rattle.std.specs.Cmp.{nat_cmp_total}
use Rattle.histar_base.specs.Refusals.{unless, ◌orelse◌}
use Rattle.histar_level.specs.declared.level.Level.TheVariants.{L1, L2}
use Rattle.histar_level.specs.Levels.{Levels}
use Rattle.histar_level.proofs.Equality.{and_true}
use Rattle.histar_label.specs.Levels.{is_below}
use Rattle.histar_object.specs.declared.objects.Entry.{Entry}
use Rattle.histar_object.specs.declared.objects.Object.{Object}
use Rattle.histar_object.specs.Objects.{is_present, is_container, is_thread, links_in, kind_is_thread, kind_is_container, kind_clearance, kind_links}
use Rattle.histar_rules.specs.Rights.{in_span, both}
use Rattle.histar_object.specs.State.{State, Found, observes, modifies, in_range, between}
use Rattle.histar_rules.specs.declared.raw.Denied.{Denied}
use Rattle.histar_rules.specs.declared.raw.RawCall.{RawCall}
use Rattle.histar_rules.specs.declared.raw.RawCall.TheVariants.{MakeCategory, MakeSegment, MakeContainer, MakeThread, MakeGate, Unlink}
use Rattle.histar_rules.specs.Rules.{check, no_thread, no_container, no_making, fits_segment, has_number, greatest}
use Rattle.histar_rules.specs.Sound.{root_number}
use Rattle.histar_syscall.specs.KernelModel.{KernelModel}
use Rattle.histar_layout.specs.Labelling.{written_by}
use Rattle.histar_programs.specs.Start.{object_at, state_with, container, root_category}
use Rattle.histar_login.specs.Boot.{last_call}
use Rattle.histar_programs.specs.Start.{boot_thread_number}
use Rattle.histar_login.specs.Booting.{Part, Boots, OwnsMade, Allows, table_of, next_number, next_made}
use Rattle.histar_login.proofs.MadeLabels.{IsMadeLabel, IsMadeGuard, under_made, sees_made, cleared_made, written_made}

-- a test that holds refuses nothing
passes : (b : Bool) (e : Denied) → b ≡ true → unless b e ≡ None
passes b e holds = ap (λ (x : Bool). unless x e) holds

-- where neither test refuses anything, both together refuse nothing
and_then_none : (a b : Option Denied) → a ≡ None → b ≡ None → (a orelse b) ≡ None
and_then_none a b first second = ap (λ (x : Option Denied). x orelse b) first ∙ second

module _ (s : State) (boot : Object Levels) (is_boot : s.objects 2 ≡ Some boot) (owner : OwnsMade s.next_category boot) where
  -- the boot thread is a thread
  thread_passes : no_thread s 2 ≡ None
  thread_passes = passes _ _ (ap is_thread is_boot ∙ ap kind_is_thread owner.is_thread)

  -- the boot thread makes a category
  category_passes : s.next_category < greatest → check s 2 MakeCategory ≡ None
  category_passes few = and_then_none _ _ thread_passes (passes _ _ (grind (arith, nat_tests)))

  -- a label is in its range
  range_passes : (label : Levels) → IsMadeLabel s.next_category L1 label → in_range (s.objects 2) label ≡ true
  range_passes label made =
      ap (λ (x : Found). in_range x label) is_boot ∙ ap (λ k. between (Some boot.label) (kind_clearance k) label) owner.is_thread
      ∙ and_true _ _ (under_made s.next_category boot owner label made) (cleared_made s.next_category boot owner L1 label (omega arith) made)

  -- a label and a clearance are in its span
  span_passes : (label clearance : Levels) → IsMadeLabel s.next_category L1 label
      → IsMadeLabel s.next_category L2 clearance → is_below label clearance ≡ true
      → in_span (s.objects 2) label clearance ≡ true
  span_passes label clearance made cleared below =
      ap (λ (x : Found). in_span x label clearance) is_boot
      ∙ ap (λ k. both (Some boot.label) (kind_clearance k) (λ own own_clearance.
      is_below own label && is_below label clearance && is_below clearance own_clearance)) owner.is_thread
      ∙ and_true _ _ (and_true _ _ (under_made s.next_category boot owner label made) below)
      (cleared_made s.next_category boot owner L2 clearance (omega arith) cleared)

  module _ (d : ℕ) (o : Object Levels) (there : s.objects d ≡ Some o) (holds : kind_is_container o.kind ≡ true)
      (made : IsMadeLabel s.next_category L1 o.label) where
    -- the boot thread may look into a container with such a label
    container_passes : no_container s 2 d ≡ None
    container_passes =
        and_then_none _ _ thread_passes
        (and_then_none _ _ (passes _ _ (ap is_present there))
        (and_then_none _ _ (passes _ _ (ap is_container there ∙ holds))
        (passes _ _ ((λ i. observes (is_boot i) (there i)) ∙ sees_made s.next_category boot owner o.label made))))

    -- the boot thread may change the container
    modify_passes : modifies (s.objects 2) (s.objects d) ≡ true
    modify_passes =
        (λ i. modifies (is_boot i) (there i))
        ∙ and_true _ _ (under_made s.next_category boot owner o.label made)
        (sees_made s.next_category boot owner o.label made)

    making_passes : no_making s 2 d ≡ None
    making_passes = and_then_none _ _ container_passes (passes _ _ modify_passes)

    -- the boot thread makes a segment there
    segment_passes : (label : Levels) (bytes : List ℕ) → IsMadeGuard s.next_category label → length bytes ≤ 4096
        → s.next_object < greatest → check s 2 (MakeSegment d label bytes) ≡ None
    segment_passes label bytes guard few room =
        and_then_none _ _ making_passes
        (and_then_none _ _ (passes _ _ (range_passes label guard.label))
        (and_then_none _ _ (passes _ _ guard.label.made)
        (and_then_none _ _ (passes _ _ (ap not guard.starless))
        (and_then_none _ _ (passes (fits_segment (length bytes)) _ (grind (arith, nat_tests)))
        (passes (has_number s) _ (grind (arith, nat_tests)))))))

    -- the boot thread makes a container there
    inner_passes : (label : Levels) → IsMadeGuard s.next_category label → s.next_object < greatest → check s 2 (MakeContainer d label) ≡ None
    inner_passes label guard room =
        and_then_none _ _ making_passes
        (and_then_none _ _ (passes _ _ (range_passes label guard.label))
        (and_then_none _ _ (passes _ _ guard.label.made)
        (and_then_none _ _ (passes _ _ (ap not guard.starless)) (passes (has_number s) _ (grind (arith, nat_tests))))))

    -- the boot thread makes a thread there
    born_passes : (label clearance : Levels) → IsMadeLabel s.next_category L1 label
        → IsMadeLabel s.next_category L2 clearance → is_below label clearance ≡ true → s.next_object < greatest
        → check s 2 (MakeThread d label clearance) ≡ None
    born_passes label clearance owns cleared below room =
        and_then_none _ _ making_passes
        (and_then_none _ _ (passes _ _ (span_passes label clearance owns cleared below))
        (and_then_none _ _ (passes _ _ owns.made) (and_then_none _ _ (passes _ _ cleared.made) (passes (has_number s) _ (grind (arith, nat_tests))))))

    -- the boot thread makes a gate there
    gate_passes : (label clearance : Levels) (entry : Entry) → IsMadeLabel s.next_category L1 label
        → IsMadeLabel s.next_category L2 clearance → is_below label clearance ≡ true → s.next_object < greatest
        → check s 2 (MakeGate d label clearance entry) ≡ None
    gate_passes label clearance entry owns cleared below room =
        and_then_none _ _ making_passes
        (and_then_none _ _ (passes _ _ (span_passes label clearance owns cleared below))
        (and_then_none _ _ (passes _ _ owns.made) (and_then_none _ _ (passes _ _ cleared.made) (passes (has_number s) _ (grind (arith, nat_tests))))))

    -- the boot thread unlinks what the container links
    unlink_passes : (q : ℕ) → set.contains (kind_links o.kind) q ≡ true → check s 2 (Unlink d q) ≡ None
    unlink_passes q linked =
        and_then_none _ _ (and_then_none _ _ container_passes
        (passes _ _ (ap (λ (x : Found). set.contains (links_in x) q) there ∙ linked)))
        (passes _ _ modify_passes)

-- the object after the front of a table
found_behind : (front : List Found) (x : Found) (back : List Found) → get_or (front ++ x ∷ back) (length front) None ≡ x
found_behind [] x back = refl
found_behind (y ∷ front) x back = found_behind front x back

module _ (first now : KernelModel) (p : Part) (boots : Boots first now p) where
  -- a container that boot made, which the boot thread may change
  pub record HasContainer (d : ℕ) : Type 0 where
    pub label : Levels
    pub numbers : List ℕ
    pub there : object_at (table_of boots.boot p) d ≡ container label numbers
    pub made : IsMadeLabel (next_made p) L1 label

  -- the root container is a container that the boot thread may change
  pub root_there : HasContainer root_number
  root_there = record {
    label = written_by root_category;
    numbers = boot_thread_number ∷ p.linked;
    there = refl;
    made = (written_made (next_made p) root_category (omega arith) (omega arith)).label;
  }

  -- an object after the boot thread is such a container
  pub inside_there : (d : ℕ) (front back : List Found) (label : Levels) (numbers : List ℕ)
      → p.objects ≡ front ++ container label numbers ∷ back → d ≡ 3 + length front
      → IsMadeLabel (next_made p) L1 label → HasContainer d
  inside_there d front back label numbers parts at made =
      let place : d ≡ suc (suc (suc (length front))) = at ∙ omega arith in
      record {
        label = label;
        numbers = numbers;
        there =
            ap (object_at (table_of boots.boot p)) place ∙ ap (λ (l : List Found). get_or l (length front) None) parts
            ∙ found_behind front (container label numbers) back;
        made = made;
      }

  -- what the rules allow on the table of boot's objects, they allow on the state
  allowed : (call : RawCall) → check (state_with (table_of boots.boot p) (next_made p)) 2 call ≡ None → Allows now call
  allowed call none = ap (λ (s : State). check s 2 call) boots.agrees ∙ none

  -- a category may be made
  pub category_allowed : next_made p < greatest → Allows now MakeCategory
  category_allowed few = allowed MakeCategory (category_passes (state_with (table_of boots.boot p) (next_made p)) boots.boot refl boots.owner few)

  module _ (d : ℕ) (at : HasContainer d) (room : next_number p < greatest) where
    -- a segment may be made
    pub segment_allowed : (label : Levels) (bytes : List ℕ) → IsMadeGuard (next_made p) label → length bytes ≤ 4096
        → Allows now (MakeSegment d label bytes)
    segment_allowed label bytes guard few =
        allowed (MakeSegment d label bytes) (segment_passes (state_with (table_of boots.boot p) (next_made p))
        boots.boot refl boots.owner d _ at.there refl at.made label bytes guard few (omega (arith, room)))

    -- a container may be made
    pub container_allowed : (label : Levels) → IsMadeGuard (next_made p) label → Allows now (MakeContainer d label)
    container_allowed label guard =
        allowed (MakeContainer d label) (inner_passes (state_with (table_of boots.boot p) (next_made p)) boots.boot
        refl boots.owner d _ at.there refl at.made label guard (omega (arith, room)))

    -- a thread may be made
    pub thread_allowed : (label clearance : Levels) → IsMadeLabel (next_made p) L1 label
        → IsMadeLabel (next_made p) L2 clearance → is_below label clearance ≡ true
        → Allows now (MakeThread d label clearance)
    thread_allowed label clearance owns cleared below =
        allowed (MakeThread d label clearance) (born_passes (state_with (table_of boots.boot p) (next_made p))
        boots.boot refl boots.owner d _ at.there refl at.made label clearance owns cleared below
        (omega (arith, room)))

    -- a gate may be made
    pub gate_allowed : (label clearance : Levels) (entry : Entry) → IsMadeLabel (next_made p) L1 label
        → IsMadeLabel (next_made p) L2 clearance → is_below label clearance ≡ true
        → Allows now (MakeGate d label clearance entry)
    gate_allowed label clearance entry owns cleared below =
        allowed (MakeGate d label clearance entry) (gate_passes (state_with (table_of boots.boot p) (next_made p))
        boots.boot refl boots.owner d _ at.there refl at.made label clearance entry owns cleared below
        (omega (arith, room)))

  -- the boot thread may unlink itself
  pub last_allowed : Allows now last_call
  unfolding root_there
  last_allowed =
      allowed last_call
      (unlink_passes (state_with (table_of boots.boot p) (next_made p)) boots.boot refl boots.owner 1 _ root_there.there refl root_there.made 2
      (set.contains-from_list nat_cmp_total (boot_thread_number ∷ p.linked) 2))
