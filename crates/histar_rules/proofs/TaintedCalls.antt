-- A granted call of a thread that is tainted in v changes only objects that are tainted in v, and leaves them tainted.
use Rattle.std.proofs.Common.{◌≡◌, ◌≢◌, ℕ, ◌<◌, ◌≤◌, ◌⊎◌, inl, inr, Bool, true, false, ◌&&◌, List, ◌++◌, Option, None, Some, take, arith, refl}
use Rattle.std.proofs.Common.{sym, ap, ◌∙◌, subst, if◌then◌else◌}
use Rattle.std.specs.Prelude.{option_map, max}
use Rattle.std.specs.FinSet as set
use Rattle.std.proofs.lemmas.Bool.Decides.{eqb_tells}
use Rattle.histar_base.specs.Refusals.{unless, ◌orelse◌}
use Rattle.histar_level.specs.declared.level.Level.{Level}
use Rattle.histar_level.specs.declared.level.Level.TheVariants.{Star, L0, L1, L2, L3}
use Rattle.histar_level.specs.Level.{rank, raised, lowered}
use Rattle.histar_level.specs.Levels.{Levels, level_of}
use Rattle.histar_label.specs.Levels.{with_level, is_below, is_below_join}
use Rattle.histar_label.proofs.Readers.{level_of-with_level}
use Rattle.histar_label.specs.Floors.{floor_of}
use Rattle.histar_label.proofs.Floors.{grades-floor_of}
use Rattle.histar_label.proofs.Orders.{is_below-law}
use Rattle.histar_object.specs.declared.objects.Kind.TheVariants.{Segment, Container}
use Rattle.histar_object.specs.declared.objects.Kind.TheVariants as gates
use Rattle.histar_object.specs.declared.objects.Object.{Object}
use Rattle.histar_object.specs.Objects.{Objects, put, changed_at, with_new, linking, unlinking, holding, thread_of, links_in, bytes_in}
use Rattle.histar_object.specs.Objects.{kind_clearance, kind_is_thread, kind_is_gate, is_thread, is_gate}
use Rattle.histar_rules.specs.Rights.{both, with_star_at, with_label, with_clearance, with_changed, with_category, in_span, is_let_in, is_own_below}
use Rattle.histar_rules.specs.Rights.{in_gate}
use Rattle.histar_object.specs.State.{State, Found, between, in_range, modifies, with_object, with_own, with_segment_bytes}
use Rattle.histar_container.specs.ObjectsModel.{CutsOff}
use Rattle.histar_container.specs.Tree.{Reached, here, there, IsCut}
use Rattle.histar_container.proofs.TableMoves.{put_here, put_other, changed_here, changed_other, new_there, new_other}
use Rattle.histar_container.proofs.Trees.{none_next, reached_decided}
use Rattle.histar_rules.specs.declared.raw.Denied.{Denied}
use Rattle.histar_rules.specs.declared.raw.Denied.TheVariants.{Modify, Range, Gate, NoEntry, BadKind}
use Rattle.histar_rules.specs.declared.raw.RawCall.{RawCall}
use Rattle.histar_rules.specs.declared.raw.RawCall.TheVariants.{MakeCategory, OwnLabel, SetLabel, SetClearance, MakeSegment, MakeContainer}
use Rattle.histar_rules.specs.declared.raw.RawCall.TheVariants.{MakeThread, MakeGate, Enter, Read, Write, Unlink, LabelOf}
use Rattle.histar_rules.specs.Rules.{no_thread, no_container, no_link, no_segment, no_gate, no_making, check, Changes}
use Rattle.histar_rules.specs.Sound.{root_number, IsSound}
use Rattle.histar_rules.proofs.Passing.{unless_none, first, rest, passes, caller_is}
use Rattle.histar_rules.specs.Visible.{IsTaintedCaller}
use Rattle.histar_rules.proofs.Tainted.{IsTainted}
use Rattle.histar_rules.proofs.TaintedMoves.{Moved, stays, tainted, gone}

-- of two tests that both pass, the first passes
and_first : (a b : Bool) → (a && b) ≡ true → a ≡ true
and_first true b e = refl
and_first false b e = e

-- so does the first of three
first_of_three : (a b c : Bool) → (a && b && c) ≡ true → a ≡ true
first_of_three a b c e = and_first a b (and_first (a && b) c e)

-- no level is above 3
at_least_three : (l : Level) → rank L3 ≤ rank l → l ≡ L3
at_least_three Star h = absurd (omega (arith, h))
at_least_three L0 h = absurd (omega (arith, h))
at_least_three L1 h = absurd (omega (arith, h))
at_least_three L2 h = absurd (omega (arith, h))
at_least_three L3 h = refl

-- the floor of 3 and a level other than star is 3
floor_of_three : (m : Level) → m ≢ Star → lowered (max 4 (raised m)) ≡ 4
floor_of_three Star other = absurd (other refl)
floor_of_three L0 other = refl
floor_of_three L1 other = refl
floor_of_three L2 other = refl
floor_of_three L3 other = refl

-- where a test of a label and a clearance passes, both are there
both_some : (l : Levels) (c : Option Levels) (test : Levels → Levels → Bool) → both (Some l) c test ≡ true
    → (own_clearance : Levels) × (test l own_clearance ≡ true)
both_some l None test e = cc
both_some l (Some own_clearance) test e = (own_clearance, e)

-- a label between two labels is above the first
between_low : (l : Levels) (c : Option Levels) (label : Levels) → between (Some l) c label ≡ true → is_below l label ≡ true
between_low l None label e = cc
between_low l (Some own_clearance) label e = and_first (is_below l label) (is_below label own_clearance) e

-- an object that is reached from one that a container links is reached from the container
link_then : {L : Type 0} (objects : Objects L) (d o : ℕ) → set.contains (links_in (objects d)) o ≡ true → (q : ℕ)
    → Reached objects o q → Reached objects d q
link_then objects d o k q here = there d o here k
link_then objects d o k q (there p c r l) = there p q (link_then objects d o k p r) l

module _ (v : ℕ) where
  -- a label above one with v at 3 has v at 3
  above_three : (L M : Levels) → level_of L v ≡ L3 → is_below L M ≡ true → level_of M v ≡ L3
  above_three L M three below =
      at_least_three (level_of M v)
      (subst (λ (l : Level). rank l ≤ rank (level_of M v)) three ((is_below-law L M).0 below v))

  -- so has the floor of one with v at 3 and one that doesn't own v
  floor_three : (L M : Levels) → level_of L v ≡ L3 → level_of M v ≢ Star → level_of (floor_of L M) v ≡ L3
  floor_three L M three other =
      let is : rank (level_of (floor_of L M) v) ≡ 4 =
      grades-floor_of L M v ∙ ap (λ (l : Level). lowered (max (raised l) (raised (level_of M v)))) three
      ∙ floor_of_three (level_of M v) other in
      at_least_three (level_of (floor_of L M) v) (omega (arith, is))

  -- another level at another category leaves the level at v
  other_level : (L : Levels) (c : ℕ) (l : Level) → v ≢ c → level_of (with_level L c l) v ≡ level_of L v
  other_level L c l other = elim (eqb_tells v c) [
    | inl e ↦ absurd (other e.1)
    | inr e ↦ level_of-with_level L c l v ∙ ap (λ b. if b then l else level_of L v) e.0
  ]

  -- a caller that is a thread is tainted
  caller_tainted : (f : Found)
      → ((o : Object Levels) → f ≡ Some o → kind_is_thread o.kind ≡ true → level_of o.label v ≡ L3) → is_thread f ≡ true
      → IsTainted v f
  caller_tainted None confined thread = tt
  caller_tainted (Some o) confined thread = confined o refl thread

  -- a label in the range of a tainted thread has v at 3
  range_tainted : (f : Found) (label : Levels) → IsTainted v f → in_range f label ≡ true → level_of label v ≡ L3
  range_tainted None label h e = cc
  range_tainted (Some o) label h e = above_three o.label label h (between_low o.label (kind_clearance o.kind) label e)

  span_tainted : (f : Found) (label clearance : Levels) → IsTainted v f → in_span f label clearance ≡ true → level_of label v ≡ L3
  span_tainted None label clearance h e = cc
  span_tainted (Some o) label clearance h e =
      let is =
      both_some o.label (kind_clearance o.kind)
      (λ own own_clearance. is_below own label && is_below label clearance && is_below clearance own_clearance)
      e in
      above_three o.label label h (first_of_three (is_below o.label label) (is_below label clearance) (is_below clearance is.0) is.1)

  -- so has a label behind a gate that doesn't own v
  gate_tainted : (f g : Found) (label clearance : Levels) → IsTainted v f
      → ((o : Object Levels) → g ≡ Some o → level_of o.label v ≢ Star) → in_gate f g label clearance ≡ true
      → level_of label v ≡ L3
  gate_tainted None g label clearance h other e = cc
  gate_tainted (Some t) None label clearance h other e =
      let is = both_some t.label (kind_clearance t.kind) (λ own own_clearance. false) e in cc
  gate_tainted (Some t) (Some g) label clearance h other e =
      let outer =
      both_some t.label (kind_clearance t.kind) (λ own own_clearance. both (Some g.label) (kind_clearance g.kind)
      (λ gate_label gate_clearance. is_below (floor_of own gate_label) label && is_below label clearance
      && is_below_join clearance own_clearance gate_clearance)) e in
      let is =
      both_some g.label (kind_clearance g.kind)
      (λ gate_label gate_clearance. is_below (floor_of t.label gate_label) label && is_below label clearance
      && is_below_join clearance outer.0 gate_clearance) outer.1 in
      above_three (floor_of t.label g.label) label (floor_three t.label g.label h (other g refl))
      (first_of_three (is_below (floor_of t.label g.label) label) (is_below label clearance)
      (is_below_join clearance outer.0 is.0) is.1)

  -- an object that a tainted thread may modify is tainted
  modified_tainted : (f g : Found) → IsTainted v f → modifies f g ≡ true → IsTainted v g
  modified_tainted None g h e = cc
  modified_tainted (Some t) None h e = tt
  modified_tainted (Some t) (Some a) h e = above_three t.label a.label h (and_first (is_below t.label a.label) _ e)

  -- a changed object whose new label is tainted is tainted
  map_tainted : (change : Object Levels → Object Levels) (f : Found)
      → ((o : Object Levels) → f ≡ Some o → level_of (change o).label v ≡ L3) → IsTainted v (option_map change f)
  map_tainted change None all = tt
  map_tainted change (Some o) all = all o refl

  -- a change that leaves the label leaves a tainted object tainted
  same_tainted : (change : Object Levels → Object Levels) (f : Found)
      → ((o : Object Levels) → (change o).label ≡ o.label) → IsTainted v f → IsTainted v (option_map change f)
  same_tainted change f same h = map_tainted change f (λ o i. ap (λ (L : Levels). level_of L v) (same o) ∙ subst (IsTainted v) i h)

  module _ (objects : Objects Levels) where
    -- only tainted objects change where a tainted object is changed
    changed_moves : (n : ℕ) (change : Object Levels → Object Levels) → IsTainted v (objects n)
        → ((o : Object Levels) → objects n ≡ Some o → level_of (change o).label v ≡ L3) → (q : ℕ)
        → Moved v objects (changed_at objects n change) q
    changed_moves n change h all q = elim (eqb_tells q n) [
      | inl e ↦ tainted (subst (λ (k : ℕ). IsTainted v (objects k)) (sym e.1) h)
          (subst (λ (k : ℕ). IsTainted v (changed_at objects n change k)) (sym e.1)
          (subst (IsTainted v) (sym (changed_here objects n change)) (map_tainted change (objects n) all)))
      | inr e ↦ stays (changed_other objects n change q e.1)
    ]

    -- where a tainted object is put in the place of a tainted one
    put_moves : (n : ℕ) (o : Object Levels) → IsTainted v (objects n) → level_of o.label v ≡ L3 → (q : ℕ) → Moved v objects (put objects n o) q
    put_moves n o h three q = elim (eqb_tells q n) [
      | inl e ↦
          tainted (subst (λ (k : ℕ). IsTainted v (objects k)) (sym e.1) h)
          (subst (λ (k : ℕ). IsTainted v (put objects n o k)) (sym e.1)
          (subst (IsTainted v) (sym (put_here objects n o)) three))
      | inr e ↦ stays (put_other objects n o q e.1)
    ]

    -- where a tainted object is linked in a tainted container
    new_moves : (d n : ℕ) (o : Object Levels) → objects n ≡ None → IsTainted v (objects d) → level_of o.label v ≡ L3
        → (q : ℕ) → Moved v objects (with_new objects d n o) q
    new_moves d n o none h three q = elim (eqb_tells q n) [
      | inl e ↦ tainted (subst (IsTainted v) (sym (ap objects e.1 ∙ none)) tt)
          (subst (λ (k : ℕ). IsTainted v (with_new objects d n o k)) (sym e.1) (subst (IsTainted v) (sym (new_there objects n d o)) three))
      | inr e ↦ elim (eqb_tells q d) [
        | inl i ↦ tainted (subst (λ (k : ℕ). IsTainted v (objects k)) (sym i.1) h)
            (subst (IsTainted v) (sym (put_other (changed_at objects d (linking n)) n o q e.1
            ∙ ap (changed_at objects d (linking n)) i.1 ∙ changed_here objects d (linking n)))
            (same_tainted (linking n) (objects d) (λ p. refl) h))
        | inr i ↦ stays (new_other objects n d o q e.1 i.1)
      ]
    ]

    -- and where an object that a tainted container links is cut off
    cut_moves : (d o : ℕ) (new : Objects Levels) → IsTainted v (objects d)
        → set.contains (links_in (objects d)) o ≡ true → IsCut objects d o new
        → ((q : ℕ) → Reached objects o q ⊎ (Reached objects o q → ⊥)) → (q : ℕ) → Moved v objects new q
    cut_moves d o new h linked is_cut decided q = elim (decided q) [
      | inl r ↦ gone d h (link_then objects d o linked q r) (is_cut.gone q r)
      | inr not ↦ elim (eqb_tells q d) [
        | inl e ↦ tainted (subst (λ (k : ℕ). IsTainted v (objects k)) (sym e.1) h)
            (subst (λ (k : ℕ). IsTainted v (new k)) (sym e.1)
            (subst (IsTainted v) (sym is_cut.unlinked) (same_tainted (unlinking o) (objects d) (λ p. refl) h)))
        | inr e ↦ stays (is_cut.stays q not e.1)
      ]
    ]

  module _ (s : State) (t : ℕ) (sound : IsSound s) (made : v < s.next_category)
      (closed : (q : ℕ) (o : Object Levels) → s.objects q ≡ Some o → kind_is_gate o.kind ≡ true
      → level_of o.label v ≢ Star) (confined : IsTaintedCaller s v t) where
    caller : no_thread s t ≡ None → IsTainted v (s.objects t)
    caller e = caller_tainted (s.objects t) confined (caller_is s t e)

    container_caller : (d : ℕ) → no_container s t d ≡ None → IsTainted v (s.objects t)
    container_caller d e = caller (first (no_thread s t) _ e)

    link_caller : (d o : ℕ) → no_link s t d o ≡ None → IsTainted v (s.objects t)
    link_caller d o e = container_caller d (first (no_container s t d) _ e)

    -- a container in which the caller may make an object is tainted
    making_tainted : (d : ℕ) → no_making s t d ≡ None → IsTainted v (s.objects d)
    making_tainted d e =
        modified_tainted (s.objects t) (s.objects d) (container_caller d (first (no_container s t d) _ e))
        (unless_none (modifies (s.objects t) (s.objects d)) Modify (rest (no_container s t d) _ e))

    making_caller : (d : ℕ) → no_making s t d ≡ None → IsTainted v (s.objects t)
    making_caller d e = container_caller d (first (no_container s t d) _ e)

    -- only tainted objects change where an object is made whose label was tested
    making_moves : (d : ℕ) (o : Object Levels) (test : Bool) (later : Option Denied)
        → (IsTainted v (s.objects t) → test ≡ true → level_of o.label v ≡ L3)
        → (no_making s t d orelse unless test Range orelse later) ≡ None → (q : ℕ) → Moved v s.objects (with_object s d o).objects q
    making_moves d o test later taints e =
        let may = first (no_making s t d) _ e in
        let ranged = passes test Range later (rest (no_making s t d) _ e) in
        new_moves s.objects d s.next_object o (none_next s.objects root_number s.next_object sound.tree)
        (making_tainted d may) (taints (making_caller d may) ranged.0)

    -- and where a category is made, which is not v
    category_moves : check s t MakeCategory ≡ None → (q : ℕ) → Moved v s.objects (with_category s t).objects q
    category_moves e =
        let h = caller (first (no_thread s t) _ e) in
        changed_moves s.objects t (with_star_at s.next_category) h (λ o i.
        other_level o.label s.next_category Star (λ same. omega (arith, made, same)) ∙ subst (IsTainted v) i h)

    label_moves : (label : Levels) → check s t (SetLabel label) ≡ None → (q : ℕ) → Moved v s.objects (with_changed s t (with_label label)).objects q
    label_moves label e =
        let h = caller (first (no_thread s t) _ e) in
        let ranged = passes (in_range (s.objects t) label) Range _ (rest (no_thread s t) _ e) in
        changed_moves s.objects t (with_label label) h (λ o i. range_tainted (s.objects t) label h ranged.0)

    clearance_moves : (clearance : Levels) → check s t (SetClearance clearance) ≡ None → (q : ℕ)
        → Moved v s.objects (with_changed s t (with_clearance clearance)).objects q
    clearance_moves clearance e =
        let h = caller (first (no_thread s t) _ e) in
        changed_moves s.objects t (with_clearance clearance) h (λ o i. subst (IsTainted v) i h)

    -- a gate that is there doesn't own v
    gate_closed : (o : ℕ) → is_gate (s.objects o) ≡ true → (p : Object Levels) → s.objects o ≡ Some p → level_of p.label v ≢ Star
    gate_closed o gate p i = closed o p i (sym (ap is_gate i) ∙ gate)

    enter_moves : (d o : ℕ) (wanted clearance verify : Levels) → check s t (Enter d o wanted clearance verify) ≡ None
        → (q : ℕ) → Moved v s.objects (with_own s t wanted clearance).objects q
    enter_moves d o wanted clearance verify e =
        let gate = first (no_gate s t d o) _ e in
        let h = link_caller d o (first (no_link s t d o) _ gate) in
        let is = unless_none (is_gate (s.objects o)) BadKind (rest (no_link s t d o) _ gate) in
        let let_in = passes (is_let_in (s.objects t) (s.objects o)) Gate _ (rest (no_gate s t d o) _ e) in
        let under = passes (is_own_below (s.objects t) verify) Gate _ let_in.1 in
        let ranged = passes (in_gate (s.objects t) (s.objects o) wanted clearance) Range _ under.1 in
        put_moves s.objects t (thread_of wanted clearance) h (gate_tainted (s.objects t) (s.objects o) wanted clearance h (gate_closed o is) ranged.0)

    write_moves : (d o keep : ℕ) (bytes new : List ℕ) → check s t (Write d o keep bytes) ≡ None → (q : ℕ)
        → Moved v s.objects (with_segment_bytes s o new).objects q
    write_moves d o keep bytes new e =
        let segment = first (no_segment s t d o) _ e in
        let h = link_caller d o (first (no_link s t d o) _ segment) in
        let modified = passes (modifies (s.objects t) (s.objects o)) Modify _ (rest (no_segment s t d o) _ e) in
        let there = modified_tainted (s.objects t) (s.objects o) h modified.0 in
        changed_moves s.objects o (holding new) there (λ p i. subst (IsTainted v) i there)

    unlink_moves : (d o : ℕ) (new : State) → check s t (Unlink d o) ≡ None → CutsOff s d o new → (q : ℕ) → Moved v s.objects new.objects q
    unlink_moves d o new e cut =
        let link = first (no_link s t d o) _ e in
        let linked = unless_none (set.contains (links_in (s.objects d)) o) NoEntry (rest (no_container s t d) _ link) in
        let there =
        modified_tainted (s.objects t) (s.objects d) (link_caller d o link)
        (unless_none (modifies (s.objects t) (s.objects d)) Modify (rest (no_link s t d o) _ e)) in
        cut_moves s.objects d o new.objects there linked cut.is_cut (reached_decided s.objects root_number s.next_object sound.tree d o linked)

    -- and so where the new state equals this one
    to : (new is : State) → new ≡ is → ((q : ℕ) → Moved v s.objects is.objects q) → (q : ℕ) → Moved v s.objects new.objects q
    to new is same moves = subst (λ (x : State). (q : ℕ) → Moved v s.objects x.objects q) (sym same) moves

    -- a granted call changes only tainted objects
    pub granted_moves : (call : RawCall) (new : State) → check s t call ≡ None → Changes s t call new → (q : ℕ) → Moved v s.objects new.objects q
    granted_moves MakeCategory new e is = to new (with_category s t) is (category_moves e)
    granted_moves OwnLabel new e is = to new s is (λ q. stays refl)
    granted_moves (SetLabel label) new e is = to new (with_changed s t (with_label label)) is (label_moves label e)
    granted_moves (SetClearance clearance) new e is = to new (with_changed s t (with_clearance clearance)) is (clearance_moves clearance e)
    granted_moves (MakeSegment d label bytes) new e is =
        to new (with_object s d (record { label = label; kind = Segment bytes })) is
        (making_moves d (record { label = label; kind = Segment bytes }) (in_range (s.objects t) label) _
        (range_tainted (s.objects t) label) e)
    granted_moves (MakeContainer d label) new e is =
        to new (with_object s d (record { label = label; kind = Container set.empty })) is
        (making_moves d (record { label = label; kind = Container set.empty }) (in_range (s.objects t) label) _
        (range_tainted (s.objects t) label) e)
    granted_moves (MakeThread d label clearance) new e is =
        to new (with_object s d (thread_of label clearance)) is (making_moves d (thread_of label clearance)
        (in_span (s.objects t) label clearance) _ (span_tainted (s.objects t) label clearance) e)
    granted_moves (MakeGate d label clearance entry) new e is =
        to new (with_object s d (record { label = label; kind = gates.Gate clearance entry })) is
        (making_moves d (record { label = label; kind = gates.Gate clearance entry })
        (in_span (s.objects t) label clearance) _ (span_tainted (s.objects t) label clearance) e)
    granted_moves (Enter d o wanted clearance verify) new e is = to new (with_own s t wanted clearance) is (enter_moves d o wanted clearance verify e)
    granted_moves (Read d o) new e is = to new s is (λ q. stays refl)
    granted_moves (Write d o keep bytes) new e is =
        to new (with_segment_bytes s o (take keep (bytes_in (s.objects o)) ++ bytes)) is
        (write_moves d o keep bytes (take keep (bytes_in (s.objects o)) ++ bytes) e)
    granted_moves (Unlink d o) new e is = unlink_moves d o new e is
    granted_moves (LabelOf d o) new e is = to new s is (λ q. stays refl)

-- no call makes the number of categories smaller
pub later_category : (s new : State) (t : ℕ) (call : RawCall) → Changes s t call new → s.next_category ≤ new.next_category
later_category s new t MakeCategory is = subst (λ (x : State). s.next_category ≤ x.next_category) (sym is) (omega arith)
later_category s new t OwnLabel is = subst (λ (x : State). s.next_category ≤ x.next_category) (sym is) (omega arith)
later_category s new t (SetLabel label) is = subst (λ (x : State). s.next_category ≤ x.next_category) (sym is) (omega arith)
later_category s new t (SetClearance clearance) is = subst (λ (x : State). s.next_category ≤ x.next_category) (sym is) (omega arith)
later_category s new t (MakeSegment d label bytes) is = subst (λ (x : State). s.next_category ≤ x.next_category) (sym is) (omega arith)
later_category s new t (MakeContainer d label) is = subst (λ (x : State). s.next_category ≤ x.next_category) (sym is) (omega arith)
later_category s new t (MakeThread d label clearance) is = subst (λ (x : State). s.next_category ≤ x.next_category) (sym is) (omega arith)
later_category s new t (MakeGate d label clearance entry) is = subst (λ (x : State). s.next_category ≤ x.next_category) (sym is) (omega arith)
later_category s new t (Enter d o wanted clearance verify) is = subst (λ (x : State). s.next_category ≤ x.next_category) (sym is) (omega arith)
later_category s new t (Read d o) is = subst (λ (x : State). s.next_category ≤ x.next_category) (sym is) (omega arith)
later_category s new t (Write d o keep bytes) is = subst (λ (x : State). s.next_category ≤ x.next_category) (sym is) (omega arith)
later_category s new t (Unlink d o) is = omega (arith, is.next_category)
later_category s new t (LabelOf d o) is = subst (λ (x : State). s.next_category ≤ x.next_category) (sym is) (omega arith)
