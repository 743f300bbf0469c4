-- A seal stays where a thread makes a raw call that is tainted in the category, or neither is tainted in it nor owns it.
use Rattle.std.proofs.Common.{◌≡◌, ◌≢◌, ℕ, ◌<◌, ◌≤◌, nat_eq, true, not, ◌++◌, None, Some, ◌⊎◌, inl, inr, take}
use Rattle.std.proofs.Common.{arith, refl, sym, ap, ◌∙◌, subst}
use Rattle.std.specs.Prelude.{option_map}
use Rattle.std.specs.FinSet as set
use Rattle.std.specs.Ordering.{nat_cmp}
use mathlib.Core.Bool.{true≢false, false≢true}
use Rattle.std.proofs.lemmas.Bool.Decides.{eqb_tells, leb_tells}
use Rattle.histar_level.specs.declared.level.Level.TheVariants.{Star, L3}
use Rattle.histar_level.specs.Levels.{Levels, level_of}
use Rattle.histar_object.specs.declared.objects.Kind.{Kind}
use Rattle.histar_object.specs.declared.objects.Kind.TheVariants.{Segment, Container, Thread}
use Rattle.histar_object.specs.declared.objects.Kind.TheVariants as gates
use Rattle.histar_object.specs.declared.objects.Object.{Object}
use Rattle.histar_object.specs.Objects.{Objects, put, changed_at, with_new, holding, linking, unlinking, thread_of}
use Rattle.histar_object.specs.Objects.{links_in, kind_links, bytes_in, is_thread, is_present}
use Rattle.histar_object.specs.State.{State, Found, observes, with_object, with_own, with_segment_bytes}
use Rattle.histar_container.specs.ObjectsModel.{CutsOff}
use Rattle.histar_container.specs.Tree.{Reached, here, there, wanted as expected_at, objects_at}
use Rattle.histar_container.proofs.Links.{none_linked, linked_links, unlinked_links}
use Rattle.histar_container.proofs.TableMoves.{put_here, put_other, changed_here, changed_other, new_there, new_holder, new_other}
use Rattle.histar_container.proofs.Trees.{kind_held_links, none_next, linked_there, reached_decided}
use Rattle.histar_rules.specs.Rights.{kind_with_three_at, kind_with_clearance, with_star_at, with_label, with_clearance, with_changed, with_category}
use Rattle.histar_rules.specs.declared.raw.Denied.TheVariants.{NoEntry}
use Rattle.histar_rules.specs.declared.raw.RawCall.{RawCall}
use Rattle.histar_rules.specs.declared.raw.RawCall.TheVariants.{MakeCategory, OwnLabel, SetLabel, SetClearance, MakeSegment, MakeContainer}
use Rattle.histar_rules.specs.declared.raw.RawCall.TheVariants.{MakeThread, MakeGate, Enter, Read, Write, Unlink, LabelOf}
use Rattle.histar_rules.specs.Rules.{no_thread, no_container, no_link, no_gate, no_making, check, Changes}
use Rattle.histar_rules.specs.Sound.{root_number, IsSound}
use Rattle.histar_rules.specs.Visible.{IsTaintedCaller}
use Rattle.histar_rules.proofs.Passing.{unless_none, first, rest, caller_is, container_is}
use Rattle.histar_rules.proofs.Tainted.{IsTainted}
use Rattle.histar_rules.proofs.TaintedMoves.{Moved, stays, tainted, gone}
use Rattle.histar_rules.proofs.TaintedCalls.{granted_moves}
use Rattle.histar_unwinding.specs.Alike.{IsClosed}
use Rattle.histar_unwinding.specs.Sealed.{IsSealed, IsPlainCaller, SealsStay}
use Rattle.histar_unwinding.proofs.Shown.{observed_clear}
use Rattle.histar_unwinding.proofs.Moves.{or_case, and_both, tested_same}
use Rattle.histar_unwinding.proofs.Checks.{container_seen}
use Rattle.histar_unwinding.proofs.Respect.{later_object}

-- an object that is there has a number below the next one
pub below_next : (s : State) → IsSound s → (q : ℕ) → is_present (s.objects q) ≡ true → q < s.next_object
below_next s sound q is = elim (leb_tells s.next_object q) [
  | inl h ↦
      let none : s.objects q ≡ None =
      sound.tree.matched.as_expected q ∙ ap (expected_at (objects_at s.objects sound.tree.naming)) (sound.tree.matched.unused q h.1) in
      absurd (false≢true (sym (ap is_present none) ∙ is))
  | inr h ↦ h.1
]

-- no link leads from where nothing is
nothing_linked : (f : Found) (c : ℕ) → f ≡ None → set.contains (links_in f) c ≡ true → ⊥
nothing_linked f c none k = true≢false (sym k ∙ ap (λ (g : Found). set.contains (links_in g) c) none ∙ sym (none_linked c))

-- a thread that is made links nothing
thread_linked : (f : Found) (label clearance : Levels) (c : ℕ) → f ≡ Some (thread_of label clearance) → set.contains (links_in f) c ≡ true → ⊥
thread_linked f label clearance c is k = true≢false (sym k ∙ ap (λ (g : Found). set.contains (links_in g) c) is ∙ sym (none_linked c))

owning_links : (c : ℕ) (k : Kind Levels) → kind_links (kind_with_three_at c k) ≡ kind_links k
owning_links c (Segment bytes) = refl
owning_links c (Container links) = refl
owning_links c (Thread clearance) = refl
owning_links c (gates.Gate clearance entry) = refl

clearing_links : (new : Levels) (k : Kind Levels) → kind_links (kind_with_clearance new k) ≡ kind_links k
clearing_links new (Segment bytes) = refl
clearing_links new (Container links) = refl
clearing_links new (Thread clearance) = refl
clearing_links new (gates.Gate clearance entry) = refl

module _ (objects : Objects Levels) where
  -- a change of an object that leaves its links leaves all links
  same_links : (change : Object Levels → Object Levels) (f : Found) → ((o : Object Levels) → kind_links (change o).kind ≡ kind_links o.kind)
      → links_in (option_map change f) ≡ links_in f
  same_links change None same = refl
  same_links change (Some o) same = same o

  changed_links : (n : ℕ) (change : Object Levels → Object Levels) → ((o : Object Levels) → kind_links (change o).kind ≡ kind_links o.kind)
      → (p c : ℕ) → set.contains (links_in (changed_at objects n change p)) c ≡ true → set.contains (links_in (objects p)) c ≡ true
  changed_links n change same p c k = elim (eqb_tells p n) [
    | inl e ↦
        ap (λ links. set.contains links c)
        (ap (λ (m : ℕ). links_in (objects m)) e.1 ∙ sym (same_links change (objects n) same) ∙ ap links_in (sym (changed_here objects n change))
        ∙ ap (λ (m : ℕ). links_in (changed_at objects n change m)) (sym e.1)) ∙ k
    | inr e ↦ ap (λ (f : Found). set.contains (links_in f) c) (sym (changed_other objects n change p e.1)) ∙ k
  ]

module _ (s new : State) (t : ℕ) (sound : IsSound s) where
  -- a link was there before, or leads to the new object from a container that the thread observes
  abbrev WasLinked : ℕ → ℕ → Type 0
  WasLinked p c = (set.contains (links_in (s.objects p)) c ≡ true) ⊎ ((c ≡ s.next_object) × (observes (s.objects t) (s.objects p) ≡ true))

  -- where the new state is this one
  abbrev Links : State → Type 0
  Links z = (p c : ℕ) → set.contains (links_in (z.objects p)) c ≡ true → WasLinked p c

  to : (z : State) → new ≡ z → Links z → Links new
  to z is links = subst Links (sym is) links

  -- an object is made that links nothing
  made_links : (d : ℕ) (x : Object Levels) → ((c : ℕ) → set.contains (kind_links x.kind) c ≡ true → ⊥) → no_making s t d ≡ None
      → Links (with_object s d x)
  made_links d x leaf e p c k =
      let passed = first (no_container s t d) _ e in
      let container = container_is s t d passed in
      let free = none_next s.objects root_number s.next_object sound.tree in
      elim (eqb_tells p s.next_object) [
        | inl i ↦
            absurd (leaf c
            (ap (λ (f : Found). set.contains (links_in f) c)
            (sym (new_there s.objects s.next_object d x) ∙ ap (with_new s.objects d s.next_object x) (sym i.1)) ∙ k))
        | inr i ↦ elim (eqb_tells p d) [
          | inl j ↦
              let apart : d ≢ s.next_object = λ same. i.1 (j.1 ∙ same) in
              elim (or_case (nat_eq c s.next_object) (set.contains (links_in (s.objects d)) c)
              (sym (linked_links (s.objects d) s.next_object c container)
              ∙ ap (λ (f : Found). set.contains (links_in f) c)
              (sym (new_holder s.objects s.next_object d x apart) ∙ ap (with_new s.objects d s.next_object x) (sym j.1)) ∙ k)) [
                | inl same ↦ inr (
                  tested_same c s.next_object same,
                  ap (λ (m : ℕ). observes (s.objects t) (s.objects m)) j.1 ∙ container_seen s t d passed,
                )
                | inr linked ↦ inl (ap (λ (m : ℕ). set.contains (links_in (s.objects m)) c) j.1 ∙ linked)
              ]
          | inr j ↦ inl (ap (λ (f : Found). set.contains (links_in f) c) (sym (new_other s.objects s.next_object d x p i.1 j.1)) ∙ k)
        ]
      ]

  no_leaf : (c : ℕ) → set.contains (set.empty {R = nat_cmp}) c ≡ true → ⊥
  no_leaf c k = true≢false (sym k ∙ sym (none_linked c))

  -- an object is cut off
  cut_links : (d o : ℕ) → check s t (Unlink d o) ≡ None → CutsOff s d o new → Links new
  cut_links d o e cut p c k =
      let linked =
      unless_none (set.contains (links_in (s.objects d)) o) NoEntry (rest (no_container s t d) _ (first (no_link s t d o) _ e)) in
      elim (reached_decided s.objects root_number s.next_object sound.tree d o linked p) [
        | inl r ↦ absurd (nothing_linked (new.objects p) c (cut.is_cut.gone p r) k)
        | inr not ↦ elim (eqb_tells p d) [
          | inl i ↦ inl (ap (λ (m : ℕ). set.contains (links_in (s.objects m)) c) i.1
              ∙ (and_both (nat_eq c o) (set.contains (links_in (s.objects d)) c)
              (sym (unlinked_links (s.objects d) o c)
              ∙ ap (λ (f : Found). set.contains (links_in f) c) (sym (ap new.objects i.1 ∙ cut.is_cut.unlinked)) ∙ k)).1)
          | inr i ↦ inl (ap (λ (f : Found). set.contains (links_in f) c) (sym (cut.is_cut.stays p not i.1)) ∙ k)
        ]
      ]

  -- a granted call makes no other links
  links_before : (call : RawCall) → check s t call ≡ None → Changes s t call new → Links new
  links_before MakeCategory e is =
      to (with_category s t) is (λ p c k. inl (changed_links s.objects t (with_star_at s.next_category)
      (λ o. owning_links s.next_category o.kind) p c k))
  links_before OwnLabel e is = to s is (λ p c k. inl k)
  links_before (SetLabel label) e is =
      to (with_changed s t (with_label label)) is (λ p c k. inl (changed_links s.objects t (with_label label) (λ o. refl) p c k))
  links_before (SetClearance clearance) e is =
      to (with_changed s t (with_clearance clearance)) is (λ p c k. inl (changed_links s.objects t (with_clearance clearance)
      (λ o. clearing_links clearance o.kind) p c k))
  links_before (MakeSegment d label bytes) e is = to (with_object s d _) is (made_links d _ no_leaf (first (no_making s t d) _ e))
  links_before (MakeContainer d label) e is = to (with_object s d _) is (made_links d _ no_leaf (first (no_making s t d) _ e))
  links_before (MakeThread d label clearance) e is = to (with_object s d _) is (made_links d _ no_leaf (first (no_making s t d) _ e))
  links_before (MakeGate d label clearance entry) e is = to (with_object s d _) is (made_links d _ no_leaf (first (no_making s t d) _ e))
  links_before (Enter d o wanted clearance verify) e is =
      to (with_own s t wanted clearance) is (λ p c k. elim (eqb_tells p t) [
        | inl i ↦
            absurd (thread_linked (put s.objects t (thread_of wanted clearance) p) wanted clearance c
            (ap (put s.objects t (thread_of wanted clearance)) i.1 ∙ put_here s.objects t (thread_of wanted clearance)) k)
        | inr i ↦ inl (ap (λ (f : Found). set.contains (links_in f) c) (sym (put_other s.objects t (thread_of wanted clearance) p i.1)) ∙ k)
      ])
  links_before (Read d o) e is = to s is (λ p c k. inl k)
  links_before (Write d o keep bytes) e is =
      to (with_segment_bytes s o (take keep (bytes_in (s.objects o)) ++ bytes)) is
      (λ p c k. inl (changed_links s.objects o (holding (take keep (bytes_in (s.objects o)) ++ bytes)) (λ x. kind_held_links _ x.kind) p c k))
  links_before (Unlink d o) e cut = cut_links d o e cut
  links_before (LabelOf d o) e is = to s is (λ p c k. inl k)

module _ (v : ℕ) where
  -- what a tainted object is changed to is tainted, where its label stays
  label_tainted : (change : Object Levels → Object Levels) (f : Found) → ((o : Object Levels) → (change o).label ≡ o.label)
      → IsTainted v f → IsTainted v (option_map change f)
  label_tainted change None same h = h
  label_tainted change (Some o) same h = ap (λ (L : Levels). level_of L v) (same o) ∙ h

  -- a thread that is not tainted is not a tainted object
  not_tainted : (f : Found) → is_thread f ≡ true → ((o : Object Levels) → f ≡ Some o → (level_of o.label v ≢ L3) × (level_of o.label v ≢ Star))
      → IsTainted v f → ⊥
  not_tainted None e plain h = cc
  not_tainted (Some o) e plain h = (plain o refl).0 h

  -- what a plain thread observes is not tainted
  not_observed : (f g : Found) → ((o : Object Levels) → f ≡ Some o → (level_of o.label v ≢ L3) × (level_of o.label v ≢ Star))
      → observes f g ≡ true → IsTainted v g → ⊥
  not_observed None g plain e h = cc
  not_observed (Some o) g plain e h =
      let is = plain o refl in
      let seen = observed_clear v o is.1 is.0 g e in
      seen.2 (subst (IsTainted v) seen.1 h)

  module _ (s new : State) (t : ℕ) (sound : IsSound s) (plain : IsPlainCaller s v t) where
    -- an object that is tainted stays tainted, if it stays
    abbrev Stays : State → Type 0
    Stays z = (q : ℕ) → q < s.next_object → IsTainted v (s.objects q) → IsTainted v (z.objects q)

    on : (z : State) → new ≡ z → Stays z → Stays new
    on z is all = subst Stays (sym is) all

    -- the thread itself is another object
    other_than_caller : no_thread s t ≡ None → (q : ℕ) → IsTainted v (s.objects q) → q ≢ t
    other_than_caller e q h same = not_tainted (s.objects t) (caller_is s t e) plain (subst (λ (m : ℕ). IsTainted v (s.objects m)) same h)

    changed_stays : (change : Object Levels → Object Levels) → no_thread s t ≡ None → Stays (with_changed s t change)
    changed_stays change e q lt h =
        subst (IsTainted v) (sym (changed_other s.objects t change q (other_than_caller e q h))) h

    made_stays : (d : ℕ) (x : Object Levels) → Stays (with_object s d x)
    made_stays d x q lt h = elim (eqb_tells q s.next_object) [
      | inl e ↦ absurd (omega (arith, lt, e.1))
      | inr e ↦ elim (eqb_tells q d) [
        | inl i ↦
            subst (IsTainted v)
            (sym (ap (with_new s.objects d s.next_object x) i.1 ∙ new_holder s.objects s.next_object d x (λ same. e.1 (i.1 ∙ same))))
            (label_tainted (linking s.next_object) (s.objects d) (λ o. refl) (subst (λ (m : ℕ). IsTainted v (s.objects m)) i.1 h))
        | inr i ↦ subst (IsTainted v) (sym (new_other s.objects s.next_object d x q e.1 i.1)) h
      ]
    ]

    cut_stays : (d o : ℕ) → check s t (Unlink d o) ≡ None → CutsOff s d o new → Stays new
    cut_stays d o e cut q lt h =
        let linked =
        unless_none (set.contains (links_in (s.objects d)) o) NoEntry (rest (no_container s t d) _ (first (no_link s t d o) _ e)) in
        elim (reached_decided s.objects root_number s.next_object sound.tree d o linked q) [
          | inl r ↦ subst (IsTainted v) (sym (cut.is_cut.gone q r)) tt
          | inr not ↦ elim (eqb_tells q d) [
            | inl i ↦
                subst (IsTainted v) (sym (ap new.objects i.1 ∙ cut.is_cut.unlinked))
                (label_tainted (unlinking o) (s.objects d) (λ x. refl) (subst (λ (m : ℕ). IsTainted v (s.objects m)) i.1 h))
            | inr i ↦ subst (IsTainted v) (sym (cut.is_cut.stays q not i.1)) h
          ]
        ]

    tainted_stays : (call : RawCall) → check s t call ≡ None → Changes s t call new → Stays new
    tainted_stays MakeCategory e is = on (with_category s t) is (changed_stays (with_star_at s.next_category) (first (no_thread s t) _ e))
    tainted_stays OwnLabel e is = on s is (λ q lt h. h)
    tainted_stays (SetLabel label) e is = on (with_changed s t (with_label label)) is (changed_stays (with_label label) (first (no_thread s t) _ e))
    tainted_stays (SetClearance clearance) e is =
        on (with_changed s t (with_clearance clearance)) is (changed_stays (with_clearance clearance) (first (no_thread s t) _ e))
    tainted_stays (MakeSegment d label bytes) e is = on (with_object s d _) is (made_stays d _)
    tainted_stays (MakeContainer d label) e is = on (with_object s d _) is (made_stays d _)
    tainted_stays (MakeThread d label clearance) e is = on (with_object s d _) is (made_stays d _)
    tainted_stays (MakeGate d label clearance entry) e is = on (with_object s d _) is (made_stays d _)
    tainted_stays (Enter d o wanted clearance verify) e is =
        let called = first (no_thread s t) _ (first (no_container s t d) _ (first (no_link s t d o) _ (first (no_gate s t d o) _ e))) in
        on (with_own s t wanted clearance) is
        (λ q lt h. subst (IsTainted v) (sym (put_other s.objects t (thread_of wanted clearance) q (other_than_caller called q h))) h)
    tainted_stays (Read d o) e is = on s is (λ q lt h. h)
    tainted_stays (Write d o keep bytes) e is =
        on (with_segment_bytes s o (take keep (bytes_in (s.objects o)) ++ bytes)) is (λ q lt h. elim (eqb_tells q o) [
          | inl i ↦
              subst (IsTainted v)
              (sym (ap (changed_at s.objects o (holding (take keep (bytes_in (s.objects o)) ++ bytes))) i.1 ∙ changed_here s.objects o _))
              (label_tainted (holding (take keep (bytes_in (s.objects o)) ++ bytes)) (s.objects o) (λ x. refl)
              (subst (λ (m : ℕ). IsTainted v (s.objects m)) i.1 h))
          | inr i ↦ subst (IsTainted v) (sym (changed_other s.objects o _ q i.1)) h
        ])
    tainted_stays (Unlink d o) e cut = cut_stays d o e cut
    tainted_stays (LabelOf d o) e is = on s is (λ q lt h. h)

  module _ (s new : State) (d : ℕ) (sound : IsSound s) (sealed : IsSealed s v d) where
    -- what is at a number that is reached from d is tainted
    reached_tainted : (q : ℕ) → Reached s.objects d q → IsTainted v (s.objects q)
    reached_tainted q r = by (s.objects q) refl
      where
        by : (f : Found) → s.objects q ≡ f → IsTainted v f
        by None e = tt
        by (Some o) e = sealed.tainted q o r e

    -- and the number was given
    reached_given : (q : ℕ) → Reached s.objects d q → q < s.next_object
    reached_given q here = sealed.given
    reached_given q (there p c r k) = below_next s sound q (linked_there s.objects root_number s.next_object sound.tree p q k)

    module _ (levels : (q : ℕ) → q < s.next_object → IsTainted v (s.objects q) → IsTainted v (new.objects q))
        (links : (p c : ℕ) → IsTainted v (s.objects p) → set.contains (links_in (new.objects p)) c ≡ true
        → (set.contains (links_in (s.objects p)) c ≡ true) ⊎ ((c ≡ s.next_object) × IsTainted v (new.objects c)))
        (later : s.next_object ≤ new.next_object) where
      -- a number that is reached now was reached, or is that of a new tainted object
      abbrev WasReached : ℕ → Type 0
      WasReached q = Reached s.objects d q ⊎ ((q ≡ s.next_object) × IsTainted v (new.objects q))

      was_reached : (q : ℕ) → Reached new.objects d q → WasReached q
      was_reached q here = inl here
      was_reached q (there p c r k) = elim (was_reached p r) [
        | inl up ↦ elim (links p q (reached_tainted p up) k) [
          | inl old ↦ inl (there p q up old)
          | inr is ↦ inr is
        ]
        | inr e ↦
            let none : s.objects p ≡ None = ap s.objects e.0 ∙ none_next s.objects root_number s.next_object sound.tree in
            elim (links p q (subst (IsTainted v) (sym none) tt) k) [
              | inl old ↦ absurd (nothing_linked (s.objects p) q none old)
              | inr is ↦ inr is
            ]
      ]

      sealed_still : IsSealed new v d
      sealed_still = record {
        given = let g = sealed.given in omega (arith, g, later);
        tainted = λ q o r i. elim (was_reached q r) [
          | inl old ↦ subst (IsTainted v) i (levels q (reached_given q old) (reached_tainted q old))
          | inr is ↦ subst (IsTainted v) i is.1
        ];
      }

-- what moves is tainted where it was
moved_tainted : (v : ℕ) (old new : Objects Levels) (q : ℕ) → Moved v old new q → IsTainted v (old q) → IsTainted v (new q)
moved_tainted v old new q (stays e) h = subst (IsTainted v) (sym e) h
moved_tainted v old new q (tainted g k) h = k
moved_tainted v old new q (gone d g r e) h = subst (IsTainted v) (sym e) tt

module _ (v d : ℕ) (s new : State) (t : ℕ) (sound : IsSound s) (closed : IsClosed s v) (sealed : IsSealed s v d) where
  -- a granted call of a tainted thread
  tainted_keeps : (call : RawCall) → IsTaintedCaller s v t → check s t call ≡ None → Changes s t call new → IsSealed new v d
  tainted_keeps call caller e is =
      let moved = granted_moves v s t sound closed.made closed.gates caller call new e is in
      sealed_still v s new d sound sealed (λ q lt h. moved_tainted v s.objects new.objects q (moved q) h)
      (λ p c h k. elim (links_before s new t sound call e is p c k) [
        | inl old ↦ inl old
        | inr x ↦ inr (
          x.0,
          moved_tainted v s.objects new.objects c (moved c)
              (subst (IsTainted v) (sym (ap s.objects x.0 ∙ none_next s.objects root_number s.next_object sound.tree)) tt),
        )
      ]) (later_object s new t call is)

  -- a granted call of a thread that neither is tainted nor owns v
  plain_keeps : (call : RawCall) → IsPlainCaller s v t → check s t call ≡ None → Changes s t call new → IsSealed new v d
  plain_keeps call plain e is =
      sealed_still v s new d sound sealed (tainted_stays v s new t sound plain call e is)
      (λ p c h k. elim (links_before s new t sound call e is p c k) [
        | inl old ↦ inl old
        | inr x ↦ absurd (not_observed v (s.objects t) (s.objects p) plain x.1 h)
      ]) (later_object s new t call is)

pub seals_stay : SealsStay
seals_stay v d s new t call None sound closed (inl caller) sealed e is = tainted_keeps v d s new t sound closed sealed call caller e is
seals_stay v d s new t call None sound closed (inr plain) sealed e is = plain_keeps v d s new t sound closed sealed call plain e is
seals_stay v d s new t call (Some denied) sound closed caller sealed e is = subst (λ (x : State). IsSealed x v d) (sym is) sealed
