-- Each raw call leaves a sound state sound, and the empty kernel is sound.
use Rattle.std.proofs.Common.{◌≡◌, ◌≢◌, ℕ, ◌+◌, ◌<◌, ◌||◌, ◌==◌, Bool, true, false, List, ◌++◌, Option, None, Some, Result, Ok, Err, take, arith}
use Rattle.std.proofs.Common.{refl, sym, ap, ◌∙◌, subst, lit<, if◌then◌else◌}
use Rattle.std.specs.Prelude.{not}
use Rattle.std.specs.FinSet as set
use Rattle.std.specs.Ordering.{nat_cmp}
use Rattle.std.proofs.lemmas.Bool.{not-true}
use Rattle.histar_base.specs.Refusals.{unless, ◌orelse◌}
use Rattle.histar_level.specs.declared.level.Level.TheVariants.{Star, L0, L1, L2, L3}
use Rattle.histar_level.specs.Levels.{Levels, level_of}
use Rattle.histar_label.specs.Levels.{constant, with_level, has_star}
use Rattle.histar_label.proofs.Readers.{level_of-constant, level_of-with_level}
use Rattle.histar_label.proofs.Made.{is_made-constant, is_made-with_level}
use Rattle.histar_label.proofs.Stars.{has_star-none}
use Rattle.histar_object.specs.declared.objects.Kind.TheVariants.{Segment, Container}
use Rattle.histar_object.specs.declared.objects.Kind.TheVariants as gates
use Rattle.histar_object.specs.declared.objects.Object.{Object}
use Rattle.histar_object.specs.Objects.{holding, thread_of, links_in, bytes_in, kind_links, is_container, is_thread, kind_is_segment}
use Rattle.histar_object.specs.Objects.{kind_is_container, kind_is_thread, kind_clearance, no_objects, put}
use Rattle.histar_rules.specs.Rights.{with_star_at, with_label, with_clearance, with_changed, with_category, in_span, may_clear, is_let_in}
use Rattle.histar_rules.specs.Rights.{is_own_below, in_gate}
use Rattle.histar_object.specs.State.{State, in_range, with_object, with_own, with_segment_bytes, root_object, boot_thread, empty_state}
use Rattle.histar_container.specs.ObjectsModel.{ObjectsModel, CutsOff, state_of}
use Rattle.histar_container.specs.Tree.{IsTree}
use Rattle.histar_container.proofs.Trees.{tree_put, tree_changed, tree_held, tree_new, tree_cut, reached_decided}
use Rattle.histar_container.proofs.Roots.{tree_empty_state}
use Rattle.histar_rules.specs.declared.raw.Denied.{Denied}
use Rattle.histar_rules.specs.declared.raw.Denied.TheVariants.{Range, Gate, NoEntry}
use Rattle.histar_rules.specs.declared.raw.Refusal.{Refusal}
use Rattle.histar_rules.specs.declared.raw.Refusal.TheVariants as refusals
use Rattle.histar_rules.specs.declared.raw.RawCall.{RawCall}
use Rattle.histar_rules.specs.declared.raw.RawCall.TheVariants.{MakeCategory, OwnLabel, SetLabel, SetClearance, MakeSegment, MakeContainer}
use Rattle.histar_rules.specs.declared.raw.RawCall.TheVariants.{MakeThread, MakeGate, Enter, Read, Write, Unlink, LabelOf}
use Rattle.histar_rules.specs.Rules.{no_thread, no_container, no_link, no_gate, no_making, known, check, Changes, DecidesAs}
use Rattle.histar_rules.specs.Sound.{root_number, IsWellLabelled, IsSound}
use Rattle.histar_rules.proofs.Passing.{unless_none, first, rest, passes, caller_is, container_is}
use Rattle.histar_rules.proofs.WellLabelled.{well_holding, well_plain, well_cleared, well_thread, well_relabelled, well_clearing, well_owning}
use Rattle.histar_rules.proofs.WellLabelled.{well_later, labelled_put, labelled_changed, labelled_cut, labelled_new}
use Rattle.histar_rules.proofs.Shapes.{thread_there, thread_links, clearing_links, cleared_links}

module _ (s : State) (sound : IsSound s) where
  -- the object at the number of a thread is a thread
  thread_at : (t : ℕ) → is_thread (s.objects t) ≡ true → (o : Object Levels) → s.objects t ≡ Some o → kind_is_thread o.kind ≡ true
  thread_at t thread o i = sym (ap is_thread i) ∙ thread

  -- a state stays sound where a thread gets another label and another clearance
  sound_with_own : (t : ℕ) (label clearance : Levels) → is_thread (s.objects t) ≡ true → known s label ≡ true
      → known s clearance ≡ true → IsSound (with_own s t label clearance)
  sound_with_own t label clearance thread l c = record {
    tree =
        tree_put s.objects root_number s.next_object sound.tree t (thread_of label clearance)
        (thread_there (s.objects t) thread)
        (λ q. ap (λ links. set.contains links q) (thread_links (s.objects t) thread));
    labelled = labelled_put s.next_category s.objects sound.labelled t (thread_of label clearance) (well_thread s.next_category label clearance l c);
    some_made = sound.some_made;
  }

  -- where a thread gets another label
  sound_relabelled : (t : ℕ) (label : Levels) → is_thread (s.objects t) ≡ true → known s label ≡ true → IsSound (with_changed s t (with_label label))
  sound_relabelled t label thread made = record {
    tree = tree_changed s.objects root_number s.next_object sound.tree t (with_label label) (λ o. refl);
    labelled =
        labelled_changed s.next_category s.objects sound.labelled t (with_label label)
        (λ o i. well_relabelled s.next_category label o (thread_at t thread o i) made (sound.labelled t o i));
    some_made = sound.some_made;
  }

  -- where a thread gets another clearance
  sound_clearing : (t : ℕ) (clearance : Levels) → is_thread (s.objects t) ≡ true → known s clearance ≡ true
      → IsSound (with_changed s t (with_clearance clearance))
  sound_clearing t clearance thread made = record {
    tree = tree_changed s.objects root_number s.next_object sound.tree t (with_clearance clearance) (λ o. clearing_links clearance o.kind);
    labelled =
        labelled_changed s.next_category s.objects sound.labelled t (with_clearance clearance)
        (λ o i. well_clearing s.next_category clearance o (thread_at t thread o i) made (sound.labelled t o i));
    some_made = sound.some_made;
  }

  -- where the thread t makes a category
  sound_category : (t : ℕ) → is_thread (s.objects t) ≡ true → IsSound (with_category s t)
  sound_category t thread =
      let later : (q : ℕ) (o : Object Levels) → s.objects q ≡ Some o → IsWellLabelled (s.next_category + 1) o =
      λ q o i. well_later s.next_category (s.next_category + 1) o (omega arith) (sound.labelled q o i) in
      record {
        tree =
            tree_changed s.objects root_number s.next_object sound.tree t (with_star_at s.next_category)
            (λ o. cleared_links s.next_category o.kind);
        labelled =
            labelled_changed (s.next_category + 1) s.objects later t (with_star_at s.next_category)
            (λ o i. well_owning (s.next_category + 1) s.next_category o sound.some_made (omega arith)
            (thread_at t thread o i) (later t o i));
        some_made = omega arith;
      }

  -- where a container links a new object that links nothing
  sound_added : (d : ℕ) (o : Object Levels) → is_container (s.objects d) ≡ true
      → ((c : ℕ) → set.contains (kind_links o.kind) c ≡ false) → IsWellLabelled s.next_category o
      → IsSound (with_object s d o)
  sound_added d o container leaf well = record {
    tree = tree_new s.objects root_number s.next_object sound.tree d o container leaf;
    labelled = labelled_new s.next_category s.objects sound.labelled d s.next_object o well;
    some_made = sound.some_made;
  }

  -- where a segment gets other bytes
  sound_bytes : (n : ℕ) (bytes : List ℕ) → IsSound (with_segment_bytes s n bytes)
  sound_bytes n bytes = record {
    tree = tree_held s.objects root_number s.next_object sound.tree n bytes;
    labelled =
        labelled_changed s.next_category s.objects sound.labelled n (holding bytes)
        (λ o i. well_holding s.next_category bytes o (sound.labelled n o i));
    some_made = sound.some_made;
  }

  -- and where an object that a container links is cut off
  sound_cut : (d o : ℕ) (new : State) → set.contains (links_in (s.objects d)) o ≡ true → CutsOff s d o new → IsSound new
  sound_cut d o new linked cut = record {
    tree =
        subst (IsTree new.objects root_number) (sym cut.next_object)
        (tree_cut s.objects root_number s.next_object sound.tree d o new.objects linked cut.is_cut);
    labelled = λ q p i. subst (λ (n : ℕ). IsWellLabelled n p) (sym cut.next_category)
        (labelled_cut s.next_category s.objects sound.labelled d o new.objects cut.is_cut
        (reached_decided s.objects root_number s.next_object sound.tree d o linked) q p i);
    some_made = subst (λ (n : ℕ). 0 < n) (sym cut.next_category) sound.some_made;
  }

-- a caller that may name a container is a thread
container_caller : (s : State) (t d : ℕ) → no_container s t d ≡ None → is_thread (s.objects t) ≡ true
container_caller s t d e = caller_is s t (first (no_thread s t) _ e)

-- a container in which an object may be made is a container
making_container : (s : State) (t d : ℕ) → no_making s t d ≡ None → is_container (s.objects d) ≡ true
making_container s t d e = container_is s t d (first (no_container s t d) _ e)

-- the empty set contains no number
no_links : (c : ℕ) → set.contains (set.empty {R = nat_cmp}) c ≡ false
no_links c = set.contains-empty nat_cmp c

module _ (s : State) (t : ℕ) (sound : IsSound s) where
  -- a made category leaves the state sound
  made_category : check s t MakeCategory ≡ None → IsSound (with_category s t)
  made_category e = sound_category s sound t (caller_is s t (first (no_thread s t) _ e))

  -- so does a caller that sets its label
  set_label : (label : Levels) → check s t (SetLabel label) ≡ None → IsSound (with_changed s t (with_label label))
  set_label label e =
      let after = passes (in_range (s.objects t) label) Range _ (rest (no_thread s t) _ e) in
      sound_relabelled s sound t label (caller_is s t (first (no_thread s t) _ e)) (unless_none (known s label) Range after.1)

  -- a caller that sets its clearance
  set_clearance : (clearance : Levels) → check s t (SetClearance clearance) ≡ None → IsSound (with_changed s t (with_clearance clearance))
  set_clearance clearance e =
      let after = passes (may_clear (s.objects t) clearance) Range _ (rest (no_thread s t) _ e) in
      sound_clearing s sound t clearance (caller_is s t (first (no_thread s t) _ e)) (unless_none (known s clearance) Range after.1)

  -- a new object without a clearance, whose label owns nothing
  made_plain : (d : ℕ) (o : Object Levels) (later : Option Denied) → kind_clearance o.kind ≡ None
      → ((c : ℕ) → set.contains (kind_links o.kind) c ≡ false)
      → (no_making s t d orelse unless (in_range (s.objects t) o.label) Range orelse unless (known s o.label) Range
      orelse unless (not (has_star o.label)) Range orelse later) ≡ None → IsSound (with_object s d o)
  made_plain d o later none leaf e =
      let ranged = passes (in_range (s.objects t) o.label) Range _ (rest (no_making s t d) _ e) in
      let made = passes (known s o.label) Range _ ranged.1 in
      let plain = passes (not (has_star o.label)) Range _ made.1 in
      sound_added s sound d o (making_container s t d (first (no_making s t d) _ e)) leaf
      (well_plain s.next_category o made.0 (not-true (has_star o.label) plain.0) none)

  -- a new object with a clearance
  made_cleared : (d : ℕ) (o : Object Levels) (clearance : Levels) (later : Option Denied)
      → kind_clearance o.kind ≡ Some clearance → (kind_is_segment o.kind || kind_is_container o.kind) ≡ false
      → ((c : ℕ) → set.contains (kind_links o.kind) c ≡ false)
      → (no_making s t d orelse unless (in_span (s.objects t) o.label clearance) Range
      orelse unless (known s o.label) Range orelse unless (known s clearance) Range orelse later) ≡ None
      → IsSound (with_object s d o)
  made_cleared d o clearance later has alone leaf e =
      let ranged = passes (in_span (s.objects t) o.label clearance) Range _ (rest (no_making s t d) _ e) in
      let made = passes (known s o.label) Range _ ranged.1 in
      let cleared = passes (known s clearance) Range _ made.1 in
      sound_added s sound d o (making_container s t d (first (no_making s t d) _ e)) leaf
      (well_cleared s.next_category o clearance made.0 has cleared.0 alone)

  -- a caller that enters a gate
  entered : (d o : ℕ) (wanted clearance verify : Levels) → check s t (Enter d o wanted clearance verify) ≡ None
      → IsSound (with_own s t wanted clearance)
  entered d o wanted clearance verify e =
      let let_in = passes (is_let_in (s.objects t) (s.objects o)) Gate _ (rest (no_gate s t d o) _ e) in
      let under = passes (is_own_below (s.objects t) verify) Gate _ let_in.1 in
      let ranged = passes (in_gate (s.objects t) (s.objects o) wanted clearance) Range _ under.1 in
      let made = passes (known s wanted) Range _ ranged.1 in
      let cleared = passes (known s clearance) Range _ made.1 in
      sound_with_own s sound t wanted clearance (container_caller s t d
      (first (no_container s t d) _ (first (no_link s t d o) _ (first (no_gate s t d o) _ e)))) made.0 cleared.0

  -- and a caller that unlinks an object
  unlinked : (d o : ℕ) (new : State) → check s t (Unlink d o) ≡ None → CutsOff s d o new → IsSound new
  unlinked d o new e =
      sound_cut s sound d o new (unless_none (set.contains (links_in (s.objects d)) o) NoEntry
      (rest (no_container s t d) _ (first (no_link s t d o) _ e)))

-- a call that passes its checks leaves a sound state sound
pub sound_changes : (s new : State) (t : ℕ) (call : RawCall) → IsSound s → check s t call ≡ None → Changes s t call new → IsSound new
sound_changes s new t MakeCategory sound e is = subst IsSound (sym is) (made_category s t sound e)
sound_changes s new t OwnLabel sound e is = subst IsSound (sym is) sound
sound_changes s new t (SetLabel label) sound e is = subst IsSound (sym is) (set_label s t sound label e)
sound_changes s new t (SetClearance clearance) sound e is = subst IsSound (sym is) (set_clearance s t sound clearance e)
sound_changes s new t (MakeSegment d label bytes) sound e is =
    subst IsSound (sym is) (made_plain s t sound d (record { label = label; kind = Segment bytes }) _ refl no_links e)
sound_changes s new t (MakeContainer d label) sound e is =
    subst IsSound (sym is)
    (made_plain s t sound d (record { label = label; kind = Container set.empty }) _ refl no_links e)
sound_changes s new t (MakeThread d label clearance) sound e is =
    subst IsSound (sym is) (made_cleared s t sound d (thread_of label clearance) clearance _ refl refl no_links e)
sound_changes s new t (MakeGate d label clearance entry) sound e is =
    subst IsSound (sym is) (made_cleared s t sound d (record { label = label; kind = gates.Gate clearance entry }) clearance _ refl refl
    no_links e)
sound_changes s new t (Enter d o wanted clearance verify) sound e is = subst IsSound (sym is) (entered s t sound d o wanted clearance verify e)
sound_changes s new t (Read d o) sound e is = subst IsSound (sym is) sound
sound_changes s new t (Write d o keep bytes) sound e is = subst IsSound (sym is) (sound_bytes s sound o (take keep (bytes_in (s.objects o)) ++ bytes))
sound_changes s new t (Unlink d o) sound e is = unlinked s t sound d o new e is
sound_changes s new t (LabelOf d o) sound e is = subst IsSound (sym is) sound

-- so a call leaves a sound state sound, whatever its outcome
pub sound_decided : {A : Type 0} (old new : ObjectsModel) (t : ℕ) (call : RawCall) (r : Result A Refusal)
    (P : A → Type 0) → IsSound (state_of old) → DecidesAs old new t call r P → IsSound (state_of new)
sound_decided old new t call (Ok answer) P sound decides = sound_changes (state_of old) (state_of new) t call sound decides.0 decides.1
sound_decided old new t call (Err (refusals.Denied denied)) P sound decides = subst IsSound (sym decides.1) sound
sound_decided old new t call (Err refusals.OutOfMemory) P sound decides = subst IsSound (sym decides) sound

-- no category has star in the label of the root container
root_plain : (c : ℕ) → level_of root_object.label c ≢ Star
root_plain c star = by (c == 1) (sym (level_of-with_level (constant L1) 1 L0 c) ∙ star)
  where
    by : (b : Bool) → (if b then L0 else level_of (constant L1) c) ≡ Star → ⊥
    by true e = cc
    by false e = let k : L1 ≡ Star = sym (level_of-constant L1 c) ∙ e in cc

-- the labels of the root container are well-formed
root_well : IsWellLabelled 2 root_object
root_well = record {
  label_made = is_made-with_level 2 (constant L1) 1 L0 (lit< tt) (lit< tt) (is_made-constant 2 L1);
  clearance_made = λ c e. let k : None ≡ Some c = e in cc;
  owns_nothing = λ h. has_star-none root_object.label root_plain;
}

-- so are those of the boot thread
boot_well : IsWellLabelled 2 boot_thread
boot_well = well_thread 2 (with_level (constant L1) 1 Star) (with_level (constant L2) 1 L3)
    (is_made-with_level 2 (constant L1) 1 Star (lit< tt) (lit< tt) (is_made-constant 2 L1))
    (is_made-with_level 2 (constant L2) 1 L3 (lit< tt) (lit< tt) (is_made-constant 2 L2))

-- the empty kernel is sound
pub sound_empty : IsSound empty_state
sound_empty = record {
  tree = tree_empty_state;
  labelled = labelled_put 2 (put no_objects 1 root_object) (labelled_put 2 no_objects (λ q o i. cc) 1 root_object root_well) 2 boot_thread boot_well;
  some_made = lit< tt;
}
