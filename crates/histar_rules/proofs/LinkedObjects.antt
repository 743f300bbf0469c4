-- What the last checks of a call say about the object that was found.
use Rattle.std.proofs.Common.{◌≡◌, ℕ, Bool, List, Option, None, Some, IsSome, is_some, unwrap_or, refl, sym, ap, ◌∙◌, subst}
use mathlib.Core.Bool.{false≢true}
use Rattle.std.specs.Prelude.{option_map, ◌&&◌, ◌+◌, not, length, min, nat_lt}
use Rattle.histar_base.specs.Refusals.{unless, ◌orelse◌}
use Rattle.histar_level.specs.Levels.{Levels}
use Rattle.histar_label.specs.Levels.{is_below, is_below_raised, is_made, has_star}
use Rattle.histar_label.specs.Store.{label_at}
use Rattle.histar_object.specs.declared.objects.Entry.{Entry}
use Rattle.histar_object.specs.declared.objects.Object.{Object}
use Rattle.histar_object.specs.declared.objects.Kind.{Kind}
use Rattle.histar_object.specs.declared.objects.Kind.TheVariants.{Segment, Container, Thread, Gate}
use Rattle.histar_object.specs.Objects.{TableModel, Numbers, objects_of, thread_of, bytes_in, label_there, is_thread, is_segment, is_gate}
use Rattle.histar_object.specs.Objects.{kind_is_segment, kind_is_gate}
use Rattle.histar_object.specs.State.{observes, modifies, in_range}
use Rattle.histar_rules.specs.Rights.{in_span, is_let_in, is_own_below, in_gate, lies_between}
use Rattle.histar_container.specs.Shown.{kind_by, object_by, shown, AllStand}
use Rattle.histar_container.proofs.Shows.{shows}
use Rattle.histar_rules.specs.declared.limits.Next.{Next}
use Rattle.histar_rules.specs.declared.raw.Denied.{Denied}
use Rattle.histar_rules.specs.declared.raw.Denied.TheVariants.{Observe, Modify, Range, Gate as NoWay, BadKind, TooBig}
use Rattle.histar_rules.specs.declared.raw.RawCall.TheVariants as calls
use Rattle.histar_rules.specs.Finds.{container_of, segment_of, gate_of, state_shown, state_with}
use Rattle.histar_rules.specs.Rules.{check, no_container, no_making, no_new, no_new_owner, no_link, no_segment, no_gate, fits_segment, greatest}
use Rattle.histar_rules.proofs.Observed.{object_shown, thread_by, making_found}
use Rattle.histar_rules.proofs.Passing.{first}

-- a value that is there is not missing
some_is_there : {A : Type 0} (a : A) → Some a ≡ None → ⊥
some_is_there a e = false≢true (sym (ap is_some e))

module _ {Id : Type 0} (labels : Id → Option Levels) (es : TableModel Id) where
  kind_segment : (k : Kind Id) → kind_is_segment (kind_by (label_at labels) k) ≡ kind_is_segment k
  kind_segment (Segment bytes) = refl
  kind_segment (Container links) = refl
  kind_segment (Thread clearance) = refl
  kind_segment (Gate clearance entry) = refl

  kind_gate : (k : Kind Id) → kind_is_gate (kind_by (label_at labels) k) ≡ kind_is_gate k
  kind_gate (Segment bytes) = refl
  kind_gate (Container links) = refl
  kind_gate (Thread clearance) = refl
  kind_gate (Gate clearance entry) = refl

  segment_by : (o : Option (Object Id)) → is_segment (option_map (object_by (label_at labels)) o) ≡ is_segment o
  segment_by None = refl
  segment_by (Some o) = kind_segment o.kind

  gate_by : (o : Option (Object Id)) → is_gate (option_map (object_by (label_at labels)) o) ≡ is_gate o
  gate_by None = refl
  gate_by (Some o) = kind_gate o.kind

  label_by : (o : Option (Object Id)) → label_there (option_map (object_by (label_at labels)) o) ≡ option_map (label_at labels) (label_there o)
  label_by None = refl
  label_by (Some o) = refl

  -- where no label is found, the state has none
  pub no_label_shown : (q : ℕ) → label_there (objects_of es q) ≡ None → label_there (objects_of (shown labels es) q) ≡ None
  no_label_shown q e = ap label_there (shows labels es q) ∙ label_by (objects_of es q) ∙ ap (option_map (label_at labels)) e

  -- the label of an object that is found is the Id of a label
  pub found_stands : AllStand labels (objects_of es) → (q : ℕ) (label : Id) → label_there (objects_of es q) ≡ Some label → IsSome (labels label)
  found_stands stand q label e = at_object (objects_of es q) refl e
    where
      at_object : (o : Option (Object Id)) → objects_of es q ≡ o → label_there o ≡ Some label → IsSome (labels label)
      at_object None is none = absurd (some_is_there label (sym none))
      at_object (Some o) is some = subst (λ (l : Id). IsSome (labels l)) (ap (λ l. unwrap_or l label) some) (stand.each q o is).label

  module _ (t d o : ℕ) (linked : no_link (state_shown labels es) t d o ≡ None) where
    -- where the linked object is no segment, the call is denied for this
    pub segment_missing : (later : Option Denied) (denied : Denied)
        → unless (is_segment (objects_of es o)) BadKind ≡ Some denied
        → (no_segment (state_shown labels es) t d o orelse later) ≡ Some denied
    segment_missing later denied e =
        ap (λ (f : Option Denied). (f orelse unless (is_segment (objects_of (shown labels es) o)) BadKind) orelse later) linked
        ∙ ap (λ b. unless b BadKind orelse later) (ap is_segment (shows labels es o) ∙ segment_by (objects_of es o))
        ∙ ap (λ (f : Option Denied). f orelse later) e

    -- where the linked object is no gate, the call is denied for this
    pub gate_missing : (later : Option Denied) (denied : Denied)
        → unless (is_gate (objects_of es o)) BadKind ≡ Some denied
        → (no_gate (state_shown labels es) t d o orelse later) ≡ Some denied
    gate_missing later denied e =
        ap (λ (f : Option Denied). (f orelse unless (is_gate (objects_of (shown labels es) o)) BadKind) orelse later) linked
        ∙ ap (λ b. unless b BadKind orelse later) (ap is_gate (shows labels es o) ∙ gate_by (objects_of es o))
        ∙ ap (λ (f : Option Denied). f orelse later) e

    -- a question for a label is granted where the object is no thread
    pub label_found : check (state_shown labels es) t (calls.LabelOf d o) ≡ unless (not (is_thread (objects_of es o))) BadKind
    label_found =
        ap (λ (f : Option Denied). f orelse unless (not (is_thread (objects_of (shown labels es) o))) BadKind) linked
        ∙ ap (λ b. unless (not b) BadKind) (ap is_thread (shows labels es o) ∙ thread_by labels es (objects_of es o))

    module _ (own own_clearance : Id) (thread : objects_of es t ≡ Some (thread_of own own_clearance)) where
      -- a read is granted where the thread observes the segment
      pub read_found : (label : Id) (bytes : List ℕ) (observed : Bool) → objects_of es o ≡ Some (segment_of label bytes)
          → observed ≡ is_below_raised (label_at labels label) (label_at labels own)
          → check (state_shown labels es) t (calls.Read d o) ≡ unless observed Observe
      read_found label bytes observed segment is =
          let T = object_shown labels es t (thread_of own own_clearance) thread in
          let O = object_shown labels es o (segment_of label bytes) segment in
          ap (λ (f : Option Denied). (f orelse unless (is_segment (objects_of (shown labels es) o)) BadKind)
          orelse unless (observes (objects_of (shown labels es) t) (objects_of (shown labels es) o)) Observe)
          linked
          ∙ (λ i. unless (is_segment (O i)) BadKind orelse unless (observes (T i) (O i)) Observe)
          ∙ ap (λ b. unless b Observe) (sym is)

      -- a write is granted where the thread modifies the segment and the new content fits it
      pub write_found : (keep : ℕ) (more : List ℕ) (label : Id) (bytes : List ℕ) (modified : Bool) (held added : ℕ)
          → objects_of es o ≡ Some (segment_of label bytes)
          → modified
          ≡ (is_below (label_at labels own) (label_at labels label)
          && is_below_raised (label_at labels label) (label_at labels own)) → held ≡ length bytes
          → added ≡ length more
          → check (state_shown labels es) t (calls.Write d o keep more)
          ≡ (unless modified Modify orelse unless (fits_segment (min keep held + added)) TooBig)
      write_found keep more label bytes modified held added segment is held_is added_is =
          let T = object_shown labels es t (thread_of own own_clearance) thread in
          let O = object_shown labels es o (segment_of label bytes) segment in
          ap (λ (f : Option Denied). (f orelse unless (is_segment (objects_of (shown labels es) o)) BadKind)
          orelse unless (modifies (objects_of (shown labels es) t) (objects_of (shown labels es) o)) Modify
          orelse unless (fits_segment (min keep (length (bytes_in (objects_of (shown labels es) o))) + length more)) TooBig) linked
          ∙ (λ i. unless (is_segment (O i)) BadKind orelse unless (modifies (T i) (O i)) Modify
          orelse unless (fits_segment (min keep (length (bytes_in (O i))) + length more)) TooBig)
          ∙ (λ i. unless (sym is i) Modify orelse unless (fits_segment (min keep (sym held_is i) + sym added_is i)) TooBig)

      -- an unlink is granted where the thread modifies the container
      pub unlink_found : (label : Id) (links : Numbers) (below : Bool) → objects_of es d ≡ Some (container_of label links)
          → below ≡ is_below (label_at labels own) (label_at labels label) → check (state_shown labels es) t (calls.Unlink d o) ≡ unless below Modify
      unlink_found label links below container is =
          let none = first (no_container (state_shown labels es) t d) _ linked in
          ap (λ (f : Option Denied). f orelse unless (modifies (objects_of (shown labels es) t) (objects_of (shown labels es) d)) Modify) linked
          ∙ ap (λ (f : Option Denied). f orelse unless (modifies (objects_of (shown labels es) t) (objects_of (shown labels es) d)) Modify) (sym none)
          ∙ making_found labels es t d own own_clearance label links below none thread container is

      -- a thread's labels, the gate's and those handed in decide whether it enters
      pub enter_found : (next : Next) (wanted clearance verify : Levels) (gate_label gate_clearance : Id)
          (entry : Entry) (O M G L : Levels) → objects_of es o ≡ Some (gate_of gate_label gate_clearance entry)
          → O ≡ label_at labels own → M ≡ label_at labels own_clearance → G ≡ label_at labels gate_label → L ≡ label_at labels gate_clearance
          → check (state_with labels es next) t (calls.Enter d o wanted clearance verify)
          ≡ (unless (is_below O L) NoWay orelse unless (is_below O verify) NoWay orelse unless (lies_between O G wanted clearance M L) Range
          orelse unless (is_made next.category wanted) Range orelse unless (is_made next.category clearance) Range
          orelse unless (is_made next.category verify) Range)
      enter_found next wanted clearance verify gate_label gate_clearance entry O M G L gate own_is own_clearance_is given_is limit_is =
          let T = object_shown labels es t (thread_of own own_clearance) thread in
          let E = object_shown labels es o (gate_of gate_label gate_clearance entry) gate in
          let made =
          unless (is_made next.category wanted) Range orelse unless (is_made next.category clearance) Range
          orelse unless (is_made next.category verify) Range in
          ap (λ (f : Option Denied). (f orelse unless (is_gate (objects_of (shown labels es) o)) BadKind)
          orelse unless (is_let_in (objects_of (shown labels es) t) (objects_of (shown labels es) o)) NoWay
          orelse unless (is_own_below (objects_of (shown labels es) t) verify) NoWay
          orelse unless (in_gate (objects_of (shown labels es) t) (objects_of (shown labels es) o) wanted clearance) Range orelse made) linked
          ∙ (λ i. unless (is_gate (E i)) BadKind orelse unless (is_let_in (T i) (E i)) NoWay
          orelse unless (is_own_below (T i) verify) NoWay
          orelse unless (in_gate (T i) (E i) wanted clearance) Range orelse made)
          ∙ (λ i. unless (is_below (sym own_is i) (sym limit_is i)) NoWay orelse unless (is_below (sym own_is i) verify) NoWay
          orelse unless (lies_between (sym own_is i) (sym given_is i) wanted clearance (sym own_clearance_is i) (sym limit_is i)) Range orelse made)

  module _ (t d : ℕ) (own own_clearance : Id) (made : no_making (state_shown labels es) t d ≡ None)
      (thread : objects_of es t ≡ Some (thread_of own own_clearance)) where
    -- the thread's labels decide whether an object that owns nothing is made
    pub new_found : (next : Next) (label : Levels) (size : ℕ) (O M : Levels) → O ≡ label_at labels own → M ≡ label_at labels own_clearance
        → no_new (state_with labels es next) t d label size
        ≡
        (unless (is_below O label && is_below label M) Range orelse unless (is_made next.category label) Range
        orelse unless (not (has_star label)) Range
        orelse unless (fits_segment size) TooBig orelse unless (nat_lt next.object greatest) TooBig)
    new_found next label size O M own_is own_clearance_is =
        let T = object_shown labels es t (thread_of own own_clearance) thread in
        let later =
        unless (is_made next.category label) Range orelse unless (not (has_star label)) Range
        orelse unless (fits_segment size) TooBig orelse unless (nat_lt next.object greatest) TooBig in
        ap (λ (f : Option Denied). f orelse unless (in_range (objects_of (shown labels es) t) label) Range orelse later) made
        ∙ (λ i. unless (in_range (T i) label) Range orelse later)
        ∙ (λ i. unless (is_below (sym own_is i) label && is_below label (sym own_clearance_is i)) Range orelse later)

    -- and whether one that may own is made
    pub new_owner_found : (next : Next) (label clearance : Levels) (O M : Levels) → O ≡ label_at labels own → M ≡ label_at labels own_clearance
        → no_new_owner (state_with labels es next) t d label clearance
        ≡
        (unless (is_below O label && is_below label clearance && is_below clearance M) Range
        orelse unless (is_made next.category label) Range orelse unless (is_made next.category clearance) Range
        orelse unless (nat_lt next.object greatest) TooBig)
    new_owner_found next label clearance O M own_is own_clearance_is =
        let T = object_shown labels es t (thread_of own own_clearance) thread in
        let later =
        unless (is_made next.category label) Range orelse unless (is_made next.category clearance) Range
        orelse unless (nat_lt next.object greatest) TooBig in
        ap (λ (f : Option Denied). f orelse unless (in_span (objects_of (shown labels es) t) label clearance) Range orelse later) made
        ∙ (λ i. unless (in_span (T i) label clearance) Range orelse later)
        ∙ (λ i. unless (is_below (sym own_is i) label && is_below label clearance && is_below clearance (sym own_clearance_is i)) Range orelse later)
