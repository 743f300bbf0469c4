-- What the checks of a call say about the thread and the container that were found.
use Rattle.std.proofs.Common.{◌≡◌, ℕ, Bool, true, false, Option, None, Some, Result, Ok, Err, IsSome, refl, sym, ap, ◌∙◌}
use Rattle.std.specs.Prelude.{option_map, ◌&&◌}
use Rattle.std.specs.FinSet as set
use Rattle.std.specs.Result.{IsErrAnd}
use Rattle.std.proofs.Math.Bool.{and-true}
use Rattle.histar_base.specs.Refusals.{unless, ◌orelse◌}
use Rattle.histar_level.specs.Levels.{Levels}
use Rattle.histar_label.specs.Levels.{is_below, is_below_raised}
use Rattle.histar_label.specs.Store.{label_at}
use Rattle.histar_object.specs.declared.objects.Entry.{Entry}
use Rattle.histar_object.specs.declared.objects.Object.{Object}
use Rattle.histar_object.specs.declared.objects.Kind.{Kind}
use Rattle.histar_object.specs.declared.objects.Kind.TheVariants.{Segment, Container, Thread, Gate}
use Rattle.histar_object.specs.Objects.{TableModel, Numbers, objects_of, thread_of, links_in, is_present, is_container, is_thread, kind_is_thread}
use Rattle.histar_object.specs.Objects.{kind_is_container}
use Rattle.histar_object.specs.State.{Found, observes, modifies}
use Rattle.histar_container.specs.Shown.{kind_by, object_by, shown, AllStand}
use Rattle.histar_container.proofs.Shows.{shows}
use Rattle.histar_container.proofs.KeepingTrees.{there_by}
use Rattle.histar_rules.specs.declared.raw.Denied.{Denied}
use Rattle.histar_rules.specs.declared.raw.Denied.TheVariants.{NoThread, NoEntry, BadKind, Observe, Modify}
use Rattle.histar_rules.specs.Finds.{container_of, gate_of, state_shown}
use Rattle.histar_rules.specs.Rules.{no_container, no_making, no_link, FailsAt}
use Rattle.histar_rules.proofs.Passing.{unless_none}

-- a check that answers the denial of its first failing part fails with it
pub fails_at_denial : {A : Type 0} (failing : Option Denied) (denied : Denied) (r : Result A Denied)
    → IsErrAnd r (λ e. e ≡ denied) → failing ≡ Some denied → FailsAt failing r
fails_at_denial failing denied (Ok x) is e = absurd is
fails_at_denial failing denied (Err other) is e = e ∙ ap (λ (d : Denied). Some d) (sym is)

-- so does one with more parts after it
pub behind_refusal : {A : Type 0} (failing later : Option Denied) (denied : Denied) (r : Result A Denied)
    → failing ≡ Some denied → IsErrAnd r (λ e. e ≡ denied) → FailsAt (failing orelse later) r
behind_refusal failing later denied (Ok x) e is = absurd is
behind_refusal failing later denied (Err other) e is = ap (λ (f : Option Denied). f orelse later) e ∙ ap (λ (d : Denied). Some d) (sym is)

module _ {Id : Type 0} (labels : Id → Option Levels) (es : TableModel Id) where
  kind_thread : (k : Kind Id) → kind_is_thread (kind_by (label_at labels) k) ≡ kind_is_thread k
  kind_thread (Segment bytes) = refl
  kind_thread (Container links) = refl
  kind_thread (Thread clearance) = refl
  kind_thread (Gate clearance entry) = refl

  kind_container : (k : Kind Id) → kind_is_container (kind_by (label_at labels) k) ≡ kind_is_container k
  kind_container (Segment bytes) = refl
  kind_container (Container links) = refl
  kind_container (Thread clearance) = refl
  kind_container (Gate clearance entry) = refl

  pub thread_by : (o : Option (Object Id)) → is_thread (option_map (object_by (label_at labels)) o) ≡ is_thread o
  thread_by None = refl
  thread_by (Some o) = kind_thread o.kind

  container_by : (o : Option (Object Id)) → is_container (option_map (object_by (label_at labels)) o) ≡ is_container o
  container_by None = refl
  container_by (Some o) = kind_container o.kind

  -- an object that was found is in the state, with its labels by value
  pub object_shown : (q : ℕ) (o : Object Id) → objects_of es q ≡ Some o → objects_of (shown labels es) q ≡ Some (object_by (label_at labels) o)
  object_shown q o e = shows labels es q ∙ ap (option_map (object_by (label_at labels))) e

  -- the label of an object that was found is the Id of a label
  pub label_stands : AllStand labels (objects_of es) → (q : ℕ) (o : Object Id) → objects_of es q ≡ Some o → IsSome (labels o.label)
  label_stands stand q o e = (stand.each q o e).label

  -- so is the clearance of a thread
  pub clearance_stands : AllStand labels (objects_of es) → (q : ℕ) (own own_clearance : Id)
      → objects_of es q ≡ Some (thread_of own own_clearance) → IsSome (labels own_clearance)
  clearance_stands stand q own own_clearance e = (stand.each q (thread_of own own_clearance) e).kind

  -- and the clearance of a gate
  pub limit_stands : AllStand labels (objects_of es) → (q : ℕ) (gate_label gate_clearance : Id) (entry : Entry)
      → objects_of es q ≡ Some (gate_of gate_label gate_clearance entry) → IsSome (labels gate_clearance)
  limit_stands stand q gate_label gate_clearance entry e = (stand.each q (gate_of gate_label gate_clearance entry) e).kind

  -- where there is no thread, the call is denied for this
  pub thread_missing : (t d : ℕ) → is_thread (objects_of es t) ≡ false → no_container (state_shown labels es) t d ≡ Some NoThread
  thread_missing t d e =
      ap (λ b. unless b NoThread orelse unless (is_present (objects_of (shown labels es) d)) NoEntry
      orelse unless (is_container (objects_of (shown labels es) d)) BadKind
      orelse unless (observes (objects_of (shown labels es) t) (objects_of (shown labels es) d)) Observe)
      (ap is_thread (shows labels es t) ∙ thread_by (objects_of es t) ∙ e)

  first_of : (there container : Bool) (later : Option Denied) (denied : Denied)
      → (unless there NoEntry orelse unless container BadKind) ≡ Some denied
      → (unless there NoEntry orelse unless container BadKind orelse later) ≡ Some denied
  first_of true true later denied e = cc
  first_of true false later denied e = e
  first_of false container later denied e = e

  -- where there is a thread and no container, the call is denied for this
  pub container_missing : (t d : ℕ) (own own_clearance : Id) (denied : Denied) → objects_of es t ≡ Some (thread_of own own_clearance)
      → (unless (is_present (objects_of es d)) NoEntry orelse unless (is_container (objects_of es d)) BadKind)
      ≡ Some denied → no_container (state_shown labels es) t d ≡ Some denied
  container_missing t d own own_clearance denied thread e =
      let there = ap is_present (shows labels es d) ∙ there_by labels (objects_of es d) in
      let container = ap is_container (shows labels es d) ∙ container_by (objects_of es d) in
      let D = objects_of (shown labels es) d in
      ap (λ (T : Found).
      unless (is_thread T) NoThread orelse unless (is_present D) NoEntry orelse unless (is_container D) BadKind
      orelse unless (observes T D) Observe) (object_shown t (thread_of own own_clearance) thread)
      ∙ first_of (is_present D) (is_container D) _ denied ((λ i. unless (there i) NoEntry orelse unless (container i) BadKind) ∙ e)

  -- where both are there, the call passes if the thread observes the container
  pub container_found : (t d : ℕ) (own own_clearance label : Id) (links : Numbers) (observed : Bool)
      → objects_of es t ≡ Some (thread_of own own_clearance) → objects_of es d ≡ Some (container_of label links)
      → observed ≡ is_below_raised (label_at labels label) (label_at labels own) → no_container (state_shown labels es) t d ≡ unless observed Observe
  container_found t d own own_clearance label links observed thread container is =
      let T = object_shown t (thread_of own own_clearance) thread in
      let D = object_shown d (container_of label links) container in
      (λ i. unless (is_thread (T i)) NoThread orelse unless (is_present (D i)) NoEntry
      orelse unless (is_container (D i)) BadKind orelse unless (observes (T i) (D i)) Observe)
      ∙ ap (λ b. unless b Observe) (sym is)

  -- where a thread observes a container, making passes if it modifies the container
  pub making_found : (t d : ℕ) (own own_clearance label : Id) (links : Numbers) (below : Bool)
      → no_container (state_shown labels es) t d ≡ None → objects_of es t ≡ Some (thread_of own own_clearance)
      → objects_of es d ≡ Some (container_of label links)
      → below ≡ is_below (label_at labels own) (label_at labels label)
      → no_making (state_shown labels es) t d ≡ unless below Modify
  making_found t d own own_clearance label links below none thread container is =
      let T = object_shown t (thread_of own own_clearance) thread in
      let D = object_shown d (container_of label links) container in
      let raised =
      unless_none (is_below_raised (label_at labels label) (label_at labels own)) Observe
      (sym (container_found t d own own_clearance label links _ thread container refl) ∙ none) in
      ap (λ (f : Option Denied). f orelse unless (modifies (objects_of (shown labels es) t) (objects_of (shown labels es) d)) Modify) none
      ∙ (λ i. unless (modifies (T i) (D i)) Modify)
      ∙ ap (λ b. unless b Modify) (ap (λ r. is_below (label_at labels own) (label_at labels label) && r) raised ∙ and-true _ ∙ sym is)

  -- where a thread observes a container, the call passes if the container links the object
  pub linking_found : (t d o : ℕ) (label : Id) (links : Numbers) (linked : Bool) → no_container (state_shown labels es) t d ≡ None
      → objects_of es d ≡ Some (container_of label links) → linked ≡ set.contains links o
      → no_link (state_shown labels es) t d o ≡ unless linked NoEntry
  linking_found t d o label links linked none container is =
      let D = object_shown d (container_of label links) container in
      ap (λ (f : Option Denied). f orelse unless (set.contains (links_in (objects_of (shown labels es) d)) o) NoEntry) none
      ∙ (λ i. unless (set.contains (links_in (D i)) o) NoEntry)
      ∙ ap (λ b. unless b NoEntry) (sym is)
