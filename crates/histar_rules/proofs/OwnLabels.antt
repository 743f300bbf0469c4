-- What the checks of a thread's own labels say about the thread that was found, and about labels that were put before the checks.
use Rattle.std.proofs.Common.{◌≡◌, ℕ, false, Option, Some, Result, Ok, Err, sym, ap, ◌∙◌, subst}
use Rattle.std.specs.Prelude.{◌&&◌}
use Rattle.std.specs.Result.{IsErrAnd}
use Rattle.histar_base.specs.Refusals.{unless, ◌orelse◌}
use Rattle.histar_level.specs.Levels.{Levels}
use Rattle.histar_label.specs.Levels.{is_below, is_below_join_raised, is_made}
use Rattle.histar_label.specs.Store.{label_at, Keeps}
use Rattle.histar_label.proofs.Stands.{label_at-stands}
use Rattle.histar_object.specs.Objects.{TableModel, Objects, objects_of, thread_of, is_thread}
use Rattle.histar_object.specs.State.{in_range}
use Rattle.histar_container.specs.Shown.{shown, AllStand}
use Rattle.histar_container.proofs.Shows.{shows}
use Rattle.histar_container.proofs.Keeping.{shown_on}
use Rattle.histar_rules.specs.declared.limits.Next.{Next}
use Rattle.histar_rules.specs.declared.raw.Denied.{Denied}
use Rattle.histar_rules.specs.declared.raw.Denied.TheVariants.{Range, NoThread}
use Rattle.histar_rules.specs.declared.raw.Refusal.{Refusal}
use Rattle.histar_rules.specs.declared.raw.Refusal.TheVariants as refusals
use Rattle.histar_rules.specs.declared.raw.RawCall.{RawCall}
use Rattle.histar_rules.specs.declared.raw.RawCall.TheVariants as calls
use Rattle.histar_rules.specs.Finds.{state_with}
use Rattle.histar_rules.specs.Rights.{may_clear}
use Rattle.histar_rules.specs.Rules.{check, FailsAtUnlessExhausted}
use Rattle.histar_rules.proofs.Observed.{object_shown, thread_by}

module _ {Id : Type 0} (labels : Id → Option Levels) (es : TableModel Id) (t : ℕ) (next : Next) (L : Levels) where
  module _ (e : is_thread (objects_of es t) ≡ false) where
    is_none : is_thread (objects_of (shown labels es) t) ≡ false
    is_none = ap is_thread (shows labels es t) ∙ thread_by labels es (objects_of es t) ∙ e

    -- where there is no thread, it gets no label
    pub label_of_none : check (state_with labels es next) t (calls.SetLabel L) ≡ Some NoThread
    label_of_none =
        ap (λ b. unless b NoThread orelse unless (in_range (objects_of (shown labels es) t) L) Range
        orelse unless (is_made next.category L) Range) is_none

    -- and no clearance
    pub clearance_of_none : check (state_with labels es next) t (calls.SetClearance L) ≡ Some NoThread
    clearance_of_none =
        ap (λ b. unless b NoThread orelse unless (may_clear (objects_of (shown labels es) t) L) Range
        orelse unless (is_made next.category L) Range) is_none

  module _ (own own_clearance : Id) (thread : objects_of es t ≡ Some (thread_of own own_clearance)) where
    -- a thread's own labels decide whether it gets a label
    pub label_ranged : check (state_with labels es next) t (calls.SetLabel L)
        ≡ (unless (is_below (label_at labels own) L && is_below L (label_at labels own_clearance)) Range
        orelse unless (is_made next.category L) Range)
    label_ranged =
        let T = object_shown labels es t (thread_of own own_clearance) thread in
        λ i. unless (is_thread (T i)) NoThread orelse unless (in_range (T i) L) Range orelse unless (is_made next.category L) Range

    -- and whether it gets a clearance
    pub clearance_ranged : check (state_with labels es next) t (calls.SetClearance L)
        ≡ (unless (is_below (label_at labels own) L && is_below_join_raised L (label_at labels own_clearance) (label_at labels own)) Range
        orelse unless (is_made next.category L) Range)
    clearance_ranged =
        let T = object_shown labels es t (thread_of own own_clearance) thread in
        λ i. unless (is_thread (T i)) NoThread orelse unless (may_clear (T i) L) Range orelse unless (is_made next.category L) Range

-- a call that answers the denial of its check fails with it
pub refused_at_denial : {A : Type 0} (failing : Option Denied) (denied : Denied) (r : Result A Refusal)
    → IsErrAnd r (λ e. e ≡ refusals.Denied denied) → failing ≡ Some denied → FailsAtUnlessExhausted failing r
refused_at_denial {A} failing denied (Ok x) is e = absurd is
refused_at_denial {A} failing denied (Err other) is e = subst (λ (o : Refusal). FailsAtUnlessExhausted {A = A} failing (Err o)) (sym is) e

module _ {Id : Type 0} (old new : Id → Option Levels) (keeps : Keeps old new) where
  -- what a store keeps it keeps while no Id gets another label
  pub keeps_same : (later : Id → Option Levels) → later ≡ new → Keeps old later
  keeps_same later same = subst (λ (labels : Id → Option Levels). Keeps old labels) (sym same) keeps

  -- a check of a label that was put is the same after the put
  pub check_put : (es : TableModel Id) (t : ℕ) (next : Next) (call : Levels → RawCall) (id : Id) (L : Levels) → AllStand old (objects_of es)
      → new id ≡ Some L → check (state_with old es next) t (call L) ≡ check (state_with new es next) t (call (label_at new id))
  check_put es t next call id L all is =
      ap (λ (objects : Objects Levels).
      check (record { objects = objects; next_object = next.object; next_category = next.category }) t (call L))
      (sym (shown_on old new keeps es all))
      ∙ ap (λ (M : Levels). check (state_with new es next) t (call M)) (sym (label_at-stands new id L is))
