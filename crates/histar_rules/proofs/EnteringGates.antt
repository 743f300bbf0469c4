-- What the checks of entering a gate say about the thread and the gate that were found, and what state the thread's new labels leave.
use Rattle.std.proofs.Common.{◌≡◌, ℕ, ◌<◌, Option, None, Some, Result, Ok, Err, OnOk, OnErr, true, refl, sym, ap, ◌∙◌, subst}
use Rattle.std.specs.Prelude.{is_some}
use Rattle.histar_base.specs.Refusals.{unless, ◌orelse◌}
use Rattle.histar_level.specs.Levels.{Levels}
use Rattle.histar_label.specs.Levels.{is_below, is_made}
use Rattle.histar_label.specs.Store.{label_at, Keeps}
use Rattle.histar_label.proofs.Stands.{label_at-stands}
use Rattle.histar_object.specs.declared.objects.Entry.{Entry}
use Rattle.histar_object.specs.declared.objects.Kind.TheVariants.{Thread}
use Rattle.histar_object.specs.Objects.{TableModel, Objects, objects_of, put, thread_of, is_thread}
use Rattle.histar_object.specs.State.{State}
use Rattle.histar_container.specs.Shown.{shown, AllStand, IsUnusedFrom, IsKept}
use Rattle.histar_container.proofs.Keeping.{all_on, shown_on, stand_put, shown_put, kept_own}
use Rattle.histar_rules.specs.declared.entering.Opening.{Opening}
use Rattle.histar_rules.specs.declared.limits.Next.{Next}
use Rattle.histar_rules.specs.declared.raw.Denied.{Denied}
use Rattle.histar_rules.specs.declared.raw.Denied.TheVariants.{Gate, Range}
use Rattle.histar_rules.specs.declared.raw.Refusal.{Refusal}
use Rattle.histar_rules.specs.declared.raw.RawCall.TheVariants.{Enter}
use Rattle.histar_rules.specs.Rights.{lies_between}
use Rattle.histar_rules.specs.Finds.{gate_of, state_shown, state_with, no_opening}
use Rattle.histar_rules.specs.Rules.{check, no_link, FailsAtUnlessExhausted}
use Rattle.histar_rules.proofs.LinkedObjects.{enter_found}
use Rattle.histar_rules.proofs.OwnLabels.{check_put}
use Rattle.histar_rules.proofs.Passing.{first, caller_is}

-- refusals in turn may be grouped in any way
grouped : (a b c : Option Denied) → (a orelse b orelse c) ≡ ((a orelse b) orelse c)
grouped None b c = refl
grouped (Some d) b c = refl

-- of four refusals in turn the first three may be grouped
three_grouped : (a b c d : Option Denied) → (a orelse b orelse c orelse d) ≡ ((a orelse b orelse c) orelse d)
three_grouped None b c d = grouped b c d
three_grouped (Some denied) b c d = refl

-- the labels of the thread and of the gate that were found, and those that were handed in, decide whether the thread enters
pub enter_checked : {Id : Type 0} (labels : Id → Option Levels) (es : TableModel Id) (t d o : ℕ) (next : Next) (verify : Levels)
    (opening : Opening Id) (entry : Entry) → no_link (state_shown labels es) t d o ≡ None
    → objects_of es t ≡ Some (thread_of opening.own.0 opening.own.1) → objects_of es o ≡ Some (gate_of opening.gate.0 opening.gate.1 entry)
    → check (state_with labels es next) t (Enter d o (label_at labels opening.wanted.0) (label_at labels opening.wanted.1) verify)
    ≡ no_opening labels opening verify next
enter_checked labels es t d o next verify opening entry linked thread gate =
    enter_found labels es t d o linked opening.own.0 opening.own.1 thread next
    (label_at labels opening.wanted.0) (label_at labels opening.wanted.1) verify opening.gate.0 opening.gate.1 entry
    (label_at labels opening.own.0) (label_at labels opening.own.1) (label_at labels opening.gate.0) (label_at labels opening.gate.1)
    gate refl refl refl refl
    ∙ grouped (unless (is_below (label_at labels opening.own.0) (label_at labels opening.gate.1)) Gate)
    (unless (is_below (label_at labels opening.own.0) verify) Gate) _
    ∙ ap (λ (f : Option Denied).
    (unless (is_below (label_at labels opening.own.0) (label_at labels opening.gate.1)) Gate
    orelse unless (is_below (label_at labels opening.own.0) verify) Gate) orelse f)
    (three_grouped (unless (lies_between (label_at labels opening.own.0) (label_at labels opening.gate.0)
    (label_at labels opening.wanted.0) (label_at labels opening.wanted.1)
    (label_at labels opening.own.1) (label_at labels opening.gate.1)) Range)
    (unless (is_made next.category (label_at labels opening.wanted.0)) Range)
    (unless (is_made next.category (label_at labels opening.wanted.1)) Range) (unless (is_made next.category verify) Range))

-- who enters a gate is a thread
enters : (s : State) (t d o : ℕ) (wanted clearance verify : Levels) → check s t (Enter d o wanted clearance verify) ≡ None
    → is_thread (s.objects t) ≡ true
enters s t d o wanted clearance verify e = caller_is s t (first _ _ (first _ _ (first _ _ (first _ _ e))))

module _ {Id : Type 0} (old new : Id → Option Levels) (keeps : Keeps old new) (es : TableModel Id) (t : ℕ) (all : AllStand old (objects_of es))
    (label clearance : Id) (L C : Levels) (is : new label ≡ Some L) (limits : new clearance ≡ Some C) where
  -- a check of a label and a clearance that were put is the same after the puts
  pub check_put_both : (next : Next) (d o : ℕ) (verify : Levels)
      → check (state_with old es next) t (Enter d o L C verify)
      ≡ check (state_with new es next) t (Enter d o (label_at new label) (label_at new clearance) verify)
  check_put_both next d o verify =
      check_put old new keeps es t next (λ (M : Levels). Enter d o M C verify) label L all is
      ∙ ap (λ (M : Levels). check (state_with new es next) t (Enter d o (label_at new label) M verify)) (sym (label_at-stands new clearance C limits))

  module _ (fs : TableModel Id) (after : objects_of fs ≡ put (objects_of es) t (thread_of label clearance)) where
    -- the Ids still stand for labels after the thread gets both
    pub own_stand : AllStand new (objects_of fs)
    own_stand =
        subst (AllStand new) (sym after)
        (stand_put new (objects_of es) t (thread_of label clearance) (all_on old new keeps (objects_of es) all)
        (record { label = ap is_some is; kind = ap is_some limits }))

    -- and the table represents the thread with both
    pub own_shown : objects_of (shown new fs) ≡ put (objects_of (shown old es)) t (thread_of L C)
    own_shown =
        shown_put new es fs t (thread_of label clearance) after
        ∙ (λ i. put (shown_on old new keeps es all i) t
        (record { label = label_at-stands new label L is i; kind = Thread (label_at-stands new clearance C limits i) }))

-- a call that lets a thread enter a gate keeps what holds of a table, whether it succeeded or not
module _ {Id A : Type 0} (old new : Id → Option Levels) (es fs : TableModel Id) (next : Next) (number t d o : ℕ)
    (wanted clearance verify : Levels) where
  pub kept_entered : (r : Result A Refusal) → AllStand new (objects_of fs) → IsUnusedFrom (objects_of (shown old es)) number → 0 < number
      → FailsAtUnlessExhausted (check (state_with old es next) t (Enter d o wanted clearance verify)) r
      → OnOk r (objects_of (shown new fs) ≡ put (objects_of (shown old es)) t (thread_of wanted clearance))
      → OnErr r (objects_of (shown new fs) ≡ objects_of (shown old es)) → IsKept new fs number
  kept_entered (Ok x) stand unused positive answer ok err =
      kept_own {Id = Id} {A = A} {E = Refusal} new (objects_of (shown old es)) fs number t (thread_of wanted clearance) (Ok x) stand unused positive
      (enters (state_with old es next) t d o wanted clearance verify answer) ok err
  kept_entered (Err x) stand unused positive answer ok err =
      record {
        stand = stand;
        unused = subst (λ (f : Objects Levels). IsUnusedFrom f number) (sym err) unused;
        positive = positive;
      }
