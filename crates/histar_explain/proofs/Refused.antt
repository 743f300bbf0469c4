-- The test that a denial comes from.
use Rattle.std.proofs.Common.{◌≡◌, ◌≢◌, ℕ, ◌⊎◌, inl, inr, Bool, true, false, not, Option, None, Some, length, if◌then◌else◌, refl, sym, ap, subst}
use Rattle.std.specs.FinSet as set
use mathlib.Core.Bool.{false≢true}
use Rattle.histar_base.specs.Refusals.{unless, ◌orelse◌}
use Rattle.histar_level.specs.Levels.{Levels}
use Rattle.histar_label.specs.Levels.{has_star}
use Rattle.histar_object.specs.declared.objects.Kind.{Kind}
use Rattle.histar_object.specs.declared.objects.Kind.TheVariants as kinds
use Rattle.histar_object.specs.Objects.{is_present, is_segment, is_container, is_thread, is_gate, kind_is_thread, kind_is_segment, kind_is_container}
use Rattle.histar_object.specs.Objects.{links_in}
use Rattle.histar_object.specs.State.{State, Found, observes, modifies, in_range}
use Rattle.histar_rules.specs.Rights.{in_span, may_clear, is_own_below, is_let_in, in_gate}
use Rattle.histar_rules.specs.declared.raw.Denied.{Denied}
use Rattle.histar_rules.specs.declared.raw.Denied.TheVariants.{Observe, Modify, Range, Gate, NoEntry, NoThread, BadKind, TooBig}
use Rattle.histar_rules.specs.declared.raw.RawCall.{RawCall}
use Rattle.histar_rules.specs.declared.raw.RawCall.TheVariants.{MakeCategory, OwnLabel, SetLabel, SetClearance, MakeSegment, MakeContainer}
use Rattle.histar_rules.specs.declared.raw.RawCall.TheVariants.{MakeThread, MakeGate, Enter, Read, Write, Unlink, LabelOf}
use Rattle.histar_rules.specs.Rules.{check, no_thread, no_container, no_link, no_segment, no_gate, no_making, no_new, no_new_owner, known}
use Rattle.histar_rules.specs.Rules.{fits_segment, has_number}
use Rattle.histar_rules.proofs.Passing.{first, rest, caller_is, container_is, unless_none}
use Rattle.histar_explain.specs.Named.{observed_by, modified_by}

-- a check that may refuse, but with another denial
pub Not : Denied → Option Denied → Type 0
Not x None = Unit {0}
Not x (Some d) = d ≢ x

pub not_unless : (x : Denied) (b : Bool) (d : Denied) → d ≢ x → Not x (unless b d)
unfolding Not
not_unless x true d h = tt
not_unless x false d h = h

pub not_orelse : (x : Denied) (a b : Option Denied) → Not x a → Not x b → Not x (a orelse b)
unfolding Not
not_orelse x None b p q = q
not_orelse x (Some d) b p q = p

pub never : (x : Denied) (a : Option Denied) → Not x a → a ≡ Some x → ⊥
unfolding Not
never x None p e = cc
never x (Some d) p e = p cc

-- a denial that the second check doesn't give comes from the first
pub strip : (x : Denied) (a b : Option Denied) → Not x b → (a orelse b) ≡ Some x → a ≡ Some x
strip x None b p e = absurd (never x b p e)
strip x (Some d) b p e = e

pub skip : (x : Denied) (a b : Option Denied) → Not x a → (a orelse b) ≡ Some x → (a ≡ None) × (b ≡ Some x)
skip x None b p e = (refl, e)
skip x (Some d) b p e = absurd (never x (Some d) p e)

pub split : (x : Denied) (a b : Option Denied) → (a orelse b) ≡ Some x → (a ≡ Some x) ⊎ ((a ≡ None) × (b ≡ Some x))
split x None b e = inr (refl, e)
split x (Some d) b e = inl e

pub failed : (b : Bool) (d x : Denied) → unless b d ≡ Some x → b ≡ false
failed true d x e = cc
failed false d x e = refl

-- the last tests, of labels, sizes and counters, give another denial
three_tests : (x : Denied) → Range ≢ x → TooBig ≢ x → (a b c d e : Bool)
    → Not x (unless a Range orelse unless b Range orelse unless c Range orelse unless d TooBig orelse unless e TooBig)
three_tests x range big a b c d e =
    not_orelse x (unless a Range) _ (not_unless x a Range range) (not_orelse x (unless b Range) _
    (not_unless x b Range range) (not_orelse x (unless c Range) _ (not_unless x c Range range) (not_orelse x (unless d TooBig)
    (unless e TooBig) (not_unless x d TooBig big) (not_unless x e TooBig big))))

owner_tests : (x : Denied) → Range ≢ x → TooBig ≢ x → (a b c d : Bool)
    → Not x (unless a Range orelse unless b Range orelse unless c Range orelse unless d TooBig)
owner_tests x range big a b c d =
    not_orelse x (unless a Range) _ (not_unless x a Range range) (not_orelse x (unless b Range) _ (not_unless x b Range range)
    (not_orelse x (unless c Range) (unless d TooBig) (not_unless x c Range range) (not_unless x d TooBig big)))

gate_ranges : (x : Denied) → Range ≢ x → (a b c d : Bool) → Not x (unless a Range orelse unless b Range orelse unless c Range orelse unless d Range)
gate_ranges x range a b c d =
    not_orelse x (unless a Range) _ (not_unless x a Range range) (not_orelse x (unless b Range) _ (not_unless x b Range range)
    (not_orelse x (unless c Range) (unless d Range) (not_unless x c Range range) (not_unless x d Range range)))

-- the calls that name no container are refused with another denial
pub no_call : (x : Denied) → NoThread ≢ x → Range ≢ x → (a b c : Bool) → Not x (unless a NoThread orelse unless b Range orelse unless c Range)
no_call x thread range a b c =
    not_orelse x (unless a NoThread) _ (not_unless x a NoThread thread)
    (not_orelse x (unless b Range) (unless c Range) (not_unless x b Range range) (not_unless x c Range range))

pub no_count : (x : Denied) → NoThread ≢ x → TooBig ≢ x → (a b : Bool) → Not x (unless a NoThread orelse unless b TooBig)
no_count x thread big a b = not_orelse x (unless a NoThread) (unless b TooBig) (not_unless x a NoThread thread) (not_unless x b TooBig big)

-- the checks of a container give no denial except these four
pub container_not : (x : Denied) → NoThread ≢ x → NoEntry ≢ x → BadKind ≢ x → Observe ≢ x → (s : State) (t d : ℕ) → Not x (no_container s t d)
container_not x thread entry kind observe s t d =
    not_orelse x (unless (is_thread (s.objects t)) NoThread) _ (not_unless x (is_thread (s.objects t)) NoThread thread)
    (not_orelse x (unless (is_present (s.objects d)) NoEntry) _ (not_unless x (is_present (s.objects d)) NoEntry entry)
    (not_orelse x (unless (is_container (s.objects d)) BadKind)
    (unless (observes (s.objects t) (s.objects d)) Observe)
    (not_unless x (is_container (s.objects d)) BadKind kind)
    (not_unless x (observes (s.objects t) (s.objects d)) Observe observe)))

pub link_not : (x : Denied) → NoThread ≢ x → NoEntry ≢ x → BadKind ≢ x → Observe ≢ x → (s : State) (t d o : ℕ) → Not x (no_link s t d o)
link_not x thread entry kind observe s t d o =
    not_orelse x (no_container s t d) _ (container_not x thread entry kind observe s t d)
    (not_unless x (set.contains (links_in (s.objects d)) o) NoEntry entry)

four : (a b c d : Bool)
    → (unless a NoThread orelse unless b NoEntry orelse unless c BadKind orelse unless d Observe) ≡ Some Observe
    → (a ≡ true) × (c ≡ true) × (d ≡ false)
four true true true true e = cc
four true true true false e = (refl, refl, refl)
four true true false d e = cc
four true false c d e = cc
four false b c d e = cc

-- a container, a segment or a gate is there, and is no thread
pub other_kind : (found : Found) → ((is_container found ≡ true) ⊎ (is_segment found ≡ true)) → (is_present found ≡ true) × (is_thread found ≡ false)
other_kind None (inl h) = absurd (false≢true h)
other_kind None (inr h) = absurd (false≢true h)
other_kind (Some o) (inl h) = (refl, container_no_thread o.kind h)
  where
    container_no_thread : (k : Kind Levels) → kind_is_container k ≡ true → kind_is_thread k ≡ false
    container_no_thread (kinds.Segment bytes) h = refl
    container_no_thread (kinds.Container links) h = refl
    container_no_thread (kinds.Thread clearance) h = absurd (false≢true h)
    container_no_thread (kinds.Gate clearance entry) h = refl
other_kind (Some o) (inr h) = (refl, segment_no_thread o.kind h)
  where
    segment_no_thread : (k : Kind Levels) → kind_is_segment k ≡ true → kind_is_thread k ≡ false
    segment_no_thread (kinds.Segment bytes) h = refl
    segment_no_thread (kinds.Container links) h = refl
    segment_no_thread (kinds.Thread clearance) h = absurd (false≢true h)
    segment_no_thread (kinds.Gate clearance entry) h = refl

-- a thread was refused at an object that is no thread
pub record IsRefused (s : State) (t q : ℕ) (may : Found → Found → Bool) : Type 0 where
  pub caller : is_thread (s.objects t) ≡ true
  pub there : is_present (s.objects q) ≡ true
  pub other : is_thread (s.objects q) ≡ false
  pub refused : may (s.objects t) (s.objects q) ≡ false

module _ (s : State) (t d : ℕ) where
  container_refused : no_container s t d ≡ Some Observe → IsRefused s t d observes
  container_refused e =
      let parts = four (is_thread (s.objects t)) (is_present (s.objects d)) (is_container (s.objects d)) (observes (s.objects t) (s.objects d)) e in
      let kind = other_kind (s.objects d) (inl parts.1) in
      record { caller = parts.0; there = kind.0; other = kind.1; refused = parts.2 }

  link_refused : (o : ℕ) → no_link s t d o ≡ Some Observe → IsRefused s t d observes
  link_refused o e =
      container_refused (strip Observe (no_container s t d) _
      (not_unless Observe (set.contains (links_in (s.objects d)) o) NoEntry (λ h. cc)) e)

  -- a segment that may not be observed for its container's sake
  pub segment_container : (o : ℕ) → no_segment s t d o ≡ Some Observe → no_container s t d ≡ Some Observe
  segment_container o e =
      strip Observe (no_container s t d) _ (not_unless Observe (set.contains (links_in (s.objects d)) o) NoEntry (λ h. cc))
      (strip Observe (no_link s t d o) _ (not_unless Observe (is_segment (s.objects o)) BadKind (λ h. cc)) e)

  pub segment_refused : (o : ℕ) → no_segment s t d o ≡ Some Observe → IsRefused s t d observes
  segment_refused o e = link_refused o (strip Observe (no_link s t d o) _ (not_unless Observe (is_segment (s.objects o)) BadKind (λ h. cc)) e)

  gate_refused : (o : ℕ) → no_gate s t d o ≡ Some Observe → IsRefused s t d observes
  gate_refused o e = link_refused o (strip Observe (no_link s t d o) _ (not_unless Observe (is_gate (s.objects o)) BadKind (λ h. cc)) e)

  making_refused : no_making s t d ≡ Some Observe → IsRefused s t d observes
  making_refused e =
      container_refused (strip Observe (no_container s t d) _
      (not_unless Observe (modifies (s.objects t) (s.objects d)) Modify (λ h. cc)) e)

  pub new_making : (x : Denied) → Range ≢ x → TooBig ≢ x → (label : Levels) (size : ℕ) → no_new s t d label size ≡ Some x → no_making s t d ≡ Some x
  new_making x range big label size e =
      strip x (no_making s t d) _ (three_tests x range big (in_range (s.objects t) label) (known s label) (not (has_star label))
      (fits_segment size) (has_number s)) e

  pub owner_making : (x : Denied) → Range ≢ x → TooBig ≢ x → (label clearance : Levels)
      → no_new_owner s t d label clearance ≡ Some x → no_making s t d ≡ Some x
  owner_making x range big label clearance e =
      strip x (no_making s t d) _ (owner_tests x range big (in_span (s.objects t) label clearance) (known s label) (known s clearance)
      (has_number s)) e

  -- where the checks of the container pass, the caller is a thread and the container is one
  pub both_there : no_container s t d ≡ None → (is_thread (s.objects t) ≡ true) × (is_container (s.objects d) ≡ true)
  both_there e = (caller_is s t (first (no_thread s t) _ e), container_is s t d e)

  making_unmodified : no_making s t d ≡ Some Modify → IsRefused s t d modifies
  making_unmodified e =
      let parts = skip Modify (no_container s t d) _ (container_not Modify (λ h. cc) (λ h. cc) (λ h. cc) (λ h. cc) s t d) e in
      let both = both_there parts.0 in
      let kind = other_kind (s.objects d) (inl both.1) in
      record { caller = both.0; there = kind.0; other = kind.1; refused = failed (modifies (s.objects t) (s.objects d)) Modify Modify parts.1 }

-- a container whose checks pass may be observed
pub container_observed : (s : State) (t d : ℕ) → no_container s t d ≡ None → observes (s.objects t) (s.objects d) ≡ true
container_observed s t d e =
    unless_none (observes (s.objects t) (s.objects d)) Observe
    (rest (unless (is_container (s.objects d)) BadKind) _ (rest (unless (is_present (s.objects d)) NoEntry) _ (rest (no_thread s t) _ e)))

-- who may not observe at a gate is refused before the gate
pub entry_observed : (s : State) (t d o : ℕ) (wanted clearance verify : Levels) → check s t (Enter d o wanted clearance verify) ≡ Some Observe
    → no_gate s t d o ≡ Some Observe
entry_observed s t d o wanted clearance verify e = strip Observe (no_gate s t d o) _
    (not_orelse Observe (unless (is_let_in (s.objects t) (s.objects o)) Gate) _
    (not_unless Observe (is_let_in (s.objects t) (s.objects o)) Gate (λ h. cc))
    (not_orelse Observe (unless (is_own_below (s.objects t) verify) Gate) _ (not_unless Observe (is_own_below (s.objects t) verify) Gate (λ h. cc))
    (gate_ranges Observe (λ h. cc) (in_gate (s.objects t) (s.objects o) wanted clearance) (known s wanted) (known s clearance) (known s verify)))) e

-- a call that may not observe is refused at this object
pub observe_refused : (s : State) (t : ℕ) (call : RawCall) → check s t call ≡ Some Observe → IsRefused s t (observed_by s t call) observes
observe_refused s t MakeCategory e = absurd (never Observe _ (no_count Observe (λ h. cc) (λ h. cc) (is_thread (s.objects t)) _) e)
observe_refused s t OwnLabel e = absurd (never Observe _ (not_unless Observe (is_thread (s.objects t)) NoThread (λ h. cc)) e)
observe_refused s t (SetLabel label) e =
    absurd (never Observe _ (no_call Observe (λ h. cc) (λ h. cc) (is_thread (s.objects t)) (in_range (s.objects t) label)
    (known s label)) e)
observe_refused s t (SetClearance clearance) e =
    absurd (never Observe _ (no_call Observe (λ h. cc) (λ h. cc) (is_thread (s.objects t)) (may_clear (s.objects t) clearance)
    (known s clearance)) e)
observe_refused s t (MakeSegment d label bytes) e = making_refused s t d (new_making s t d Observe (λ h. cc) (λ h. cc) label (length bytes) e)
observe_refused s t (MakeContainer d label) e = making_refused s t d (new_making s t d Observe (λ h. cc) (λ h. cc) label 0 e)
observe_refused s t (MakeThread d label clearance) e = making_refused s t d (owner_making s t d Observe (λ h. cc) (λ h. cc) label clearance e)
observe_refused s t (MakeGate d label clearance entry) e = making_refused s t d (owner_making s t d Observe (λ h. cc) (λ h. cc) label clearance e)
observe_refused s t (Enter d o wanted clearance verify) e = gate_refused s t d o (entry_observed s t d o wanted clearance verify e)
observe_refused s t (Read d o) e = elim (split Observe (no_segment s t d o) _ e) [
  | inl at_container ↦
      let refused = segment_refused s t d o at_container in
      subst (λ q. IsRefused s t q observes) (sym (ap (λ b. if b then o else d) refused.refused)) refused
  | inr at_segment ↦
      let linked = first (no_link s t d o) _ at_segment.0 in
      let contained = first (no_container s t d) _ linked in
      let both = both_there s t d contained in
      let kind = other_kind (s.objects o) (inr (unless_none (is_segment (s.objects o)) BadKind (rest (no_link s t d o) _ at_segment.0))) in
      let observed = container_observed s t d contained in
      let refused : IsRefused s t o observes =
      record {
        caller = both.0;
        there = kind.0;
        other = kind.1;
        refused = failed (observes (s.objects t) (s.objects o)) Observe Observe at_segment.1;
      } in
      subst (λ q. IsRefused s t q observes) (sym (ap (λ b. if b then o else d) observed)) refused
]
observe_refused s t (Write d o keep bytes) e = segment_refused s t d o (strip Observe (no_segment s t d o) _
    (not_orelse Observe (unless (modifies (s.objects t) (s.objects o)) Modify) _
    (not_unless Observe (modifies (s.objects t) (s.objects o)) Modify (λ h. cc))
    (not_unless Observe _ TooBig (λ h. cc))) e)
observe_refused s t (Unlink d o) e =
    link_refused s t d o (strip Observe (no_link s t d o) _ (not_unless Observe (modifies (s.objects t) (s.objects d)) Modify (λ h. cc))
    e)
observe_refused s t (LabelOf d o) e =
    link_refused s t d o
    (strip Observe (no_link s t d o) _ (not_unless Observe (not (is_thread (s.objects o))) BadKind (λ h. cc)) e)

-- no container, link or segment is refused with a denial to modify or to enter
pub segment_not : (x : Denied) → NoThread ≢ x → NoEntry ≢ x → BadKind ≢ x → Observe ≢ x → (s : State) (t d o : ℕ) → Not x (no_segment s t d o)
segment_not x thread entry kind observe s t d o =
    not_orelse x (no_link s t d o) _ (link_not x thread entry kind observe s t d o)
    (not_unless x (is_segment (s.objects o)) BadKind kind)

pub gate_not : (x : Denied) → NoThread ≢ x → NoEntry ≢ x → BadKind ≢ x → Observe ≢ x → (s : State) (t d o : ℕ) → Not x (no_gate s t d o)
gate_not x thread entry kind observe s t d o =
    not_orelse x (no_link s t d o) _ (link_not x thread entry kind observe s t d o)
    (not_unless x (is_gate (s.objects o)) BadKind kind)

-- to enter, to read and to ask for a label modify nothing
pub enter_modifies : (s : State) (t d o : ℕ) (wanted clearance verify : Levels) → check s t (Enter d o wanted clearance verify) ≡ Some Modify → ⊥
enter_modifies s t d o wanted clearance verify e =
    never Modify _ (not_orelse Modify (no_gate s t d o) _ (gate_not Modify (λ h. cc) (λ h. cc) (λ h. cc) (λ h. cc) s t d o)
    (not_orelse Modify (unless (is_let_in (s.objects t) (s.objects o)) Gate) _
    (not_unless Modify (is_let_in (s.objects t) (s.objects o)) Gate (λ h. cc))
    (not_orelse Modify (unless (is_own_below (s.objects t) verify) Gate) _ (not_unless Modify (is_own_below (s.objects t) verify) Gate (λ h. cc))
    (gate_ranges Modify (λ h. cc) (in_gate (s.objects t) (s.objects o) wanted clearance) (known s wanted) (known s clearance) (known s verify))))) e

pub read_modifies : (s : State) (t d o : ℕ) → check s t (Read d o) ≡ Some Modify → ⊥
read_modifies s t d o e =
    never Modify _ (not_orelse Modify (no_segment s t d o) _ (segment_not Modify (λ h. cc) (λ h. cc) (λ h. cc) (λ h. cc) s t d o)
    (not_unless Modify (observes (s.objects t) (s.objects o)) Observe (λ h. cc))) e

pub label_modifies : (s : State) (t d o : ℕ) → check s t (LabelOf d o) ≡ Some Modify → ⊥
label_modifies s t d o e =
    never Modify _ (not_orelse Modify (no_link s t d o) _ (link_not Modify (λ h. cc) (λ h. cc) (λ h. cc) (λ h. cc) s t d o)
    (not_unless Modify (not (is_thread (s.objects o))) BadKind (λ h. cc))) e

-- a call that may not modify is refused at this object
pub modify_refused : (s : State) (t : ℕ) (call : RawCall) → check s t call ≡ Some Modify → IsRefused s t (modified_by call) modifies
modify_refused s t MakeCategory e = absurd (never Modify _ (no_count Modify (λ h. cc) (λ h. cc) (is_thread (s.objects t)) _) e)
modify_refused s t OwnLabel e = absurd (never Modify _ (not_unless Modify (is_thread (s.objects t)) NoThread (λ h. cc)) e)
modify_refused s t (SetLabel label) e =
    absurd (never Modify _ (no_call Modify (λ h. cc) (λ h. cc) (is_thread (s.objects t)) (in_range (s.objects t) label)
    (known s label)) e)
modify_refused s t (SetClearance clearance) e =
    absurd (never Modify _ (no_call Modify (λ h. cc) (λ h. cc) (is_thread (s.objects t)) (may_clear (s.objects t) clearance)
    (known s clearance)) e)
modify_refused s t (MakeSegment d label bytes) e = making_unmodified s t d (new_making s t d Modify (λ h. cc) (λ h. cc) label (length bytes) e)
modify_refused s t (MakeContainer d label) e = making_unmodified s t d (new_making s t d Modify (λ h. cc) (λ h. cc) label 0 e)
modify_refused s t (MakeThread d label clearance) e = making_unmodified s t d (owner_making s t d Modify (λ h. cc) (λ h. cc) label clearance e)
modify_refused s t (MakeGate d label clearance entry) e = making_unmodified s t d (owner_making s t d Modify (λ h. cc) (λ h. cc) label clearance e)
modify_refused s t (Enter d o wanted clearance verify) e = absurd (enter_modifies s t d o wanted clearance verify e)
modify_refused s t (Read d o) e = absurd (read_modifies s t d o e)
modify_refused s t (Write d o keep bytes) e =
    let parts = skip Modify (no_segment s t d o) _ (segment_not Modify (λ h. cc) (λ h. cc) (λ h. cc) (λ h. cc) s t d o) e in
    let linked = first (no_link s t d o) _ parts.0 in
    let both = both_there s t d (first (no_container s t d) _ linked) in
    let kind = other_kind (s.objects o) (inr (unless_none (is_segment (s.objects o)) BadKind (rest (no_link s t d o) _ parts.0))) in
    record {
      caller = both.0;
      there = kind.0;
      other = kind.1;
      refused = failed (modifies (s.objects t) (s.objects o)) Modify Modify
          (strip Modify (unless (modifies (s.objects t) (s.objects o)) Modify) _
          (not_unless Modify _ TooBig (λ h. cc)) parts.1);
    }
modify_refused s t (Unlink d o) e =
    let parts = skip Modify (no_link s t d o) _ (link_not Modify (λ h. cc) (λ h. cc) (λ h. cc) (λ h. cc) s t d o) e in
    let both = both_there s t d (first (no_container s t d) _ parts.0) in
    let kind = other_kind (s.objects d) (inl both.1) in
    record { caller = both.0; there = kind.0; other = kind.1; refused = failed (modifies (s.objects t) (s.objects d)) Modify Modify parts.1 }
modify_refused s t (LabelOf d o) e = absurd (label_modifies s t d o e)

-- a thread was refused at a gate, by the gate's clearance or by the verify label
pub record IsShutOut (s : State) (t o : ℕ) (verify : Levels) : Type 0 where
  pub caller : is_thread (s.objects t) ≡ true
  pub gate : is_gate (s.objects o) ≡ true
  pub refused : (is_let_in (s.objects t) (s.objects o) ≡ false) ⊎ (is_own_below (s.objects t) verify ≡ false)

-- the gate at which a call is refused
abbrev pub IsGateRefusal : State → ℕ → RawCall → Type 0
IsGateRefusal s t (Enter d o wanted clearance verify) = IsShutOut s t o verify
IsGateRefusal s t call = ⊥

new_not_gate : (s : State) (t d : ℕ) → Not Gate (no_making s t d)
new_not_gate s t d =
    not_orelse Gate (no_container s t d) _ (container_not Gate (λ h. cc) (λ h. cc) (λ h. cc) (λ h. cc) s t d)
    (not_unless Gate (modifies (s.objects t) (s.objects d)) Modify (λ h. cc))

pub gate_refusal : (s : State) (t : ℕ) (call : RawCall) → check s t call ≡ Some Gate → IsGateRefusal s t call
gate_refusal s t MakeCategory e = never Gate _ (no_count Gate (λ h. cc) (λ h. cc) (is_thread (s.objects t)) _) e
gate_refusal s t OwnLabel e = never Gate _ (not_unless Gate (is_thread (s.objects t)) NoThread (λ h. cc)) e
gate_refusal s t (SetLabel label) e =
    never Gate _
    (no_call Gate (λ h. cc) (λ h. cc) (is_thread (s.objects t)) (in_range (s.objects t) label) (known s label)) e
gate_refusal s t (SetClearance clearance) e =
    never Gate _ (no_call Gate (λ h. cc) (λ h. cc) (is_thread (s.objects t)) (may_clear (s.objects t) clearance)
    (known s clearance)) e
gate_refusal s t (MakeSegment d label bytes) e =
    never Gate (no_making s t d) (new_not_gate s t d) (new_making s t d Gate (λ h. cc) (λ h. cc) label (length bytes) e)
gate_refusal s t (MakeContainer d label) e = never Gate (no_making s t d) (new_not_gate s t d) (new_making s t d Gate (λ h. cc) (λ h. cc) label 0 e)
gate_refusal s t (MakeThread d label clearance) e =
    never Gate (no_making s t d) (new_not_gate s t d) (owner_making s t d Gate (λ h. cc) (λ h. cc) label clearance e)
gate_refusal s t (MakeGate d label clearance entry) e =
    never Gate (no_making s t d) (new_not_gate s t d) (owner_making s t d Gate (λ h. cc) (λ h. cc) label clearance e)
gate_refusal s t (Enter d o wanted clearance verify) e =
    let parts = skip Gate (no_gate s t d o) _ (gate_not Gate (λ h. cc) (λ h. cc) (λ h. cc) (λ h. cc) s t d o) e in
    let linked = first (no_link s t d o) _ parts.0 in
    let both = both_there s t d (first (no_container s t d) _ linked) in
    let gate = unless_none (is_gate (s.objects o)) BadKind (rest (no_link s t d o) _ parts.0) in
    record {
      caller = both.0;
      gate = gate;
      refused = elim (split Gate (unless (is_let_in (s.objects t) (s.objects o)) Gate) _ parts.1) [
        | inl out ↦ inl (failed (is_let_in (s.objects t) (s.objects o)) Gate Gate out)
        | inr later ↦
            inr (failed (is_own_below (s.objects t) verify) Gate Gate (strip Gate
            (unless (is_own_below (s.objects t) verify) Gate) _ (gate_ranges Gate (λ h. cc)
            (in_gate (s.objects t) (s.objects o) wanted clearance) (known s wanted) (known s clearance)
            (known s verify)) later.1))
      ];
    }
gate_refusal s t (Read d o) e =
    never Gate _ (not_orelse Gate (no_segment s t d o) _ (segment_not Gate (λ h. cc) (λ h. cc) (λ h. cc) (λ h. cc) s t d o)
    (not_unless Gate (observes (s.objects t) (s.objects o)) Observe (λ h. cc))) e
gate_refusal s t (Write d o keep bytes) e = never Gate _
    (not_orelse Gate (no_segment s t d o) _ (segment_not Gate (λ h. cc) (λ h. cc) (λ h. cc) (λ h. cc) s t d o)
    (not_orelse Gate (unless (modifies (s.objects t) (s.objects o)) Modify) _
    (not_unless Gate (modifies (s.objects t) (s.objects o)) Modify (λ h. cc)) (not_unless Gate _ TooBig (λ h. cc)))) e
gate_refusal s t (Unlink d o) e =
    never Gate _ (not_orelse Gate (no_link s t d o) _ (link_not Gate (λ h. cc) (λ h. cc) (λ h. cc) (λ h. cc) s t d o)
    (not_unless Gate (modifies (s.objects t) (s.objects d)) Modify (λ h. cc))) e
gate_refusal s t (LabelOf d o) e =
    never Gate _ (not_orelse Gate (no_link s t d o) _ (link_not Gate (λ h. cc) (λ h. cc) (λ h. cc) (λ h. cc) s t d o)
    (not_unless Gate (not (is_thread (s.objects o))) BadKind (λ h. cc))) e
