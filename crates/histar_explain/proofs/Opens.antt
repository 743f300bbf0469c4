-- With star at all keys that a denial lacks, the same call is not denied in the same way.
use Rattle.std.proofs.Common.{◌≡◌, ◌≢◌, ℕ, [], ◌∷◌, Bool, true, false, eqb, eq-eqb, if◌then◌else◌, None, Some, unwrap_or, refl, sym, ap, ◌∙◌, arith}
use Rattle.std.specs.Prelude.{option_map}
use Rattle.std.proofs.lemmas.Bool.Decides.{nat_tests}
use mathlib.Core.Bool.{false≢true}
use Rattle.histar_level.specs.declared.level.Level.TheVariants.{L1}
use Rattle.histar_level.specs.Levels.{Levels}
use Rattle.histar_label.specs.Levels.{constant}
use Rattle.histar_object.specs.declared.objects.Kind.TheVariants as kinds
use Rattle.histar_object.specs.declared.objects.Kind.{Kind}
use Rattle.histar_object.specs.Objects.{is_thread, is_gate, kind_is_thread, kind_is_gate, label_there, clearance_there}
use Rattle.histar_object.specs.State.{State, Found}
use Rattle.histar_rules.specs.Rights.{with_label}
use Rattle.histar_rules.specs.declared.raw.Denied.TheVariants.{Observe, Modify, Range, Gate, NoEntry, NoThread, BadKind, TooBig}
use Rattle.histar_rules.specs.declared.raw.RawCall.{RawCall}
use Rattle.histar_rules.specs.declared.raw.RawCall.TheVariants.{MakeCategory, OwnLabel, SetLabel, SetClearance, MakeSegment, MakeContainer}
use Rattle.histar_rules.specs.declared.raw.RawCall.TheVariants.{MakeThread, MakeGate, Enter, Read, Write, Unlink, LabelOf}
use Rattle.histar_rules.specs.Rules.{check}
use Rattle.histar_explain.specs.Named.{label_in, clearance_in, observed_by, modified_by}
use Rattle.histar_explain.specs.Tests.{observing, modifying, letting, tests, tests_with}
use Rattle.histar_explain.specs.Laws.{some_fails_at, HasKeys, relabelled, KeysOpen}
use Rattle.histar_explain.proofs.Refused.{observe_refused, modify_refused, IsShutOut, gate_refusal}
use Rattle.histar_explain.proofs.FailingTests.{denials_rest_on_tests}
use Rattle.histar_explain.proofs.Keys.{keys_are_lacking}

if_false : {A : Type 0} (b : Bool) (x y : A) → b ≡ false → (if b then x else y) ≡ y
if_false true x y h = absurd (false≢true (sym h))
if_false false x y h = refl

pub if_true : {A : Type 0} (b : Bool) (x y : A) → b ≡ true → (if b then x else y) ≡ x
if_true true x y h = refl
if_true false x y h = absurd (false≢true h)

apart : (q t : ℕ) → q ≢ t → eqb q t ≡ false
apart q t differ = elim (eqb q t) as (λ b. eqb q t ≡ b → b ≡ false) [
  | true ↦ λ same. let is : q ≡ t = grind (arith, nat_tests, same) in absurd (differ is)
  | false ↦ λ other. refl
] refl

-- a gate is no thread
pub gate_no_thread : (found : Found) → is_gate found ≡ true → is_thread found ≡ false
gate_no_thread None h = refl
gate_no_thread (Some o) h = by_kind o.kind h
  where
    by_kind : (k : Kind Levels) → kind_is_gate k ≡ true → kind_is_thread k ≡ false
    by_kind (kinds.Segment bytes) h = refl
    by_kind (kinds.Container links) h = refl
    by_kind (kinds.Thread clearance) h = absurd (false≢true h)
    by_kind (kinds.Gate clearance entry) h = refl

label_keyed : (found : Found) (keyed : Levels) → is_thread found ≡ true
    → unwrap_or (label_there (option_map (with_label keyed) found)) (constant L1) ≡ keyed
label_keyed None keyed h = absurd (false≢true h)
label_keyed (Some o) keyed h = refl

module _ (s : State) (t : ℕ) (keyed : Levels) where
  -- another object stays as it was
  pub stays : (q : ℕ) → is_thread (s.objects t) ≡ true → is_thread (s.objects q) ≡ false → (relabelled s t keyed).objects q ≡ s.objects q
  stays q thread other =
      if_false (eqb q t) (option_map (with_label keyed) (s.objects q)) (s.objects q)
      (apart q t (λ same. false≢true (sym other ∙ ap (λ n. is_thread (s.objects n)) same ∙ thread)))

  -- and the thread has its new label
  pub has_label : is_thread (s.objects t) ≡ true → label_in (relabelled s t keyed) t ≡ keyed
  has_label thread =
      ap (λ (o : Found). unwrap_or (label_there o) (constant L1))
      (if_true (eqb t t) (option_map (with_label keyed) (s.objects t)) (s.objects t) (eq-eqb t t refl))
      ∙ label_keyed (s.objects t) keyed thread

  observe_opens : (call : RawCall) → check s t call ≡ Some Observe
      → HasKeys (tests s t call Observe) (label_in s t) keyed → check (relabelled s t keyed) t call ≡ Some Observe
      → observed_by (relabelled s t keyed) t call ≢ observed_by s t call
  observe_opens call e keys again same =
      let at = observe_refused s t call e in
      let failing = denials_rest_on_tests (relabelled s t keyed) t call Observe refl again in
      let own = has_label at.caller in
      let label : label_in (relabelled s t keyed) (observed_by (relabelled s t keyed) t call) ≡ label_in s (observed_by s t call) =
      ap (label_in (relabelled s t keyed)) same
      ∙ ap (λ (o : Found). unwrap_or (label_there o) (constant L1))
      (stays (observed_by s t call) at.caller at.other) in
      let is : tests (relabelled s t keyed) t call Observe ≡ tests_with keyed s t call Observe = λ i. observing (own i) (label i) ∷ [] in
      let passing = (keys_are_lacking s t (label_in s t) call Observe refl).enough keyed keys failing.0 in
      false≢true (sym passing ∙ sym (ap (λ some. some_fails_at some failing.0) is) ∙ failing.1)

  modify_opens : (call : RawCall) → check s t call ≡ Some Modify → HasKeys (tests s t call Modify) (label_in s t) keyed
      → check (relabelled s t keyed) t call ≡ Some Modify → ⊥
  modify_opens call e keys again =
      let at = modify_refused s t call e in
      let failing = denials_rest_on_tests (relabelled s t keyed) t call Modify refl again in
      let own = has_label at.caller in
      let label : label_in (relabelled s t keyed) (modified_by call) ≡ label_in s (modified_by call) =
      ap (λ (o : Found). unwrap_or (label_there o) (constant L1)) (stays (modified_by call) at.caller at.other) in
      let is : tests (relabelled s t keyed) t call Modify ≡ tests_with keyed s t call Modify = λ i. modifying (own i) (label i) in
      let passing = (keys_are_lacking s t (label_in s t) call Modify refl).enough keyed keys failing.0 in
      false≢true (sym passing ∙ sym (ap (λ some. some_fails_at some failing.0) is) ∙ failing.1)

  gate_opens : (d o : ℕ) (wanted clearance verify : Levels) → check s t (Enter d o wanted clearance verify) ≡ Some Gate
      → HasKeys (tests s t (Enter d o wanted clearance verify) Gate) (label_in s t) keyed
      → check (relabelled s t keyed) t (Enter d o wanted clearance verify) ≡ Some Gate → ⊥
  gate_opens d o wanted clearance verify e keys again =
      let call = Enter d o wanted clearance verify in
      let at : IsShutOut s t o verify = gate_refusal s t (Enter d o wanted clearance verify) e in
      let failing = denials_rest_on_tests (relabelled s t keyed) t call Gate refl again in
      let own = has_label at.caller in
      let limit : clearance_in (relabelled s t keyed) o ≡ clearance_in s o =
      ap (λ (o : Found). unwrap_or (clearance_there o) (constant L1))
      (stays o at.caller (gate_no_thread (s.objects o) at.gate)) in
      let is : tests (relabelled s t keyed) t call Gate ≡ tests_with keyed s t call Gate = λ i. letting (own i) (limit i) verify in
      let passing = (keys_are_lacking s t (label_in s t) call Gate refl).enough keyed keys failing.0 in
      false≢true (sym passing ∙ sym (ap (λ some. some_fails_at some failing.0) is) ∙ failing.1)

  any_gate_opens : (call : RawCall) → check s t call ≡ Some Gate → HasKeys (tests s t call Gate) (label_in s t) keyed
      → check (relabelled s t keyed) t call ≡ Some Gate → ⊥
  any_gate_opens (Enter d o wanted clearance verify) e keys again = gate_opens d o wanted clearance verify e keys again
  any_gate_opens MakeCategory e keys again = gate_refusal s t MakeCategory e
  any_gate_opens OwnLabel e keys again = gate_refusal s t OwnLabel e
  any_gate_opens (SetLabel label) e keys again = gate_refusal s t (SetLabel label) e
  any_gate_opens (SetClearance clearance) e keys again = gate_refusal s t (SetClearance clearance) e
  any_gate_opens (MakeSegment d label bytes) e keys again = gate_refusal s t (MakeSegment d label bytes) e
  any_gate_opens (MakeContainer d label) e keys again = gate_refusal s t (MakeContainer d label) e
  any_gate_opens (MakeThread d label clearance) e keys again = gate_refusal s t (MakeThread d label clearance) e
  any_gate_opens (MakeGate d label clearance entry) e keys again = gate_refusal s t (MakeGate d label clearance entry) e
  any_gate_opens (Read d o) e keys again = gate_refusal s t (Read d o) e
  any_gate_opens (Write d o keep bytes) e keys again = gate_refusal s t (Write d o keep bytes) e
  any_gate_opens (Unlink d o) e keys again = gate_refusal s t (Unlink d o) e
  any_gate_opens (LabelOf d o) e keys again = gate_refusal s t (LabelOf d o) e

pub keys_open : KeysOpen
keys_open s t call Observe keyed compared e keys again = (refl, observe_opens s t keyed call e keys again)
keys_open s t call Modify keyed compared e keys again = absurd (modify_opens s t keyed call e keys again)
keys_open s t call Gate keyed compared e keys again = absurd (any_gate_opens s t keyed call e keys again)
keys_open s t call Range keyed compared e keys again = absurd (false≢true compared)
keys_open s t call NoEntry keyed compared e keys again = absurd (false≢true compared)
keys_open s t call NoThread keyed compared e keys again = absurd (false≢true compared)
keys_open s t call BadKind keyed compared e keys again = absurd (false≢true compared)
keys_open s t call TooBig keyed compared e keys again = absurd (false≢true compared)
