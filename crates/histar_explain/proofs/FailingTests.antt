-- A denial by comparing labels has a test that fails at some category.
use Rattle.std.proofs.Common.{◌≡◌, ℕ, List, [], ◌∷◌, max, ◌⊎◌, inl, inr, Bool, true, false, ◌&&◌, ◌||◌, None, Some, unwrap_or, refl, sym, ap, ◌∙◌}
use Rattle.std.proofs.Common.{arith}
use Rattle.std.specs.List.{list_all}
use Rattle.std.proofs.lemmas.Bool.Decides.{nat_tests}
use mathlib.Core.Bool.{false≢true}
use Rattle.histar_level.specs.declared.level.Level.{Level}
use Rattle.histar_level.specs.declared.level.Level.TheVariants.{Star, L0, L1, L2, L3}
use Rattle.std.specs.Prelude.{nat_le}
use Rattle.histar_level.specs.Level.{rank, raised}
use Rattle.histar_level.specs.Levels.{Levels, level_of, beyond, exceptions_of}
use Rattle.histar_label.specs.Levels.{constant, is_within, is_below, is_below_raised}
use Rattle.histar_object.specs.declared.objects.Kind.TheVariants as kinds
use Rattle.histar_object.specs.declared.objects.Kind.{Kind as ObjectKind}
use Rattle.histar_object.specs.Objects.{is_present, is_thread, is_gate, kind_is_thread, kind_is_gate, label_there, clearance_there, kind_clearance}
use Rattle.histar_object.specs.State.{State, Found, observes, modifies}
use Rattle.histar_rules.specs.Rights.{is_let_in, is_own_below}
use Rattle.histar_rules.specs.declared.raw.Denied.TheVariants.{Observe, Modify, Range, Gate, NoEntry, NoThread, BadKind, TooBig}
use Rattle.histar_rules.specs.declared.raw.RawCall.{RawCall}
use Rattle.histar_rules.specs.declared.raw.RawCall.TheVariants.{MakeCategory, OwnLabel, SetLabel, SetClearance, MakeSegment, MakeContainer}
use Rattle.histar_rules.specs.declared.raw.RawCall.TheVariants.{MakeThread, MakeGate, Enter, Read, Write, Unlink, LabelOf}
use Rattle.histar_explain.specs.Comparisons.{exceeds}
use Rattle.histar_explain.specs.Named.{observed_by, modified_by}
use Rattle.histar_explain.specs.Tests.{observing, modifying, letting, tests}
use Rattle.histar_explain.specs.Laws.{some_fails_at, DenialsRestOnTests}
use Rattle.histar_explain.proofs.Refused.{observe_refused, modify_refused, IsGateRefusal, gate_refusal}

-- some number for which a test fails
abbrev pub FailsSomewhere : (ℕ → Bool) → Type 0
FailsSomewhere test = (c : ℕ) × (test c ≡ false)

pub one_of_both : (a b : Bool) → (a && b) ≡ false → (a ≡ false) ⊎ (b ≡ false)
one_of_both true b h = inr h
one_of_both false b h = inl refl

-- a test that not all numbers pass fails for one
not_all : (test : ℕ → Bool) (es : List (ℕ × Level)) → list_all (λ e. test e.0) es ≡ false → FailsSomewhere test
not_all test [] h = absurd (false≢true (sym h))
not_all test (e ∷ es) h = elim (one_of_both (test e.0) (list_all (λ e. test e.0) es) h) [
  | inl here ↦ (e.0, here)
  | inr later ↦ not_all test es later
]

-- so does a test that fails for one number or for one of three lists
pub within_fails : (test : ℕ → Bool) (far : ℕ) (A B C : List (ℕ × Level))
    → (test far && (list_all (λ e. test e.0) A && (list_all (λ e. test e.0) B && list_all (λ e. test e.0) C))) ≡ false
    → FailsSomewhere test
within_fails test far A B C h = elim (one_of_both (test far) _ h) [
  | inl here ↦ (far, here)
  | inr near ↦ elim (one_of_both (list_all (λ e. test e.0) A) _ near) [
    | inl first ↦ not_all test A first
    | inr others ↦ elim (one_of_both (list_all (λ e. test e.0) B) _ others) [
      | inl second ↦ not_all test B second
      | inr third ↦ not_all test C third
    ]
  ]
]

-- a level that doesn't fit below another exceeds it
plain_exceeds : (l m : Level) → nat_le (rank l) (max (rank m) (rank m)) ≡ false → exceeds false l m ≡ true
plain_exceeds l m h = grind (arith, nat_tests, h)

raised_exceeds : (l m : Level) → nat_le (rank l) (max (rank m) (raised m)) ≡ false → exceeds true l m ≡ true
raised_exceeds l Star h = grind (arith, nat_tests, h)
raised_exceeds l L0 h = grind (arith, nat_tests, h)
raised_exceeds l L1 h = grind (arith, nat_tests, h)
raised_exceeds l L2 h = grind (arith, nat_tests, h)
raised_exceeds l L3 h = grind (arith, nat_tests, h)

-- where a label is not below another, its level exceeds the other's at some category
pub above_somewhere : (L M : Levels) → is_below L M ≡ false → (c : ℕ) × (exceeds false (level_of L c) (level_of M c) ≡ true)
unfolding is_within
above_somewhere L M h =
    let at =
    within_fails (λ c. nat_le (rank (level_of L c)) (max (rank (level_of M c)) (rank (level_of M c))))
    (max (beyond L) (max (beyond M) (beyond M))) (exceptions_of L) (exceptions_of M) (exceptions_of M) h in
    (at.0, plain_exceeds (level_of L at.0) (level_of M at.0) at.1)

pub raised_somewhere : (L M : Levels) → is_below_raised L M ≡ false → (c : ℕ) × (exceeds true (level_of L c) (level_of M c) ≡ true)
unfolding is_within
raised_somewhere L M h =
    let at =
    within_fails (λ c. nat_le (rank (level_of L c)) (max (rank (level_of M c)) (raised (level_of M c))))
    (max (beyond L) (max (beyond M) (beyond M))) (exceptions_of L) (exceptions_of M) (exceptions_of M) h in
    (at.0, raised_exceeds (level_of L at.0) (level_of M at.0) at.1)

-- the label that is there, or 1 everywhere
abbrev pub label_of_found : Found → Levels
label_of_found found = unwrap_or (label_there found) (constant L1)

abbrev pub clearance_of_found : Found → Levels
clearance_of_found found = unwrap_or (clearance_there found) (constant L1)

pub or_second : (a b : Bool) → b ≡ true → (a || b) ≡ true
or_second true b h = refl
or_second false b h = h

-- some test of observing fails at some category
observing_fails : (T A : Found) → is_thread T ≡ true → is_present A ≡ true → observes T A ≡ false
    → (c : ℕ) × (some_fails_at (observing (label_of_found T) (label_of_found A) ∷ []) c ≡ true)
observing_fails None A thread there refused = absurd (false≢true thread)
observing_fails (Some t) None thread there refused = absurd (false≢true there)
observing_fails (Some t) (Some a) thread there refused = let at = raised_somewhere a.label t.label refused in (at.0, ap (λ b. b || false) at.1)

modifying_fails : (T A : Found) → is_thread T ≡ true → is_present A ≡ true → modifies T A ≡ false
    → (c : ℕ) × (some_fails_at (modifying (label_of_found T) (label_of_found A)) c ≡ true)
modifying_fails None A thread there refused = absurd (false≢true thread)
modifying_fails (Some t) None thread there refused = absurd (false≢true there)
modifying_fails (Some t) (Some a) thread there refused = elim (one_of_both (is_below t.label a.label) (is_below_raised a.label t.label) refused) [
  | inl above ↦
      let at = above_somewhere t.label a.label above in
      (at.0, ap (λ b. b || (exceeds true (level_of a.label at.0) (level_of t.label at.0) || false)) at.1)
  | inr unobserved ↦
      let at = raised_somewhere a.label t.label unobserved in (
        at.0,
        or_second (exceeds false (level_of t.label at.0) (level_of a.label at.0)) _
            (ap (λ b. b || false) at.1),
      )
]

-- the clearance of a kind that has one
pub kind_cleared : (k : ObjectKind Levels) → ((kind_is_thread k ≡ true) ⊎ (kind_is_gate k ≡ true))
    → (clearance : Levels) × (kind_clearance k ≡ Some clearance)
kind_cleared (kinds.Segment bytes) (inl h) = absurd (false≢true h)
kind_cleared (kinds.Segment bytes) (inr h) = absurd (false≢true h)
kind_cleared (kinds.Container links) (inl h) = absurd (false≢true h)
kind_cleared (kinds.Container links) (inr h) = absurd (false≢true h)
kind_cleared (kinds.Thread clearance) h = (clearance, refl)
kind_cleared (kinds.Gate clearance entry) h = (clearance, refl)

-- a thread may hand over a verify label exactly where its own label is below it
pub own_below_is : (T : Found) → is_thread T ≡ true → (label : Levels) → is_own_below T label ≡ is_below (label_of_found T) label
own_below_is None thread label = absurd (false≢true thread)
own_below_is (Some t) thread label =
    let has = kind_cleared t.kind (inl thread) in
    rw has.1 refl

pub let_in_is : (T G : Found) → is_thread T ≡ true → is_gate G ≡ true → is_let_in T G ≡ is_below (label_of_found T) (clearance_of_found G)
let_in_is T None thread gate = absurd (false≢true gate)
let_in_is T (Some g) thread gate =
    let has = kind_cleared g.kind (inr gate) in
    rw has.1 (own_below_is T thread has.0)

letting_fails : (T G : Found) (verify : Levels) → is_thread T ≡ true → is_gate G ≡ true
    → ((is_let_in T G ≡ false) ⊎ (is_own_below T verify ≡ false))
    → (c : ℕ) × (some_fails_at (letting (label_of_found T) (clearance_of_found G) verify) c ≡ true)
letting_fails T G verify thread gate (inl out) =
    let at = above_somewhere (label_of_found T) (clearance_of_found G) (sym (let_in_is T G thread gate) ∙ out) in
    (at.0, ap (λ b. b || (exceeds false (level_of (label_of_found T) at.0) (level_of verify at.0) || false)) at.1)
letting_fails T G verify thread gate (inr out) =
    let at = above_somewhere (label_of_found T) verify (sym (own_below_is T thread verify) ∙ out) in
    (at.0, or_second (exceeds false (level_of (label_of_found T) at.0) (level_of (clearance_of_found G) at.0)) _ (ap (λ b. b || false) at.1))

gate_rests : (s : State) (t : ℕ) (call : RawCall) → IsGateRefusal s t call → (c : ℕ) × (some_fails_at (tests s t call Gate) c ≡ true)
gate_rests s t (Enter d o wanted clearance verify) out = letting_fails (s.objects t) (s.objects o) verify out.caller out.gate out.refused
gate_rests s t MakeCategory out = absurd out
gate_rests s t OwnLabel out = absurd out
gate_rests s t (SetLabel label) out = absurd out
gate_rests s t (SetClearance clearance) out = absurd out
gate_rests s t (MakeSegment d label bytes) out = absurd out
gate_rests s t (MakeContainer d label) out = absurd out
gate_rests s t (MakeThread d label clearance) out = absurd out
gate_rests s t (MakeGate d label clearance entry) out = absurd out
gate_rests s t (Read d o) out = absurd out
gate_rests s t (Write d o keep bytes) out = absurd out
gate_rests s t (Unlink d o) out = absurd out
gate_rests s t (LabelOf d o) out = absurd out

pub denials_rest_on_tests : DenialsRestOnTests
denials_rest_on_tests s t call Observe compared e =
    let at = observe_refused s t call e in observing_fails (s.objects t) (s.objects (observed_by s t call)) at.caller
    at.there at.refused
denials_rest_on_tests s t call Modify compared e =
    let at = modify_refused s t call e in modifying_fails (s.objects t) (s.objects (modified_by call)) at.caller
    at.there at.refused
denials_rest_on_tests s t call Gate compared e = gate_rests s t call (gate_refusal s t call e)
denials_rest_on_tests s t call Range compared e = absurd (false≢true compared)
denials_rest_on_tests s t call NoEntry compared e = absurd (false≢true compared)
denials_rest_on_tests s t call NoThread compared e = absurd (false≢true compared)
denials_rest_on_tests s t call BadKind compared e = absurd (false≢true compared)
denials_rest_on_tests s t call TooBig compared e = absurd (false≢true compared)
