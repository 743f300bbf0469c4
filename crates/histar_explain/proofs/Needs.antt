-- With star at all keys that a denial lacks but one, the same call is still denied.
use Rattle.std.proofs.Common.{◌≡◌, ℕ, ◌⊎◌, inl, inr, [], ◌∷◌, Bool, true, false, ◌&&◌, ◌||◌, if◌then◌else◌, Option, None, Some, length}
use Rattle.std.proofs.Common.{refl, sym, ap, subst, ◌∙◌, arith}
use Rattle.std.proofs.Common.{eqb, eq-eqb}
use Rattle.std.specs.Prelude.{not, option_map}
use Rattle.std.specs.FinSet as set
use Rattle.std.proofs.lemmas.Bool.Decides.{nat_tests}
use mathlib.Core.Bool.{false≢true}
use Rattle.histar_base.specs.Refusals.{unless, ◌orelse◌}
use Rattle.histar_level.specs.Levels.{Levels, level_of}
use Rattle.histar_label.specs.Levels.{is_below, is_below_raised}
use Rattle.histar_label.proofs.Orders.{is_below-law, is_below_raised-law}
use Rattle.histar_object.specs.Objects.{is_present, is_segment, is_container, is_thread, is_gate, links_in}
use Rattle.histar_object.specs.State.{State, Found, observes, modifies, in_range}
use Rattle.histar_rules.specs.Rights.{may_clear, is_let_in, is_own_below, with_label}
use Rattle.histar_rules.specs.declared.raw.Denied.{Denied}
use Rattle.histar_rules.specs.declared.raw.Denied.TheVariants.{Observe, Modify, Range, Gate, NoEntry, NoThread, BadKind, TooBig}
use Rattle.histar_rules.specs.declared.raw.RawCall.{RawCall}
use Rattle.histar_rules.specs.declared.raw.RawCall.TheVariants.{MakeCategory, OwnLabel, SetLabel, SetClearance, MakeSegment, MakeContainer}
use Rattle.histar_rules.specs.declared.raw.RawCall.TheVariants.{MakeThread, MakeGate, Enter, Read, Write, Unlink, LabelOf}
use Rattle.histar_rules.specs.Rules.{check, no_container, no_link, no_segment, no_gate, no_making, known}
use Rattle.histar_rules.proofs.Passing.{first, rest, unless_none}
use Rattle.histar_explain.specs.Comparisons.{exceeds}
use Rattle.histar_explain.specs.Tests.{observing, modifying, letting, tests}
use Rattle.histar_explain.specs.Laws.{some_fails_at, relabelled, OwnsMore, IsStillDenied, KeysAreNeeded}
use Rattle.histar_explain.specs.Named.{label_in, clearance_in, container_named, observed_by, modified_by}
use Rattle.histar_explain.proofs.Keys.{star_above, keys_are_lacking}
use Rattle.histar_explain.proofs.Opens.{if_true, stays, has_label, gate_no_thread}
use Rattle.histar_explain.proofs.Refused.{never, not_orelse, not_unless, strip, skip, split, no_call, no_count}
use Rattle.histar_explain.proofs.Refused.{container_not, link_not, segment_not, gate_not}
use Rattle.histar_explain.proofs.Refused.{IsShutOut, observe_refused, modify_refused, gate_refusal}
use Rattle.histar_explain.proofs.Refused.{other_kind, segment_refused, segment_container, new_making, owner_making}
use Rattle.histar_explain.proofs.Refused.{container_observed, entry_observed}
use Rattle.histar_explain.proofs.Refused.{enter_modifies, read_modifies, label_modifies}
use Rattle.histar_explain.proofs.FailingTests.{label_of_found, clearance_of_found, raised_somewhere, let_in_is, own_below_is}

-- ---- a test that fails at a category refuses

above_nothing : (L M : Levels) (c : ℕ) → exceeds false (level_of L c) (level_of M c) ≡ true → is_below L M ≡ false
above_nothing L M c fails = elim (is_below L M) as (λ b. is_below L M ≡ b → b ≡ false) [
  | true ↦ λ below. let bound = (is_below-law L M).0 below c in grind (arith, nat_tests, bound, fails)
  | false ↦ λ out. refl
] refl

raised_above : (L M : Levels) (c : ℕ) → exceeds true (level_of L c) (level_of M c) ≡ true → is_below_raised L M ≡ false
raised_above L M c fails = elim (is_below_raised L M) as (λ b. is_below_raised L M ≡ b → b ≡ false) [
  | true ↦ λ below. let bound = (is_below_raised-law L M).0 below c in grind (arith, nat_tests, bound, fails)
  | false ↦ λ out. refl
] refl

either : (a b : Bool) → (a || (b || false)) ≡ true → (a ≡ true) ⊎ (b ≡ true)
either true b h = inl refl
either false true h = inr refl
either false false h = absurd (false≢true h)

alone : (a : Bool) → (a || false) ≡ true → a ≡ true
alone true h = refl
alone false h = absurd (false≢true h)

both_false : (a b : Bool) → ((a ≡ false) ⊎ (b ≡ false)) → (a && b) ≡ false
both_false true b (inl h) = absurd (false≢true (sym h))
both_false true b (inr h) = h
both_false false b h = refl

unobserved : (T A : Found) (c : ℕ) → some_fails_at (observing (label_of_found T) (label_of_found A) ∷ []) c ≡ true → observes T A ≡ false
unobserved None A c fails = refl
unobserved (Some t) None c fails = refl
unobserved (Some t) (Some a) c fails = raised_above a.label t.label c (alone _ fails)

unmodified : (T A : Found) (c : ℕ) → some_fails_at (modifying (label_of_found T) (label_of_found A)) c ≡ true → modifies T A ≡ false
unmodified None A c fails = refl
unmodified (Some t) None c fails = refl
unmodified (Some t) (Some a) c fails =
    both_false (is_below t.label a.label) (is_below_raised a.label t.label)
    (elim (either (exceeds false (level_of t.label c) (level_of a.label c)) (exceeds true (level_of a.label c) (level_of t.label c)) fails) [
      | inl above ↦ inl (above_nothing t.label a.label c above)
      | inr hidden ↦ inr (raised_above a.label t.label c hidden)
    ])

-- a thread that is not let in to a gate, or not with this verify label
let_in_nowhere : (T G : Found) (verify : Levels) (c : ℕ) → is_thread T ≡ true → is_gate G ≡ true
    → some_fails_at (letting (label_of_found T) (clearance_of_found G) verify) c ≡ true
    → (is_let_in T G ≡ false) ⊎ (is_own_below T verify ≡ false)
let_in_nowhere T G verify c thread gate fails =
    let own = label_of_found T in
    let limit = clearance_of_found G in
    elim (either (exceeds false (level_of own c) (level_of limit c)) (exceeds false (level_of own c) (level_of verify c)) fails) [
      | inl above ↦ inl (let_in_is T G thread gate ∙ above_nothing own limit c above)
      | inr above ↦ inr (own_below_is T thread verify ∙ above_nothing own verify c above)
    ]

-- ---- the checks up to the link, in the state with the other label

-- where the first three tests of a container pass, the fourth decides
fourth : (a b c e : Bool) → a ≡ true → b ≡ true → c ≡ true
    → (unless a NoThread orelse unless b NoEntry orelse unless c BadKind orelse unless e Observe) ≡ unless e Observe
fourth a b c e first second third =
    λ i. unless (first i) NoThread orelse unless (second i) NoEntry orelse unless (third i) BadKind orelse unless e Observe

-- a check that passes changes nothing
and_none : (a b : Option Denied) → b ≡ None → (a orelse b) ≡ a
and_none None b h = h
and_none (Some d) b h = refl

-- one denial, unless the container may not be observed
abbrev otherwise : Bool → Denied → Denied
otherwise e x = if e then x else Observe

-- what is denied behind a container that is only observed or not
closing : (a b : Option Denied) (e : Bool) (x : Denied) → a ≡ unless e Observe → b ≡ Some x → (a orelse b) ≡ Some (otherwise e x)
closing a b true x first second = (λ i. first i orelse b) ∙ second
closing a b false x first second = λ i. first i orelse b

-- the first denial is the one
stopped : {x : Denied} (a b : Option Denied) → a ≡ Some x → (a orelse b) ≡ Some x
stopped a b h = λ i. h i orelse b

-- of two tests of a gate one fails
one_of_two : (a b : Bool) (later : Option Denied) → ((a ≡ false) ⊎ (b ≡ false)) → (unless a Gate orelse (unless b Gate orelse later)) ≡ Some Gate
one_of_two true b later (inl h) = absurd (false≢true (sym h))
one_of_two true b later (inr h) = λ i. unless (h i) Gate orelse later
one_of_two false b later h = refl

-- a container that may not be observed
shut : (e : Bool) (x : Denied) → e ≡ false → Some Observe ≡ Some (otherwise e x)
shut true x h = absurd (false≢true (sym h))
shut false x h = refl

-- Observe is denied either way
always : (e : Bool) → otherwise e Observe ≡ Observe
always true = refl
always false = refl

-- the tests of the container before the one of its label
reached : (a b c e : Bool) (r : Option Denied) → (unless a NoThread orelse unless b NoEntry orelse unless c BadKind orelse unless e Observe) ≡ r
    → ((r ≡ None) ⊎ (r ≡ Some Observe)) → (a ≡ true) × (c ≡ true)
reached true true true e r is outcome = (refl, refl)
reached true true false e r is (inl none) = cc
reached true true false e r is (inr some) = cc
reached true false c e r is (inl none) = cc
reached true false c e r is (inr some) = cc
reached false b c e r is (inl none) = cc
reached false b c e r is (inr some) = cc

module _ (s : State) (t : ℕ) (short : Levels) where
  abbrev new : State
  new = relabelled s t short

  -- the thread is one still
  still_thread : is_thread (s.objects t) ≡ true → is_thread (new.objects t) ≡ true
  still_thread thread =
      ap (λ (o : Found). is_thread o) (if_true (eqb t t) (option_map (with_label short) (s.objects t)) (s.objects t) (eq-eqb t t refl))
      ∙ relabelled_thread (s.objects t) thread
    where
      relabelled_thread : (found : Found) → is_thread found ≡ true → is_thread (option_map (with_label short) found) ≡ true
      relabelled_thread None h = h
      relabelled_thread (Some o) h = h

  -- the container is there, and is as it was
  record IsContained (d : ℕ) : Type 0 where
    caller : is_thread (s.objects t) ≡ true
    there : is_present (s.objects d) ≡ true
    container : is_container (s.objects d) ≡ true
    same : new.objects d ≡ s.objects d

  contained : (d : ℕ) → ((no_container s t d ≡ None) ⊎ (no_container s t d ≡ Some Observe)) → IsContained d
  contained d outcome =
      let parts =
      reached (is_thread (s.objects t)) (is_present (s.objects d)) (is_container (s.objects d)) (observes (s.objects t) (s.objects d))
      (no_container s t d) refl outcome in
      let kind = other_kind (s.objects d) (inl parts.1) in
      record { caller = parts.0; there = kind.0; container = parts.1; same = stays s t short d parts.0 kind.1 }

  -- whether the thread may observe the container with its other label
  abbrev sees : ℕ → Bool
  sees d = observes (new.objects t) (new.objects d)

  container_now : (d : ℕ) → IsContained d → no_container new t d ≡ unless (sees d) Observe
  container_now d at =
      fourth (is_thread (new.objects t)) (is_present (new.objects d)) (is_container (new.objects d)) (sees d)
      (still_thread at.caller) (ap (λ (o : Found). is_present o) at.same ∙ at.there) (ap (λ (o : Found). is_container o) at.same ∙ at.container)

  link_now : (d o : ℕ) → no_link s t d o ≡ None → no_link new t d o ≡ unless (sees d) Observe
  link_now d o e =
      let at = contained d (inl (first (no_container s t d) _ e)) in
      and_none (no_container new t d) _ (ap (λ (found : Found). unless (set.contains (links_in found) o) NoEntry) at.same
      ∙ rest (no_container s t d) _ e) ∙ container_now d at

  -- a container that was refused is still refused
  module _ (d : ℕ) (e : no_container s t d ≡ Some Observe) (hidden : observes (new.objects t) (s.objects d) ≡ false) where
    hidden_now : sees d ≡ false
    hidden_now = ap (observes (new.objects t)) (contained d (inr e)).same ∙ hidden

    container_shut : no_container new t d ≡ Some Observe
    container_shut = container_now d (contained d (inr e)) ∙ ap (λ b. unless b Observe) hidden_now

  -- an object that the call names, and that is no thread, is as it was
  module _ (d o : ℕ) (linked : no_link s t d o ≡ None) where
    held : IsContained d
    held = contained d (inl (first (no_container s t d) _ linked))

    segment_same : is_segment (s.objects o) ≡ true → new.objects o ≡ s.objects o
    segment_same segment = stays s t short o held.caller (other_kind (s.objects o) (inr segment)).1

    segment_now : is_segment (s.objects o) ≡ true → no_segment new t d o ≡ unless (sees d) Observe
    segment_now segment =
        and_none (no_link new t d o) _ (ap (λ b. unless b BadKind) (ap (λ (found : Found). is_segment found) (segment_same segment) ∙ segment))
        ∙ link_now d o linked

    gate_same : is_gate (s.objects o) ≡ true → new.objects o ≡ s.objects o
    gate_same gate = stays s t short o held.caller (gate_no_thread (s.objects o) gate)

    gate_now : is_gate (s.objects o) ≡ true → no_gate new t d o ≡ unless (sees d) Observe
    gate_now gate =
        and_none (no_link new t d o) _ (ap (λ b. unless b BadKind) (ap (λ (found : Found). is_gate found) (gate_same gate) ∙ gate))
        ∙ link_now d o linked

  -- ---- a call that may not observe

  module _ (d : ℕ) (hidden : observes (new.objects t) (s.objects d) ≡ false) where
    container_hidden : no_container s t d ≡ Some Observe → no_container new t d ≡ Some (otherwise (sees d) Observe)
    container_hidden e = container_shut d e hidden ∙ shut (sees d) Observe (hidden_now d e hidden)

    making_hidden : no_making s t d ≡ Some Observe → no_making new t d ≡ Some (otherwise (sees d) Observe)
    making_hidden e =
        stopped (no_container new t d) _
        (container_hidden (strip Observe (no_container s t d) _ (not_unless Observe (modifies (s.objects t) (s.objects d)) Modify (λ h. cc)) e))

    link_hidden : (o : ℕ) → no_link s t d o ≡ Some Observe → no_link new t d o ≡ Some (otherwise (sees d) Observe)
    link_hidden o e =
        stopped (no_container new t d) _
        (container_hidden (strip Observe (no_container s t d) _ (not_unless Observe (set.contains (links_in (s.objects d)) o) NoEntry (λ h. cc)) e))

    segment_hidden : (o : ℕ) → no_segment s t d o ≡ Some Observe → no_segment new t d o ≡ Some (otherwise (sees d) Observe)
    segment_hidden o e =
        stopped (no_link new t d o) _
        (link_hidden o (strip Observe (no_link s t d o) _ (not_unless Observe (is_segment (s.objects o)) BadKind (λ h. cc)) e))

    gate_hidden : (o : ℕ) → no_gate s t d o ≡ Some Observe → no_gate new t d o ≡ Some (otherwise (sees d) Observe)
    gate_hidden o e =
        stopped (no_link new t d o) _
        (link_hidden o (strip Observe (no_link s t d o) _ (not_unless Observe (is_gate (s.objects o)) BadKind (λ h. cc)) e))

  -- a call is denied so, or by its container
  abbrev StillDenied : RawCall → Denied → Type 0
  StillDenied call denied = check new t call ≡ Some (otherwise (sees (container_named call)) denied)

  observe_needs : (call : RawCall) → check s t call ≡ Some Observe → observes (new.objects t) (s.objects (observed_by s t call)) ≡ false
      → StillDenied call Observe
  observe_needs MakeCategory e hidden = absurd (never Observe _ (no_count Observe (λ h. cc) (λ h. cc) (is_thread (s.objects t)) _) e)
  observe_needs OwnLabel e hidden = absurd (never Observe _ (not_unless Observe (is_thread (s.objects t)) NoThread (λ h. cc)) e)
  observe_needs (SetLabel label) e hidden =
      absurd (never Observe _ (no_call Observe (λ h. cc) (λ h. cc) (is_thread (s.objects t)) (in_range (s.objects t) label)
      (known s label)) e)
  observe_needs (SetClearance clearance) e hidden =
      absurd (never Observe _ (no_call Observe (λ h. cc) (λ h. cc) (is_thread (s.objects t)) (may_clear (s.objects t) clearance)
      (known s clearance)) e)
  observe_needs (MakeSegment d label bytes) e hidden =
      stopped (no_making new t d) _ (making_hidden d hidden (new_making s t d Observe (λ h. cc) (λ h. cc) label (length bytes) e))
  observe_needs (MakeContainer d label) e hidden =
      stopped (no_making new t d) _ (making_hidden d hidden (new_making s t d Observe (λ h. cc) (λ h. cc) label 0 e))
  observe_needs (MakeThread d label clearance) e hidden =
      stopped (no_making new t d) _ (making_hidden d hidden (owner_making s t d Observe (λ h. cc) (λ h. cc) label clearance e))
  observe_needs (MakeGate d label clearance entry) e hidden =
      stopped (no_making new t d) _ (making_hidden d hidden (owner_making s t d Observe (λ h. cc) (λ h. cc) label clearance e))
  observe_needs (Enter d o wanted clearance verify) e hidden =
      stopped (no_gate new t d o) _ (gate_hidden d hidden o (entry_observed s t d o wanted clearance verify e))
  observe_needs (Read d o) e hidden = elim (split Observe (no_segment s t d o) _ e) [
    | inl at_container ↦
        let unseen = (segment_refused s t d o at_container).refused in
        let at = subst (λ b. observes (new.objects t) (s.objects (if b then o else d)) ≡ false) unseen hidden in
        stopped (no_segment new t d o) _ (segment_hidden d at o at_container)
    | inr at_segment ↦
        let linked = first (no_link s t d o) _ at_segment.0 in
        let segment = unless_none (is_segment (s.objects o)) BadKind (rest (no_link s t d o) _ at_segment.0) in
        let seen = container_observed s t d (first (no_container s t d) _ linked) in
        let at = subst (λ b. observes (new.objects t) (s.objects (if b then o else d)) ≡ false) seen hidden in
        closing (no_segment new t d o) _ (sees d) Observe (segment_now d o linked segment)
        (ap (λ b. unless b Observe) (ap (observes (new.objects t)) (segment_same d o linked segment) ∙ at))
  ]
  observe_needs (Write d o keep bytes) e hidden = stopped (no_segment new t d o) _ (segment_hidden d hidden o (strip Observe (no_segment s t d o) _
      (not_orelse Observe (unless (modifies (s.objects t) (s.objects o)) Modify) _
      (not_unless Observe (modifies (s.objects t) (s.objects o)) Modify (λ h. cc))
      (not_unless Observe _ TooBig (λ h. cc))) e))
  observe_needs (Unlink d o) e hidden = stopped (no_link new t d o) _ (link_hidden d hidden o
      (strip Observe (no_link s t d o) _ (not_unless Observe (modifies (s.objects t) (s.objects d)) Modify (λ h. cc)) e))
  observe_needs (LabelOf d o) e hidden = stopped (no_link new t d o) _ (link_hidden d hidden o
      (strip Observe (no_link s t d o) _ (not_unless Observe (not (is_thread (s.objects o))) BadKind (λ h. cc)) e))

  -- ---- a call that may not modify

  -- the container of a call may be observed
  abbrev PassesContainer : RawCall → Type 0
  PassesContainer call = no_container s t (container_named call) ≡ None

  making_fixed : (d : ℕ) (later : Option Denied) → no_making s t d ≡ Some Modify → modifies (new.objects t) (s.objects d) ≡ false
      → (no_container s t d ≡ None) × ((no_making new t d orelse later) ≡ Some (otherwise (sees d) Modify))
  making_fixed d later e fixed =
      let passed = (skip Modify (no_container s t d) _ (container_not Modify (λ h. cc) (λ h. cc) (λ h. cc) (λ h. cc) s t d) e).0 in
      let at = contained d (inl passed) in (
        passed,
        stopped (no_making new t d) later (closing (no_container new t d) _ (sees d) Modify (container_now d at)
            (ap (λ b. unless b Modify) (ap (modifies (new.objects t)) at.same ∙ fixed))),
      )

  modify_needs : (call : RawCall) → check s t call ≡ Some Modify → modifies (new.objects t) (s.objects (modified_by call)) ≡ false
      → PassesContainer call × StillDenied call Modify
  modify_needs MakeCategory e fixed = absurd (never Modify _ (no_count Modify (λ h. cc) (λ h. cc) (is_thread (s.objects t)) _) e)
  modify_needs OwnLabel e fixed = absurd (never Modify _ (not_unless Modify (is_thread (s.objects t)) NoThread (λ h. cc)) e)
  modify_needs (SetLabel label) e fixed =
      absurd (never Modify _ (no_call Modify (λ h. cc) (λ h. cc) (is_thread (s.objects t)) (in_range (s.objects t) label)
      (known s label)) e)
  modify_needs (SetClearance clearance) e fixed =
      absurd (never Modify _ (no_call Modify (λ h. cc) (λ h. cc) (is_thread (s.objects t)) (may_clear (s.objects t) clearance)
      (known s clearance)) e)
  modify_needs (MakeSegment d label bytes) e fixed =
      making_fixed d _ (new_making s t d Modify (λ h. cc) (λ h. cc) label (length bytes) e) fixed
  modify_needs (MakeContainer d label) e fixed =
      making_fixed d _ (new_making s t d Modify (λ h. cc) (λ h. cc) label 0 e) fixed
  modify_needs (MakeThread d label clearance) e fixed =
      making_fixed d _ (owner_making s t d Modify (λ h. cc) (λ h. cc) label clearance e) fixed
  modify_needs (MakeGate d label clearance entry) e fixed =
      making_fixed d _ (owner_making s t d Modify (λ h. cc) (λ h. cc) label clearance e) fixed
  modify_needs (Enter d o wanted clearance verify) e fixed = absurd (enter_modifies s t d o wanted clearance verify e)
  modify_needs (Read d o) e fixed = absurd (read_modifies s t d o e)
  modify_needs (Write d o keep bytes) e fixed =
      let parts = skip Modify (no_segment s t d o) _ (segment_not Modify (λ h. cc) (λ h. cc) (λ h. cc) (λ h. cc) s t d o) e in
      let linked = first (no_link s t d o) _ parts.0 in
      let segment = unless_none (is_segment (s.objects o)) BadKind (rest (no_link s t d o) _ parts.0) in
      let no_writing = unless (modifies (new.objects t) (new.objects o)) Modify in (
        first (no_container s t d) _ linked,
        closing (no_segment new t d o) _ (sees d) Modify (segment_now d o linked segment)
            (stopped no_writing _ (ap (λ b. unless b Modify) (ap (modifies (new.objects t)) (segment_same d o linked segment) ∙ fixed))),
      )
  modify_needs (Unlink d o) e fixed =
      let parts = skip Modify (no_link s t d o) _ (link_not Modify (λ h. cc) (λ h. cc) (λ h. cc) (λ h. cc) s t d o) e in (
        first (no_container s t d) _ parts.0,
        closing (no_link new t d o) _ (sees d) Modify (link_now d o parts.0)
            (ap (λ b. unless b Modify) (ap (modifies (new.objects t)) (held d o parts.0).same ∙ fixed)),
      )
  modify_needs (LabelOf d o) e fixed = absurd (label_modifies s t d o e)

  -- ---- a call that may not enter

  entry_needs : (d o : ℕ) (wanted clearance verify : Levels) → check s t (Enter d o wanted clearance verify) ≡ Some Gate
      → ((is_let_in (new.objects t) (s.objects o) ≡ false) ⊎ (is_own_below (new.objects t) verify ≡ false))
      → (no_container s t d ≡ None) × StillDenied (Enter d o wanted clearance verify) Gate
  entry_needs d o wanted clearance verify e out =
      let parts = skip Gate (no_gate s t d o) _ (gate_not Gate (λ h. cc) (λ h. cc) (λ h. cc) (λ h. cc) s t d o) e in
      let linked = first (no_link s t d o) _ parts.0 in
      let gate = unless_none (is_gate (s.objects o)) BadKind (rest (no_link s t d o) _ parts.0) in
      let still_out : (is_let_in (new.objects t) (new.objects o) ≡ false) ⊎ (is_own_below (new.objects t) verify ≡ false) = elim out [
        | inl low ↦ inl (ap (is_let_in (new.objects t)) (gate_same d o linked gate) ∙ low)
        | inr low ↦ inr low
      ] in (
        first (no_container s t d) _ linked,
        closing (no_gate new t d o) _ (sees d) Gate (gate_now d o linked gate)
            (one_of_two (is_let_in (new.objects t) (new.objects o)) (is_own_below (new.objects t) verify) _ still_out),
      )

  -- ---- a label that only owns more

  module _ (more : OwnsMore (label_in s t) short) where
    -- what the thread observes, it still observes
    still_sees : (d : ℕ) → no_container s t d ≡ None → sees d ≡ true
    still_sees d passed =
        let at = contained d (inl passed) in
        (λ i. observes (own_object i) (at.same i)) ∙ grows (s.objects t) (s.objects d) more (container_observed s t d passed)
      where
        own_object : new.objects t ≡ option_map (with_label short) (s.objects t)
        own_object = if_true (eqb t t) (option_map (with_label short) (s.objects t)) (s.objects t) (eq-eqb t t refl)

        grows : (T A : Found) → OwnsMore (label_of_found T) short → observes T A ≡ true → observes (option_map (with_label short) T) A ≡ true
        grows None A more seen = seen
        grows (Some t) None more seen = seen
        grows (Some t) (Some a) more seen = elim (is_below_raised a.label short) as (λ b. is_below_raised a.label short ≡ b → b ≡ true) [
          | true ↦ λ below. refl
          | false ↦ λ out.
              let at = raised_somewhere a.label short out in
              elim (more at.0) [
                | inl star ↦ absurd (false≢true (sym (ap (exceeds true (level_of a.label at.0)) star ∙ star_above (level_of a.label at.0)) ∙ at.1))
                | inr same ↦ absurd (false≢true
                    (sym (raised_above a.label t.label at.0 (sym (ap (exceeds true (level_of a.label at.0)) same) ∙ at.1)) ∙ seen))
              ]
        ] refl

    -- only a read has another object behind its container
    object_same : (Has : RawCall → Type 0) → ((d o : ℕ) → Has (Read d o) → sees d ≡ observes (s.objects t) (s.objects d))
        → (call : RawCall) → Has call → observed_by new t call ≡ observed_by s t call
    object_same Has reads (Read d o) h = ap (λ b. if b then o else d) (reads d o h)
    object_same Has reads MakeCategory h = refl
    object_same Has reads OwnLabel h = refl
    object_same Has reads (SetLabel label) h = refl
    object_same Has reads (SetClearance clearance) h = refl
    object_same Has reads (MakeSegment d label bytes) h = refl
    object_same Has reads (MakeContainer d label) h = refl
    object_same Has reads (MakeThread d label clearance) h = refl
    object_same Has reads (MakeGate d label clearance entry) h = refl
    object_same Has reads (Enter d o wanted clearance verify) h = refl
    object_same Has reads (Write d o keep bytes) h = refl
    object_same Has reads (Unlink d o) h = refl
    object_same Has reads (LabelOf d o) h = refl

    -- a call that may not observe an object
    abbrev IsHidden : RawCall → Type 0
    IsHidden call = (check s t call ≡ Some Observe) × (observes (new.objects t) (s.objects (observed_by s t call)) ≡ false)

    read_same : (d o : ℕ) → IsHidden (Read d o) → sees d ≡ observes (s.objects t) (s.objects d)
    read_same d o h = elim (split Observe (no_segment s t d o) _ h.0) [
      | inl at_container ↦
          let unseen = (segment_refused s t d o at_container).refused in
          let at = subst (λ b. observes (new.objects t) (s.objects (if b then o else d)) ≡ false) unseen h.1 in
          let container = segment_container s t d o at_container in
          hidden_now d container at ∙ sym unseen
      | inr at_segment ↦
          let passed = first (no_container s t d) _ (first (no_link s t d o) _ at_segment.0) in
          still_sees d passed ∙ sym (container_observed s t d passed)
    ]

    -- where the container may be observed, so may it still be
    passed_same : (call : RawCall) → PassesContainer call → observed_by new t call ≡ observed_by s t call
    passed_same = object_same PassesContainer (λ d o passed. still_sees d passed ∙ sym (container_observed s t d passed))

    passed_alike : (call : RawCall) (x : Denied) → PassesContainer call → StillDenied call x → check new t call ≡ Some x
    passed_alike call x passed h = h ∙ ap (λ b. Some (otherwise b x)) (still_sees (container_named call) passed)

  -- ---- the three denials

  module _ (k : ℕ) (same : level_of short k ≡ level_of (label_in s t) k) where
    observe_still : (call : RawCall) → check s t call ≡ Some Observe → some_fails_at (tests s t call Observe) k ≡ true
        → IsStillDenied s t call Observe short
    observe_still call e fails =
        let at = observe_refused s t call e in
        let label = label_in s (observed_by s t call) in
        let failing =
        ap (λ own. some_fails_at (observing own label ∷ []) k) (has_label s t short at.caller)
        ∙ (keys_are_lacking s t (label_in s t) call Observe refl).each_wanted short k fails same in
        let hidden = unobserved (new.objects t) (s.objects (observed_by s t call)) k failing in
        let still = observe_needs call e hidden in
        record {
          refused = still;
          alike = λ more. still ∙ ap (λ d. Some d) (always (sees (container_named call)));
          there = λ more. object_same more (IsHidden more) (read_same more) call (e, hidden);
        }

    -- behind a container that may be observed
    still_behind : (call : RawCall) (x : Denied) → PassesContainer call × StillDenied call x → IsStillDenied s t call x short
    still_behind call x h = record {
      refused = h.1;
      alike = λ more. passed_alike more call x h.0 h.1;
      there = λ more. passed_same more call h.0;
    }

    modify_still : (call : RawCall) → check s t call ≡ Some Modify → some_fails_at (tests s t call Modify) k ≡ true
        → IsStillDenied s t call Modify short
    modify_still call e fails =
        let at = modify_refused s t call e in
        let label = label_in s (modified_by call) in
        let failing =
        ap (λ own. some_fails_at (modifying own label) k) (has_label s t short at.caller)
        ∙ (keys_are_lacking s t (label_in s t) call Modify refl).each_wanted short k fails same in
        still_behind call Modify (modify_needs call e (unmodified (new.objects t) (s.objects (modified_by call)) k failing))

    entry_still : (d o : ℕ) (wanted clearance verify : Levels) → check s t (Enter d o wanted clearance verify) ≡ Some Gate
        → some_fails_at (tests s t (Enter d o wanted clearance verify) Gate) k ≡ true
        → IsStillDenied s t (Enter d o wanted clearance verify) Gate short
    entry_still d o wanted clearance verify e fails =
        let call = Enter d o wanted clearance verify in
        let at : IsShutOut s t o verify = gate_refusal s t (Enter d o wanted clearance verify) e in
        let limit = clearance_in s o in
        let failing =
        ap (λ own. some_fails_at (letting own limit verify) k) (has_label s t short at.caller)
        ∙ (keys_are_lacking s t (label_in s t) call Gate refl).each_wanted short k fails same in
        still_behind call Gate (entry_needs d o wanted clearance verify e
        (let_in_nowhere (new.objects t) (s.objects o) verify k (still_thread at.caller) at.gate failing))

    gate_still : (call : RawCall) → check s t call ≡ Some Gate → some_fails_at (tests s t call Gate) k ≡ true → IsStillDenied s t call Gate short
    gate_still (Enter d o wanted clearance verify) e fails = entry_still d o wanted clearance verify e fails
    gate_still MakeCategory e fails = absurd (false≢true fails)
    gate_still OwnLabel e fails = absurd (false≢true fails)
    gate_still (SetLabel label) e fails = absurd (false≢true fails)
    gate_still (SetClearance clearance) e fails = absurd (false≢true fails)
    gate_still (MakeSegment d label bytes) e fails = absurd (false≢true fails)
    gate_still (MakeContainer d label) e fails = absurd (false≢true fails)
    gate_still (MakeThread d label clearance) e fails = absurd (false≢true fails)
    gate_still (MakeGate d label clearance entry) e fails = absurd (false≢true fails)
    gate_still (Read d o) e fails = absurd (false≢true fails)
    gate_still (Write d o keep bytes) e fails = absurd (false≢true fails)
    gate_still (Unlink d o) e fails = absurd (false≢true fails)
    gate_still (LabelOf d o) e fails = absurd (false≢true fails)

pub keys_are_needed : KeysAreNeeded
keys_are_needed s t call Observe short k compared e fails same = observe_still s t short k same call e fails
keys_are_needed s t call Modify short k compared e fails same = modify_still s t short k same call e fails
keys_are_needed s t call Gate short k compared e fails same = gate_still s t short k same call e fails
keys_are_needed s t call Range short k compared e fails same = absurd (false≢true compared)
keys_are_needed s t call NoEntry short k compared e fails same = absurd (false≢true compared)
keys_are_needed s t call NoThread short k compared e fails same = absurd (false≢true compared)
keys_are_needed s t call BadKind short k compared e fails same = absurd (false≢true compared)
keys_are_needed s t call TooBig short k compared e fails same = absurd (false≢true compared)
