-- Each denied call has grounds.
use Rattle.std.proofs.Common.{◌≡◌, ◌≢◌, ℕ, List, [], ◌∷◌, inl, inr, Bool, true, false, ◌&&◌, ◌||◌, Option, Some, if◌then◌else◌, refl, sym, ap, ◌∙◌}
use Rattle.std.specs.Prelude.{not}
use Rattle.std.specs.List.{list_any}
use mathlib.Core.Bool.{false≢true}
use Rattle.std.specs.FinSet as set
use Rattle.histar_base.specs.Refusals.{unless, ◌orelse◌}
use Rattle.histar_level.specs.Levels.{Levels}
use Rattle.histar_label.specs.Levels.{has_star, is_below, is_below_join_raised}
use Rattle.histar_object.specs.Objects.{is_present, is_segment, is_container, is_thread, is_gate, links_in}
use Rattle.histar_object.specs.State.{State, Found}
use Rattle.histar_object.specs.State as states
use Rattle.histar_rules.specs.Rights.{is_let_in, is_own_below, lies_between, both, holds_of}
use Rattle.histar_rules.specs.Rights as rights
use Rattle.histar_rules.specs.declared.raw.Denied.{Denied}
use Rattle.histar_rules.specs.declared.raw.Denied.TheVariants.{Observe, Modify, Range, Gate, NoEntry, NoThread, BadKind, TooBig}
use Rattle.histar_rules.specs.declared.raw.RawCall.{RawCall}
use Rattle.histar_rules.specs.declared.raw.RawCall.TheVariants.{MakeCategory, OwnLabel, SetLabel, SetClearance, MakeSegment, MakeContainer}
use Rattle.histar_rules.specs.declared.raw.RawCall.TheVariants.{MakeThread, MakeGate, Enter, Read, Write, Unlink, LabelOf}
use Rattle.histar_rules.specs.Rules.{check, no_thread, no_container, no_link, no_gate, no_making, known, fits_segment}
use Rattle.histar_rules.proofs.Passing.{rest, unless_none}
use Rattle.histar_explain.specs.declared.explanations.Obstacle.TheVariants as obstacles
use Rattle.histar_explain.specs.declared.reasons.Party.TheVariants.{AnySegment, AnyContainer}
use Rattle.histar_explain.specs.Named.{container_named, object_named, handed}
use Rattle.histar_explain.specs.Tests.{Test, tests, in_range, in_span, clearing, behind_gate, owning_nothing}
use Rattle.histar_explain.specs.Unmade.{lists, is_unmade}
use Rattle.histar_explain.specs.Obstacles.{wrong_kind, counted, bytes_after, has_next, IsInTheWay}
use Rattle.histar_explain.specs.Laws.{some_fails_at}
use Rattle.histar_explain.specs.Explanations.{DenialsHaveGrounds}
use Rattle.histar_explain.proofs.Refused.{skip, gate_not}
use Rattle.histar_explain.proofs.FailingTests.{one_of_both, or_second, label_of_found, clearance_of_found, denials_rest_on_tests}
use Rattle.histar_explain.proofs.Blame.{is_wanted, passes_ranges, blame}
use Rattle.histar_explain.proofs.RangeGrounds.{Fails, fails_later, Owns, owns_thread, owns_gate, holds_is, range_is, range_fails, span_fails}
use Rattle.histar_explain.proofs.RangeGrounds.{opening_fails, clearing_fails, star_fails, unmade_listed}

-- a caller that is no thread is refused first
orelse_first : (a b : Option Denied) (d : Denied) → a ≡ Some d → (a orelse b) ≡ Some d
orelse_first a b d h = ap (λ (x : Option Denied). x orelse b) h

module _ (s : State) (t : ℕ) (no : is_thread (s.objects t) ≡ false) where
  thread_refused : no_thread s t ≡ Some NoThread
  thread_refused = ap (λ b. unless b NoThread) no

  container_refused : (d : ℕ) → no_container s t d ≡ Some NoThread
  container_refused d = orelse_first (no_thread s t) _ NoThread thread_refused

  link_refused : (d o : ℕ) → no_link s t d o ≡ Some NoThread
  link_refused d o = orelse_first (no_container s t d) _ NoThread (container_refused d)

  kind_refused : (d o : ℕ) (later : Option Denied) → (no_link s t d o orelse later) ≡ Some NoThread
  kind_refused d o later = orelse_first (no_link s t d o) later NoThread (link_refused d o)

  making_refused : (d : ℕ) → no_making s t d ≡ Some NoThread
  making_refused d = orelse_first (no_container s t d) _ NoThread (container_refused d)

  caller_refused : (call : RawCall) → check s t call ≡ Some NoThread
  caller_refused MakeCategory = orelse_first (no_thread s t) _ NoThread thread_refused
  caller_refused OwnLabel = thread_refused
  caller_refused (SetLabel label) = orelse_first (no_thread s t) _ NoThread thread_refused
  caller_refused (SetClearance clearance) = orelse_first (no_thread s t) _ NoThread thread_refused
  caller_refused (MakeSegment d label bytes) = orelse_first (no_making s t d) _ NoThread (making_refused d)
  caller_refused (MakeContainer d label) = orelse_first (no_making s t d) _ NoThread (making_refused d)
  caller_refused (MakeThread d label clearance) = orelse_first (no_making s t d) _ NoThread (making_refused d)
  caller_refused (MakeGate d label clearance entry) = orelse_first (no_making s t d) _ NoThread (making_refused d)
  caller_refused (Enter d o wanted clearance verify) = orelse_first (no_gate s t d o) _ NoThread (kind_refused d o _)
  caller_refused (Read d o) = orelse_first (no_link s t d o orelse unless (is_segment (s.objects o)) BadKind) _ NoThread (kind_refused d o _)
  caller_refused (Write d o keep bytes) =
      orelse_first (no_link s t d o orelse unless (is_segment (s.objects o)) BadKind) _ NoThread (kind_refused d o _)
  caller_refused (Unlink d o) = kind_refused d o _
  caller_refused (LabelOf d o) = kind_refused d o _

-- so the caller of a call that is denied for another reason is a thread
caller_is : (s : State) (t : ℕ) (call : RawCall) (x : Denied) → NoThread ≢ x → check s t call ≡ Some x → is_thread (s.objects t) ≡ true
caller_is s t call x differ e = elim (is_thread (s.objects t)) as (λ b. is_thread (s.objects t) ≡ b → b ≡ true) [
  | true ↦ λ _. refl
  | false ↦ λ no. absurd (differ (let same : Some NoThread ≡ Some x = sym (caller_refused s t no call) ∙ e in cc))
] refl

-- the gate of a call whose labels are refused behind it is a gate
gate_is : (s : State) (t d o : ℕ) (wanted clearance verify : Levels)
    → check s t (Enter d o wanted clearance verify) ≡ Some Range → is_gate (s.objects o) ≡ true
gate_is s t d o wanted clearance verify e =
    let parts = skip Range (no_gate s t d o) _ (gate_not Range (λ h. cc) (λ h. cc) (λ h. cc) (λ h. cc) s t d o) e in
    unless_none (is_gate (s.objects o)) BadKind (rest (no_link s t d o) _ parts.0)

-- the grounds of a denial by a range: a test fails, or a category was never made
HasRangeGrounds : State → List Test → List Levels → Type 0
HasRangeGrounds s some labels = (c : ℕ) × ((some_fails_at some c || is_unmade s.next_category labels c) ≡ true)

by_test : (s : State) (some : List Test) (labels : List Levels) → Fails some → HasRangeGrounds s some labels
unfolding HasRangeGrounds Fails
by_test s some labels at = (at.0, ap (λ b. b || is_unmade s.next_category labels at.0) at.1)

-- a label of some lists a category that was never made
by_label : (s : State) (some : List Test) (labels : List Levels) (L : Levels)
    → ((c : ℕ) → lists L c ≡ true → list_any (λ M. lists M c) labels ≡ true) → known s L ≡ false
    → HasRangeGrounds s some labels
unfolding HasRangeGrounds
by_label s some labels L among unknown =
    let at = unmade_listed s.next_category L unknown in
    (at.0, or_second (some_fails_at some at.0) _ (λ i. among at.0 at.1.0 i && not (at.1.1 i)))

first_among : (L : Levels) (labels : List Levels) (c : ℕ) → lists L c ≡ true → list_any (λ M. lists M c) (L ∷ labels) ≡ true
first_among L labels c h = ap (λ b. b || list_any (λ M. lists M c) labels) h

later_among : (L M : Levels) (labels : List Levels)
    → ((c : ℕ) → lists M c ≡ true → list_any (λ N. lists N c) labels ≡ true) → (c : ℕ) → lists M c ≡ true
    → list_any (λ N. lists N c) (L ∷ labels) ≡ true
later_among L M labels among c h = or_second (lists L c) _ (among c h)

module _ (s : State) (t : ℕ) (thread : is_thread (s.objects t) ≡ true) where
  own : Owns (s.objects t)
  own = owns_thread (s.objects t) thread

  -- a label outside the thread's range makes a test fail
  out_of_range : (label : Levels) → states.in_range (s.objects t) label ≡ false
      → Fails (in_range (label_of_found (s.objects t)) label (clearance_of_found (s.objects t)))
  out_of_range label out = range_fails _ label _ (sym (range_is (s.objects t) own label) ∙ out)

  -- so do a label and a clearance outside it
  out_of_span : (label clearance : Levels) → rights.in_span (s.objects t) label clearance ≡ false
      → Fails (in_span (label_of_found (s.objects t)) label clearance (clearance_of_found (s.objects t)))
  out_of_span label clearance out =
      span_fails _ label clearance _ (sym (holds_is (s.objects t) own
      (λ mine limit. is_below mine label && is_below label clearance && is_below clearance limit)) ∙ out)

  out_of_clearing : (clearance : Levels) → rights.may_clear (s.objects t) clearance ≡ false
      → Fails (clearing (label_of_found (s.objects t)) clearance (clearance_of_found (s.objects t)))
  out_of_clearing clearance out =
      clearing_fails _ clearance _ (sym (holds_is (s.objects t) own
      (λ mine limit. is_below mine clearance && is_below_join_raised clearance limit mine)) ∙ out)

  out_of_gate : (o : ℕ) (wanted clearance : Levels) → is_gate (s.objects o) ≡ true
      → rights.in_gate (s.objects t) (s.objects o) wanted clearance ≡ false
      → Fails (behind_gate (label_of_found (s.objects t)) (label_of_found (s.objects o)) wanted clearance
      (clearance_of_found (s.objects t)) (clearance_of_found (s.objects o)))
  out_of_gate o wanted clearance gate out =
      let at_thread =
      holds_is (s.objects t) own (λ mine limit. holds_of (s.objects o)
      (λ gate_label gate_limit. lies_between mine gate_label wanted clearance limit gate_limit)) in
      let at_gate =
      holds_is (s.objects o) (owns_gate (s.objects o) gate)
      (λ gate_label gate_limit. lies_between (label_of_found (s.objects t)) gate_label wanted clearance
      (clearance_of_found (s.objects t)) gate_limit) in
      opening_fails _ _ wanted clearance _ _ (sym (at_thread ∙ at_gate) ∙ out)

  -- a denied call that makes an object that owns nothing has grounds
  making_grounds : (label : Levels) (test : Test)
      → (not (has_star label) ≡ false
      → Fails (test ∷ in_range (label_of_found (s.objects t)) label (clearance_of_found (s.objects t))))
      → (states.in_range (s.objects t) label && (known s label && not (has_star label))) ≡ false
      → HasRangeGrounds s (test ∷ in_range (label_of_found (s.objects t)) label (clearance_of_found (s.objects t)))
      (label ∷ [])
  making_grounds label test starred h = elim (one_of_both (states.in_range (s.objects t) label) _ h) [
    | inl out ↦ by_test s _ _ (fails_later test _ (out_of_range label out))
    | inr later ↦ elim (one_of_both (known s label) _ later) [
      | inl unknown ↦ by_label s _ _ label (first_among label []) unknown
      | inr star ↦ by_test s _ _ (starred star)
    ]
  ]

  -- so has one that makes an object that may own
  owner_grounds : (label clearance : Levels) → (rights.in_span (s.objects t) label clearance && (known s label && known s clearance)) ≡ false
      → HasRangeGrounds s (in_span (label_of_found (s.objects t)) label clearance (clearance_of_found (s.objects t))) (label ∷ clearance ∷ [])
  owner_grounds label clearance h = elim (one_of_both (rights.in_span (s.objects t) label clearance) _ h) [
    | inl out ↦ by_test s _ _ (out_of_span label clearance out)
    | inr later ↦ elim (one_of_both (known s label) _ later) [
      | inl unknown ↦ by_label s _ _ label (first_among label (clearance ∷ [])) unknown
      | inr unknown ↦ by_label s _ _ clearance (later_among label clearance (clearance ∷ []) (first_among clearance [])) unknown
    ]
  ]

-- a call whose labels don't pass their ranges has grounds
range_grounds : (s : State) (t : ℕ) (call : RawCall) → check s t call ≡ Some Range → is_thread (s.objects t) ≡ true
    → passes_ranges s t call ≡ false → HasRangeGrounds s (tests s t call Range) (handed call)
range_grounds s t (SetLabel label) e thread h = elim (one_of_both (states.in_range (s.objects t) label) _ h) [
  | inl out ↦ by_test s _ _ (out_of_range s t thread label out)
  | inr unknown ↦ by_label s _ _ label (first_among label []) unknown
]
range_grounds s t (SetClearance clearance) e thread h = elim (one_of_both (rights.may_clear (s.objects t) clearance) _ h) [
  | inl out ↦ by_test s _ _ (out_of_clearing s t thread clearance out)
  | inr unknown ↦ by_label s _ _ clearance (first_among clearance []) unknown
]
range_grounds s t (MakeSegment d label bytes) e thread h =
    making_grounds s t thread label (owning_nothing AnySegment label) (star_fails AnySegment label _) h
range_grounds s t (MakeContainer d label) e thread h =
    making_grounds s t thread label (owning_nothing AnyContainer label) (star_fails AnyContainer label _) h
range_grounds s t (MakeThread d label clearance) e thread h = owner_grounds s t thread label clearance h
range_grounds s t (MakeGate d label clearance entry) e thread h = owner_grounds s t thread label clearance h
range_grounds s t (Enter d o wanted clearance verify) e thread h =
    elim (one_of_both (rights.in_gate (s.objects t) (s.objects o) wanted clearance) _ h) [
      | inl out ↦ by_test s _ _ (out_of_gate s t thread o wanted clearance (gate_is s t d o wanted clearance verify e) out)
      | inr later ↦ elim (one_of_both (known s wanted) _ later) [
        | inl unknown ↦ by_label s _ _ wanted (first_among wanted (clearance ∷ verify ∷ [])) unknown
        | inr last ↦ elim (one_of_both (known s clearance) _ last) [
          | inl unknown ↦ by_label s _ _ clearance (later_among wanted clearance (clearance ∷ verify ∷ []) (first_among clearance (verify ∷ [])))
              unknown
          | inr unknown ↦
              by_label s _ _ verify (later_among wanted verify (clearance ∷ verify ∷ [])
              (later_among clearance verify (verify ∷ []) (first_among verify []))) unknown
        ]
      ]
    ]
range_grounds s t MakeCategory e thread h = absurd (false≢true (sym h))
range_grounds s t OwnLabel e thread h = absurd (false≢true (sym h))
range_grounds s t (Read d o) e thread h = absurd (false≢true (sym h))
range_grounds s t (Write d o keep bytes) e thread h = absurd (false≢true (sym h))
range_grounds s t (Unlink d o) e thread h = absurd (false≢true (sym h))
range_grounds s t (LabelOf d o) e thread h = absurd (false≢true (sym h))

-- an object of the wrong kind is in the way
wrong_kind_is : (s : State) (t : ℕ) (call : RawCall) → is_wanted s call ≡ false → IsInTheWay s t call (wrong_kind call)
wrong_kind_is s t (Enter d o wanted clearance verify) h = h
wrong_kind_is s t (Read d o) h = h
wrong_kind_is s t (Write d o keep bytes) h = h
wrong_kind_is s t (LabelOf d o) h = not_false (is_thread (s.objects o)) h
  where
    not_false : (b : Bool) → not b ≡ false → b ≡ true
    not_false true h = refl
    not_false false h = absurd cc
wrong_kind_is s t MakeCategory h = absurd (false≢true (sym h))
wrong_kind_is s t OwnLabel h = absurd (false≢true (sym h))
wrong_kind_is s t (SetLabel label) h = absurd (false≢true (sym h))
wrong_kind_is s t (SetClearance clearance) h = absurd (false≢true (sym h))
wrong_kind_is s t (MakeSegment d label bytes) h = absurd (false≢true (sym h))
wrong_kind_is s t (MakeContainer d label) h = absurd (false≢true (sym h))
wrong_kind_is s t (MakeThread d label clearance) h = absurd (false≢true (sym h))
wrong_kind_is s t (MakeGate d label clearance entry) h = absurd (false≢true (sym h))
wrong_kind_is s t (Unlink d o) h = absurd (false≢true (sym h))

module _ (s : State) (t : ℕ) (call : RawCall) where
  -- a caller that is denied as no thread is none
  thread_grounds : check s t call ≡ Some NoThread → is_thread (s.objects t) ≡ false
  thread_grounds = blame s t call NoThread (record {
    thread = λ no _. no;
    present = λ _ same. absurd cc;
    container = λ _ same. absurd cc;
    observe = λ same. absurd cc;
    link = λ _ same. absurd cc;
    kind = λ _ same. absurd cc;
    modify = λ same. absurd cc;
    gate = λ same. absurd cc;
    range = λ _ same. absurd cc;
    size = λ _ same. absurd cc;
    number = λ _ same. absurd cc;
  })

  -- a container that is there doesn't link the object
  link_grounds : check s t call ≡ Some NoEntry → is_present (s.objects (container_named call)) ≡ true
      → set.contains (links_in (s.objects (container_named call))) (object_named call) ≡ false
  link_grounds e there = blame s t call NoEntry (record {
    thread = λ _ same. absurd cc;
    present = λ none _. absurd (false≢true (sym none ∙ there));
    container = λ _ same. absurd cc;
    observe = λ same. absurd cc;
    link = λ no _. no;
    kind = λ _ same. absurd cc;
    modify = λ same. absurd cc;
    gate = λ same. absurd cc;
    range = λ _ same. absurd cc;
    size = λ _ same. absurd cc;
    number = λ _ same. absurd cc;
  }) e

  -- the object that a container links is of the wrong kind
  kind_grounds : check s t call ≡ Some BadKind → is_container (s.objects (container_named call)) ≡ true → is_wanted s call ≡ false
  kind_grounds e container = blame s t call BadKind (record {
    thread = λ _ same. absurd cc;
    present = λ _ same. absurd cc;
    container = λ none _. absurd (false≢true (sym none ∙ container));
    observe = λ same. absurd cc;
    link = λ _ same. absurd cc;
    kind = λ no _. no;
    modify = λ same. absurd cc;
    gate = λ same. absurd cc;
    range = λ _ same. absurd cc;
    size = λ _ same. absurd cc;
    number = λ _ same. absurd cc;
  }) e

  -- where the bytes fit, no number is left
  number_grounds : check s t call ≡ Some TooBig → fits_segment (bytes_after s call) ≡ true → has_next s call ≡ false
  number_grounds e fits = blame s t call TooBig (record {
    thread = λ _ same. absurd cc;
    present = λ _ same. absurd cc;
    container = λ _ same. absurd cc;
    observe = λ same. absurd cc;
    link = λ _ same. absurd cc;
    kind = λ _ same. absurd cc;
    modify = λ same. absurd cc;
    gate = λ same. absurd cc;
    range = λ _ same. absurd cc;
    size = λ no _. absurd (false≢true (sym no ∙ fits));
    number = λ no _. no;
  }) e

  -- the labels don't pass their ranges
  ranges_fail : check s t call ≡ Some Range → passes_ranges s t call ≡ false
  ranges_fail = blame s t call Range (record {
    thread = λ _ same. absurd cc;
    present = λ _ same. absurd cc;
    container = λ _ same. absurd cc;
    observe = λ same. absurd cc;
    link = λ _ same. absurd cc;
    kind = λ _ same. absurd cc;
    modify = λ same. absurd cc;
    gate = λ same. absurd cc;
    range = λ no _. no;
    size = λ _ same. absurd cc;
    number = λ _ same. absurd cc;
  })

  by_presence : (b : Bool) → is_present (s.objects (container_named call)) ≡ b → check s t call ≡ Some NoEntry
      → IsInTheWay s t call (if b then obstacles.NotLinked (container_named call) else obstacles.NoObject)
  by_presence true there e = (refl, link_grounds e there)
  by_presence false none e = none

  by_container : (b : Bool) → is_container (s.objects (container_named call)) ≡ b → check s t call ≡ Some BadKind
      → IsInTheWay s t call (if b then wrong_kind call else obstacles.NoContainer)
  by_container true there e = wrong_kind_is s t call (kind_grounds e there)
  by_container false none e = none

  by_size : (b : Bool) → fits_segment (bytes_after s call) ≡ b → check s t call ≡ Some TooBig
      → IsInTheWay s t call (if b then obstacles.NoNumber else obstacles.TooLong (counted (bytes_after s call)))
  by_size true fits e = number_grounds e fits
  by_size false long e = (refl, long)

  or_first : (a b : Bool) → a ≡ true → (a || b) ≡ true
  or_first a b h = ap (λ x. x || b) h

pub denials_have_grounds : DenialsHaveGrounds
unfolding HasRangeGrounds
denials_have_grounds s t call Observe e = let at = denials_rest_on_tests s t call Observe refl e in (at.0, or_first s t call _ _ at.1)
denials_have_grounds s t call Modify e = let at = denials_rest_on_tests s t call Modify refl e in (at.0, or_first s t call _ _ at.1)
denials_have_grounds s t call Gate e = let at = denials_rest_on_tests s t call Gate refl e in (at.0, or_first s t call _ _ at.1)
denials_have_grounds s t call Range e = range_grounds s t call e (caller_is s t call Range (λ h. cc) e) (ranges_fail s t call e)
denials_have_grounds s t call NoEntry e = by_presence s t call (is_present (s.objects (container_named call))) refl e
denials_have_grounds s t call NoThread e = thread_grounds s t call e
denials_have_grounds s t call BadKind e = by_container s t call (is_container (s.objects (container_named call))) refl e
denials_have_grounds s t call TooBig e = by_size s t call (fits_segment (bytes_after s call)) refl e
