-- The explanation of a denial by labels that list categories that are named or new alone, where the thread owns the new ones.
use Rattle.std.proofs.Common.{◌≡◌, ℕ, ◌⊎◌, inl, inr, true, false, List, [], ◌∷◌, refl, ap, ◌∙◌}
use Rattle.std.specs.List.{AllByRecursion}
use Rattle.histar_level.specs.declared.level.Level.TheVariants.{Star, L0, L1, L2, L3}
use Rattle.histar_level.specs.Levels.{Levels, level_of, default_of}
use Rattle.histar_label.specs.Levels.{constant}
use Rattle.histar_label.proofs.Readers.{default_of-constant, level_of-constant}
use Rattle.histar_object.specs.State.{State}
use Rattle.histar_rules.specs.declared.raw.Denied.{Denied}
use Rattle.histar_rules.specs.declared.raw.Denied.TheVariants.{Observe, Modify, Range, Gate}
use Rattle.histar_rules.specs.declared.raw.RawCall.{RawCall}
use Rattle.histar_rules.specs.declared.raw.RawCall.TheVariants.{MakeCategory, OwnLabel, SetLabel, SetClearance, MakeSegment, MakeContainer}
use Rattle.histar_rules.specs.declared.raw.RawCall.TheVariants.{MakeThread, MakeGate, Enter, Read, Write, Unlink, LabelOf}
use Rattle.histar_explain.specs.declared.explanations.Explanation.{Explanation}
use Rattle.histar_explain.specs.declared.reasons.Party.TheVariants.{Thread, Object, GateClearance, VerifyLabel, LabelAsked}
use Rattle.histar_explain.specs.declared.reasons.Party.{Party}
use Rattle.histar_explain.specs.declared.reasons.Party.TheVariants.{ThreadClearance, AnySegment, AnyContainer}
use Rattle.histar_explain.specs.Comparisons.{exceeds}
use Rattle.histar_explain.specs.Explanations.{IsExplanationOf}
use Rattle.histar_explain.specs.Named.{clearance_in, label_in, modified_by, observed_by}
use Rattle.histar_explain.specs.Tests.{Test, below, observing, entering, in_range, modifying, owning_nothing, ranging, tests}
use Rattle.histar_explain.specs.Unmade.{labels_of}
use Rattle.histar_explain.proofs.Keys.{star_above, star_below}
use Rattle.histar_explain.proofs.NamedTests.{ListsOnly, IsReasonOn, IsNamedOrNew, IsNamedLabel, IsNamedClearance, IsNamedTest}
use Rattle.histar_explain.proofs.NamedTests.{reasons_named, none_unmade}
use Rattle.histar_explain.proofs.NamedTests.{named_below, named_observing, constant_lists}

-- a raw call makes a segment or a container
abbrev pub Makes : RawCall → Type 0
Makes (MakeSegment d label bytes) = Unit {0}
Makes (MakeContainer d label) = Unit {0}
Makes call = ⊥

module _ (Named New : ℕ → Type 0) (s : State) (t : ℕ) where
  -- the labels and clearances of a state list categories that are named or new alone, and a thread owns the new ones
  pub record HasNamedLabels : Type 0 where
    pub label : (q : ℕ) → IsNamedLabel Named New s.next_category (label_in s q)
    pub clearance : (q : ℕ) → IsNamedClearance Named New s.next_category (clearance_in s q)
    pub owned : (c : ℕ) → New c → level_of (label_in s t) c ≡ Star
    pub cleared : (c : ℕ) → New c → level_of (clearance_in s t) c ≡ L3

  -- a label that is given to an object lists such categories alone, and has the new ones at 3
  abbrev pub IsNamedMade : Levels → Type 0
  IsNamedMade label = IsNamedLabel Named New s.next_category label × ((c : ℕ) → New c → level_of label c ≡ L3)

  -- a raw call names objects alone, or gives such a label to an object, or has a verify label that lists such categories
  abbrev pub IsNamedCall : RawCall → Type 0
  IsNamedCall (MakeSegment d label bytes) = IsNamedMade label
  IsNamedCall (MakeContainer d label) = IsNamedMade label
  IsNamedCall (Enter d o wanted clearance verify) = IsNamedLabel Named New s.next_category verify
  IsNamedCall (Read d o) = Unit {0}
  IsNamedCall (Write d o keep bytes) = Unit {0}
  IsNamedCall (Unlink d o) = Unit {0}
  IsNamedCall call = ⊥

  module _ (fine : HasNamedLabels) where
    -- the thread's label
    abbrev own : Levels
    own = label_in s t

    -- each of some tests has labels that list named or new categories alone, and passes at the new ones and by default
    abbrev AreNamedTests : List Test → Type 0
    AreNamedTests some = AllByRecursion (IsNamedTest Named New s.next_category) some

    -- the thread's label is below another one, where it has star at the new categories
    from_own : (is : Party) (upper_is : Party) (upper : Levels) → ListsOnly (IsNamedOrNew Named New s.next_category) upper
        → ((default_of upper ≡ L1) ⊎ (default_of upper ≡ L2)) → IsNamedTest Named New s.next_category (below is own upper_is upper)
    from_own is upper_is upper lists default =
        named_below Named New s.next_category is upper_is own upper (fine.label t).0 lists
        (λ c new. ap (λ l. exceeds false l (level_of upper c)) (fine.owned c new) ∙ star_below (level_of upper c))
        (ap (λ l. exceeds false l (default_of upper)) (fine.label t).1 ∙ by default)
      where
        by : (default_of upper ≡ L1) ⊎ (default_of upper ≡ L2) → exceeds false L1 (default_of upper) ≡ false
        by (inl one) = ap (exceeds false L1) one
        by (inr two) = ap (exceeds false L1) two

    -- the tests to observe and to modify an object
    observing_named : (q : ℕ) → IsNamedTest Named New s.next_category (observing own (label_in s q))
    observing_named q =
        named_observing Named New s.next_category own (label_in s q) (fine.label t).0 (fine.label q).0
        (λ c new. ap (exceeds true (level_of (label_in s q) c)) (fine.owned c new) ∙ star_above (level_of (label_in s q) c))
        (λ i. exceeds true ((fine.label q).1 i) ((fine.label t).1 i))

    modifying_named : (q : ℕ) → AreNamedTests (modifying own (label_in s q))
    modifying_named q = (from_own Thread Object (label_in s q) (fine.label q).0 (inl (fine.label q).1), (observing_named q, tt))

    -- what is made owns nothing, and lies between the thread's label and its clearance
    making_named : (any : Party) (label : Levels) → IsNamedMade label
        → AreNamedTests (owning_nothing any label ∷ in_range own label (clearance_in s t))
    making_named any label made = (
      named_below Named New s.next_category any LabelAsked (constant L0) label (constant_lists (IsNamedOrNew Named New s.next_category) L0) made.0.0
          (λ c new i. exceeds false (level_of-constant L0 c i) (made.1 c new i))
          (λ i. exceeds false (default_of-constant L0 i) (made.0.1 i)),
      (
        from_own Thread LabelAsked label made.0.0 (inl made.0.1),
        (
          named_below Named New s.next_category LabelAsked ThreadClearance label (clearance_in s t) made.0.0 (fine.clearance t).0
              (λ c new i. exceeds false (made.1 c new i) (fine.cleared c new i))
              (ap (λ l. exceeds false l (default_of (clearance_in s t))) made.0.1 ∙ by (fine.clearance t).1),
          tt,
        ),
      ),
    )
      where
        by : (default_of (clearance_in s t) ≡ L1) ⊎ (default_of (clearance_in s t) ≡ L2)
            → exceeds false L1 (default_of (clearance_in s t)) ≡ false
        by (inl one) = ap (exceeds false L1) one
        by (inr two) = ap (exceeds false L1) two

    -- the tests to enter a gate, and those of a range
    entering_named : (call : RawCall) → IsNamedCall call → AreNamedTests (entering own s call)
    entering_named (Enter d o wanted clearance verify) verified = (
      from_own Thread GateClearance (clearance_in s o) (fine.clearance o).0 (fine.clearance o).1,
      (from_own Thread VerifyLabel verify verified.0 (inl verified.1), tt),
    )
    entering_named (MakeSegment d label bytes) call = tt
    entering_named (MakeContainer d label) call = tt
    entering_named (Read d o) call = tt
    entering_named (Write d o keep bytes) call = tt
    entering_named (Unlink d o) call = tt
    entering_named MakeCategory call = absurd call
    entering_named OwnLabel call = absurd call
    entering_named (SetLabel label) call = absurd call
    entering_named (SetClearance clearance) call = absurd call
    entering_named (MakeThread d label clearance) call = absurd call
    entering_named (MakeGate d label clearance entry) call = absurd call
    entering_named (LabelOf d o) call = absurd call

    ranging_named : (call : RawCall) → IsNamedCall call → Makes call → AreNamedTests (ranging own s t call)
    ranging_named (MakeSegment d label bytes) made makes = making_named AnySegment label made
    ranging_named (MakeContainer d label) made makes = making_named AnyContainer label made
    ranging_named call made makes = absurd makes

    -- the tests of a denial
    tests_named : (call : RawCall) (denied : Denied) → IsNamedCall call → (denied ≡ Range → Makes call)
        → AreNamedTests (tests s t call denied)
    tests_named call Observe asked makes = (observing_named (observed_by s t call), tt)
    tests_named call Modify asked makes = modifying_named (modified_by call)
    tests_named call Gate asked makes = entering_named call asked
    tests_named call Range asked makes = ranging_named call asked (makes refl)
    tests_named call denied asked makes = tt

    -- the labels whose categories have to be made
    handed_named : (call : RawCall) → IsNamedCall call → Makes call
        → AllByRecursion (ListsOnly (IsNamedOrNew Named New s.next_category)) (labels_of call Range)
    handed_named (MakeSegment d label bytes) made makes = (made.0.0, tt)
    handed_named (MakeContainer d label) made makes = (made.0.0, tt)
    handed_named call made makes = absurd makes

    asked_named : (call : RawCall) (denied : Denied) → IsNamedCall call → (denied ≡ Range → Makes call)
        → AllByRecursion (ListsOnly (IsNamedOrNew Named New s.next_category)) (labels_of call denied)
    asked_named call Range asked makes = handed_named call asked (makes refl)
    asked_named call denied asked makes = tt

    -- The reasons of its explanation are named, and none of its categories was never made.
    pub explained_by_names : (call : RawCall) (denied : Denied) (x : Explanation) → IsNamedCall call → (denied ≡ Range → Makes call)
        → IsExplanationOf s t call denied x → AllByRecursion (IsReasonOn Named) x.reasons.items × (x.unmade.items ≡ [])
    explained_by_names call denied x asked makes is = (
      reasons_named Named New s.next_category (tests s t call denied) x.reasons.items is.reasons (tests_named call denied asked makes),
      none_unmade Named New s.next_category (labels_of call denied) (asked_named call denied asked makes) x.unmade.items is.unmade,
    )
