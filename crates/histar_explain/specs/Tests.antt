-- The comparisons of labels that a denial rests on.
use Rattle.std.specs.Prelude.{◌≡◌, ℕ, true, false, List, [], ◌∷◌}
use Rattle.histar_level.specs.declared.level.Level.{Level}
use Rattle.histar_level.specs.declared.level.Level.TheVariants.{Star, L0, L1, L2, L3}
use Rattle.histar_level.specs.Levels.{Levels, level_of, default_of, exceptions_of}
use Rattle.histar_label.specs.Levels.{constant, refilled}
use Rattle.histar_label.specs.Floors.{join_of, floor_of}
use Rattle.histar_object.specs.State.{State}
use Rattle.histar_rules.specs.declared.raw.Denied.{Denied}
use Rattle.histar_rules.specs.declared.raw.Denied.TheVariants.{Observe, Modify, Range, Gate}
use Rattle.histar_rules.specs.declared.raw.RawCall.{RawCall}
use Rattle.histar_rules.specs.declared.raw.RawCall.TheVariants.{SetLabel, SetClearance, MakeSegment, MakeContainer, MakeThread, MakeGate, Enter}
use Rattle.histar_explain.specs.declared.reasons.Party.{Party}
use Rattle.histar_explain.specs.declared.reasons.Party.TheVariants.{Thread, Object, GateClearance, VerifyLabel, LabelAsked, ClearanceAsked}
use Rattle.histar_explain.specs.declared.reasons.Party.TheVariants.{ThreadClearance, ThreadClearanceAndLabel, Floor, Clearances, AnySegment}
use Rattle.histar_explain.specs.declared.reasons.Party.TheVariants.{AnyContainer}
use Rattle.histar_explain.specs.declared.reasons.Reason.{Reason}
use Rattle.histar_explain.specs.Comparisons.{Comparison, Explains}
use Rattle.histar_explain.specs.Named.{label_in, clearance_in, observed_by, modified_by}

-- a comparison, and the parties whose labels it compares
pub record Test : Type 0 where
  pub lower_is : Party
  pub upper_is : Party
  pub comparison : Comparison

-- a first label has to be below a second
abbrev pub below : Party → Levels → Party → Levels → Test
below lower_is lower upper_is upper = record { lower_is = lower_is; upper_is = upper_is; comparison = record { lower = lower; upper = upper; owner_passes = false } }

-- an object may be observed by threads whose label is above its own, and by its owners
abbrev pub observing : Levels → Levels → Test
observing own label = record { lower_is = Object; upper_is = Thread; comparison = record { lower = label; upper = own; owner_passes = true } }

-- an object may be modified by a thread whose label is below the object's, and which observes it
abbrev pub modifying : Levels → Levels → List Test
modifying own label = below Thread own Object label ∷ observing own label ∷ []

-- a thread that enters a gate has a label below the gate's clearance and below the verify label
abbrev pub letting : Levels → Levels → Levels → List Test
letting own gate_clearance verify = below Thread own GateClearance gate_clearance ∷ below Thread own VerifyLabel verify ∷ []

abbrev pub entering : Levels → State → RawCall → List Test
entering own s (Enter d o wanted clearance verify) = letting own (clearance_in s o) verify
entering own s call = []

-- a label lies between a thread's label and its clearance
abbrev pub in_range : Levels → Levels → Levels → List Test
in_range own label own_clearance = below Thread own LabelAsked label ∷ below LabelAsked label ThreadClearance own_clearance ∷ []

-- an object that may not own has star at no category: 0, the lowest other level, is below its label
abbrev pub owning_nothing : Party → Levels → Test
owning_nothing party label = below party (constant L0) LabelAsked label

-- a label and a clearance above it lie between a thread's label and its clearance
abbrev pub in_span : Levels → Levels → Levels → Levels → List Test
in_span own label clearance own_clearance = below Thread own LabelAsked label ∷ below LabelAsked label ClearanceAsked clearance ∷ below ClearanceAsked clearance ThreadClearance own_clearance ∷ []

-- a label and a clearance above it lie between the floor of the labels of thread and gate and the join of their clearances
abbrev pub behind_gate : Levels → Levels → Levels → Levels → Levels → Levels → List Test
behind_gate own gate_label label clearance own_clearance gate_clearance =
    below Floor (floor_of own gate_label) LabelAsked label ∷ below LabelAsked label ClearanceAsked clearance ∷ below ClearanceAsked clearance Clearances (join_of own_clearance gate_clearance) ∷ []

-- a level, where star counts as 3
abbrev pub high : Level → Level
high Star = L3
high L0 = L0
high L1 = L1
high L2 = L2
high L3 = L3

-- a label, where star counts as 3
unfoldable pub owning_high : Levels → Levels
owning_high L = refilled (λ c. high (level_of L c)) (exceptions_of L) (constant (high (default_of L)))

-- a new clearance is above the thread's label, and exceeds its clearance only where the thread owns
abbrev pub clearing : Levels → Levels → Levels → List Test
clearing own clearance own_clearance = below Thread own ClearanceAsked clearance ∷ below ClearanceAsked clearance ThreadClearanceAndLabel (join_of own_clearance (owning_high own)) ∷ []

-- the labels that a call is given lie in their ranges, and a segment or a container owns nothing
abbrev pub ranging : Levels → State → ℕ → RawCall → List Test
ranging own s t (SetLabel label) = in_range own label (clearance_in s t)
ranging own s t (SetClearance clearance) = clearing own clearance (clearance_in s t)
ranging own s t (MakeSegment d label bytes) = owning_nothing AnySegment label ∷ in_range own label (clearance_in s t)
ranging own s t (MakeContainer d label) = owning_nothing AnyContainer label ∷ in_range own label (clearance_in s t)
ranging own s t (MakeThread d label clearance) = in_span own label clearance (clearance_in s t)
ranging own s t (MakeGate d label clearance entry) = in_span own label clearance (clearance_in s t)
ranging own s t (Enter d o wanted clearance verify) = behind_gate own (label_in s o) wanted clearance (clearance_in s t) (clearance_in s o)
ranging own s t call = []

-- The tests of a denial at a state, if this is the label of the thread.
abbrev pub tests_with : Levels → State → ℕ → RawCall → Denied → List Test
tests_with own s t call Observe = observing own (label_in s (observed_by s t call)) ∷ []
tests_with own s t call Modify = modifying own (label_in s (modified_by call))
tests_with own s t call Gate = entering own s call
tests_with own s t call Range = ranging own s t call
tests_with own s t call denied = []

-- the tests of a denial
abbrev pub tests : State → ℕ → RawCall → Denied → List Test
tests s t call denied = tests_with (label_in s t) s t call denied

-- the reason of a test
pub record IsReasonOf (test : Test) (r : Reason) : Type 0 where
  pub lower : r.lower ≡ test.lower_is
  pub upper : r.upper ≡ test.upper_is
  pub explained : Explains test.comparison r
