-- The labels of the parties to a denial.
use Rattle.std.specs.Prelude.{◌≡◌, ℕ}
use Rattle.std.specs.List.{All}
use Rattle.histar_level.specs.declared.level.Level.TheVariants.{L0, L1}
use Rattle.histar_level.specs.Levels.{Levels}
use Rattle.histar_label.specs.Levels.{constant}
use Rattle.histar_label.specs.Floors.{join_of, floor_of}
use Rattle.histar_object.specs.State.{State}
use Rattle.histar_rules.specs.declared.raw.Denied.{Denied}
use Rattle.histar_rules.specs.declared.raw.Denied.TheVariants.{Observe, Modify}
use Rattle.histar_rules.specs.declared.raw.RawCall.{RawCall}
use Rattle.histar_rules.specs.declared.raw.RawCall.TheVariants.{SetLabel, SetClearance, MakeSegment, MakeContainer, MakeThread, MakeGate, Enter}
use Rattle.histar_explain.specs.declared.reasons.Party.{Party}
use Rattle.histar_explain.specs.declared.reasons.Party.TheVariants.{Thread, Object, GateClearance, VerifyLabel, LabelAsked, ClearanceAsked}
use Rattle.histar_explain.specs.declared.reasons.Party.TheVariants.{ThreadClearance, ThreadClearanceAndLabel, Floor, Clearances, AnySegment}
use Rattle.histar_explain.specs.declared.reasons.Party.TheVariants.{AnyContainer}
use Rattle.histar_explain.specs.Named.{label_in, clearance_in, object_named, observed_by, modified_by}
use Rattle.histar_explain.specs.Tests.{Test, owning_high, tests}

-- the label that a call asks for, or 1 everywhere where it asks for none
abbrev pub label_asked : RawCall → Levels
label_asked (SetLabel label) = label
label_asked (MakeSegment d label bytes) = label
label_asked (MakeContainer d label) = label
label_asked (MakeThread d label clearance) = label
label_asked (MakeGate d label clearance entry) = label
label_asked (Enter d o wanted clearance verify) = wanted
label_asked call = constant L1

-- the clearance that a call asks for, or 1 everywhere where it asks for none
abbrev pub clearance_asked : RawCall → Levels
clearance_asked (SetClearance clearance) = clearance
clearance_asked (MakeThread d label clearance) = clearance
clearance_asked (MakeGate d label clearance entry) = clearance
clearance_asked (Enter d o wanted clearance verify) = clearance
clearance_asked call = constant L1

-- the verify label that a thread hands over at a gate, or 1 everywhere where it hands over none
abbrev pub verify_label : RawCall → Levels
verify_label (Enter d o wanted clearance verify) = verify
verify_label call = constant L1

-- the object that a thread may not observe or modify, or 0 for another denial
abbrev pub object_denied : State → ℕ → RawCall → Denied → ℕ
object_denied s t call Observe = observed_by s t call
object_denied s t call Modify = modified_by call
object_denied s t call denied = 0

-- The label of each party to a denial. An object that may not own has star at no category: 0 is the lowest other level. In a gate the thread's
-- label and clearance are taken together with the gate's.
abbrev pub label_of : State → ℕ → RawCall → Denied → Party → Levels
label_of s t call denied Thread = label_in s t
label_of s t call denied Object = label_in s (object_denied s t call denied)
label_of s t call denied GateClearance = clearance_in s (object_named call)
label_of s t call denied VerifyLabel = verify_label call
label_of s t call denied LabelAsked = label_asked call
label_of s t call denied ClearanceAsked = clearance_asked call
label_of s t call denied ThreadClearance = clearance_in s t
label_of s t call denied ThreadClearanceAndLabel = join_of (clearance_in s t) (owning_high (label_in s t))
label_of s t call denied Floor = floor_of (label_in s t) (label_in s (object_named call))
label_of s t call denied Clearances = join_of (clearance_in s t) (clearance_in s (object_named call))
label_of s t call denied AnySegment = constant L0
label_of s t call denied AnyContainer = constant L0

-- a test compares the labels of the parties that it names
pub record ComparesParties (s : State) (t : ℕ) (call : RawCall) (denied : Denied) (test : Test) : Type 0 where
  pub lower : test.comparison.lower ≡ label_of s t call denied test.lower_is
  pub upper : test.comparison.upper ≡ label_of s t call denied test.upper_is

-- each test of each denial does
abbrev pub PartiesAreRight : Type 0
PartiesAreRight = (s : State) (t : ℕ) (call : RawCall) (denied : Denied) → All (ComparesParties s t call denied) (tests s t call denied)
