-- The container and the object that a raw call names, and the labels that it is given.
use Rattle.std.specs.Prelude.{ℕ, List, [], ◌∷◌, unwrap_or, if◌then◌else◌}
use Rattle.histar_level.specs.declared.level.Level.TheVariants.{L1}
use Rattle.histar_level.specs.Levels.{Levels}
use Rattle.histar_label.specs.Levels.{constant}
use Rattle.histar_object.specs.Objects.{label_there, clearance_there}
use Rattle.histar_object.specs.State.{State, observes}
use Rattle.histar_rules.specs.declared.raw.RawCall.{RawCall}
use Rattle.histar_rules.specs.declared.raw.RawCall.TheVariants.{MakeCategory, OwnLabel, SetLabel, SetClearance, MakeSegment, MakeContainer}
use Rattle.histar_rules.specs.declared.raw.RawCall.TheVariants.{MakeThread, MakeGate, Enter, Read, Write, Unlink, LabelOf}

-- the label of an object, or 1 everywhere where there is none, which no denial by labels compares
abbrev pub label_in : State → ℕ → Levels
label_in s q = unwrap_or (label_there (s.objects q)) (constant L1)

-- the clearance of a thread or a gate, or 1 everywhere for another object
abbrev pub clearance_in : State → ℕ → Levels
clearance_in s q = unwrap_or (clearance_there (s.objects q)) (constant L1)

-- the container that a call names, or 0 where it names none
abbrev pub container_named : RawCall → ℕ
container_named MakeCategory = 0
container_named OwnLabel = 0
container_named (SetLabel label) = 0
container_named (SetClearance clearance) = 0
container_named (MakeSegment d label bytes) = d
container_named (MakeContainer d label) = d
container_named (MakeThread d label clearance) = d
container_named (MakeGate d label clearance entry) = d
container_named (Enter d o wanted clearance verify) = d
container_named (Read d o) = d
container_named (Write d o keep bytes) = d
container_named (Unlink d o) = d
container_named (LabelOf d o) = d

-- the object that a call names in its container, or 0 where it names none
abbrev pub object_named : RawCall → ℕ
object_named (Enter d o wanted clearance verify) = o
object_named (Read d o) = o
object_named (Write d o keep bytes) = o
object_named (Unlink d o) = o
object_named (LabelOf d o) = o
object_named call = 0

-- the labels that a call is given
abbrev pub handed : RawCall → List Levels
handed (SetLabel label) = label ∷ []
handed (SetClearance clearance) = clearance ∷ []
handed (MakeSegment d label bytes) = label ∷ []
handed (MakeContainer d label) = label ∷ []
handed (MakeThread d label clearance) = label ∷ clearance ∷ []
handed (MakeGate d label clearance entry) = label ∷ clearance ∷ []
handed (Enter d o wanted clearance verify) = wanted ∷ clearance ∷ verify ∷ []
handed call = []

-- the object that a call may not observe: the container, or the segment of a read whose container may be observed
abbrev pub observed_by : State → ℕ → RawCall → ℕ
observed_by s t (Read d o) = if observes (s.objects t) (s.objects d) then o else d
observed_by s t call = container_named call

-- the object that a call would modify: the container, or the segment of a write
abbrev pub modified_by : RawCall → ℕ
modified_by (Write d o keep bytes) = o
modified_by call = container_named call
