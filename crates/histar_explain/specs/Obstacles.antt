-- The action that a denied call tried, and its obstacle where no label decides.
use Rattle.std.specs.Prelude.{◌≡◌, ℕ, ◌+◌, Bool, true, false, Option, None, Some, length, min, nat_lt, if◌then◌else◌}
use Rattle.std.specs.FinSet as set
use Rattle.histar_object.specs.Objects.{is_present, is_segment, is_container, is_thread, is_gate, links_in, bytes_in}
use Rattle.histar_object.specs.State.{State}
use Rattle.histar_rules.specs.declared.raw.Denied.{Denied}
use Rattle.histar_rules.specs.declared.raw.Denied.TheVariants.{Observe, Modify, Range, Gate, NoEntry, NoThread, BadKind, TooBig}
use Rattle.histar_rules.specs.declared.raw.RawCall.{RawCall}
use Rattle.histar_rules.specs.declared.raw.RawCall.TheVariants.{MakeCategory, SetLabel, SetClearance, MakeSegment, MakeContainer, MakeThread}
use Rattle.histar_rules.specs.declared.raw.RawCall.TheVariants.{MakeGate, Enter, Write, LabelOf}
use Rattle.histar_rules.specs.Rules.{fits_segment, has_number, greatest}
use Rattle.histar_explain.specs.declared.explanations.Act.{Act}
use Rattle.histar_explain.specs.declared.explanations.Act.TheVariants as acts
use Rattle.histar_explain.specs.declared.explanations.Obstacle.{Obstacle}
use Rattle.histar_explain.specs.declared.explanations.Obstacle.TheVariants as obstacles
use Rattle.histar_explain.specs.Named.{container_named, object_named, observed_by, modified_by}

-- the action of a call as a whole, where its labels, its bytes or a new number are refused
abbrev pub whole_act : RawCall → Act
whole_act MakeCategory = acts.MakeCategory
whole_act (SetLabel label) = acts.TakeLabel
whole_act (SetClearance clearance) = acts.TakeClearance
whole_act (MakeSegment d label bytes) = acts.MakeSegment
whole_act (MakeContainer d label) = acts.MakeContainer
whole_act (MakeThread d label clearance) = acts.MakeThread
whole_act (MakeGate d label clearance entry) = acts.MakeGate
whole_act (Enter d o wanted clearance verify) = acts.EnterWith o
whole_act (Write d o keep bytes) = acts.Write o
whole_act call = acts.Call

-- the action that a denied call tried
abbrev pub act_of : State → ℕ → RawCall → Denied → Act
act_of s t call Observe = acts.Observe (observed_by s t call)
act_of s t call Modify = acts.Modify (modified_by call)
act_of s t call Range = whole_act call
act_of s t call Gate = acts.Enter (object_named call)
act_of s t call NoEntry = acts.Use (if is_present (s.objects (container_named call)) then object_named call else container_named call)
act_of s t call NoThread = acts.Call
act_of s t call BadKind = acts.Use (if is_container (s.objects (container_named call)) then object_named call else container_named call)
act_of s t call TooBig = whole_act call

-- the obstacle of a call that names an object of a wrong kind in its container
abbrev pub wrong_kind : RawCall → Obstacle
wrong_kind (Enter d o wanted clearance verify) = obstacles.NoGate
wrong_kind (LabelOf d o) = obstacles.IsThread
wrong_kind call = obstacles.NoSegment

-- the number of bytes that a segment would have after a call
abbrev pub bytes_after : State → RawCall → ℕ
bytes_after s (MakeSegment d label bytes) = length bytes
bytes_after s (Write d o keep bytes) = min keep (length (bytes_in (s.objects o))) + length bytes
bytes_after s call = 0

-- this many bytes, or the greatest number of 64 bits, which no machine holds
abbrev pub counted : ℕ → ℕ
counted bytes = min greatest bytes

-- the obstacle where a segment would have this many bytes: their number, or that no number is left where they fit
abbrev pub excess : ℕ → Obstacle
excess bytes = if fits_segment bytes then obstacles.NoNumber else obstacles.TooLong (counted bytes)

-- the obstacle of a denied call, where it is no comparison of labels and no category that was never made
abbrev pub obstacle_of : State → RawCall → Denied → Option Obstacle
obstacle_of s call NoEntry = Some (if is_present (s.objects (container_named call)) then obstacles.NotLinked (container_named call) else obstacles.NoObject)
obstacle_of s call NoThread = Some obstacles.NoThread
obstacle_of s call BadKind = Some (if is_container (s.objects (container_named call)) then wrong_kind call else obstacles.NoContainer)
obstacle_of s call TooBig = Some (excess (bytes_after s call))
obstacle_of s call denied = None

-- whether there is a number for the category or the object that a call makes
abbrev pub has_next : State → RawCall → Bool
has_next s MakeCategory = nat_lt s.next_category greatest
has_next s call = has_number s

-- an obstacle is in the way of a call
abbrev pub IsInTheWay : State → ℕ → RawCall → Obstacle → Type 0
IsInTheWay s t call obstacles.NoThread = is_thread (s.objects t) ≡ false
IsInTheWay s t call obstacles.NoObject = is_present (s.objects (container_named call)) ≡ false
IsInTheWay s t call (obstacles.NotLinked d) = (d ≡ container_named call) × (set.contains (links_in (s.objects d)) (object_named call) ≡ false)
IsInTheWay s t call obstacles.NoContainer = is_container (s.objects (container_named call)) ≡ false
IsInTheWay s t call obstacles.NoSegment = is_segment (s.objects (object_named call)) ≡ false
IsInTheWay s t call obstacles.NoGate = is_gate (s.objects (object_named call)) ≡ false
IsInTheWay s t call obstacles.IsThread = is_thread (s.objects (object_named call)) ≡ true
IsInTheWay s t call (obstacles.TooLong n) = (n ≡ counted (bytes_after s call)) × (fits_segment (bytes_after s call) ≡ false)
IsInTheWay s t call obstacles.NoNumber = has_next s call ≡ false
