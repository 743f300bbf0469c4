-- The rules of the kernel: for each raw call the first failing check, and the state that it leaves where none fails.
use Rattle.std.specs.Prelude.{◌≡◌, ℕ, ◌+◌, Bool, not, ◌++◌, Option, None, Some, length, take, min, nat_lt, nat_le, Result, Ok, Err, ⊤}
use Rattle.std.specs.FinSet as set
use Rattle.histar_base.specs.Refusals.{unless, ◌orelse◌}
use Rattle.histar_level.specs.Levels.{Levels}
use Rattle.histar_label.specs.Levels.{is_made, has_star}
use Rattle.histar_object.specs.Objects.{is_present, is_segment, is_container, is_thread, is_gate, thread_of, links_in, bytes_in}
use Rattle.histar_object.specs.declared.objects.Kind.TheVariants.{Segment, Container}
use Rattle.histar_object.specs.declared.objects.Kind.TheVariants as gates
use Rattle.histar_rules.specs.Rights.{in_span, may_clear, is_own_below, is_let_in, in_gate, with_label, with_clearance, with_changed, with_category}
use Rattle.histar_object.specs.State.{State, observes, modifies, in_range, with_object, with_own, with_segment_bytes}
use Rattle.histar_container.specs.ObjectsModel.{ObjectsModel, CutsOff, state_of}
use Rattle.histar_rules.specs.declared.raw.Denied.{Denied}
use Rattle.histar_rules.specs.declared.raw.Denied.TheVariants.{Observe, Modify, Range, Gate, NoEntry, NoThread, BadKind, TooBig}
use Rattle.histar_rules.specs.declared.raw.Refusal.{Refusal}
use Rattle.histar_rules.specs.declared.raw.Refusal.TheVariants as refusals
use Rattle.histar_rules.specs.declared.raw.RawCall.{RawCall}
use Rattle.histar_rules.specs.declared.raw.RawCall.TheVariants.{MakeCategory, OwnLabel, SetLabel, SetClearance, MakeSegment, MakeContainer}
use Rattle.histar_rules.specs.declared.raw.RawCall.TheVariants.{MakeThread, MakeGate, Enter, Read, Write, Unlink, LabelOf}
use Rattle.histar_rules.specs.RawAnswers.{AnswerOf, IsAnswer}

-- the greatest number of 64 bits: a counter with this value can't rise
abbrev pub greatest : ℕ
greatest = 18446744073709551615

-- every call checks first that the caller is a thread
abbrev pub no_thread : State → ℕ → Option Denied
no_thread s t = unless (is_thread (s.objects t)) NoThread

-- a call that names a container then checks that it is there, that it is a container, and that the thread may observe it
abbrev pub no_container : State → ℕ → ℕ → Option Denied
no_container s t d =
    no_thread s t
    orelse unless (is_present (s.objects d)) NoEntry
    orelse unless (is_container (s.objects d)) BadKind
    orelse unless (observes (s.objects t) (s.objects d)) Observe

-- a call that names an object in a container then checks that the container links it
abbrev pub no_link : State → ℕ → ℕ → ℕ → Option Denied
no_link s t d o =
    no_container s t d
    orelse unless (set.contains (links_in (s.objects d)) o) NoEntry

-- a call on a segment then checks that the object is a segment
abbrev pub no_segment : State → ℕ → ℕ → ℕ → Option Denied
no_segment s t d o = no_link s t d o orelse unless (is_segment (s.objects o)) BadKind

-- a call on a gate then checks that the object is a gate
abbrev pub no_gate : State → ℕ → ℕ → ℕ → Option Denied
no_gate s t d o = no_link s t d o orelse unless (is_gate (s.objects o)) BadKind

-- a call that makes an object in a container then checks that the thread may modify the container
abbrev pub no_making : State → ℕ → ℕ → Option Denied
no_making s t d = no_container s t d orelse unless (modifies (s.objects t) (s.objects d)) Modify

-- a segment holds at most 4,096 bytes
abbrev pub fits_segment : ℕ → Bool
fits_segment n = nat_le n 4096

-- there is a number for one more object
abbrev pub has_number : State → Bool
has_number s = nat_lt s.next_object greatest

-- a label that was handed in names only categories that were made
abbrev pub known : State → Levels → Bool
known s label = is_made s.next_category label

-- the checks to make an object that owns nothing: its label is in the thread's range, and its bytes fit a segment
abbrev pub no_new : State → ℕ → ℕ → Levels → ℕ → Option Denied
no_new s t d label size =
    no_making s t d
    orelse unless (in_range (s.objects t) label) Range
    orelse unless (known s label) Range
    orelse unless (not (has_star label)) Range
    orelse unless (fits_segment size) TooBig
    orelse unless (has_number s) TooBig

-- the checks to make an object that may own: its label and its clearance are in the thread's range
abbrev pub no_new_owner : State → ℕ → ℕ → Levels → Levels → Option Denied
no_new_owner s t d label clearance =
    no_making s t d
    orelse unless (in_span (s.objects t) label clearance) Range
    orelse unless (known s label) Range
    orelse unless (known s clearance) Range
    orelse unless (has_number s) TooBig

-- The first failing check of a raw call. The order: the caller; the container, which the thread has to observe; the object; then whether
-- labels let the thread observe, modify or enter the object; then the ranges of the labels that were handed in; then sizes and counters.
abbrev pub check : State → ℕ → RawCall → Option Denied
check s t MakeCategory =
    no_thread s t
    orelse unless (nat_lt s.next_category greatest) TooBig
check s t OwnLabel = no_thread s t
check s t (SetLabel label) =
    no_thread s t
    orelse unless (in_range (s.objects t) label) Range
    orelse unless (known s label) Range
check s t (SetClearance clearance) =
    no_thread s t
    orelse unless (may_clear (s.objects t) clearance) Range
    orelse unless (known s clearance) Range
check s t (MakeSegment d label bytes) = no_new s t d label (length bytes)
check s t (MakeContainer d label) = no_new s t d label 0
check s t (MakeThread d label clearance) = no_new_owner s t d label clearance
check s t (MakeGate d label clearance entry) = no_new_owner s t d label clearance
check s t (Enter d o wanted clearance verify) =
    no_gate s t d o
    orelse unless (is_let_in (s.objects t) (s.objects o)) Gate
    orelse unless (is_own_below (s.objects t) verify) Gate
    orelse unless (in_gate (s.objects t) (s.objects o) wanted clearance) Range
    orelse unless (known s wanted) Range
    orelse unless (known s clearance) Range
    orelse unless (known s verify) Range
check s t (Read d o) =
    no_segment s t d o
    orelse unless (observes (s.objects t) (s.objects o)) Observe
check s t (Write d o keep bytes) =
    no_segment s t d o
    orelse unless (modifies (s.objects t) (s.objects o)) Modify
    orelse unless (fits_segment (min keep (length (bytes_in (s.objects o))) + length bytes)) TooBig
check s t (Unlink d o) =
    no_link s t d o
    orelse unless (modifies (s.objects t) (s.objects d)) Modify
check s t (LabelOf d o) =
    no_link s t d o
    orelse unless (not (is_thread (s.objects o))) BadKind

-- a check answers the first of its tests that fails, and succeeds where none fails
abbrev pub FailsAt : {A : Type 0} → Option Denied → Result A Denied → Type 0
FailsAt failing (Ok _) = failing ≡ None
FailsAt failing (Err denied) = failing ≡ Some denied

-- the same of a check that needs memory, unless memory ran out
abbrev pub FailsAtUnlessExhausted : {A : Type 0} → Option Denied → Result A Refusal → Type 0
FailsAtUnlessExhausted failing (Ok _) = failing ≡ None
FailsAtUnlessExhausted failing (Err (refusals.Denied denied)) = failing ≡ Some denied
FailsAtUnlessExhausted failing (Err refusals.OutOfMemory) = ⊤

-- The state that a raw call leaves once its checks pass. A new object gets the next number, and the container links it; an unlinked object
-- goes with all that is reached from it by links.
abbrev pub Changes : State → ℕ → RawCall → State → Type 0
Changes s t MakeCategory new = new ≡ with_category s t
Changes s t OwnLabel new = new ≡ s
Changes s t (SetLabel label) new = new ≡ with_changed s t (with_label label)
Changes s t (SetClearance clearance) new = new ≡ with_changed s t (with_clearance clearance)
Changes s t (MakeSegment d label bytes) new = new ≡ with_object s d (record { label = label; kind = Segment bytes })
Changes s t (MakeContainer d label) new = new ≡ with_object s d (record { label = label; kind = Container set.empty })
Changes s t (MakeThread d label clearance) new = new ≡ with_object s d (thread_of label clearance)
Changes s t (MakeGate d label clearance entry) new = new ≡ with_object s d (record { label = label; kind = gates.Gate clearance entry })
Changes s t (Enter d o wanted clearance verify) new = new ≡ with_own s t wanted clearance
Changes s t (Read d o) new = new ≡ s
Changes s t (Write d o keep bytes) new = new ≡ with_segment_bytes s o (take keep (bytes_in (s.objects o)) ++ bytes)
Changes s t (Unlink d o) new = CutsOff s d o new
Changes s t (LabelOf d o) new = new ≡ s

-- the state after a raw call: the one that the call leaves if it was granted, and the old one if it was refused
abbrev pub Leaves : Option Denied → State → ℕ → RawCall → State → Type 0
Leaves None s t call new = Changes s t call new
Leaves (Some denied) s t call new = new ≡ s

-- How a call on the state ends: its checks passed, it left the state that the rules give, and what it returns is so; or it was denied by its
-- first failing check and left the old state; or memory ran out, and it left the old state.
abbrev pub DecidesAs : {A : Type 0} → ObjectsModel → ObjectsModel → ℕ → RawCall → Result A Refusal → (A → Type 0) → Type 0
DecidesAs old new t call (Ok answer) IsRight = (check (state_of old) t call ≡ None) × Changes (state_of old) t call (state_of new) × IsRight answer
DecidesAs old new t call (Err (refusals.Denied denied)) IsRight = (check (state_of old) t call ≡ Some denied) × (state_of new ≡ state_of old)
DecidesAs old new t call (Err refusals.OutOfMemory) IsRight = state_of new ≡ state_of old

-- a call on the state ends so, and returns its answer
abbrev pub Decides : ObjectsModel → ObjectsModel → ℕ → (call : RawCall) → Result (AnswerOf call) Refusal → Type 0
Decides old new t call result = DecidesAs old new t call result (IsAnswer (state_of old) t call)
