-- What a look-up finds of a thread, a container, a segment or a gate, stated once by its parts.
use Rattle.std.specs.Prelude.{◌≡◌, ℕ, List, false, Option, None, Some}
use Rattle.std.specs.Borrow.{Bor}
use Rattle.histar_base.specs.Refusals.{unless, ◌orelse◌}
use Rattle.histar_level.specs.Levels.{Levels}
use Rattle.histar_label.specs.Levels.{is_below, is_made}
use Rattle.histar_label.specs.Store.{label_at}
use Rattle.histar_object.specs.declared.objects.Entry.{Entry}
use Rattle.histar_object.specs.declared.objects.Object.{Object}
use Rattle.histar_object.specs.declared.objects.Kind.TheVariants.{Segment, Container, Gate}
use Rattle.histar_object.specs.Objects.{TableModel, Numbers, thread_of, is_thread}
use Rattle.histar_object.specs.State.{State, Found}
use Rattle.histar_container.specs.Shown.{objects_shown}
use Rattle.histar_rules.specs.declared.entering.Opening.{Opening}
use Rattle.histar_rules.specs.declared.limits.Next.{Next}
use Rattle.histar_rules.specs.declared.raw.Denied.{Denied}
use Rattle.histar_rules.specs.declared.raw.Denied.TheVariants as denials
use Rattle.histar_rules.specs.Rights.{lies_between}

-- the look-up found a thread with this label and this clearance, or the object there is no thread
abbrev pub FindsThread : {L : Type 0} → Option (Object L) → Option (L × L) → Type 0
FindsThread here None = is_thread here ≡ false
FindsThread here (Some own) = here ≡ Some (thread_of own.0 own.1)

-- the same, where the labels are lent
abbrev pub LendsThread : Found → Option (Bor Levels × Bor Levels) → Type 0
LendsThread here None = is_thread here ≡ false
LendsThread here (Some own) = here ≡ Some (thread_of own.0.now own.1.now)

-- a container with this label, which links these numbers
abbrev pub container_of : {L : Type 0} → L → Numbers → Object L
container_of label links = record { label = label; kind = Container links }

-- a segment with this label, which has these bytes
abbrev pub segment_of : {L : Type 0} → L → List ℕ → Object L
segment_of label bytes = record { label = label; kind = Segment bytes }

-- a gate with this label and this clearance, which gives this entry to threads that enter it
abbrev pub gate_of : {L : Type 0} → L → L → Entry → Object L
gate_of label clearance entry = record { label = label; kind = Gate clearance entry }

-- the objects that a table and its store represent, as a state whose next numbers are 0
abbrev pub state_shown : {Id : Type 0} → (Id → Option Levels) → TableModel Id → State
state_shown labels es = record { objects = objects_shown labels es; next_object = 0; next_category = 0 }

-- the same, with the next numbers
abbrev pub state_with : {Id : Type 0} → (Id → Option Levels) → TableModel Id → Next → State
state_with labels es next = record { objects = objects_shown labels es; next_object = next.object; next_category = next.category }

-- the checks of the label and the clearance that a thread wants behind a gate, on labels that have Ids
abbrev pub no_wanting : {Id : Type 0} → (Id → Option Levels) → Id × Id → Id × Id → Id × Id → Next → Option Denied
no_wanting labels own gate wanted next =
    unless (lies_between (label_at labels own.0) (label_at labels gate.0) (label_at labels wanted.0) (label_at labels wanted.1)
    (label_at labels own.1) (label_at labels gate.1)) denials.Range
    orelse unless (is_made next.category (label_at labels wanted.0)) denials.Range
    orelse unless (is_made next.category (label_at labels wanted.1)) denials.Range

-- the last checks of entering a gate, on labels that have Ids, and a verify label
abbrev pub no_opening : {Id : Type 0} → (Id → Option Levels) → Opening Id → Levels → Next → Option Denied
no_opening labels opening verify next =
    (unless (is_below (label_at labels opening.own.0) (label_at labels opening.gate.1)) denials.Gate
    orelse unless (is_below (label_at labels opening.own.0) verify) denials.Gate)
    orelse no_wanting labels opening.own opening.gate opening.wanted next
    orelse unless (is_made next.category verify) denials.Range
