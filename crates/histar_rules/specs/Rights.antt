-- What a thread may do with labels: the ranges in which it chooses them, and the gates that it may enter.
use Rattle.std.specs.Prelude.{ℕ, ◌+◌, Bool, false, ◌&&◌, Option, None, Some}
use Rattle.histar_level.specs.declared.level.Level.TheVariants.{Star, L3}
use Rattle.histar_level.specs.Levels.{Levels}
use Rattle.histar_label.specs.Levels.{with_level, is_below, is_below_join, is_below_join_raised}
use Rattle.histar_label.specs.Floors.{floor_of}
use Rattle.histar_object.specs.declared.objects.Kind.{Kind}
use Rattle.histar_object.specs.declared.objects.Kind.TheVariants.{Segment, Container, Thread, Gate}
use Rattle.histar_object.specs.declared.objects.Object.{Object}
use Rattle.histar_object.specs.Objects.{changed_at, label_there, clearance_there}
use Rattle.histar_object.specs.State.{State, Found}

-- a test of a label and a clearance, which fails where one of them is missing
abbrev pub both : Option Levels → Option Levels → (Levels → Levels → Bool) → Bool
both None clearance test = false
both (Some label) None test = false
both (Some label) (Some clearance) test = test label clearance

-- a test of the label and the clearance of a thread or a gate, which fails where it is missing
abbrev pub holds_of : Found → (Levels → Levels → Bool) → Bool
holds_of found test = both (label_there found) (clearance_there found) test

-- a label and a clearance above it lie between an own label and its clearance
abbrev pub are_in_order : Levels → Levels → Levels → Levels → Bool
are_in_order own label clearance own_clearance = is_below own label && is_below label clearance && is_below clearance own_clearance

-- a label and a clearance above it lie between t's own label and t's clearance
abbrev pub in_span : Found → Levels → Levels → Bool
in_span t label clearance = holds_of t (λ own own_clearance. are_in_order own label clearance own_clearance)

-- a clearance is above t's own label, and is above t's clearance only where t owns
abbrev pub may_clear : Found → Levels → Bool
may_clear t clearance = holds_of t (λ own own_clearance. is_below own clearance && is_below_join_raised clearance own_clearance own)

-- t's own label is below a label
abbrev pub is_own_below : Found → Levels → Bool
is_own_below t label = holds_of t (λ own own_clearance. is_below own label)

-- t's own label is below the clearance of a gate
abbrev pub is_let_in : Found → Found → Bool
is_let_in t gate = holds_of gate (λ gate_label gate_clearance. is_own_below t gate_clearance)

-- a label is above the floor of two labels, and a clearance above the label lies below the greater of two clearances
abbrev pub lies_between : Levels → Levels → Levels → Levels → Levels → Levels → Bool
lies_between own gate_label label clearance own_clearance gate_clearance =
    is_below (floor_of own gate_label) label && is_below label clearance && is_below_join clearance own_clearance gate_clearance

-- t may have this label and this clearance behind a gate: it owns what t or the gate owns; elsewhere the label is at least both labels, and
-- the clearance at most the greater of both clearances
abbrev pub in_gate : Found → Found → Levels → Levels → Bool
in_gate t gate label clearance = holds_of t (λ own own_clearance. holds_of gate (λ gate_label gate_clearance. lies_between own gate_label label clearance own_clearance gate_clearance))

-- a kind whose clearance, if it has one, has level 3 at a category
abbrev pub kind_with_three_at : ℕ → Kind Levels → Kind Levels
kind_with_three_at c (Segment bytes) = Segment bytes
kind_with_three_at c (Container links) = Container links
kind_with_three_at c (Thread clearance) = Thread (with_level clearance c L3)
kind_with_three_at c (Gate clearance entry) = Gate (with_level clearance c L3) entry

-- a thread that owns one more category, where its clearance is now 3
abbrev pub with_star_at : ℕ → Object Levels → Object Levels
with_star_at c o = record { label = with_level o.label c Star; kind = kind_with_three_at c o.kind }

-- an object with another label
abbrev pub with_label : {L : Type 0} → L → Object L → Object L
with_label label o = record { label = label; kind = o.kind }

-- a thread or a gate with another clearance
abbrev pub kind_with_clearance : {L : Type 0} → L → Kind L → Kind L
kind_with_clearance clearance (Segment bytes) = Segment bytes
kind_with_clearance clearance (Container links) = Container links
kind_with_clearance clearance (Thread old) = Thread clearance
kind_with_clearance clearance (Gate old entry) = Gate clearance entry

abbrev pub with_clearance : {L : Type 0} → L → Object L → Object L
with_clearance clearance o = record { label = o.label; kind = kind_with_clearance clearance o.kind }

-- the state with one object changed, if it is there
abbrev pub with_changed : State → ℕ → (Object Levels → Object Levels) → State
with_changed s t f = record { objects = changed_at s.objects t f; next_object = s.next_object; next_category = s.next_category }

-- the state in which thread t has made the next category, and owns it
abbrev pub with_category : State → ℕ → State
with_category s t = record { objects = changed_at s.objects t (with_star_at s.next_category); next_object = s.next_object; next_category = s.next_category + 1 }
