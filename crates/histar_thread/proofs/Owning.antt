-- The categories that a thread owns after it made one.
use Rattle.std.proofs.Common.{◌≡◌, ℕ, ◌+◌, None, Some, true, refl, sym, ap, ◌∙◌}
use Rattle.histar_level.specs.declared.level.Level.TheVariants.{Star, L3}
use Rattle.histar_level.specs.Levels.{Levels}
use Rattle.histar_label.specs.Levels.{with_level}
use Rattle.histar_object.specs.declared.objects.Kind.{Kind}
use Rattle.histar_object.specs.declared.objects.Kind.TheVariants.{Segment, Container, Thread, Gate}
use Rattle.histar_object.specs.Objects.{Objects, put, changed_at, thread_of, label_there, clearance_there, is_thread, kind_is_thread, kind_clearance}
use Rattle.histar_rules.specs.Rights.{with_star_at, kind_with_three_at, with_category}
use Rattle.histar_object.specs.State.{State, Found, with_own, with_next_category}
use Rattle.histar_object.proofs.Changes.{put_changed}

-- a thread that owns one more category has these labels
kind_owned : (own : Levels) (k : Kind Levels) (label clearance : Levels) (c : ℕ) → Some label ≡ Some own
    → Some clearance ≡ kind_clearance k → kind_is_thread k ≡ true
    → thread_of (with_level label c Star) (with_level clearance c L3) ≡ record { label = with_level own c Star; kind = kind_with_three_at c k }
kind_owned own (Segment bytes) label clearance c l k t = cc
kind_owned own (Container links) label clearance c l k t = cc
kind_owned own (Thread held) label clearance c l k t = cc
kind_owned own (Gate held entry) label clearance c l k t = cc

-- so giving the thread these labels changes it in this way
owned_at : (objects : Objects Levels) (t : ℕ) (here : Found) (label clearance : Levels) (c : ℕ) → objects t ≡ here
    → Some label ≡ label_there here → Some clearance ≡ clearance_there here → is_thread here ≡ true
    → put objects t (thread_of (with_level label c Star) (with_level clearance c L3)) ≡ changed_at objects t (with_star_at c)
owned_at objects t None label clearance c at l k thread = cc
owned_at objects t (Some o) label clearance c at l k thread =
    ap (put objects t) (kind_owned o.label o.kind label clearance c l k thread)
    ∙ put_changed objects t (with_star_at c) o (sym at)

-- the state after a thread made a category
pub category_made : (s : State) (t : ℕ) (label clearance : Levels) → Some label ≡ label_there (s.objects t)
    → Some clearance ≡ clearance_there (s.objects t) → is_thread (s.objects t) ≡ true
    → with_next_category (with_own s t (with_level label s.next_category Star) (with_level clearance s.next_category L3)) ≡ with_category s t
category_made s t label clearance l k thread =
    ap (λ (objects : Objects Levels).
    record { objects = objects; next_object = s.next_object; next_category = s.next_category + 1 })
    (owned_at s.objects t (s.objects t) label clearance s.next_category refl l k thread)
