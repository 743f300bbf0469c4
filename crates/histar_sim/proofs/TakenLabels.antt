-- A thread takes labels: the state after it, and what it leaves as it was.
use Rattle.std.proofs.Common.{◌≡◌, ℕ, ◌==◌, Bool, true, false, Some, inl, inr, refl, sym, ap, ◌∙◌, if◌then◌else◌}
use Rattle.std.specs.Prelude.{option_map}
use Rattle.std.proofs.lemmas.Bool.Decides.{eqb_tells}
use Rattle.histar_level.specs.Levels.{Levels}
use Rattle.histar_object.specs.declared.objects.Object.{Object}
use Rattle.histar_object.specs.Objects.{Objects, thread_of, bytes_in}
use Rattle.histar_rules.specs.Rights.{with_label, with_clearance, with_changed}
use Rattle.histar_object.specs.State.{State, Found, with_own}
use Rattle.histar_object.proofs.Changes.{put_back}
use Rattle.histar_container.proofs.TableMoves.{put_here, put_other}

-- a thread that takes labels twice has the last ones
abbrev changed_if : Bool → (Object Levels → Object Levels) → Found → Found
changed_if b change o = if b then option_map change o else o

taken_at : (b : Bool) (label clearance taken own_clearance : Levels) (o : Found)
    → changed_if b (with_clearance own_clearance)
    (changed_if b (with_label taken) (if b then Some (thread_of label clearance) else o))
    ≡ (if b then Some (thread_of taken own_clearance) else o)
taken_at true label clearance taken own_clearance o = refl
taken_at false label clearance taken own_clearance o = refl

pub labels_taken : (s : State) (t : ℕ) (label clearance taken own_clearance : Levels)
    → with_changed (with_changed (with_own s t label clearance) t (with_label taken)) t (with_clearance own_clearance)
    ≡ with_own s t taken own_clearance
labels_taken s t label clearance taken own_clearance i =
    record {
      objects = λ q. taken_at (q == t) label clearance taken own_clearance (s.objects q) i;
      next_object = s.next_object;
      next_category = s.next_category;
    }

module _ (s : State) (t : ℕ) (own own_clearance : Levels) (thread : s.objects t ≡ Some (thread_of own own_clearance)) where
  -- a thread that takes its own labels again is as it was
  pub labels_back : with_own s t own own_clearance ≡ s
  labels_back =
      ap (λ (objects : Objects Levels).
      record { objects = objects; next_object = s.next_object; next_category = s.next_category })
      (put_back s.objects t (thread_of own own_clearance) (sym thread))

  module _ (label clearance : Levels) where
    -- no bytes change where a thread takes labels
    pub kept_bytes : (q : ℕ) → bytes_in ((with_own s t label clearance).objects q) ≡ bytes_in (s.objects q)
    kept_bytes q = elim (eqb_tells q t) [
      | inl e ↦
          ap (λ (k : ℕ). bytes_in ((with_own s t label clearance).objects k)) e.1
          ∙ ap bytes_in (put_here s.objects t (thread_of label clearance))
          ∙ sym (ap (λ (k : ℕ). bytes_in (s.objects k)) e.1 ∙ ap bytes_in thread)
      | inr e ↦ ap bytes_in (put_other s.objects t (thread_of label clearance) q e.1)
    ]
