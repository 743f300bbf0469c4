-- The content of a store that interns labels: its labels, and the answers that it remembers.
use Rattle.std.specs.Prelude.{◌≡◌, ◌<◌, Bool, List, Option, IfSome, length, slice_get, Contains, All}
use Rattle.histar_label.specs.declared.comparisons.Comparison.{Comparison}
use Rattle.histar_label.specs.declared.comparisons.Question.{Question}
use Rattle.histar_label.specs.declared.comparisons.Question.TheVariants.{Plain, Raised, Floor}
use Rattle.histar_label.specs.declared.levels.Raising.TheVariants as raisings
use Rattle.histar_label.specs.declared.levels.Test.{Test}
use Rattle.histar_label.specs.declared.levels.Test.TheVariants.{BelowJoin, FloorBelow}
use Rattle.histar_level.specs.Levels.{Levels}
use Rattle.histar_label.specs.Levels.{is_within}
use Rattle.histar_label.specs.Store.{label_at, HasOneId}

-- the test that the levels of three labels have to pass at every category
abbrev pub test_of : Question → Test
test_of Plain = BelowJoin raisings.Plain
test_of Raised = BelowJoin raisings.Raised
test_of Floor = FloorBelow

-- whether the levels of the three labels pass the test at every category
abbrev pub answer_of : List Levels → Comparison → Bool
answer_of labels c =
    is_within (label_at (slice_get labels) c.own) (label_at (slice_get labels) c.first) (label_at (slice_get labels) c.second) (test_of c.question)

-- the answer is that of the comparison, and all its labels are there
pub record IsRight (labels : List Levels) (c : Comparison) (answer : Bool) : Type 0 where
  pub own : c.own < length labels
  pub first : c.first < length labels
  pub second : c.second < length labels
  pub right : answer ≡ answer_of labels c

-- no label has two Ids, and each answer that is remembered or at hand is right
pub record IsInterned (labels : List Levels) (answers : List (Comparison × Bool)) (at_hand : List (Option (Comparison × Bool))) : Type 0 where
  pub one_id : HasOneId (slice_get labels)
  pub right : (e : Comparison × Bool) → Contains answers e → IsRight labels e.0 e.1
  pub right_at_hand : All (λ o. IfSome o (λ e. IsRight labels e.0 e.1)) at_hand
