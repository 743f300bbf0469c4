-- The model of a table and its store: objects by number with their labels by value, and the next numbers.
use Rattle.std.specs.Prelude.{◌≡◌, ℕ, refl}
use Rattle.std.specs.Coded.{Coded, code_by, coded×, coded_ℕ}
use Rattle.histar_level.specs.Levels.{Levels}
use Rattle.histar_label.specs.Levels.{coded_levels}
use Rattle.histar_object.specs.Codes.{coded_table}
use Rattle.histar_object.specs.Objects.{TableModel, objects_of}
use Rattle.histar_object.specs.State.{State}
use Rattle.histar_container.specs.Tree.{IsCut}

-- the table of objects, and the numbers that the next object and the next category get
pub record ObjectsModel : Type 0 where
  pub objects : TableModel Levels
  pub next_object : ℕ
  pub next_category : ℕ

-- stored as a pair of its table and its numbers
abbrev pub coded_objects_model : Coded ObjectsModel
coded_objects_model = code_by (TableModel Levels × (ℕ × ℕ)) (coded× (coded_table coded_levels) (coded× coded_ℕ coded_ℕ)) (λ k. (k.objects, (k.next_object, k.next_category))) (λ p. record { objects = p.0; next_object = p.1.0; next_category = p.1.1 }) (λ _. refl)

-- the state that a model represents
abbrev pub state_of : ObjectsModel → State
state_of k = record { objects = objects_of k.objects; next_object = k.next_object; next_category = k.next_category }

-- the container d no longer links o, all that was reached from o is gone, and everything else is as it was
pub record CutsOff (old : State) (d o : ℕ) (new : State) : Type 0 where
  pub is_cut : IsCut old.objects d o new.objects
  pub next_object : new.next_object ≡ old.next_object
  pub next_category : new.next_category ≡ old.next_category
