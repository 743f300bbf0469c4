-- The objects of a state are, under a naming by addresses, those that a function gives: the form in which moves of objects are followed.
use Rattle.std.proofs.Common.{◌≡◌, Bool}
use Rattle.std.specs.Prelude.{is_some}
use Rattle.histar_object.specs.Objects.{is_present}
use Rattle.histar_object.specs.State.{State, Found}
use Rattle.histar_container.specs.Tree.{Address, Naming, MatchesNaming, objects_at}
use Rattle.histar_refinement.specs.Agrees.{bare}

-- Under this naming each object of the state has an address and links exactly what is one step below it; and at each
-- address is, but for links, the object that the function gives there, and nothing where it gives none.
pub record AgreesAt {X : Type 0} (same_step : X → X → Bool) (s : State) (naming : Naming X) (asked : Address X → Found) : Type 0 where
  pub tree : MatchesNaming same_step s.objects s.next_object (objects_at s.objects naming) naming
  pub objects : (a : Address X) → bare (objects_at s.objects naming a) ≡ asked a
  pub named : (a : Address X) → is_some (naming.number a) ≡ is_present (asked a)
