-- The objects of a state are, under a naming by addresses, those that are asked for.
use Rattle.std.specs.Prelude.{◌≡◌, ◌↔◌, Bool, Some, is_some, option_map}
use Rattle.std.specs.FinSet as set
use Rattle.histar_level.specs.Levels.{Levels}
use Rattle.histar_object.specs.declared.objects.Kind.{Kind}
use Rattle.histar_object.specs.declared.objects.Kind.TheVariants.{Container}
use Rattle.histar_object.specs.declared.objects.Object.{Object}
use Rattle.histar_object.specs.Objects.{is_present}
use Rattle.histar_object.specs.State.{State, Found}
use Rattle.histar_container.specs.Tree.{Address, Naming, MatchesNaming, objects_at}

-- a container that links nothing, and any other kind as it is
abbrev pub kind_bare : Kind Levels → Kind Levels
kind_bare (Container links) = Container set.empty
kind_bare kind = kind

-- an object but for its links
abbrev pub bare : Found → Found
bare found = option_map (λ (o : Object Levels). record { label = o.label; kind = kind_bare o.kind }) found

-- Under this naming each object of the state has an address and links exactly what is one step below it; and an object, but for
-- its links, is at an address exactly where it is asked for there.
pub record Agrees {X : Type 0} (same_step : X → X → Bool) (s : State) (naming : Naming X) (asked : Address X → Object Levels → Type 0) : Type 0 where
  pub tree : MatchesNaming same_step s.objects s.next_object (objects_at s.objects naming) naming
  pub objects : (a : Address X) (o : Object Levels) → (bare (objects_at s.objects naming a) ≡ Some o) ↔ asked a o
  pub filled : (a : Address X) → is_some (naming.number a) ≡ is_present (objects_at s.objects naming a)
