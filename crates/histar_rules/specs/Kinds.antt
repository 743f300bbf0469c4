-- The kind of an object, by name.
use Rattle.std.specs.Prelude.{Option, None, Some}
use Rattle.histar_object.specs.declared.objects.Kind.{Kind}
use Rattle.histar_object.specs.declared.objects.Kind.TheVariants.{Segment, Container, Thread, Gate}
use Rattle.histar_object.specs.declared.objects.Object.{Object}
use Rattle.histar_rules.specs.declared.kinds.ObjectKind.{ObjectKind}
use Rattle.histar_rules.specs.declared.kinds.ObjectKind.TheVariants as names

module _ {L : Type 0} where
  -- the name of a kind
  abbrev pub kind_of : Kind L → ObjectKind
  kind_of (Segment bytes) = names.Segment
  kind_of (Container links) = names.Container
  kind_of (Thread clearance) = names.Thread
  kind_of (Gate clearance entry) = names.Gate

  -- the kind of an object, if it is there
  abbrev pub kind_there : Option (Object L) → Option ObjectKind
  kind_there None = None
  kind_there (Some o) = Some (kind_of o.kind)
