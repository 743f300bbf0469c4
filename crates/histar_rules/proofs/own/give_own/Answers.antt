-- Proves the goals of `give_own` of src/own.rt that the search leaves open.
use Rattle.std.proofs.Common.{ap, ◌∙◌}
use mathlib.Core.Bool.{false≢true}
use Rattle.histar_object.specs.declared.objects.Object.{Object}
use Rattle.histar_object.specs.declared.objects.Kind.TheVariants.{Thread}
use Rattle.histar_object.specs.Objects.{is_thread}
use Rattle.histar_container.proofs.Links.{on_some}
use Rattle.histar_rules.proofs.own.give_own.Goals as goal

pub returns-in-Some : goal.returns-in-Some
returns-in-Some g c =
    let left : Object g.row.L.Denot = record { label = c.args.own.0; kind = Thread c.args.own.1 } in
    (on_some _ _ _ c.in-Some.is (c.get_mut.follows.holds left)).objects

pub returns-in_default : goal.returns-in_default
returns-in_default g c = absurd (false≢true (ap is_thread c.in_default.ensures.value ∙ c.requires))
