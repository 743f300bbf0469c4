-- Proves the goals of `LabelledObjects::set_own` of src/labelled.rt that the search leaves open.
use Rattle.std.proofs.Common.{ap, ◌∙◌}
use Rattle.histar_object.specs.Objects.{objects_of, is_thread}
use Rattle.histar_object.specs.State.{State}
use Rattle.histar_container.specs.ObjectsModel.{ObjectsModel}
use Rattle.histar_container.proofs.Keeping.{kept_own}
use Rattle.histar_rules.proofs.labelled.LabelledObjects.set_own.Goals as goal

pub set_own_in-requires-clause-is_there : goal.set_own_in-requires-clause-is_there
set_own_in-requires-clause-is_there g c =
    ap (λ (k : ObjectsModel). is_thread (objects_of k.objects c.args.thread)) c.self.view_is
    ∙ ap (λ (s : State). is_thread (s.objects c.args.thread)) c.forget_unused_labels.ensures ∙ c.requires

pub invariant_of-self : goal.invariant_of-self
invariant_of-self g c =
    kept_own _ _ _ _ _ _ _ c.set_own_in.ensures.stand c.self.invariant.unused c.self.invariant.positive
    (ap (λ (k : ObjectsModel). is_thread (objects_of k.objects c.args.thread)) c.self.view_is
    ∙ ap (λ (s : State). is_thread (s.objects c.args.thread)) c.forget_unused_labels.ensures ∙ c.requires)
    c.set_own_in.ensures.ok c.set_own_in.ensures.err
