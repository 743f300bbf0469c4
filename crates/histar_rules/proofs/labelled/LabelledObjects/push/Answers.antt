-- Proves the goals of `LabelledObjects::push` of src/labelled.rt that the search leaves open.
use Rattle.std.proofs.Common.{ℕ, ◌+◌, subst}
use Rattle.histar_object.specs.declared.objects.Object.{Object}
use Rattle.histar_level.specs.Levels.{Levels}
use Rattle.histar_object.specs.Objects.{objects_of}
use Rattle.histar_container.specs.Shown.{shown, IsUnusedFrom, IsKept}
use Rattle.histar_container.proofs.Keeping.{kept_next}
use Rattle.histar_rules.proofs.labelled.LabelledObjects.push.Goals as goal

pub invariant_of-self-2 : goal.invariant_of-self-2
invariant_of-self-2 g c =
    let before = objects_of (shown (g.S.LabelStore.labels c.self.inside.store) c.self.inside.table) in
    let o : Object Levels = record { label = c.args.label; kind = c.args.kind } in
    let unused : IsUnusedFrom before c.new-number.result = rw c.new-number.ensures c.self.invariant.unused in
    let kept =
    kept_next _ before _ _ o c.in_ok-push_in.ensures.stand unused c.in_ok-push_in.ensures.ok in
    subst (λ (n : ℕ). IsKept (g.S.LabelStore.labels c.push_in.new.store) c.push_in.new.table (n + 1)) c.new-number.ensures kept
