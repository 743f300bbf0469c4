-- Proves the goals of `LabelledObjects::splice` of src/labelled.rt that the search leaves open.
use Rattle.std.proofs.Common.{ap, ◌++◌, ◌∙◌}
use Rattle.std.specs.Prelude.{take}
use Rattle.std.proofs.lemmas.Result.{on_ok_weaker, on_err_weaker}
use Rattle.histar_object.specs.Objects.{objects_of, bytes_in}
use Rattle.histar_object.specs.State.{with_segment_bytes}
use Rattle.histar_container.specs.ObjectsModel.{ObjectsModel, state_of}
use Rattle.histar_container.proofs.Keeping.{kept_spliced, spliced_shown, shown_same}
use Rattle.histar_rules.proofs.labelled.LabelledObjects.splice.Goals as goal

pub invariant_of-self : goal.invariant_of-self
invariant_of-self g c =
    kept_spliced _ _ _ _ _ _ _ c.splice_in.ensures.ok c.splice_in.ensures.err c.self.invariant

pub returns-clause-ok : goal.returns-clause-ok
returns-clause-ok g c =
    on_ok_weaker c.splice_in.result (λ e.
    let shows =
    spliced_shown (g.S.LabelStore.labels c.self.inside.store) c.self.inside.table _ c.splice_in.new.table c.args.keep c.args.bytes.now e in
    (λ i. record { objects = shows i; next_object = c.self.inside.next_object; next_category = c.self.inside.next_category })
    ∙ ap (λ (k : ObjectsModel). with_segment_bytes (state_of k) c.args.segment
    (take c.args.keep (bytes_in (objects_of k.objects c.args.segment)) ++ c.args.bytes.now)) c.self.view_is) c.splice_in.ensures.ok

pub returns-clause-err : goal.returns-clause-err
returns-clause-err g c =
    on_err_weaker c.splice_in.result (λ e.
    let shows = shown_same (g.S.LabelStore.labels c.self.inside.store) c.self.inside.table c.splice_in.new.table e in
    (λ i. record { objects = shows i; next_object = c.self.inside.next_object; next_category = c.self.inside.next_category })
    ∙ ap state_of c.self.view_is) c.splice_in.ensures.err
