-- Proves the goals of `splice_in` of src/labelled.rt that the search leaves open.
use Rattle.std.proofs.Common.{rules, ℕ, List, ap, ◌++◌, ◌∙◌}
use Rattle.std.specs.Prelude.{take}
use Rattle.histar_object.specs.declared.objects.Kind.TheVariants.{Segment}
use Rattle.histar_object.specs.declared.objects.Object.{Object}
use Rattle.histar_container.proofs.Links.{on_some}
use Rattle.histar_container.proofs.Keeping.{on_err, held_not, spliced_there, left_alone}
use Rattle.histar_rules.proofs.labelled.splice_in.Goals as goal

pub returns-in_err-new-clause-err : goal.returns-in_err-new-clause-err
returns-in_err-new-clause-err g c =
    let left : Object g.row.L.Denot = record { label = c.in-Some.object.now.label; kind = Segment c.in-Segment.content } in
    on_err _ _ (left_alone _ _ _ _ _ c.in-Some.ensures.value c.in-Segment.is (on_some _ _ _ c.in-Some.is (c.get_mut.follows.holds left)).objects)

pub returns-in_ok-new-clause-ok : goal.returns-in_ok-new-clause-ok
returns-in_ok-new-clause-ok g c =
    let left : Object g.row.L.Denot = record { label = c.in-Some.object.now.label; kind = Segment c.in_ok-new.new } in
    spliced_there _ _ _ _ _ c.args.keep c.args.bytes.now _ c.in-Some.ensures.value c.in-Segment.is
    (c.in_ok-new.ensures.ok ∙ ap (λ (b : List ℕ). take c.args.keep b ++ c.args.bytes.now) c.as_slice.ensures)
    (on_some _ _ _ c.in-Some.is (c.get_mut.follows.holds left)).objects

pub returns-in_default-kind : goal.returns-in_default-kind
returns-in_default-kind g c =
    let left : Object g.row.L.Denot = record { label = c.in-Some.object.now.label; kind = c.in-Some.object.now.kind } in
    record {
      ok = held_not _ _ _ left _ c.in-Some.ensures.value (search rules)
          (on_some _ _ _ c.in-Some.is (c.get_mut.follows.holds left)).objects;
      err = tt;
      memory = tt;
    }
