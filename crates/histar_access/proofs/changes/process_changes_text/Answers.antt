-- Proves the goals of `process_changes_text` of src/changes.rt that the search leaves open.
use Rattle.std.proofs.Common.{◌∙◌}
use Rattle.histar_diff.specs.Texts.{differences_text}
use Rattle.histar_access.proofs.Comparing.{AreCompared, table_rises, text_between}
use Rattle.histar_access.proofs.changes.process_changes_text.Goals as goal

pub differences_between-requires-clause-old_rises : goal.differences_between-requires-clause-old_rises
differences_between-requires-clause-old_rises c = table_rises c.args.options.old_at c.args.old.now c.in_ok-before.before c.in_ok-before.ensures

pub differences_between-requires-clause-new_rises : goal.differences_between-requires-clause-new_rises
differences_between-requires-clause-new_rises c = table_rises c.args.options.new_at c.args.new.now c.in_ok-after.after c.in_ok-after.ensures

pub returns : goal.returns
returns c =
    let found = c.in_ok-differences.differences in
    let compared : AreCompared c.args.options c.args.old.now c.args.new.now found.lone.items found.pairs.items = record {
      before = c.in_ok-before.before;
      after = c.in_ok-after.after;
      is_before = c.in_ok-before.ensures;
      is_after = c.in_ok-after.ensures;
      exact = c.in_ok-differences.ensures;
    } in
    text_between c.args.options compared c.in_ok-text_of.field-0.items
    (c.in_ok-text_of.ensures ∙ (λ i. differences_text (c.shown-differences.ensures.lone i) (c.shown-differences.ensures.pairs i)))
