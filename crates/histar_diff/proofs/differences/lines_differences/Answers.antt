-- Proves the goals of `lines_differences` of src/differences.rt that the search leaves open.
use Rattle.std.proofs.Common.{◌++◌, ap, append_assoc, sym, ◌∙◌}
use Rattle.std.specs.Option.{option_copied}
use Rattle.histar_diff.specs.Lines.{line_differences, lines_differences}
use Rattle.histar_diff.proofs.Steps.{fewer_lines, lines_step}
use Rattle.histar_diff.proofs.differences.lines_differences.Goals as goal

pub lines-smaller : goal.lines-smaller
lines-smaller c =
    fewer_lines c.in-Some.path c.lines.old_rest.now c.lines.new_rest.now c.after-old_rest.result.now c.after-new_rest.result.now
    (sym c.in-Some.ensures) c.after-old_rest.ensures c.after-new_rest.ensures

pub lines-preserved : goal.lines-preserved
lines-preserved c =
    let columns = c.args.columns.now in
    let rest = lines_differences columns c.after-old_rest.result.now c.after-new_rest.result.now in
    let here = line_differences columns c.in-Some.path (option_copied c.row_at-before.result) (option_copied c.row_at-now.result) in
    let one = lines_step (line_differences columns) c.in-Some.path c.lines.old_rest.now c.lines.new_rest.now
    c.after-old_rest.result.now c.after-new_rest.result.now (sym c.in-Some.ensures) c.after-old_rest.ensures c.after-new_rest.ensures in
    ap (λ ds. ds ++ rest) c.in_ok-push_differences.ensures
    ∙ append_assoc c.lines.differences.items here rest
    ∙ ap (λ ds. c.lines.differences.items ++ ds)
    ((λ i. line_differences columns c.in-Some.path (c.row_at-before.ensures i) (c.row_at-now.ensures i) ++ rest) ∙ sym one)
    ∙ c.lines.invariant
