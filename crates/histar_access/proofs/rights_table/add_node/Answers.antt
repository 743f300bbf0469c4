-- Proves the goals of `add_node` of src/rights_table.rt that the search leaves open.
use Rattle.std.proofs.Common.{ap, ◌∙◌}
use Rattle.histar_syscall.specs.KernelModel.{state}
use Rattle.histar_diff.specs.Shown.{rights_line}
use Rattle.histar_access.specs.Cells.{line_of_node, row_below}
use Rattle.histar_access.proofs.rights_table.add_node.Goals as goal

pub returns-clause-row : goal.returns-clause-row
returns-clause-row g c =
    c.in_ok-row.ensures ∙ (λ j. row_below (state (c.kernel.ensures j)) (c.object.ensures j) c.args.above.now)

pub returns-clause-line : goal.returns-clause-line
returns-clause-line g c = record {
  line = c.in_ok-line.line;
  is = c.in_ok-line.ensures
      ∙ ap (λ cells. rights_line (line_of_node c.args.node.now cells)) (c.as_slice.ensures.value ∙ returns-clause-row g c);
  added = c.in_ok-push.ensures.items;
}
