-- Proves the goals of `table_by` of src/rights_table.rt that the search leaves open.
use Rattle.std.proofs.Common.{[], ap, ◌∙◌}
use Rattle.std.specs.Prelude.{map}
use Rattle.histar_syscall.specs.KernelModel.{state}
use Rattle.histar_diff.specs.Shown.{rights_line}
use Rattle.histar_access.specs.Cells.{lines_from}
use Rattle.histar_access.proofs.rights_table.table_by.Goals as goal

pub returns : goal.returns
returns g c = record {
  runners = c.in_ok-runners.ensures;
  lines = c.in_ok-lines.ensures
      ∙ ap (λ visitors. map rights_line (lines_from (state c.args.machine.now.kernel) visitors [] c.args.tree.now))
      (c.as_slice.ensures.value ∙ c.in_ok-visitors.ensures);
}
