-- Proves the goals of `table_of` of src/rights_table.rt that the search leaves open.
use Rattle.std.proofs.Common.{[], ap, ◌∙◌}
use Rattle.std.specs.Prelude.{map}
use Rattle.std.specs.List.{filter_map}
use Rattle.std.proofs.lemmas.Result.{IfOk-weaker}
use Rattle.histar_syscall.specs.KernelModel.{state}
use Rattle.histar_diff.specs.Shown.{rights_line}
use Rattle.histar_access.specs.Cells.{lines_from}
use Rattle.histar_access.specs.RightsTable.{runner_of}
use Rattle.histar_access.specs.Shown.{visitors_in}
use Rattle.histar_access.proofs.RightsLines.{table_shows}
use Rattle.histar_access.proofs.TableLemmas.{shown_processes, shown_tree}
use Rattle.histar_access.proofs.rights_table.table_of.Goals as goal

pub tree-requires : goal.tree-requires
tree-requires g c = shown_tree c.args.machine.now c.requires

pub processes-requires : goal.processes-requires
processes-requires g c = shown_processes c.args.machine.now c.requires

pub returns : goal.returns
returns g c =
    let m = c.args.machine.now in
    IfOk-weaker c.table_by.result _ _
    (λ table is. table_shows m c.in_ok-tree.tree.items c.in_ok-tree.ensures.ok c.in_ok-processes.processes.items c.in_ok-processes.ensures table
    (is.runners ∙ ap (filter_map runner_of) c.as_slice.ensures.value)
    (is.lines
    ∙ (λ i. map rights_line (lines_from (state m.kernel) (visitors_in m (c.as_slice.ensures.value i)) [] (c.as_slice-2.ensures.value i)))))
    c.table_by.ensures
