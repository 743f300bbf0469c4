-- Proves the goals of `write_table` of src/table.rt that the search leaves open.
use Rattle.std.proofs.Common.{sym, ◌∙◌, ap, subst}
use Rattle.std.proofs.lemmas.Result.{err_from_is_err_and, on_ok_weaker, on_err_weaker}
use Rattle.histar_syscall.specs.KernelModel.{state}
use Rattle.histar_shell.specs.Ending.{IsTreeIn}
use Rattle.histar_access.specs.Cells.{visitors_among}
use Rattle.histar_access.specs.Shown.{AreVisitors}
use Rattle.histar_access.proofs.TableLemmas.{shown_processes, shown_tree, table_begun, table_written, unbegun}
use Rattle.histar_access.proofs.table.write_table.Goals as goal

pub tree-requires : goal.tree-requires
tree-requires g c = shown_tree c.args.machine.now c.requires

pub processes-requires : goal.processes-requires
processes-requires g c = shown_processes c.args.machine.now c.requires

pub returns-in_err-tree-clause-err : goal.returns-in_err-tree-clause-err
returns-in_err-tree-clause-err g c =
    let p = err_from_is_err_and c.from_residual.result c.from_residual.ensures.1 in
    rw p.1 (unbegun c.args.machine.now _)

pub returns-in_err-processes-clause-err : goal.returns-in_err-processes-clause-err
returns-in_err-processes-clause-err g c =
    let p = err_from_is_err_and c.from_residual-in_err-processes.result c.from_residual-in_err-processes.ensures.1 in
    rw p.1 (unbegun c.args.machine.now _)

pub returns-in_err-visitors-clause-err : goal.returns-in_err-visitors-clause-err
returns-in_err-visitors-clause-err g c =
    let p = err_from_is_err_and c.from_residual-in_err-visitors.result c.from_residual-in_err-visitors.ensures.1 in
    rw p.1 (unbegun c.args.machine.now _)

pub returns-clause-ok : goal.returns-clause-ok
returns-clause-ok g c =
    let is : IsTreeIn c.args.machine.now c.as_slice-3.result.now = subst (IsTreeIn c.args.machine.now) (sym c.as_slice-3.ensures.value)
    c.in_ok-tree.ensures.ok in
    let are : AreVisitors c.args.machine.now c.as_slice-2.result.now = (
      c.in_ok-processes.processes.items,
      c.in_ok-processes.ensures,
      c.as_slice-2.ensures.value
          ∙ c.in_ok-visitors.ensures ∙ ap (visitors_among (state c.args.machine.now.kernel) c.args.machine.now.roots) c.as_slice.ensures.value,
    ) in
    on_ok_weaker c.write_lines.result (table_written c.args.machine.now c.as_slice-3.result.now is c.as_slice-2.result.now are _ _)
    c.write_lines.ensures.ok

pub returns-clause-err : goal.returns-clause-err
returns-clause-err g c =
    let is : IsTreeIn c.args.machine.now c.as_slice-3.result.now = subst (IsTreeIn c.args.machine.now) (sym c.as_slice-3.ensures.value)
    c.in_ok-tree.ensures.ok in
    let are : AreVisitors c.args.machine.now c.as_slice-2.result.now = (
      c.in_ok-processes.processes.items,
      c.in_ok-processes.ensures,
      c.as_slice-2.ensures.value
          ∙ c.in_ok-visitors.ensures ∙ ap (visitors_among (state c.args.machine.now.kernel) c.args.machine.now.roots) c.as_slice.ensures.value,
    ) in
    on_err_weaker c.write_lines.result (table_begun c.args.machine.now c.as_slice-3.result.now is c.as_slice-2.result.now are _ _)
    c.write_lines.ensures.err
