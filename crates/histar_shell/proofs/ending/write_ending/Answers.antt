-- Proves the goals of `write_ending` of src/ending.rt that the search leaves open.
use Rattle.std.proofs.lemmas.Result.{err_from_is_err_and, on_ok_weaker, on_err_weaker}
use Rattle.std.proofs.Common.{ap}
use Rattle.histar_shell.specs.Ending.{asked_trace}
use Rattle.histar_shell.proofs.EachLine.{ending_written, trace_begun, tree_begun}
use Rattle.histar_shell.proofs.ending.write_ending.Goals as goal

pub returns-in_err-write_tree-clause-err : goal.returns-in_err-write_tree-clause-err
returns-in_err-write_tree-clause-err g c =
    let p = err_from_is_err_and c.from_residual.result c.from_residual.ensures.1 in
    rw p.1 (tree_begun c.args.options c.args.machine.now _ _ c.in_err-write_tree.ensures.err)

pub returns-clause-ok : goal.returns-clause-ok
returns-clause-ok g c =
    on_ok_weaker c.write_trace.result (ending_written c.args.options c.args.machine.now _ _ _
    (asked_trace c.args.options c.trace.result.now.entries) (ap (asked_trace c.args.options) c.trace.ensures)
    c.in_ok-write_tree.ensures.ok) c.write_trace.ensures.ok

pub returns-clause-err : goal.returns-clause-err
returns-clause-err g c =
    on_err_weaker c.write_trace.result (trace_begun c.args.options c.args.machine.now _ _ _ (asked_trace c.args.options c.trace.result.now.entries)
    (ap (asked_trace c.args.options) c.trace.ensures) c.in_ok-write_tree.ensures.ok) c.write_trace.ensures.err
