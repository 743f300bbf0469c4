-- Proves the goals of `write_tree` of src/ending.rt that the search leaves open.
use Rattle.std.proofs.Common.{rules, tests, subst, sym}
use Rattle.std.proofs.lemmas.Result.{err_from_is_err_and, on_ok_weaker, on_err_weaker}
use Rattle.histar_shell.specs.Ending.{IsTreeIn}
use Rattle.histar_shell.proofs.EachLine.{tree_revealed, tree_unwritten}
use Rattle.histar_shell.proofs.ending.write_tree.Goals as goal

pub returns-in_err-tree-clause-err : goal.returns-in_err-tree-clause-err
returns-in_err-tree-clause-err g c =
    let p = err_from_is_err_and c.from_residual.result c.from_residual.ensures.1 in
    rw p.1 (tree_unwritten c.args.options c.args.machine.now _ (search (rules, tests)) c.requires)

pub returns-clause-ok : goal.returns-clause-ok
returns-clause-ok g c =
    let is : IsTreeIn c.args.machine.now c.as_slice.result.now =
    subst (IsTreeIn c.args.machine.now) (sym c.as_slice.ensures.value) c.in_ok-tree.ensures.ok in
    on_ok_weaker c.write_nodes.result (λ whole. (
      _,
      tree_revealed c.args.options.tree c.args.machine.now c.as_slice.result.now (search (rules, tests)) is,
      whole,
    )) c.write_nodes.ensures.ok

pub returns-clause-err : goal.returns-clause-err
returns-clause-err g c =
    let is : IsTreeIn c.args.machine.now c.as_slice.result.now =
    subst (IsTreeIn c.args.machine.now) (sym c.as_slice.ensures.value) c.in_ok-tree.ensures.ok in
    on_err_weaker c.write_nodes.result (λ front. (
      _,
      tree_revealed c.args.options.tree c.args.machine.now c.as_slice.result.now (search (rules, tests)) is,
      front,
    )) c.write_nodes.ensures.err
