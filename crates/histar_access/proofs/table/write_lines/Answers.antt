-- Proves the goals of `write_lines` of src/table.rt that the search leaves open.
use Rattle.std.proofs.Common.{◌+◌, List, [], drop, take, length, rules, sym, ap, ◌∙◌, subst, refl}
use Rattle.std.specs.Prelude.{map}
use Rattle.std.proofs.KnownBytes.{Appends-nil}
use Rattle.std.proofs.lemmas.Result.{err_from_is_err_and}
use Rattle.histar_syscall.specs.KernelModel.{state}
use Rattle.histar_cells.specs.declared.cells.Cell.{Cell}
use Rattle.histar_access.specs.Cells.{node_line, node_row}
use Rattle.histar_access.specs.Rows.{last_or}
use Rattle.histar_access.proofs.RowLemmas.{cells_of, kept_way, way_more}
use Rattle.histar_access.proofs.Writing.{IsWritten, begun_more, front_written, next_left, written_more}
use Rattle.histar_access.proofs.table.write_lines.Goals as goal

pub lines-init : goal.lines-init
lines-init g c = record {
  written = subst (λ (way : List (List Cell)). IsWritten (state c.args.machine.now.kernel) c.args.visitors.now c.args.tree.now
      (g.W.Sink.written c.args.writer.now) (g.W.Sink.written c.args.writer.now) way c.args.tree.now) (ap (map cells_of) (sym c.new-way.ensures.items))
      (record { text = []; parts = refl; written = Appends-nil (g.W.Sink.written c.args.writer.now) });
  count = refl;
}

pub returns-in_err-row-clause-err : goal.returns-in_err-row-clause-err
returns-in_err-row-clause-err g c =
    let p = err_from_is_err_and c.from_residual.result c.from_residual.ensures.1 in
    let s = state c.args.machine.now.kernel in
    let kept = c.truncate.ensures.items ∙ ap (λ n. take n c.lines.way.items) c.depth.ensures.value in
    let above = c.last_row-above.ensures ∙ ap (λ rows. last_or c.args.visitors.now (map cells_of rows)) c.as_slice.ensures.value
    ∙ ap (last_or c.args.visitors.now) (kept_way c.lines.way.items _ (length c.node-item.result.path) kept) in
    rw p.1 (begun_more s c.args.visitors.now c.args.tree.now _ _ _ (map cells_of c.lines.way.items) (drop c.lines.node-index c.args.tree.now)
    (drop (c.lines.node-index + 1) c.args.tree.now) c.node-item.result _
    (next_left c.args.tree.now c.lines.node-index c.node-item.result (search rules) c.node-item.is) c.lines.invariant.written
    (ap (λ cells. node_line s cells c.node-item.result) above)
    c.in_err-row.ensures.err)

pub returns-in_err-push-clause-err : goal.returns-in_err-push-clause-err
returns-in_err-push-clause-err g c =
    let p = err_from_is_err_and c.from_residual-in_err-push.result c.from_residual-in_err-push.ensures.1 in
    let s = state c.args.machine.now.kernel in
    let kept = c.truncate.ensures.items ∙ ap (λ n. take n c.lines.way.items) c.depth.ensures.value in
    let above = c.last_row-above.ensures ∙ ap (λ rows. last_or c.args.visitors.now (map cells_of rows)) c.as_slice.ensures.value
    ∙ ap (last_or c.args.visitors.now) (kept_way c.lines.way.items _ (length c.node-item.result.path) kept) in
    rw p.1 (front_written s c.args.visitors.now c.args.tree.now _ _ _ _
    (written_more s c.args.visitors.now c.args.tree.now _ _ _ (map cells_of c.lines.way.items) (drop c.lines.node-index c.args.tree.now)
    (drop (c.lines.node-index + 1) c.args.tree.now) c.node-item.result _
    (next_left c.args.tree.now c.lines.node-index c.node-item.result (search rules) c.node-item.is) c.lines.invariant.written
    (ap (λ cells. node_line s cells c.node-item.result) above)
    c.in_ok-row.ensures.ok))

pub lines-preserved : goal.lines-preserved
lines-preserved g c =
    let s = state c.args.machine.now.kernel in
    let kept = c.truncate.ensures.items ∙ ap (λ n. take n c.lines.way.items) c.depth.ensures.value in
    let above = c.last_row-above.ensures ∙ ap (λ rows. last_or c.args.visitors.now (map cells_of rows)) c.as_slice.ensures.value
    ∙ ap (last_or c.args.visitors.now) (kept_way c.lines.way.items _ (length c.node-item.result.path) kept) in
    let row = c.in_ok-row.ensures.row ∙ ap (λ cells. node_row s cells c.node-item.result) above in
    record {
      written = subst (λ (way : List (List Cell)). IsWritten s c.args.visitors.now c.args.tree.now (g.W.Sink.written c.args.writer.now)
          (g.W.Sink.written c.write_node.new.writer) way (drop (c.lines.node-index + 1) c.args.tree.now))
          (sym (way_more c.lines.way.items _ _ (length c.node-item.result.path) c.in_ok-row.row _ kept c.in_ok-push.ensures.items row))
          (written_more s c.args.visitors.now c.args.tree.now _ _ _ (map cells_of c.lines.way.items) (drop c.lines.node-index c.args.tree.now)
          (drop (c.lines.node-index + 1) c.args.tree.now) c.node-item.result _
          (next_left c.args.tree.now c.lines.node-index c.node-item.result (search rules) c.node-item.is) c.lines.invariant.written
          (ap (λ cells. node_line s cells c.node-item.result) above)
          c.in_ok-row.ensures.ok);
      count = search rules;
    }
