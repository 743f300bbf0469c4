-- Proves the goals of `table_lines` of src/rights_table.rt that the search leaves open.
use Rattle.std.proofs.Common.{take, length, rules, ap, ◌∙◌}
use Rattle.std.specs.Prelude.{map}
use Rattle.histar_syscall.specs.KernelModel.{state}
use Rattle.histar_diff.specs.Shown.{rights_line}
use Rattle.histar_access.specs.Cells.{line_of_node, node_row}
use Rattle.histar_access.specs.Rows.{last_or}
use Rattle.histar_access.proofs.RightsLines.{all_lines, line_more, no_lines, same_lines}
use Rattle.histar_access.proofs.RowLemmas.{cells_of, kept_way, way_more}
use Rattle.histar_access.proofs.Writing.{next_left, none_left}
use Rattle.histar_access.proofs.rights_table.table_lines.Goals as goal

pub nodes-init : goal.nodes-init
nodes-init g c =
    same_lines (state c.args.machine.now.kernel) c.args.visitors.now c.args.tree.now
    (ap (map cells_of) c.new-way.ensures.items) c.new-lines.ensures.items
    (no_lines (state c.args.machine.now.kernel) c.args.visitors.now c.args.tree.now)

pub nodes-preserved : goal.nodes-preserved
nodes-preserved g c =
    let s = state c.args.machine.now.kernel in
    let tree = c.args.tree.now in
    let visitors = c.args.visitors.now in
    let i = c.nodes.node-index in
    let node = c.node-item.result in
    let ways = c.nodes.way.items in
    let kept = c.truncate.ensures.items ∙ ap (λ n. take n ways) c.depth.ensures.value in
    let above = c.last_row-above.ensures ∙ ap (λ rows. last_or visitors (map cells_of rows)) c.as_slice.ensures.value
    ∙ ap (last_or visitors) (kept_way ways _ (length node.path) kept) in
    let row = c.in_ok-row.ensures.row ∙ ap (λ cells. node_row s cells node) above in
    let added = c.in_ok-row.ensures.line in
    let line = added.is ∙ ap (λ cells. rights_line (line_of_node node (node_row s cells node))) above in
    let more = line_more s visitors tree node added.line (next_left tree i node (search rules) c.node-item.is) line c.nodes.invariant in
    same_lines s visitors tree
    (way_more ways _ _ (length node.path) c.in_ok-row.row _ kept c.in_ok-push.ensures.items row) added.added more

pub returns : goal.returns
returns g c =
    all_lines (state c.args.machine.now.kernel) c.args.visitors.now c.args.tree.now _ _ c.nodes.lines.items
    (none_left c.args.tree.now c.nodes.node-index (search rules)) c.nodes.invariant
