-- Proves the goals of `tree_text` of src/users.rt that the search leaves open.
use Rattle.std.proofs.Common.{◌++◌, take, length, rules, ap, ◌∙◌}
use Rattle.std.specs.Prelude.{map}
use Rattle.histar_rights.specs.Users.{users_line_text}
use Rattle.histar_access.specs.Rows.{last_or}
use Rattle.histar_access.specs.Users.{users_below, users_line_at}
use Rattle.histar_access.proofs.ByUsers.{all_made, made_more, nothing_made}
use Rattle.histar_access.proofs.RowLemmas.{cells_of, kept_way, way_more}
use Rattle.histar_access.proofs.Writing.{next_left, none_left}
use Rattle.histar_access.proofs.users.tree_text.Goals as goal

pub nodes-init : goal.nodes-init
nodes-init c =
    nothing_made users_line_text c.args.users.now c.args.start.now c.args.tree.now
    (ap (map cells_of) c.new-way.ensures.items) c.new-text.ensures.items

pub nodes-preserved : goal.nodes-preserved
nodes-preserved c =
    let users = c.args.users.now in
    let start = c.args.start.now in
    let tree = c.args.tree.now in
    let node = c.node-item.result in
    let ways = c.nodes.way.items in
    let kept = c.truncate.ensures.items ∙ ap (λ n. take n ways) c.depth.ensures.value in
    let above = c.last_row.ensures ∙ ap (λ rows. last_or start (map cells_of rows)) c.as_slice.ensures.value
    ∙ ap (last_or start) (kept_way ways _ (length node.path) kept) in
    let row = c.in_ok-row.ensures ∙ ap (users_below users node.class) above in
    let line = c.in_ok-push_users_line.ensures
    ∙ ap (λ us. c.nodes.text.items ++ users_line_text (users_line_at node us)) (c.as_slice-in-nodes.ensures.value ∙ row) in
    made_more users_line_text users start tree node (next_left tree c.nodes.node-index node (search rules) c.node-item.is)
    (way_more ways _ _ (length node.path) c.in_ok-row.row _ kept c.in_ok-push.ensures.items row) line c.nodes.invariant

pub returns : goal.returns
returns c =
    all_made users_line_text c.args.users.now c.args.start.now c.args.tree.now
    (none_left c.args.tree.now c.nodes.node-index (search rules)) c.nodes.invariant
