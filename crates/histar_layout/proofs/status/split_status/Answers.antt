-- Proves the goals of `split_status` of src/status.rt that the search leaves open.
use Rattle.std.proofs.Common.{arith, sym, ◌∙◌}
use Rattle.histar_layout.proofs.ReadingStatuses.{no_head, not_split, is_split}
use Rattle.histar_layout.proofs.status.split_status.Goals as goal

pub returns-in_default : goal.returns-in_default
returns-in_default c = no_head c.args.bytes.now c.in_default.ensures

pub returns-then-not-are_children : goal.returns-then-not-are_children
returns-then-not-are_children c =
    not_split c.args.bytes.now c.in-Some.head c.in-Some.children.now c.in-Some.ensures
    (sym c.are_children.ensures ∙ c.if-not-are_children.true)

pub returns : goal.returns
returns c =
    is_split c.args.bytes.now c.in-Some.head c.in-Some.children.now (λ i. omega (arith, c.type_inv.bytes i))
    c.in-Some.ensures (sym c.are_children.ensures ∙ c.if-not-are_children.false)
