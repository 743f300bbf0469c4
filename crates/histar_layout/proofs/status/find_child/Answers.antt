-- Proves the goals of `find_child` of src/status.rt that the search leaves open.
use Rattle.std.proofs.Common.{Ok, ap, sym, ◌∙◌, arith}
use Rattle.histar_layout.specs.Status.{look_for}
use Rattle.histar_layout.proofs.ReadingStatuses.{no_head, not_split, seek_on, sought_first, sought_here, sought_nowhere}
use Rattle.histar_layout.proofs.status.find_child.Goals as goal

pub returns-in_default : goal.returns-in_default
returns-in_default c = sym (ap (λ o. look_for o c.args.number) (no_head c.args.bytes.now c.in_default.ensures))

pub returns-then-not-are_children : goal.returns-then-not-are_children
returns-then-not-are_children c =
    sym (ap (λ o. look_for o c.args.number)
    (not_split c.args.bytes.now _ _ c.in-Some.ensures
    (sym c.are_children.ensures ∙ c.if-not-are_children.true)))

pub children-init : goal.children-init
children-init c = sought_first c.args.bytes.now _ _ c.args.number c.in-Some.ensures (sym c.are_children.ensures ∙ c.if-not-are_children.false)

pub returns-then-front-number : goal.returns-then-front-number
returns-then-front-number c =
    let parts = c.in-Some-split_first_chunk.ensures.cases in
    ap Ok c.first_child.ensures
    ∙ sym (sought_here _ c.args.number c.children.rest.now c.in-Some-split_first_chunk.front.now c.children.invariant
    (omega arith) parts.0 c.if-front-number.true)

pub children-preserved : goal.children-preserved
children-preserved c =
    let parts = c.in-Some-split_first_chunk.ensures.cases in
    seek_on _ c.args.number c.children.rest.now c.in-Some-split_first_chunk.front.now
    c.in-Some-split_first_chunk.after.now c.children.invariant (omega arith) parts.0 parts.1 c.if-front-number.false

pub returns : goal.returns
returns c =
    let short = c.in_default-split_first_chunk.ensures.cases in
    sym (sought_nowhere _ c.args.number c.children.rest.now c.children.invariant (omega arith))
