-- Proves the goals of `add_child` of src/status.rt that the search leaves open.
use Rattle.std.proofs.Common.{ℕ, List, ◌++◌, ap, ◌∙◌}
use Rattle.histar_layout.specs.StatusParts.{head_bytes}
use Rattle.histar_layout.proofs.WritingStatuses.{more_born, child_added}
use Rattle.histar_layout.proofs.status.add_child.Goals as goal

pub returns-clause-ok : goal.returns-clause-ok
returns-clause-ok g c =
    λ status revealed. c.from_vec.ensures
    ∙ child_added c.args.container c.args.segment c.args.bytes.now c.in-Some.head c.in-Some.children.now _ _ _
    status c.in-Some.ensures revealed
    (c.in_ok-push_head.ensures.ok
    ∙ ap (λ (t : List ℕ). t ++ head_bytes (more_born c.in-Some.head)) c.in_ok-out.ensures.items)
    c.in_ok-extend.ensures.items c.in_ok-push_child.ensures.ok
