-- Proves the goals of `push_child` of src/status.rt that the search leaves open.
use Rattle.std.proofs.Common.{ap, ◌∙◌}
use Rattle.std.specs.Int.{w64, to_be_bytes}
use Rattle.histar_layout.proofs.WritingStatuses.{child_written}
use Rattle.histar_layout.proofs.status.push_child.Goals as goal

pub returns-clause-ok : goal.returns-clause-ok
returns-clause-ok g c =
    child_written _ _ _ _ _ _ c.args.child (c.to_be_bytes.ensures ∙ ap (to_be_bytes w64) c.number.ensures)
    (c.to_be_bytes-2.ensures ∙ ap (to_be_bytes w64) c.number-2.ensures)
    c.in_ok-push.ensures.items c.in_ok-extend.ensures.items c.in_ok-extend-2.ensures.items
