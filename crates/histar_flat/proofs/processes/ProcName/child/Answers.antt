-- Proves the goals of `ProcName::child` of src/processes.rt that the search leaves open.
use Rattle.std.proofs.Common.{◌≡◌, ◌≤◌, length, ap, sym, ◌∙◌, arith}
use Rattle.histar_base.proofs.Padded.{padded_front, length-kept}
use Rattle.histar_flat.proofs.processes.ProcName.child.Goals as goal

pub invariant_of-result : goal.invariant_of-result
invariant_of-result c =
    let inside = c.self.inside in
    let depth : length c.args.self ≡ inside.len = ap length (sym c.self.view_is) ∙ length-kept 7 0 inside.numbers inside.len c.self.invariant in
    let room : inside.len ≤ 6 = omega (arith, depth, c.requires) in
    rw c.rotate_right.ensures.after (padded_front 6 0 c.args.number inside.numbers inside.len c.self.invariant room)
