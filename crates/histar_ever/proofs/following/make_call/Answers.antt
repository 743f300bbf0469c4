-- Proves the goals of `make_call` of src/following.rt that the search leaves open.
use Rattle.std.proofs.Common.{[], ◌∷◌}
use Rattle.histar_ever.proofs.Making.{changed, gathered_as, shown_after, unchanged}
use Rattle.histar_ever.proofs.following.make_call.Goals as goal
use Rattle.histar_ever.proofs.following.make_call.Goals.{then-may_change+in_ok-add_state, else-may_change}

pub add_state-requires : goal.add_state-requires
add_state-requires g c =
    shown_after g.G.Gather.Gathers c.args.machine.now c.step.new.self c.args.gathered.now c.args.call c.in-Ok.reply c.in-Ok.ensures.means
    c.requires

pub returns : goal.returns
returns g c =
    let gathers = g.G.Gather.Gathers in
    let m = c.args.machine.now in
    let e = c.args.gathered.now in
    elim c.if-may_change.branch [
      | then-may_change+in_ok-add_state w ↦ gathered_as gathers (c.args.call ∷ []) m c.step.new.self e _ _ w.gathered-is
          (changed gathers m c.step.new.self e c.args.call c.in-Ok.reply c.in-Ok.ensures.means w.add_state.new.self w.in_ok-add_state.ensures)
      | else-may_change w ↦ gathered_as gathers (c.args.call ∷ []) m c.step.new.self e _ _ w.gathered-is
          (unchanged gathers m c.step.new.self e c.args.call c.in-Ok.reply c.in-Ok.ensures.means w.adds_nothing_again.ensures
          c.is_question-question.result c.may_change.result c.is_question-question.ensures c.may_change.ensures w.if-may_change.false)
    ]
