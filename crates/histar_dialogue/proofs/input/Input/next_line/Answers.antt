-- Proves the goals of `next_line` of src/input.rt that the search leaves open.
use Rattle.histar_dialogue.proofs.InputLines.{takes_next}
use Rattle.histar_dialogue.proofs.input.Input.next_line.Goals as goal

pub returns-clause-ok : goal.returns-clause-ok
returns-clause-ok g c =
    takes_next _ _ c.args.self.now c.fill.new.self c.take.new.self c.in_ok-fill.ensures.ok c.in_ok-take.field-0 c.in_ok-take.ensures
