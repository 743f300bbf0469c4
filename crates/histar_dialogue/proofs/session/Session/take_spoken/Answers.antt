-- Proves the goals of `take_spoken` of src/session.rt that the search leaves open.
use Rattle.std.proofs.Common.{List, ℕ, subst, ◌∙◌}
use Rattle.std.specs.Prelude.{IfOk}
use Rattle.histar_dialogue.specs.Session.{AnswersLine, FollowsBy}
use Rattle.histar_dialogue.proofs.session.Session.take_spoken.Goals as goal

pub returns-clause-ok : goal.returns-clause-ok
returns-clause-ok c =
    subst (λ (l : List ℕ). IfOk c.take.result (λ said. FollowsBy AnswersLine c.args.self.now c.take.new.self l said.items))
    (c.as_slice.ensures.value ∙ c.in_ok-read.ensures) c.take.ensures.ok
