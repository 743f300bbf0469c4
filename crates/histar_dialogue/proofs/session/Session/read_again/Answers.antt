-- Proves the goals of `read_again` of src/session.rt that the search leaves open.
use Rattle.std.proofs.Common.{List, ℕ, subst, ◌∙◌, inr}
use Rattle.std.specs.Prelude.{IfOk}
use Rattle.histar_dialogue.specs.Session.{AnswersText, FollowsBy}
use Rattle.histar_dialogue.proofs.session.Session.read_again.Goals as goal

pub read_behind-requires : goal.read_behind-requires
read_behind-requires c = inr (c.args.line.now, c.as_slice.ensures.value ∙ c.in_ok-more.ensures)

pub returns-clause-ok : goal.returns-clause-ok
returns-clause-ok c =
    subst (λ (l : List ℕ). IfOk c.read_behind.result (λ said. FollowsBy AnswersText c.args.self.now c.read_behind.new.self l said.items))
    (c.as_slice.ensures.value ∙ c.in_ok-more.ensures) c.read_behind.ensures.ok
