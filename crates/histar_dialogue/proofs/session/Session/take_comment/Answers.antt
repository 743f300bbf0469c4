-- Proves the goals of `take_comment` of src/session.rt that the search leaves open.
use Rattle.histar_dialogue.specs.Session.{AnswersLine, FollowsBy}
use Rattle.std.proofs.Common.{List, ℕ, sym, subst, rules}
use Rattle.histar_dialogue.proofs.Following.{comment_taken}
use Rattle.histar_dialogue.proofs.session.Session.take_comment.Goals as goal

pub returns-clause-ok : goal.returns-clause-ok
returns-clause-ok c =
    subst (λ (said : List ℕ). FollowsBy AnswersLine c.args.self.now c.push_line.new.self c.args.line.now said) (sym c.new.ensures.items)
    (comment_taken c.args.self.now c.push_line.new.self c.args.line.now (search rules) c.in_ok-push_line.ensures.ok c.requires)
