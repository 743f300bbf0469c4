-- Proves the goals of `Label::has_star` of src/labels.rt that the search leaves open.
use Rattle.std.proofs.Common.{◌≡◌, rules}
use Rattle.histar_label.specs.Levels.{has_star}
use Rattle.histar_label.proofs.Stars.{star_answer}
use Rattle.histar_label.proofs.labels.Label.has_star.Goals as goal

pub returns-else-is_star-clause-star : goal.returns-else-is_star-clause-star
unfolding has_star
returns-else-is_star-clause-star c =
    let is : c.any_star.result ≡ has_star c.args.self.now = search rules in
    star_answer c.args.self.now c.any_star.result is

pub returns-then-is_star-clause-star : goal.returns-then-is_star-clause-star
unfolding has_star
returns-then-is_star-clause-star c =
    let is : c.is_star.result ≡ has_star c.args.self.now = search rules in
    star_answer c.args.self.now c.is_star.result is
