-- Proves the goals of `user_of` of src/labels.rt that the search leaves open.
use Rattle.std.proofs.Common.{arith, sym, ap, ◌∙◌}
use Rattle.histar_level.specs.Level.{is_star}
use Rattle.histar_level.specs.Levels.{level_of}
use Rattle.histar_layout.proofs.OneUser.{earlier}
use Rattle.histar_layout.proofs.labels.user_of.Goals as goal

pub returns-then-is_star : goal.returns-then-is_star
returns-then-is_star c = record {
  owner =
      λ positive. sym
      (c.is_star.ensures.value
      ∙ ap is_star (c.get.ensures ∙ ap (level_of c.args.own.now) c.read_category.ensures))
      ∙ c.if-is_star.true;
  first = λ other positive before. earlier c.args.own.now c.loop-before.before c.loop-before.invariant other positive (omega arith);
  nobody = λ none. absurd (omega arith);
  known = let few = c.len-count.ensures.len in omega (arith, few);
}

pub returns : goal.returns
returns c = record {
  owner = λ positive. absurd (omega arith);
  first = λ other positive before. absurd (omega arith);
  nobody =
      λ none other positive most. earlier c.args.own.now c.loop-before.before c.loop-before.invariant other positive
      (let few = c.len-count.ensures.len in omega (arith, few, most));
  known = omega arith;
}
