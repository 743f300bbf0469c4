-- Proves the goals of `Label::set` of src/labels.rt that the search leaves open.
use Rattle.std.proofs.Common.{ap, ◌∙◌}
use Rattle.histar_level.specs.Levels.{Levels}
use Rattle.histar_label.specs.Levels.{from_exceptions, with_level}
use Rattle.histar_label.proofs.Edits.{edited_last}
use Rattle.histar_label.proofs.labels.Label.set.Goals as goal

pub returns-then-comes_last-clause-ok : goal.returns-then-comes_last-clause-ok
returns-then-comes_last-clause-ok g c =
    let es = c.self.inside.exceptions.items in
    let gap = rw c.as_slice.ensures.value at c.comes_last.ensures c.if-comes_last.true in
    ap (from_exceptions c.self.inside.default) c.in_ok-push.ensures.items
    ∙ edited_last c.self.inside.default es c.self.invariant c.args.category c.args.level gap
    ∙ ap (λ (L : Levels). with_level L c.args.category c.args.level) c.self.view_is
