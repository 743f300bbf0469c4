-- Proves the goals of `undo` of src/session.rt that the search leaves open.
use Rattle.std.proofs.Common.{List, ℕ, ◌++◌, take, drop, sym, ap, subst, ◌∙◌}
use Rattle.histar_dialogue.specs.declared.commands.Command.TheVariants as commands
use Rattle.histar_dialogue.specs.Session.{FollowsSo, ObeysCommand}
use Rattle.histar_dialogue.specs.Talk.{bytes_of_lines}
use Rattle.histar_dialogue.proofs.Becoming.{back}
use Rattle.histar_dialogue.proofs.session.Session.undo.Goals as goal

pub returns-clause-ok : goal.returns-clause-ok
returns-clause-ok c =
    let at = c.bytes_of_lines-at.result in
    let left = c.split_at.ensures.back ∙ ap (drop at) c.as_slice-2.ensures.value in
    subst (λ (said : List ℕ). FollowsSo (ObeysCommand (commands.Undo c.args.count)) c.args.self.now c.turn_into.new.self said)
    (sym c.new.ensures.items)
    (back c.args.self.now.count c.args.self.now c.turn_into.new.self c.in_ok-text.text.items c.in_ok-undone.undone.items
    c.in_ok-_answers._answers.items at c.args.count
    (c.bytes_of_lines-at.ensures.count ∙ (λ i. bytes_of_lines (c.saturating_sub-kept.ensures i) (c.as_slice.ensures.value i)))
    (c.in_ok-text.ensures.items ∙ c.split_at.ensures.front ∙ ap (take at) c.as_slice-2.ensures.value)
    (c.in_ok-undone.ensures ∙ (λ i. left i ++ c.as_slice-3.ensures.value i))
    c.in_ok-_answers.ensures.ok)
