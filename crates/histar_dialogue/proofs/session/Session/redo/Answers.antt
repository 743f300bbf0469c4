-- Proves the goals of `redo` of src/session.rt that the search leaves open.
use Rattle.std.proofs.Common.{◌++◌, take, drop, refl, ap, ◌∙◌}
use Rattle.std.proofs.lemmas.Result.{IfOk-weaker}
use Rattle.histar_dialogue.specs.Talk.{bytes_of_lines}
use Rattle.histar_dialogue.proofs.Becoming.{again}
use Rattle.histar_dialogue.proofs.session.Session.redo.Goals as goal

pub returns-clause-ok : goal.returns-clause-ok
returns-clause-ok c =
    let at = c.bytes_of_lines-at.result in
    let taken = c.split_at.ensures.front ∙ ap (take at) c.as_slice-2.ensures.value in
    IfOk-weaker c.turn_into.result _ _
    (λ said h. again c.args.self.now.count c.args.self.now c.turn_into.new.self c.in_ok-text.text.items c.in_ok-undone.undone.items said.items
    at c.args.count
    (c.bytes_of_lines-at.ensures.count ∙ ap (bytes_of_lines c.args.count) c.as_slice.ensures.value)
    (c.in_ok-text.ensures ∙ (λ i. c.as_slice-3.ensures.value i ++ taken i))
    (c.in_ok-undone.ensures.items ∙ c.split_at.ensures.back ∙ ap (drop at) c.as_slice-2.ensures.value)
    refl h)
    c.turn_into.ensures.ok
