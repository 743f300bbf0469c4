-- Proves the goals of `answer` of src/session.rt that the search leaves open.
use Rattle.std.proofs.Common.{sym, ap, ◌∙◌}
use Rattle.std.specs.Option.{option_copied}
use Rattle.std.proofs.lemmas.Result.{IfOk-weaker}
use Rattle.histar_dialogue.proofs.Obeying.{obeys_so, spoken_so}
use Rattle.histar_dialogue.proofs.session.Session.answer.Goals as goal

pub returns-then-not-is_command-clause-ok : goal.returns-then-not-is_command-clause-ok
returns-then-not-is_command-clause-ok g c =
    IfOk-weaker c.take_spoken.result _ _
    (λ said h. spoken_so c.args.self.now c.take_spoken.new.self said.items c.args.line.now (g.S.Shelf.saved c.args.shelf.now)
    (sym c.is_command.ensures ∙ c.if-not-is_command.true) h)
    c.take_spoken.ensures.ok

pub returns-in-None-clause-ok : goal.returns-in-None-clause-ok
returns-in-None-clause-ok g c =
    IfOk-weaker c.obey.result _ _
    (λ said h. obeys_so c.args.self.now c.obey.new.self said.items c.args.line.now (g.S.Shelf.saved c.args.shelf.now) c.command_of.result
    (sym c.is_command.ensures ∙ c.if-not-is_command.false) (sym c.saved_as.ensures ∙ ap option_copied c.in-None.is) c.command_of.ensures h)
    c.obey.ensures.ok
