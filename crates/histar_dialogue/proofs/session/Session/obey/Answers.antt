-- Proves the goals of `obey` of src/session.rt that the search leaves open.
use Rattle.std.proofs.Common.{sym, subst}
use Rattle.std.specs.Prelude.{IfOk}
use Rattle.histar_dialogue.specs.declared.commands.Command.{Command}
use Rattle.histar_dialogue.specs.Session.{FollowsSo, ObeysCommand}
use Rattle.histar_dialogue.proofs.session.Session.obey.Goals as goal

pub returns-in-Undo-clause-ok : goal.returns-in-Undo-clause-ok
returns-in-Undo-clause-ok c =
    subst (λ (k : Command). IfOk c.undo.result (λ said. FollowsSo (ObeysCommand k) c.args.self.now c.undo.new.self said.items))
    (sym c.in-Undo.is) c.undo.ensures.ok

pub returns-in-Redo-clause-ok : goal.returns-in-Redo-clause-ok
returns-in-Redo-clause-ok c =
    subst (λ (k : Command). IfOk c.redo.result (λ said. FollowsSo (ObeysCommand k) c.args.self.now c.redo.new.self said.items))
    (sym c.in-Redo.is) c.redo.ensures.ok

pub returns-in-Expect-clause-ok : goal.returns-in-Expect-clause-ok
returns-in-Expect-clause-ok c =
    subst (λ (k : Command). IfOk c.expect.result (λ said. FollowsSo (ObeysCommand k) c.args.self.now c.expect.new.self said.items))
    (sym c.in-Expect.is) c.expect.ensures.ok

pub returns-in-ExpectAt-clause-ok : goal.returns-in-ExpectAt-clause-ok
returns-in-ExpectAt-clause-ok c =
    subst (λ (k : Command). IfOk c.expect_at.result (λ said. FollowsSo (ObeysCommand k) c.args.self.now c.expect_at.new.self said.items))
    (sym c.in-ExpectAt.is) c.expect_at.ensures.ok
