-- Proves the goals of `command` of src/command.rt that the search leaves open.
use Rattle.std.proofs.Common.{◌∷◌, ◌∙◌, []}
use Rattle.std.specs.Prelude.{fold}
use Rattle.std.proofs.lemmas.Result.{IfOk-weaker}
use Rattle.clap.specs.Words.{with_subcommand}
use Rattle.histar_command_line.proofs.command.command.Goals as goal

pub returns : goal.returns
returns c =
    IfOk-weaker c.add_each.result _ _
    (λ r added. added ∙ λ i. fold with_subcommand (c.in_ok-histar.ensures i)
    ((c.run.ensures i).top ∷ (c.try_calls.ensures i).top ∷ (c.shell.ensures i).top ∷ (c.raw.ensures i).top ∷ (c.check.ensures i).top ∷
    (c.access.ensures i).top
    ∷ (c.diff.ensures i).top ∷ (c.trust.ensures i).top ∷ (c.leak.ensures i).top
    ∷ (c.flows.ensures i).top ∷ (c.attack.ensures i).top ∷ (c.lint.ensures i).top ∷ (c.report.ensures i).top ∷
    (c.test.ensures i).top ∷ []))
    c.add_each.ensures
