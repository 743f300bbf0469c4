-- Proves the goals of `add` of src/command.rt that the search leaves open.
use Rattle.std.proofs.Common.{◌∙◌}
use Rattle.std.proofs.lemmas.Result.{IfOk-weaker}
use Rattle.std.proofs.Common.{ap}
use Rattle.clap.specs.Words.{App, app_of, with_subcommand}
use Rattle.histar_command_line.proofs.command.add.Goals as goal

pub returns : goal.returns
returns c =
    IfOk-weaker c.subcommand.result _ _
    (λ r adds. adds.shape c.in_ok-subcommand.ensures.local
    ∙ ap (λ (app : App). with_subcommand (app_of c.args.histar) app.top) c.in_ok-subcommand.ensures.app)
    c.subcommand.ensures
