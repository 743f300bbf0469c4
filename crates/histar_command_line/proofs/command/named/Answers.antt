-- Proves the goals of `named` of src/command.rt that the search leaves open.
use Rattle.std.proofs.Common.{true, ap, ◌∙◌}
use Rattle.std.proofs.lemmas.Result.{IfOk-weaker}
use Rattle.clap.specs.Simple.{app_of_fields}
use Rattle.clap.specs.Words.{App}
use Rattle.histar_command_line.proofs.command.named.Goals as goal

pub returns : goal.returns
returns c =
    IfOk-weaker c.bin_name.result _ _
    (λ r named. ap app_of_fields named.0 ∙ ap app_of_fields c.arg_required_else_help.ensures
    ∙ ap (λ (app : App). record app { top = record app.top { arg_required_else_help = true } })
    (ap app_of_fields c.after_help.ensures ∙ ap app_of_fields c.about.ensures ∙ ap app_of_fields c.version.ensures
    ∙ ap (λ (app : App). record app { top = record app.top { has_version = true } }) c.new.ensures.app))
    c.bin_name.ensures
