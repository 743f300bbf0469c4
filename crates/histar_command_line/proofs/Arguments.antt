-- Adding the arguments of a form to a command, one after another.
use Rattle.std.proofs.Common.{◌≡◌, false, List, [], ◌∷◌, ◌++◌, sym, ap, ap₂, ◌∙◌}
use Rattle.std.specs.Prelude.{fold, map, ◌||◌}
use Rattle.std.proofs.lemmas.List.Sums.{fold-append}
use Rattle.std.proofs.lemmas.List.{map-append}
use Rattle.clap.specs.declared.builder.arg.Arg.{Arg}
use Rattle.clap.specs.declared.builder.command.Command.{Command}
use Rattle.clap.specs.declared.builder.command.Command.TheViews.{out-Command}
use Rattle.clap.specs.Words.{AddsArg, App, app_of, rule_of, with_rule}
use Rattle.histar_command_line.specs.declared.forms.Argument.{Argument}
use Rattle.histar_command_line.specs.Forms.{argument_rule}

-- the command is this one with these arguments of a form, and has no global argument
pub record Has (command : Command) (bare : App) (arguments : List Argument) : Type 0 where
  pub app : app_of command ≡ fold with_rule bare (map argument_rule arguments)
  pub local : (out-Command command).has_globals ≡ false

-- the command has one more argument
pub has_more : (old new : Command) (arg : Arg) (bare : App) (arguments : List Argument) (argument : Argument)
    → Has old bare arguments → AddsArg old arg new → rule_of arg ≡ argument_rule argument → arg.global ≡ false
    → Has new bare (arguments ++ argument ∷ [])
has_more old new arg bare arguments argument has adds rule local = record {
  app =
      adds.shape local ∙ ap₂ with_rule has.app rule
      ∙ sym (ap (fold with_rule bare) (map-append argument_rule arguments (argument ∷ []))
      ∙ fold-append with_rule bare (map argument_rule arguments) (argument_rule argument ∷ []));
  local = adds.globals ∙ ap₂ ◌||◌ has.local local;
}
