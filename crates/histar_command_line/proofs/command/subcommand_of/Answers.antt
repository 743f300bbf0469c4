-- Proves the goals of `subcommand_of` of src/command.rt that the search leaves open.
use Rattle.std.proofs.Common.{sym, subst, ap, ◌∙◌}
use Rattle.std.specs.Prelude.{fold, map}
use Rattle.std.proofs.lemmas.List.{take_more, take_all}
use Rattle.clap.specs.declared.builder.command.Command.TheOpen.{Command-F}
use Rattle.clap.specs.declared.builder.command.Command.{Command}
use Rattle.clap.specs.Simple.{app_of_fields}
use Rattle.clap.specs.Words.{new_app, with_rule}
use Rattle.histar_command_line.specs.Forms.{argument_rule}
use Rattle.histar_command_line.proofs.Arguments.{Has, has_more}
use Rattle.histar_command_line.proofs.command.subcommand_of.Goals as goal

pub arguments-init : goal.arguments-init
arguments-init c = record {
  app = ap app_of_fields c.after_help-command.ensures ∙ ap app_of_fields c.about.ensures ∙ c.new.ensures.app;
  local =
      let has = λ (fields : Command-F Command). fields.has_globals in
      ap has c.after_help-command.ensures ∙ ap has c.about.ensures ∙ c.new.ensures.local;
}

pub arguments-preserved : goal.arguments-preserved
arguments-preserved c =
    let bare = new_app c.args.form.now.name.now in
    subst (Has c.in_ok-command.command bare) (sym (take_more c.args.form.now.arguments.now c.arguments.argument-index _ c.arguments-test.true))
    (has_more c.arguments.command c.in_ok-command.command c.in_ok-arg.arg bare _ _ c.arguments.invariant
    c.in_ok-command.ensures c.in_ok-arg.ensures.rule c.in_ok-arg.ensures.local)

pub returns-clause-app : goal.returns-clause-app
returns-clause-app c =
    c.arguments.invariant.app
    ∙ ap (λ given. fold with_rule (new_app c.args.form.now.name.now) (map argument_rule given))
    (take_all c.arguments.argument-index c.args.form.now.arguments.now c.arguments-test.false)

pub returns-clause-local : goal.returns-clause-local
returns-clause-local c = c.arguments.invariant.local
